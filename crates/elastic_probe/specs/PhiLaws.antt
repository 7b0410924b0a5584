-- Laws of phi and of its inverse. Assumes nothing.
use Rattle.std.specs.Prelude.{◌≡◌, ℕ, zero, suc, ◌+◌, ◌*◌, ◌-◌, ◌/◌, ◌%◌, ◌^◌, ◌≤◌, ◌<◌}
use Rattle.std.proofs.Common.{ap, ap₂, sym, subst, ◌∙◌, pow-suc, mul-le-mul, mul-le-mul_left, mul-le-mul_right, lt_of_not-le, lt_of_lt_of_le, le_trans, le_of_eq, add-one, pow_pos, pow-add}
use Rattle.std.proofs.Math.Nat.{pow-zero, add-mul}
use native.Mathlib.Omega.{arith}
use Rattle.std.proofs.Math.Decide.{dec_le}
use Rattle.std.proofs.Math.Arith.{digits_div, digits_mod}
use borrow.Author.Tests.{lt-ltb, le-ltb}
use Rattle.elastic_probe.specs.Length.{bits_of}
use Rattle.elastic_probe.specs.Phi.{pairs, phi, gap, at, parse, start, coords_of}
use Rattle.elastic_probe.specs.LengthLaws.{Top, has_top, bits_top, bits_below, bits_fits}

-- ---- a parse by quarters of what the bits can hold

module _ (k x j : ℕ) (h : x < 2 ^ k) where
  pub parse_low : parse (suc (suc k)) x j ≡ gap
  unfolding parse
  parse_low = rw (lt-ltb x (2 * 2 ^ k) (omega arith), lt-ltb x (2 ^ k) h)

  pub parse_last : parse (suc (suc k)) (2 ^ k + x) j ≡ at (2 ^ k + x) j
  unfolding parse
  parse_last = rw (lt-ltb (2 ^ k + x) (2 * 2 ^ k) (omega arith), le-ltb (2 ^ k + x) (2 ^ k) (omega arith))

  pub parse_bit : (b : ℕ) → b < 2 → parse (suc (suc k)) ((2 + b) * 2 ^ k + x) j ≡ parse k x (j * 2 + b)
  unfolding parse
  parse_bit b l =
      let big : 2 * 2 ^ k ≤ (2 + b) * 2 ^ k + x = omega (arith, add-mul 2 b (2 ^ k)) in
      let e : (2 + b) % 2 ≡ b = omega arith in
      rw (le-ltb ((2 + b) * 2 ^ k + x) (2 * 2 ^ k) big, digits_mod (2 + b) h, digits_div (2 + b) h, e)

-- two places for each of t pairs, and r
abbrev pub twice : ℕ → ℕ → ℕ
twice zero r = r
twice (suc t) r = twice t (suc (suc r))

shape : (p b q x : ℕ) → (p * 4 + 2 + b) * q + x ≡ p * (q * 2 * 2) + ((2 + b) * q + x)
shape p b q x = omega arith

-- the last pair, as bits that are left
pub pairs_last : (t j r x : ℕ) → pairs (suc t) j * 2 ^ r + x ≡ pairs t (j / 2) * 2 ^ suc (suc r) + ((2 + j % 2) * 2 ^ r + x)
unfolding pairs
pairs_last t j r x = rw (pow-suc 2 (suc r), pow-suc 2 r) (shape (pairs t (j / 2)) (j % 2) (2 ^ r) x)

bit_lt : (b r x : ℕ) → b < 2 → x < 2 ^ r → (2 + b) * 2 ^ r + x < 2 ^ suc (suc r)
bit_lt b r x l h =
    let m : b * 2 ^ r ≤ 1 * 2 ^ r = mul-le-mul_right (2 ^ r) (omega arith) in
    omega (arith, pow-suc 2 (suc r), pow-suc 2 r)

-- the top bit goes down with each bit that is taken off
pub top_half : (j t : ℕ) → Top j (suc t) → Top (j / 2) t
top_half j t p = record { from = omega (arith, p.from, pow-suc 2 t); below = omega (arith, p.below, pow-suc 2 t) }

pub top_zero : (j : ℕ) → Top j 0 → j ≡ 1
top_zero j p = omega (arith, p.from, p.below, pow-zero 2)

-- ---- a node: the pairs of j have been read, r bits are left and they hold x
pub start_node : (t j r x : ℕ) → Top j t → x < 2 ^ r → start (twice (suc t) r) (pairs (suc t) j * 2 ^ r + x) ≡ parse r x j
unfolding start pairs
start_node zero j r x p h =
    let e : j ≡ 1 = top_zero j p in
    let d : 3 * 2 ^ r + x - 3 * 2 ^ r ≡ x = omega arith in
    rw (e, le-ltb (3 * 2 ^ r + x) (3 * 2 ^ r) (omega arith), d)
start_node (suc t) j r x p h =
    let l : j % 2 < 2 = omega arith in
    let e : j / 2 * 2 + j % 2 ≡ j = omega arith in
    ap (start (twice (suc (suc t)) r)) (pairs_last (suc t) j r x)
    ∙ start_node t (j / 2) (suc (suc r)) ((2 + j % 2) * 2 ^ r + x) (top_half j t p) (bit_lt (j % 2) r x l h)
    ∙ parse_bit r x (j / 2) h (j % 2) l
    ∙ ap (parse r x) e

-- its length
node_first : (r x : ℕ) → x < 2 ^ r → Top (pairs 1 1 * 2 ^ r + x) (suc r)
unfolding pairs
node_first r x h = record { from = omega (arith, pow-suc 2 r); below = omega (arith, pow-suc 2 r) }

pub node_bits : (t j r x : ℕ) → Top j t → x < 2 ^ r → bits_of (pairs (suc t) j * 2 ^ r + x) ≡ twice (suc t) r
node_bits zero j r x p h =
    let e : j ≡ 1 = top_zero j p in
    rw e (bits_top (pairs 1 1 * 2 ^ r + x) (suc r) (node_first r x h))
node_bits (suc t) j r x p h =
    let l : j % 2 < 2 = omega arith in
    ap bits_of (pairs_last (suc t) j r x)
    ∙ node_bits t (j / 2) (suc (suc r)) ((2 + j % 2) * 2 ^ r + x) (top_half j t p) (bit_lt (j % 2) r x l h)

pub twice_sum : (t r : ℕ) → twice t r ≡ 2 * t + r
twice_sum zero r = omega arith
twice_sum (suc t) r = twice_sum t (suc (suc r)) ∙ omega arith

pub coords_node : (t j r x : ℕ) → Top j t → x < 2 ^ r → coords_of (pairs (suc t) j * 2 ^ r + x) ≡ parse r x j
unfolding coords_of
coords_node t j r x p h = rw (node_bits t j r x p h) (start_node t j r x p h)

-- ---- phi is a node with i in what is left

pub phi_node : (i j a t : ℕ) → Top i a → Top j t → phi i j ≡ pairs (suc t) j * 2 ^ suc (suc a) + i
unfolding phi
phi_node i j a t p q = rw (bits_top i a p, bits_top j t q, add-one (suc a))

i_fits : (i a : ℕ) → Top i a → i < 2 ^ suc (suc a)
i_fits i a p = omega (arith, p.below, pow-suc 2 (suc a), pow-suc 2 a)

-- two bits for each of j's, one, and i's
pub phi_bits : (i j : ℕ) → 0 < i → 0 < j → bits_of (phi i j) ≡ 2 * bits_of j + 1 + bits_of i
phi_bits i j hi hj =
    let p = has_top i hi in
    let q = has_top j hj in
    ap bits_of (phi_node i j p.t q.t p.top q.top)
    ∙ node_bits q.t j (suc (suc p.t)) i q.top (i_fits i p.t p.top)
    ∙ twice_sum (suc q.t) (suc (suc p.t))
    ∙ omega (arith, p.bits, q.bits)

parse_i : (i j a : ℕ) → Top i a → parse (suc (suc a)) i j ≡ at i j
parse_i i j a p =
    let e : 2 ^ a + (i - 2 ^ a) ≡ i = omega (arith, p.from) in
    rw e at (parse_last a (i - 2 ^ a) j (omega (arith, p.below, p.from)))

-- the inverse of phi gives the coordinates back
pub coords_phi : (i j : ℕ) → 0 < i → 0 < j → coords_of (phi i j) ≡ at i j
coords_phi i j hi hj =
    let p = has_top i hi in
    let q = has_top j hj in
    ap coords_of (phi_node i j p.t q.t p.top q.top)
    ∙ coords_node q.t j (suc (suc p.t)) i q.top (i_fits i p.t p.top)
    ∙ parse_i i j p.t p.top

pub record Same (i j k l : ℕ) : Type 0 where
  pub first : i ≡ k
  pub second : j ≡ l

pub phi_injective : (i j k l : ℕ) → 0 < i → 0 < j → 0 < k → 0 < l → phi i j ≡ phi k l → Same i j k l
phi_injective i j k l hi hj hk hl e =
    let m : at i j ≡ at k l = sym (coords_phi i j hi hj) ∙ ap coords_of e ∙ coords_phi k l hk hl in
    record { first = cc; second = cc }

-- ---- what the inverse gives are coordinates of the position

data Quarter (k : ℕ) : ℕ → Type 0 where
  low : (y : ℕ) → y < 2 ^ k → Quarter k y
  last : (y : ℕ) → y < 2 ^ k → Quarter k (2 ^ k + y)
  bit : (b y : ℕ) → b < 2 → y < 2 ^ k → Quarter k ((2 + b) * 2 ^ k + y)

quarter : (k x : ℕ) → x < 2 ^ suc (suc k) → Quarter k x
quarter k x h = go (dec_le (2 ^ k) x) (dec_le (2 * 2 ^ k) x) (dec_le (3 * 2 ^ k) x)
  where
    go : Dec (2 ^ k ≤ x) → Dec (2 * 2 ^ k ≤ x) → Dec (3 * 2 ^ k ≤ x) → Quarter k x
    go (no f) b c = low x (lt_of_not-le f)
    go (yes f) (no g) c = let u = lt_of_not-le g in subst (Quarter k) (omega arith) (last (x - 2 ^ k) (omega arith))
    go (yes f) (yes g) (no i) = let u = lt_of_not-le i in subst (Quarter k) (omega arith) (bit 0 (x - 2 * 2 ^ k) (omega arith) (omega arith))
    go (yes f) (yes g) (yes i) =
        subst (Quarter k) (omega arith) (bit 1 (x - 3 * 2 ^ k) (omega arith) (omega (arith, pow-suc 2 (suc k), pow-suc 2 k)))

-- p is the position of i and j
pub record Is (p i j : ℕ) : Type 0 where
  pub i_pos : 0 < i
  pub j_pos : 0 < j
  pub is : phi i j ≡ p

never : {i j : ℕ} {A : Type 0} → gap ≡ at i j → A
never e = let z : ◌≡◌ {A = ℕ} 0 1 = cc in absurd (omega arith)

pub top_more : (j t b : ℕ) → b < 2 → Top j t → Top (j * 2 + b) (suc t)
top_more j t b l p = record { from = omega (arith, p.from, pow-suc 2 t); below = omega (arith, p.below, pow-suc 2 t) }

parse_sound : (k x j t i l : ℕ) → Top j t → x < 2 ^ k → parse k x j ≡ at i l → Is (pairs (suc t) j * 2 ^ k + x) i l
unfolding parse
parse_sound zero x j t i l p h e = never e
parse_sound (suc zero) x j t i l p h e = never e
parse_sound (suc (suc k)) x j t i l p h e = go x (quarter k x h) e (λ y m u q g d. parse_sound k y m u i l q g d)
  where
    go : (x : ℕ) → Quarter k x → parse (suc (suc k)) x j ≡ at i l
        → ((y m u : ℕ) → Top m u → y < 2 ^ k → parse k y m ≡ at i l → Is (pairs (suc u) m * 2 ^ k + y) i l)
        → Is (pairs (suc t) j * 2 ^ suc (suc k) + x) i l
    go x (low y g) e ih = never (sym (parse_low k y j g) ∙ e)
    go x (last y g) e ih =
        let m : at (2 ^ k + y) j ≡ at i l = sym (parse_last k y j g) ∙ e in
        let a : 2 ^ k + y ≡ i = cc in
        let b : j ≡ l = cc in
        let q : Top (2 ^ k + y) k = record { from = omega arith; below = omega arith } in
        record { i_pos = omega (arith, pow_pos k); j_pos = omega (arith, pow_pos t, p.from); is = rw (← a, ← b) (phi_node (2 ^ k + y) j k t q p) }
    go x (bit b y s g) e ih =
        let r = ih y (j * 2 + b) (suc t) (top_more j t b s p) g (sym (parse_bit k y j g b s) ∙ e) in
        let half : (j * 2 + b) / 2 ≡ j = omega arith in
        let odd : (j * 2 + b) % 2 ≡ b = omega arith in
        let w : pairs (suc (suc t)) (j * 2 + b) * 2 ^ k + y ≡ pairs (suc t) j * 2 ^ suc (suc k) + ((2 + b) * 2 ^ k + y) =
        rw (half, odd) at (pairs_last (suc t) (j * 2 + b) k y) in
        record { i_pos = r.i_pos; j_pos = r.j_pos; is = r.is ∙ w }

three : (q p : ℕ) → 3 * q ≤ p → pairs 1 1 * q + (p - 3 * q) ≡ p
unfolding pairs
three q p h = omega arith

start_sound : (p t i j : ℕ) → Top p t → start (suc t) p ≡ at i j → Is p i j
unfolding start
start_sound p zero i j q e = never e
start_sound p (suc k) i j q e = go (dec_le (3 * 2 ^ k) p) e
  where
    go : Dec (3 * 2 ^ k ≤ p) → start (suc (suc k)) p ≡ at i j → Is p i j
    go (no f) e = never (sym (rw (lt-ltb p (3 * 2 ^ k) (lt_of_not-le f))) ∙ e)
    go (yes f) e =
        let h : p - 3 * 2 ^ k < 2 ^ k = omega (arith, q.below, pow-suc 2 k) in
        let one : Top 1 0 = record { from = omega arith; below = omega arith } in
        let d : parse k (p - 3 * 2 ^ k) 1 ≡ at i j = rw (le-ltb p (3 * 2 ^ k) f) at e in
        let r = parse_sound k (p - 3 * 2 ^ k) 1 0 i j one h d in
        record { i_pos = r.i_pos; j_pos = r.j_pos; is = r.is ∙ back f }
      where
        back : 3 * 2 ^ k ≤ p → pairs 1 1 * 2 ^ k + (p - 3 * 2 ^ k) ≡ p
        back g = three (2 ^ k) p g

pub coords_sound : (p i j : ℕ) → coords_of p ≡ at i j → Is p i j
unfolding coords_of bits_of start
coords_sound zero i j e = never e
coords_sound (suc p) i j e =
    let q = has_top (suc p) (omega arith) in
    start_sound (suc p) q.t i j q.top (ap (λ (n : ℕ). start n (suc p)) (sym q.bits) ∙ e)

-- ---- how large a position is

pub phi_pos : (i j : ℕ) → 0 < i → 0 < phi i j
unfolding phi
phi_pos i j h = omega arith

-- more than m bits make a number of at least 2 ^ m
pub phi_over : (m i j : ℕ) → 0 < i → 0 < j → m < 2 * bits_of j + 1 + bits_of i → 2 ^ m ≤ phi i j
phi_over m i j hi hj l = go (dec_le (2 ^ m) (phi i j))
  where
    go : Dec (2 ^ m ≤ phi i j) → 2 ^ m ≤ phi i j
    go (yes p) = p
    go (no f) = absurd (omega (arith, bits_below (phi i j) m (lt_of_not-le f), phi_bits i j hi hj))

pub phi_fits : (m i j : ℕ) → 0 < i → 0 < j → 2 * bits_of j + 1 + bits_of i ≤ m → phi i j < 2 ^ m
phi_fits m i j hi hj l = bits_fits (phi i j) m (omega (arith, phi_bits i j hi hj))

-- phi(i, j) < 16 i j^2
pub phi_bound : (i j : ℕ) → 0 < i → 0 < j → phi i j < 16 * i * (j * j)
phi_bound i j hi hj =
    let p = has_top i hi in
    let q = has_top j hj in
    let few : phi i j < 2 ^ (4 + p.t + (q.t + q.t)) = phi_fits (4 + p.t + (q.t + q.t)) i j hi hj (omega (arith, p.bits, q.bits)) in
    let e : 2 ^ (4 + p.t + (q.t + q.t)) ≡ 16 * 2 ^ p.t * (2 ^ q.t * 2 ^ q.t) = pow-add 2 (4 + p.t) (q.t + q.t) ∙ ap₂ (λ (x y : ℕ). x * y) (pow-add 2 4 p.t) (pow-add 2 q.t q.t) in
    let a : 16 * 2 ^ p.t ≤ 16 * i = mul-le-mul_left 16 p.top.from in
    let b : 2 ^ q.t * 2 ^ q.t ≤ j * j = mul-le-mul q.top.from q.top.from in
    lt_of_lt_of_le few (le_trans (le_of_eq e) (mul-le-mul a b))
