-- The order of phi: by length, then by the bits of j as a string, where a start of a string comes before it, then by i. Assumes nothing.
use Rattle.std.specs.Prelude.{◌≡◌, refl, ℕ, zero, suc, ◌+◌, ◌*◌, ◌-◌, ◌/◌, ◌%◌, ◌^◌, ◌≤◌, ◌<◌}
use Rattle.std.proofs.Common.{ap, sym, ◌∙◌, pow-suc, div-one, mul-le-mul_right, mul-le-mul_left, lt_of_not-le, arith, pow_pos, pow_mono}
use Rattle.std.proofs.Math.Nat.{pow-zero, div-div-eq-div-mul}
use Rattle.std.proofs.Math.Decide.{dec_le}
use Rattle.elastic_probe.specs.Length.{length_in, bits_of}
use Rattle.elastic_probe.specs.Phi.{pairs, phi, at, coords_of}
use Rattle.elastic_probe.specs.LengthLaws.{Top, has_top, bits_top}
use Rattle.elastic_probe.specs.PhiLaws.{twice, twice_sum, pairs_last, phi_node, phi_bits, phi_over, coords_sound, top_half}

-- longer is larger
pub longer : (x y : ℕ) → 0 < x → 0 < y → bits_of x < bits_of y → x < y
longer x y hx hy l =
    let p = has_top x hx in
    let q = has_top y hy in
    let less : suc p.t ≤ q.t = omega (arith, p.bits, q.bits) in
    omega (arith, p.top.below, q.top.from, pow_mono less, pow-suc 2 p.t)

pub pairs_mono : (t j k : ℕ) → j < k → k < 2 ^ t → pairs t j < pairs t k
unfolding pairs
pairs_mono zero j k l h = absurd (omega (arith, pow-zero 2))
pairs_mono (suc t) j k l h = go (dec_le (k / 2) (j / 2)) (pairs_mono t (j / 2) (k / 2))
  where
    go : Dec (k / 2 ≤ j / 2) → (j / 2 < k / 2 → k / 2 < 2 ^ t → pairs t (j / 2) < pairs t (k / 2)) → pairs t (j / 2) * 4 + 2 + j % 2 < pairs t (k / 2) * 4 + 2 + k % 2
    go (no f) ih = let m = ih (lt_of_not-le f) (omega (arith, pow-suc 2 t)) in omega arith
    go (yes g) ih = let e : j / 2 ≡ k / 2 = omega arith in omega (arith, ap (pairs t) e)

-- nodes of one size in the order of their j
nodes_mono : (t r j k x y : ℕ) → Top k t → j < k → x < 2 ^ r → pairs (suc t) j * 2 ^ r + x < pairs (suc t) k * 2 ^ r + y
nodes_mono t r j k x y p l h =
    let m = pairs_mono (suc t) j k l (omega (arith, p.below, pow-suc 2 t)) in
    let n : suc (pairs (suc t) j) * 2 ^ r ≤ pairs (suc t) k * 2 ^ r = mul-le-mul_right (2 ^ r) m in
    omega arith

-- j without its last d bits
abbrev pub halves : ℕ → ℕ → ℕ
halves zero j = j
halves (suc d) j = halves d (j / 2)

abbrev pub more : ℕ → ℕ → ℕ
more zero t = t
more (suc d) t = suc (more d t)

more_suc : (d t : ℕ) → more d (suc t) ≡ suc (more d t)
more_suc zero t = refl
more_suc (suc d) t = ap suc (more_suc d t)

halves_top : (d j t : ℕ) → Top j (more d t) → Top (halves d j) t
halves_top zero j t p = p
halves_top (suc d) j t p = halves_top d (j / 2) t (top_half j (more d t) p)

-- a node within the node of its j's first bits: past the middle
record Head (d t j r x : ℕ) : Type 0 where
  rest : ℕ
  below : rest < 2 ^ twice d r
  is : pairs (more d (suc t)) j * 2 ^ r + x ≡ pairs (suc t) (halves d j) * 2 ^ twice d r + rest

record High (d t j r x : ℕ) : Type 0 where
  head : Head d t j r x
  high : 2 ^ twice d r ≤ 2 * head.rest

bit_fits : (b r x : ℕ) → b < 2 → x < 2 ^ r → (2 + b) * 2 ^ r + x < 2 ^ suc (suc r)
bit_fits b r x l h =
    let m : b * 2 ^ r ≤ 1 * 2 ^ r = mul-le-mul_right (2 ^ r) (omega arith) in
    omega (arith, pow-suc 2 (suc r), pow-suc 2 r)

high_of : (d t j r x : ℕ) → x < 2 ^ r → High (suc d) t j r x
high_of zero t j r x h =
    let l : j % 2 < 2 = omega arith in
    record {
      head = record { rest = (2 + j % 2) * 2 ^ r + x; below = bit_fits (j % 2) r x l h; is = pairs_last (suc t) j r x };
      high = omega (arith, pow-suc 2 (suc r), pow-suc 2 r);
    }
high_of (suc d) t j r x h =
    let l : j % 2 < 2 = omega arith in
    let i = high_of d t (j / 2) (suc (suc r)) ((2 + j % 2) * 2 ^ r + x) (bit_fits (j % 2) r x l h) in
    record {
      head = record { rest = i.head.rest; below = i.head.below; is = pairs_last (more (suc d) (suc t)) j r x ∙ i.head.is };
      high = i.high;
    }

head_of : (d t j r x : ℕ) → x < 2 ^ r → Head d t j r x
head_of zero t j r x h = record { rest = x; below = h; is = refl }
head_of (suc d) t j r x h = (high_of d t j r x h).head

-- two positions of one length; j is no longer than k, which has d bits more
module _ (i j a t l k b d : ℕ) (ti : Top i a) (tj : Top j t) (tl : Top l b) (tk : Top k (more d t)) (even : 2 * d + b ≡ a) where
  size : twice d (suc (suc b)) ≡ suc (suc a)
  size = twice_sum d (suc (suc b)) ∙ omega arith

  here : phi i j ≡ pairs (suc t) j * 2 ^ suc (suc a) + i
  here = phi_node i j a t ti tj

  room : (x c : ℕ) → Top x c → x < 2 ^ suc (suc c)
  room x c p = omega (arith, p.below, pow-suc 2 (suc c), pow-suc 2 c)

  there : phi l k ≡ pairs (more d (suc t)) k * 2 ^ suc (suc b) + l
  there = rw (more_suc d t) (phi_node l k b (more d t) tl tk)

  head : Head d t k (suc (suc b)) l
  head = head_of d t k (suc (suc b)) l (room l b tl)

  across : phi l k ≡ pairs (suc t) (halves d k) * 2 ^ suc (suc a) + head.rest
  across = there ∙ head.is ∙ ap (λ (n : ℕ). pairs (suc t) (halves d k) * 2 ^ n + head.rest) size

  -- j before the first bits of k
  pub order_less : j < halves d k → phi i j < phi l k
  order_less h = rw (here, across) (nodes_mono t (suc (suc a)) j (halves d k) i head.rest (halves_top d k t tk) h (room i a ti))

  -- or after them
  pub order_more : halves d k < j → phi l k < phi i j
  order_more h =
      let m : head.rest < 2 ^ suc (suc a) = rw size at head.below in
      rw (here, across) (nodes_mono t (suc (suc a)) (halves d k) j head.rest i tj h m)

-- j is a start of k
pub order_start : (i j a t l k b c : ℕ) → Top i a → Top j t → Top l b → Top k (more (suc c) t) → 2 * suc c + b ≡ a → j ≡ halves (suc c) k → phi i j < phi l k
order_start i j a t l k b c ti tj tl tk even e =
    let g = high_of c t k (suc (suc b)) l (room i j a t l k b (suc c) ti tj tl tk even l b tl) in
    let z = size i j a t l k b (suc c) ti tj tl tk even in
    let far : 2 ^ suc (suc a) ≤ 2 * g.head.rest = rw z at g.high in
    let s : phi l k ≡ pairs (suc t) (halves (suc c) k) * 2 ^ suc (suc a) + g.head.rest =
    there i j a t l k b (suc c) ti tj tl tk even ∙ g.head.is
    ∙ ap (λ (n : ℕ). pairs (suc t) (halves (suc c) k) * 2 ^ n + g.head.rest) z in
    let u : phi i j ≡ pairs (suc t) (halves (suc c) k) * 2 ^ suc (suc a) + i =
    phi_node i j a t ti tj ∙ ap (λ (n : ℕ). pairs (suc t) n * 2 ^ suc (suc a) + i) e in
    omega (arith, s, u, far, ti.below, pow-suc 2 (suc a), pow-suc 2 a)

tops : (i l a b : ℕ) → Top i a → Top l b → i < l → Dec (a ≤ b) → a ≤ b
tops i l a b p q h (yes g) = g
tops i l a b p q h (no f) =
    let g : suc b ≤ a = lt_of_not-le f in
    absurd (omega (arith, p.from, q.below, pow_mono g, pow-suc 2 b))

-- of one j by i
pub order_i : (i l j : ℕ) → 0 < i → 0 < j → i < l → phi i j < phi l j
order_i i l j hi hj h =
    let p = has_top i hi in
    let q = has_top l (omega arith) in
    let r = has_top j hj in
    let n : p.t ≤ q.t = tops i l p.t q.t p.top q.top h (dec_le p.t q.t) in
    let m : suc (suc p.t) ≤ suc (suc q.t) = omega arith in
    let s = mul-le-mul_left (pairs (suc r.t) j) (pow_mono m) in
    omega (arith, phi_node i j p.t r.t p.top r.top, phi_node l j q.t r.t q.top r.top, s)

-- so the order is not that of the length of j: of one length, and with the shorter j the larger
pub not_by_length : (bits_of (phi 4 3) ≡ bits_of (phi 1 4)) × (bits_of 3 < bits_of 4) × (phi 1 4 < phi 4 3)
unfolding phi pairs bits_of length_in
not_by_length = (refl, omega arith, omega arith)

-- ---- the same, by lengths: two positions of one length; k has at least as many bits as j, and its first are compared with j

halves_div : (d k : ℕ) → halves d k ≡ k / 2 ^ d
halves_div zero k = sym (div-one k)
halves_div (suc d) k =
    let e : 2 * 2 ^ d ≡ 2 ^ suc d = omega (arith, pow-suc 2 d) in
    halves_div d (k / 2) ∙ div-div-eq-div-mul k 2 (2 ^ d) ∙ ap (λ (n : ℕ). k / n) e

more_sum : (d t : ℕ) → more d t ≡ d + t
more_sum zero t = omega arith
more_sum (suc d) t = ap suc (more_sum d t) ∙ omega arith

-- what the laws above ask
record Aligned (i j l k d : ℕ) : Type 0 where
  a : ℕ
  t : ℕ
  b : ℕ
  ti : Top i a
  tj : Top j t
  tl : Top l b
  tk : Top k (more d t)
  even : 2 * d + b ≡ a

module _ (i j l k : ℕ) (hi : 0 < i) (hj : 0 < j) (hl : 0 < l) (hk : 0 < k)
    (length : bits_of (phi i j) ≡ bits_of (phi l k)) where
  aligned : bits_of j ≤ bits_of k → Aligned i j l k (bits_of k - bits_of j)
  aligned le =
      let p = has_top i hi in
      let q = has_top j hj in
      let r = has_top l hl in
      let s = has_top k hk in
      let m : s.t ≡ more (bits_of k - bits_of j) q.t = omega (arith, s.bits, q.bits) ∙ sym (more_sum (bits_of k - bits_of j) q.t) in
      record {
        a = p.t;
        t = q.t;
        b = r.t;
        ti = p.top;
        tj = q.top;
        tl = r.top;
        tk = rw m at s.top;
        even = omega (arith, phi_bits i j hi hj, phi_bits l k hl hk, length, p.bits, q.bits, r.bits, s.bits);
      }

  pub by_first_bits : bits_of j ≤ bits_of k → j < k / 2 ^ (bits_of k - bits_of j) → phi i j < phi l k
  by_first_bits le h =
      let n = aligned le in
      order_less i j n.a n.t l k n.b (bits_of k - bits_of j) n.ti n.tj n.tl n.tk n.even (rw (halves_div (bits_of k - bits_of j) k) h)

  pub past_first_bits : bits_of j ≤ bits_of k → k / 2 ^ (bits_of k - bits_of j) < j → phi l k < phi i j
  past_first_bits le h =
      let n = aligned le in
      order_more i j n.a n.t l k n.b (bits_of k - bits_of j) n.ti n.tj n.tl n.tk n.even (rw (halves_div (bits_of k - bits_of j) k) h)

  -- a prefix before its continuations
  pub prefix_first : bits_of j < bits_of k → j ≡ k / 2 ^ (bits_of k - bits_of j) → phi i j < phi l k
  prefix_first lt e =
      let n = aligned (omega arith) in
      let s : bits_of k - bits_of j ≡ suc (bits_of k - bits_of j - 1) = omega arith in
      order_start i j n.a n.t l k n.b (bits_of k - bits_of j - 1) n.ti n.tj n.tl (rw s at n.tk) (rw s at n.even)
      (rw s at (e ∙ sym (halves_div (bits_of k - bits_of j) k)))

-- ---- no probe beyond the packing is ever asked for

-- the pairs of 8,192, and those of what follows it
pairs_last_probe : pairs 14 8192 ≡ 246065834
unfolding pairs
pairs_last_probe = refl

-- 984,263,340 is phi(1, 8193) - 1
pub probe_most : (p i j : ℕ) → p ≤ 984263340 → coords_of p ≡ at i j → j ≤ 8192
probe_most p i j h e = go (dec_le j 8192)
  where
    far : (a t : ℕ) → 0 < i → 0 < j → phi i j ≡ p → Top i a → Top j t → bits_of j ≡ suc t → 8192 < j → Dec (t ≤ 13) → j ≤ 8192
    far a t hi hj is ti tj b past (no f) =
        let g = lt_of_not-le f in
        absurd (omega (arith, phi_over 31 i j hi hj (omega (arith, bits_top i a ti))))
    far a t hi hj is ti tj b past (yes g) = near (dec_le 13 t)
      where
        near : Dec (13 ≤ t) → j ≤ 8192
        near (no f) =
            let l = lt_of_not-le f in
            let m : 2 ^ t ≤ 2 ^ 12 = pow_mono {i = t} {j = 12} (omega arith) in
            absurd (omega (arith, tj.below))
        near (yes l) =
            let s : t ≡ 13 = omega arith in
            let u : Top j 13 = rw s at tj in
            let m = pairs_mono 14 8192 j past (omega (arith, u.below)) in
            let n : phi i j ≡ pairs 14 j * 2 ^ suc (suc a) + i = rw s at (phi_node i j a t ti tj) in
            let w : pairs 14 j * 4 ≤ pairs 14 j * 2 ^ suc (suc a) = mul-le-mul_left (pairs 14 j) (omega (arith, pow_pos a, pow-suc 2 a, pow-suc 2 (suc a))) in
            absurd (omega (arith, m, n, w, pairs_last_probe))

    go : Dec (j ≤ 8192) → j ≤ 8192
    go (yes g) = g
    go (no f) =
        let s = coords_sound p i j e in
        let a = has_top i s.i_pos in
        let b = has_top j s.j_pos in
        far a.t b.t s.i_pos s.j_pos s.is a.top b.top b.bits (lt_of_not-le f) (dec_le b.t 13)
