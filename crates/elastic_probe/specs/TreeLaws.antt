-- Positions as a tree. A node is a j and q positions from b on: those whose first pairs are j's. Its first quarter are gaps, the second
-- holds i from q / 4 on, the third and the fourth are the nodes of 2 j and 2 j + 1. Assumes nothing.
use Rattle.std.specs.Prelude.{◌≡◌, refl}
use Rattle.std.proofs.Common.{ap, ◌∙◌, mul-le-mul_left, lt_of_not-le, pow_mono}
use Prim.Native.Nat.{ℕ, zero, suc, ◌+◌, ◌*◌, ◌-◌, ◌/◌, ◌%◌, ◌^◌, ◌≤◌, ◌<◌}
use Rattle.std.proofs.Math.Nat.{pow-suc, pow-zero, mul-le-mul_right}
use native.Mathlib.Omega.{arith}
use Rattle.std.proofs.Math.Decide.{dec_le}
use Rattle.std.proofs.Math.Pow.{pow_pos}
use borrow.Author.Tests.{lt-ltb}
use Rattle.elastic_probe.specs.Phi.{pairs, gap, at, parse, start, coords_of}
use Rattle.elastic_probe.specs.LengthLaws.{Top, bits_top}
use Rattle.elastic_probe.specs.PhiLaws.{coords_node, parse_low, parse_last, parse_bit, pairs_last, top_half, top_zero, top_more}

pub record Node (b j q : ℕ) : Type 0 where
  pub t : ℕ
  pub r : ℕ
  pub top : Top j t
  pub size : q ≡ 2 ^ r
  pub is : b ≡ pairs (suc t) j * 2 ^ r

pub node_root : (r : ℕ) → Node (3 * 2 ^ r) 1 (2 ^ r)
unfolding pairs
node_root r = record { t = 0; r = r; top = record { from = omega (arith, pow-zero 2); below = omega (arith, pow-zero 2) }; size = refl; is = refl }

-- what is at a position of a node
node_at : (b j q x : ℕ) (n : Node b j q) → x < q → coords_of (b + x) ≡ parse n.r x j
node_at b j q x n h =
    ap (λ (y : ℕ). coords_of (y + x)) n.is ∙ coords_node n.t j n.r x n.top (omega (arith, n.size))

pub parse_mapped : (r i j : ℕ) → 2 ^ r / 4 ≤ i → 4 ≤ 2 ^ r → i < 2 * (2 ^ r / 4) → parse r i j ≡ at i j
parse_mapped zero i j lo four hi = absurd (omega (arith, pow-zero 2))
parse_mapped (suc zero) i j lo four hi = absurd (omega (arith, pow-suc 2 0, pow-zero 2))
parse_mapped (suc (suc k)) i j lo four hi =
    let p = pow-suc 2 k in
    let q = pow-suc 2 (suc k) in
    let e : 2 ^ k + (i - 2 ^ k) ≡ i = omega arith in
    rw e at (parse_last k (i - 2 ^ k) j (omega arith))

pub parse_empty : (r x j : ℕ) → x < 2 ^ r / 4 → parse r x j ≡ gap
unfolding parse
parse_empty zero x j h = refl
parse_empty (suc zero) x j h = refl
parse_empty (suc (suc k)) x j h = parse_low k x j (omega (arith, pow-suc 2 k, pow-suc 2 (suc k)))

short : (k x j : ℕ) → k < 2 → parse k x j ≡ gap
unfolding parse
short zero x j h = refl
short (suc zero) x j h = refl
short (suc (suc k)) x j h = absurd (omega arith)

-- the second half of a small node, or the whole of a smallest one
parse_leaf : (r x j : ℕ) → r < 4 → 2 * (2 ^ r / 4) ≤ x → x < 2 ^ r → parse r x j ≡ gap
unfolding parse
parse_leaf zero x j s lo hi = refl
parse_leaf (suc zero) x j s lo hi = refl
parse_leaf (suc (suc k)) x j s lo hi = go (dec_le (3 * 2 ^ k) x)
  where
    p : 2 ^ suc (suc k) ≡ 2 ^ k * 4
    p = omega (arith, pow-suc 2 k, pow-suc 2 (suc k))

    with_bit : (b : ℕ) → b < 2 → (2 + b) * 2 ^ k ≤ x → x < (3 + b) * 2 ^ k → parse (suc (suc k)) x j ≡ gap
    with_bit b l u v =
        let e : (2 + b) * 2 ^ k + (x - (2 + b) * 2 ^ k) ≡ x = omega arith in
        let m : x - (2 + b) * 2 ^ k < 2 ^ k = omega arith in
        rw e at (parse_bit k (x - (2 + b) * 2 ^ k) j m b l ∙ short k _ _ (omega arith))

    go : Dec (3 * 2 ^ k ≤ x) → parse (suc (suc k)) x j ≡ gap
    go (no f) = let g = lt_of_not-le f in with_bit 0 (omega arith) (omega (arith, p)) (omega arith)
    go (yes f) = with_bit 1 (omega arith) (omega arith) (omega (arith, p))

small : (r : ℕ) → 2 ^ r < 16 → r < 4
small r h = go (dec_le 4 r)
  where
    go : Dec (4 ≤ r) → r < 4
    go (no f) = lt_of_not-le f
    go (yes f) = absurd (omega (arith, pow_mono f))

pairs_ge : (t j : ℕ) → j < 2 ^ t → j ≤ pairs t j
unfolding pairs
pairs_ge zero j h = omega (arith, pow-zero 2)
pairs_ge (suc t) j h = omega (arith, pairs_ge t (j / 2) (omega (arith, pow-suc 2 t)))

module _ (b j q : ℕ) (n : Node b j q) where
  pub node_mapped : (i : ℕ) → 4 ≤ q → q / 4 ≤ i → i < 2 * (q / 4) → coords_of (b + i) ≡ at i j
  node_mapped i four lo hi =
      node_at b j q i n (omega arith) ∙ parse_mapped n.r i j (rw n.size at lo) (rw n.size at four) (rw n.size at hi)

  pub node_empty : (x : ℕ) → x < q / 4 → coords_of (b + x) ≡ gap
  node_empty x h = node_at b j q x n (omega arith) ∙ parse_empty n.r x j (rw n.size at h)

  pub node_leaf : (x : ℕ) → q < 16 → 2 * (q / 4) ≤ x → x < q → coords_of (b + x) ≡ gap
  node_leaf x s lo hi =
      node_at b j q x n hi ∙ parse_leaf n.r x j (small n.r (rw n.size at s)) (rw n.size at lo) (rw n.size at hi)

  -- down to the node of 2 j
  pub node_down : 4 ≤ q → Node (b + 2 * (q / 4)) (j * 2) (q / 4)
  node_down four = go n.t n.r n.top n.size n.is
    where
      go : (t r : ℕ) → Top j t → q ≡ 2 ^ r → b ≡ pairs (suc t) j * 2 ^ r → Node (b + 2 * (q / 4)) (j * 2) (q / 4)
      go t zero p s e = absurd (omega (arith, pow-zero 2))
      go t (suc zero) p s e = absurd (omega (arith, pow-suc 2 0, pow-zero 2))
      go t (suc (suc k)) p s e =
          let four-k : 2 ^ suc (suc k) ≡ 2 ^ k * 4 = omega (arith, pow-suc 2 k, pow-suc 2 (suc k)) in
          let half : j * 2 / 2 ≡ j = omega arith in
          let even : j * 2 % 2 ≡ 0 = omega arith in
          let z : j * 2 + 0 ≡ j * 2 = omega arith in
          let l = pairs_last (suc t) (j * 2) k 0 in
          let m : pairs (suc (suc t)) (j * 2) * 2 ^ k + 0 ≡ pairs (suc t) j * 2 ^ suc (suc k) + ((2 + 0) * 2 ^ k + 0) = rw (half, even) at l in
          record { t = suc t; r = k; top = rw z at (top_more j t 0 (omega arith) p); size = omega arith; is = omega arith }

  -- over to the node of j + 1
  pub node_over : j % 2 ≡ 0 → Node (b + q) (j + 1) q
  node_over even = go n.t n.top n.is
    where
      go : (t : ℕ) → Top j t → b ≡ pairs (suc t) j * 2 ^ n.r → Node (b + q) (j + 1) q
      go zero p e = absurd (omega (arith, top_zero j p))
      go (suc t) p e =
          let s = n.size in
          let half : (j + 1) / 2 ≡ j / 2 = omega arith in
          let odd : (j + 1) % 2 ≡ 1 = omega arith in
          let l = pairs_last (suc t) j n.r 0 in
          let m = pairs_last (suc t) (j + 1) n.r 0 in
          let u : pairs (suc (suc t)) j * 2 ^ n.r + 0 ≡ pairs (suc t) (j / 2) * 2 ^ suc (suc n.r) + ((2 + 0) * 2 ^ n.r + 0) = rw even at l in
          let v : pairs (suc (suc t)) (j + 1) * 2 ^ n.r + 0 ≡ pairs (suc t) (j / 2) * 2 ^ suc (suc n.r) + ((2 + 1) * 2 ^ n.r + 0) = rw (half, odd) at m in
          let h = pow-suc 2 t in
          record { t = suc t; r = n.r; top = record { from = omega (arith, p.from); below = omega (arith, p.below) }; size = s; is = omega arith }

  -- up to the node of which this is the last quarter
  pub node_up : j % 2 ≡ 1 → 1 < j → Node (b + q - 4 * q) (j / 2) (4 * q)
  node_up odd big = go n.t n.top n.is
    where
      go : (t : ℕ) → Top j t → b ≡ pairs (suc t) j * 2 ^ n.r → Node (b + q - 4 * q) (j / 2) (4 * q)
      go zero p e = absurd (omega (arith, top_zero j p))
      go (suc t) p e =
          let s = n.size in
          let l = pairs_last (suc t) j n.r 0 in
          let u : pairs (suc (suc t)) j * 2 ^ n.r + 0 ≡ pairs (suc t) (j / 2) * 2 ^ suc (suc n.r) + ((2 + 1) * 2 ^ n.r + 0) = rw odd at l in
          record { t = t; r = suc (suc n.r); top = top_half j t p; size = omega (arith, pow-suc 2 n.r, pow-suc 2 (suc n.r)); is = omega arith }

  -- the node of 1 is the last quarter of a length
  pub node_one : j ≡ 1 → b ≡ 3 * q
  unfolding pairs
  node_one e = go n.t n.top n.is
    where
      go : (t : ℕ) → Top j t → b ≡ pairs (suc t) j * 2 ^ n.r → b ≡ 3 * q
      go zero p d = let s = n.size in let k : pairs 1 j ≡ 3 = rw e in omega (arith, rw k at d)
      go (suc t) p d = absurd (omega (arith, p.from, pow-suc 2 t, pow_pos t))

  -- and the next length starts with gaps
  pub node_long : (x : ℕ) → 4 * q ≤ x → x < 6 * q → coords_of x ≡ gap
  unfolding coords_of start
  node_long x lo hi = go n.r n.size
    where
      go : (r : ℕ) → q ≡ 2 ^ r → coords_of x ≡ gap
      go r s =
          let u = pow-suc 2 r in
          let v = pow-suc 2 (suc r) in
          let p : Top x (suc (suc r)) = record { from = omega arith; below = omega arith } in
          rw (bits_top x (suc (suc r)) p, lt-ltb x (3 * 2 ^ suc r) (omega arith))

  pub node_next : j ≡ 1 → Node (6 * q) 1 (2 * q)
  node_next e =
      let s = n.size in
      let u = pow-suc 2 n.r in
      let m = node_root (suc n.r) in
      record { t = m.t; r = m.r; top = m.top; size = omega arith; is = omega arith }

  -- a node lies past its size, and past its j
  pub node_past : 2 * q ≤ b
  unfolding pairs
  node_past =
      let m : 2 * 2 ^ n.r ≤ pairs (suc n.t) j * 2 ^ n.r = mul-le-mul_right (2 ^ n.r) (omega arith) in
      omega (arith, n.size, n.is)

  pub node_size : 0 < q
  node_size = omega (arith, n.size, pow_pos n.r)

  pub node_pos : 0 < j
  node_pos = omega (arith, n.top.from, pow_pos n.t)

  pub node_j : j ≤ b
  node_j =
      let m : pairs (suc n.t) j * 1 ≤ pairs (suc n.t) j * 2 ^ n.r = mul-le-mul_left (pairs (suc n.t) j) (omega (arith, pow_pos n.r)) in
      omega (arith, n.is, pairs_ge (suc n.t) j (omega (arith, n.top.below, pow-suc 2 n.t)))

-- from where a node's i have been tried, to the next node: gaps lie between
pub record Next (from b j q : ℕ) : Type 0 where
  pub node : Node b j q
  pub on : from ≤ b
  pub gaps : (x : ℕ) → from ≤ x → x < b → coords_of x ≡ gap

-- on from a node's end e
pub record Ends (e j q : ℕ) : Type 0 where
  pub node : Node (e - q) j q
  pub room : 3 * q ≤ e

module _ (e j q : ℕ) (n : Ends e j q) where
  pub ends_over : j % 2 ≡ 0 → Next e e (j + 1) q
  ends_over even =
      let d : e - q + q ≡ e = omega (arith, n.room) in
      record { node = rw d at (node_over (e - q) j q n.node even); on = omega arith; gaps = λ x lo hi. absurd (omega arith) }

  pub ends_j : j ≤ e
  ends_j = omega (arith, node_j (e - q) j q n.node, n.room)

  pub ends_pos : 0 < j
  ends_pos = node_pos (e - q) j q n.node

  pub ends_up : j % 2 ≡ 1 → 1 < j → Ends e (j / 2) (4 * q)
  ends_up odd big =
      let m = node_up (e - q) j q n.node odd big in
      let d : e - q + q - 4 * q ≡ e - 4 * q = omega (arith, n.room) in
      let u : Node (e - 4 * q) (j / 2) (4 * q) = rw d at m in
      record { node = u; room = omega (arith, node_past (e - 4 * q) (j / 2) (4 * q) u, node_size (e - q) j q n.node) }

  pub ends_root : j ≡ 1 → Next e (6 * q) 1 (2 * q)
  ends_root one =
      let f : e - q ≡ 3 * q = node_one (e - q) j q n.node one in
      let r = n.room in
      record {
        node = node_next (e - q) j q n.node one;
        on = omega arith;
        gaps = λ x lo hi. node_long (e - q) j q n.node x (omega arith) hi;
      }

module _ (b j q : ℕ) (n : Node b j q) where
  pub ends_start : Ends (b + q) j q
  ends_start =
      let d : b + q - q ≡ b = omega arith in
      record { node = rw d n; room = omega (arith, node_past b j q n) }

  pub next_down : 16 ≤ q → Next (b + 2 * (q / 4)) (b + 2 * (q / 4)) (j * 2) (q / 4)
  next_down h = record { node = node_down b j q n (omega arith); on = omega arith; gaps = λ x lo hi. absurd (omega arith) }

  pub next_leaf : {c k r : ℕ} → q < 16 → Next (b + q) c k r → Next (b + 2 * (q / 4)) c k r
  next_leaf {c} {k} {r} h m = record { node = m.node; on = omega (arith, m.on); gaps = λ x lo hi. go x lo hi (dec_le (b + q) x) }
    where
      go : (x : ℕ) → b + 2 * (q / 4) ≤ x → x < c → Dec (b + q ≤ x) → coords_of x ≡ gap
      go x lo hi (yes g) = m.gaps x g hi
      go x lo hi (no f) =
          let g = lt_of_not-le f in
          let d : b + (x - b) ≡ x = omega arith in
          rw d at (node_leaf b j q n (x - b) h (omega arith) (omega arith))
