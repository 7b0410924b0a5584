-- Laws of what phi and its inverse answer, as their code goes. Assumes nothing.
use Rattle.std.specs.Prelude.{◌≡◌, Some, None, Ok, Err}
use Rattle.std.proofs.Math.Path.{refl, ap, sym}
use Rattle.std.proofs.Common.{◌∙◌, pow-suc, div-add-mod', lt_of_not-le, mul-le-mul_right, add-one, pow_pos, pow_mono}
use Prim.Native.Nat.{ℕ, zero, suc, ◌+◌, ◌*◌, ◌-◌, ◌/◌, ◌%◌, ◌^◌, ◌≤◌, ◌<◌}
use Rattle.std.proofs.Math.Nat.{mod-lt}
use Rattle.std.proofs.Math.Decide.{dec_le}
use native.Mathlib.Omega.{arith}
use Rattle.std.proofs.lemmas.Nat.{mod-pow-add}
use borrow.Author.Tests.{lt-ltb, le-ltb, eq-eqb, ne_eqb}
use Rattle.elastic_probe.specs.Length.{bits_of}
use Rattle.elastic_probe.specs.LengthLaws.{has_top, bits_zero, bits_none, bits_pos, bits_half}
use Rattle.elastic_probe.specs.Phi.{pairs, phi, gap, parse, start, coords_of}
use Rattle.elastic_probe.specs.PhiLaws.{pairs_last, parse_low, parse_last, parse_bit, phi_over, phi_fits}
use Rattle.elastic_probe.specs.Wide.{wide_of}
use Rattle.elastic_probe.specs.WideLaws.{wide_is}
use Rattle.elastic_probe.specs.Position.{position_of, coordinates, told, coordinates_of}
use Rattle.words.specs.declared.product.Wide.{Wide}
use Rattle.elastic_probe.specs.declared.phi.Coordinate.TheVariants.{I, J}
use Rattle.elastic_probe.specs.declared.phi.PhiRefusal.TheVariants.{Coord, Overflow}

-- ---- the pairs of j, put one after the other before the places that hold x: `rest` is left of j, and `out` holds what is below place `at`

pub record Placed (x place j out at rest : ℕ) : Type 0 where
  pub room : at + 2 * bits_of rest ≤ 128
  pub below : out < 2 ^ at
  pub same : pairs (bits_of rest) rest * 2 ^ at + out ≡ pairs (bits_of j) j * 2 ^ place + x

pub placed_none : (x place j : ℕ) → x < 2 ^ place → place + 2 * bits_of j ≤ 128 → Placed x place j x place j
placed_none x place j h l = record { room = l; below = h; same = refl }

module _ (x place j out at rest : ℕ) (p : Placed x place j out at rest) where
  pub placed_end : rest ≤ 0 → out ≡ pairs (bits_of j) j * 2 ^ place + x
  unfolding pairs
  placed_end h =
      let z : bits_of rest ≡ 0 = bits_zero rest (omega arith) in
      let s : 0 * 2 ^ at + out ≡ pairs (bits_of j) j * 2 ^ place + x = rw z at p.same in
      omega (arith, s)

  module _ (some : 0 < rest) where
    pub placed_place : at + 1 < 128
    placed_place = omega (arith, p.room, bits_pos rest some)

    pub placed_low : rest % 2 * 2 ^ at + out < 2 ^ (at + 1)
    placed_low =
        let m : rest % 2 * 2 ^ at ≤ 1 * 2 ^ at = mul-le-mul_right (2 ^ at) (omega arith) in
        rw (add-one at, pow-suc 2 at) (omega (arith, p.below))

    pub placed_more : (next : ℕ) → next ≡ 1 * 2 ^ (at + 1) + (rest % 2 * 2 ^ at + out) → Placed x place j next (at + 2) (rest / 2)
    placed_more next e =
        let b : bits_of rest ≡ suc (bits_of (rest / 2)) = bits_half rest some in
        let two : at + 2 ≡ suc (suc at) = omega arith in
        let one : at + 1 ≡ suc at = omega arith in
        let k = pow-suc 2 at in
        let n : next ≡ (2 + rest % 2) * 2 ^ at + out = e ∙ rw (one, pow-suc 2 at) (omega arith) in
        let m : rest % 2 * 2 ^ at ≤ 1 * 2 ^ at = mul-le-mul_right (2 ^ at) (omega arith) in
        let s : pairs (suc (bits_of (rest / 2))) rest * 2 ^ at + out ≡ pairs (bits_of j) j * 2 ^ place + x = rw b at p.same in
        record {
          room = omega (arith, p.room);
          below = rw (two, pow-suc 2 (suc at), pow-suc 2 at) (omega (arith, n, p.below));
          same = rw (two, n) (sym (pairs_last (bits_of (rest / 2)) rest at out) ∙ s);
        }

-- ---- phi in two words

module _ (i j : ℕ) where
  pub position_i : bits_of i ≡ 0 → Err (Coord I) ≡ position_of i j
  unfolding position_of
  position_i e = sym (rw (eq-eqb i 0 (bits_none i e)))

  module _ (ni : bits_of i ≡ 0 → ⊥) where
    not_i : i ≡ 0 → ⊥
    not_i e = ni (bits_zero i e)

    pub position_j : bits_of j ≡ 0 → Err (Coord J) ≡ position_of i j
    unfolding position_of
    position_j e = sym (rw (ne_eqb i 0 not_i, eq-eqb j 0 (bits_none j e)))

    module _ (nj : bits_of j ≡ 0 → ⊥) where
      not_j : j ≡ 0 → ⊥
      not_j e = nj (bits_zero j e)

      i_pos : 0 < i
      i_pos = let n = not_i in omega arith

      j_pos : 0 < j
      j_pos = let n = not_j in omega arith

      pub position_over : 128 < 2 * bits_of j + 1 + bits_of i → Err Overflow ≡ position_of i j
      unfolding position_of
      position_over l = sym (rw (ne_eqb i 0 not_i, ne_eqb j 0 not_j, le-ltb (phi i j) (2 ^ 128) (phi_over 128 i j i_pos j_pos l)))

      pub position_at_lem : (w : Wide) → w.lo < 2 ^ 64 → 2 * bits_of j + 1 + bits_of i ≤ 128 → wide_of w ≡ pairs (bits_of j) j * 2 ^ (bits_of i + 1) + i → Ok w ≡ position_of i j
      unfolding position_of phi
      position_at_lem w few l e =
          ap Ok (wide_is w (phi i j) few e)
          ∙ sym (rw (ne_eqb i 0 not_i, ne_eqb j 0 not_j, lt-ltb (phi i j) (2 ^ 128) (phi_fits 128 i j i_pos j_pos l)))

-- ---- reading a position from the top: `left` bits are left, and j has been read, of t bits

pub record Reading (p left j : ℕ) : Type 0 where
  pub t : ℕ
  pub room : 2 * t + left ≤ 128
  pub small : j < 2 ^ t
  pub same : coords_of p ≡ parse left (p % 2 ^ left) j

-- the low bits of a number by its top bit
low_split : (p k : ℕ) → p % 2 ^ (k + 1) ≡ p / 2 ^ k % 2 * 2 ^ k + p % 2 ^ k
low_split p k = let s : 1 + k ≡ k + 1 = omega arith in rw s at (mod-pow-add p 1 k)

-- a number between twice and four times q, by its quotient and rest
top_pair : (p q d r : ℕ) → q * 2 ≤ p → p < 2 * (q * 2) → d * q + r ≡ p → r < q → p ≡ (2 + d % 2) * q + r
top_pair p q d r lo hi e few = sym e ∙ ap (λ (n : ℕ). n * q + r) pair
  where
    two : Dec (2 ≤ d) → 2 ≤ d
    two (yes h) = h
    two (no f) = let g = lt_of_not-le f in let m : d * q ≤ 1 * q = mul-le-mul_right q (omega arith) in absurd (omega arith)

    four : Dec (4 ≤ d) → d < 4
    four (yes h) = let m : 4 * q ≤ d * q = mul-le-mul_right q h in absurd (omega arith)
    four (no f) = lt_of_not-le f

    pair : d ≡ 2 + d % 2
    pair = omega (arith, two (dec_le 2 d), four (dec_le 4 d))

module _ (p b : ℕ) (is : b ≡ bits_of p) where
  pub reading_short : b < 2 → None ≡ coordinates_of p
  unfolding coordinates_of coords_of start
  reading_short h = rw (← is) (go b h)
    where
      go : (b : ℕ) → b < 2 → None ≡ told (start b p)
      go zero h = refl
      go (suc zero) h = refl
      go (suc (suc k)) h = absurd (omega arith)

  module _ (two : 2 ≤ b) where
    long : bits_of p ≡ suc (suc (b - 2))
    long = omega arith

    some : 0 < p
    some = go (dec_le 1 p)
      where
        go : Dec (1 ≤ p) → 0 < p
        go (yes h) = h
        go (no f) = let g = lt_of_not-le f in absurd (omega (arith, bits_zero p (omega arith)))

    -- the top bit, the next, and the rest
    whole : p ≡ (2 + p / 2 ^ (b - 2) % 2) * 2 ^ (b - 2) + p % 2 ^ (b - 2)
    whole =
        let k = b - 2 in
        let q = has_top p some in
        let e : q.t ≡ suc k = omega (arith, q.bits, long) in
        let lo : 2 ^ suc k ≤ p = rw e at q.top.from in
        let hi : p < 2 * 2 ^ suc k = rw e at q.top.below in
        top_pair p (2 ^ k) (p / 2 ^ k) (p % 2 ^ k) (rw (pow-suc 2 k) at lo) (rw (pow-suc 2 k) at hi) (div-add-mod' p (2 ^ k)) (mod-lt p (pow_pos k))

    pub reading_gap : p / 2 ^ (b - 2) % 2 ≡ 0 → None ≡ coordinates_of p
    unfolding coordinates_of coords_of start
    reading_gap e =
        let w : p ≡ (2 + 0) * 2 ^ (b - 2) + p % 2 ^ (b - 2) = rw e at whole in
        let l : p < 3 * 2 ^ (b - 2) = omega (arith, w, mod-lt p (pow_pos (b - 2))) in
        sym (rw (long, lt-ltb p (3 * 2 ^ (b - 2)) l))

    pub reading_start : bits_of p ≤ 128 → (p / 2 ^ (b - 2) % 2 ≡ 0 → ⊥) → Reading p (b - 2) 1
    unfolding coords_of start
    reading_start most n =
        let one : p / 2 ^ (b - 2) % 2 ≡ 1 = omega arith in
        let w : p ≡ (2 + 1) * 2 ^ (b - 2) + p % 2 ^ (b - 2) = rw one at whole in
        let d : p - 3 * 2 ^ (b - 2) ≡ p % 2 ^ (b - 2) = omega (arith, w) in
        record {
          t = 1;
          room = omega arith;
          small = omega arith;
          same = rw (long, le-ltb p (3 * 2 ^ (b - 2)) (omega (arith, w)), d);
        }

module _ (p left j : ℕ) (r : Reading p left j) where
  pub reading_end : left < 2 → None ≡ coordinates_of p
  unfolding coordinates_of parse
  reading_end h = sym (ap told (r.same ∙ go left h))
    where
      go : (k : ℕ) → k < 2 → parse k (p % 2 ^ k) j ≡ gap
      go zero h = refl
      go (suc zero) h = refl
      go (suc (suc k)) h = absurd (omega arith)

  module _ (k : ℕ) (two : 2 ≤ left) (is : k ≡ left - 2) where
    next : left ≡ suc (suc k)
    next = omega arith

    -- the next two bits and the rest
    pair : p % 2 ^ suc (suc k) ≡ p / 2 ^ (k + 1) % 2 * 2 ^ (k + 1) + (p / 2 ^ k % 2 * 2 ^ k + p % 2 ^ k)
    pair =
        let s : k + 1 + 1 ≡ suc (suc k) = omega arith in
        let m : p % 2 ^ suc (suc k) ≡ p / 2 ^ (k + 1) % 2 * 2 ^ (k + 1) + p % 2 ^ (k + 1) = rw s at (low_split p (k + 1)) in
        m ∙ ap (λ (n : ℕ). p / 2 ^ (k + 1) % 2 * 2 ^ (k + 1) + n) (low_split p k)

    rest_low : p % 2 ^ k < 2 ^ k
    rest_low = mod-lt p (pow_pos k)

    here : coords_of p ≡ parse (suc (suc k)) (p % 2 ^ suc (suc k)) j
    here = rw next at r.same

    module _ (marker : p / 2 ^ (k + 1) % 2 ≡ 0) where
      pub reading_zero : p / 2 ^ k % 2 ≡ 0 → None ≡ coordinates_of p
      unfolding coordinates_of
      reading_zero b =
          let e : p % 2 ^ suc (suc k) ≡ 0 * 2 ^ (k + 1) + (0 * 2 ^ k + p % 2 ^ k) = rw (marker, b) at pair in
          let s : p % 2 ^ suc (suc k) ≡ p % 2 ^ k = e ∙ omega arith in
          sym (ap told (here ∙ ap (λ (n : ℕ). parse (suc (suc k)) n j) s ∙ parse_low k (p % 2 ^ k) j rest_low))

      pub reading_last : (w : Wide) → w.lo < 2 ^ 64 → (p / 2 ^ k % 2 ≡ 0 → ⊥) → wide_of w ≡ p % 2 ^ (k + 1) → Some (coordinates w j) ≡ coordinates_of p
      unfolding coordinates_of
      reading_last w few n e =
          let b : p / 2 ^ k % 2 ≡ 1 = omega arith in
          let i : p % 2 ^ (k + 1) ≡ 1 * 2 ^ k + p % 2 ^ k = rw b at (low_split p k) in
          let f : p % 2 ^ suc (suc k) ≡ 0 * 2 ^ (k + 1) + (1 * 2 ^ k + p % 2 ^ k) = rw (marker, b) at pair in
          let s : p % 2 ^ suc (suc k) ≡ 2 ^ k + p % 2 ^ k = f ∙ omega arith in
          let u : wide_of w ≡ 2 ^ k + p % 2 ^ k = e ∙ i ∙ omega arith in
          ap (λ (x : Wide). Some (coordinates x j)) (wide_is w (2 ^ k + p % 2 ^ k) few u)
          ∙ sym (ap told (here ∙ ap (λ (x : ℕ). parse (suc (suc k)) x j) s ∙ parse_last k (p % 2 ^ k) j rest_low))

    pub reading_place : k + 1 < 128
    reading_place = omega (arith, r.room)

    -- j's next bit fits
    pub reading_fits : 2 * j + 1 < 2 ^ 64
    reading_fits =
        let m : 2 ^ suc r.t ≤ 2 ^ 64 = pow_mono {i = suc r.t} {j = 64} (omega (arith, r.room)) in
        omega (arith, m, pow-suc 2 r.t, r.small)

    with_bit : (p / 2 ^ (k + 1) % 2 ≡ 0 → ⊥) → Reading p k (2 * j + p / 2 ^ k % 2)
    with_bit n =
        let marker : p / 2 ^ (k + 1) % 2 ≡ 1 = omega arith in
        let one : k + 1 ≡ suc k = omega arith in
        let f : p % 2 ^ suc (suc k) ≡ 1 * 2 ^ (k + 1) + (p / 2 ^ k % 2 * 2 ^ k + p % 2 ^ k) = rw marker at pair in
        let s : p % 2 ^ suc (suc k) ≡ (2 + p / 2 ^ k % 2) * 2 ^ k + p % 2 ^ k = f ∙ rw (one, pow-suc 2 k) (omega arith) in
        let c : j * 2 + p / 2 ^ k % 2 ≡ 2 * j + p / 2 ^ k % 2 = omega arith in
        record {
          t = suc r.t;
          room = omega (arith, r.room);
          small = omega (arith, pow-suc 2 r.t, r.small);
          same = here ∙ ap (λ (x : ℕ). parse (suc (suc k)) x j) s ∙ parse_bit k (p % 2 ^ k) j rest_low (p / 2 ^ k % 2) (omega arith) ∙ ap (parse k (p % 2 ^ k)) c;
        }

    pub reading_more : (b : ℕ) → b ≡ p / 2 ^ k % 2 → (p / 2 ^ (k + 1) % 2 ≡ 0 → ⊥) → Reading p k (2 * j + b)
    reading_more b e n = rw e (with_bit n)
