-- Laws of phi in one word, by spread bits, marks and a shift: the answers in turn. Assumes nothing.
use Rattle.std.specs.Prelude.{Bool, true, ◌≡◌, refl, ℕ, zero, suc, ◌+◌, ◌*◌, ◌-◌, ◌%◌, ◌^◌, ◌≤◌, ◌<◌, eqb, Ok, Err}
use Rattle.std.proofs.Math.Path.{ap, sym}
use Rattle.std.proofs.Common.{◌∙◌, pow-suc, mod-eq_of_lt, mul-le-mul_left, add-one, pow_pos}
use native.Mathlib.Omega.{arith}
use Rattle.std.specs.Int.Bits.{bit_or}
use Rattle.std.proofs.lemmas.Nat.{or_shifted}
use borrow.Author.Tests.{eqb-true, lt-ltb, le-ltb, eq-eqb, ne_eqb}
use Rattle.elastic_probe.specs.Length.{bits_of}
use Rattle.elastic_probe.specs.LengthLaws.{bits_over, bits_below}
use Rattle.elastic_probe.specs.Phi.{pairs, phi}
use Rattle.elastic_probe.specs.PhiLaws.{phi_over, phi_fits}
use Rattle.elastic_probe.specs.Spread.{spread_of}
use Rattle.elastic_probe.specs.SpreadLaws.{marks, pairs_spread, spread_more, more, all_below, all_at}
use Rattle.elastic_probe.specs.Position.{bounded_of}
use Rattle.elastic_probe.specs.declared.phi.Coordinate.TheVariants.{I, J}
use Rattle.elastic_probe.specs.declared.phi.PhiRefusal.TheVariants.{Coord, Overflow}

unfoldable marks_test : ℕ → Bool
unfolding marks
marks_test t = eqb (0xaaaaaaaa % (1 * 2 ^ (2 * t) % 2 ^ 64)) (marks t)

marks_pass : all_below 17 marks_test ≡ true
unfolding all_below marks_test marks
marks_pass = refl

pub marks_is : (t : ℕ) → t ≤ 16 → 0xaaaaaaaa % (1 * 2 ^ (2 * t) % 2 ^ 64) ≡ marks t
unfolding marks_test
marks_is t h = eqb-true _ _ (all_at 17 marks_test t (omega arith) marks_pass)

more_sum : (k m : ℕ) → more k m ≡ k + m
more_sum zero m = omega arith
more_sum (suc k) m = ap suc (more_sum k m) ∙ omega arith

-- the pairs, as the code has them
pub pairs_by : (j t : ℕ) → 0 < j → j < 65536 → t ≡ bits_of j → spread_of 16 j + 0xaaaaaaaa % (1 * 2 ^ (2 * t) % 2 ^ 64) ≡ pairs t j
pairs_by j t hj h e =
    let few : t ≤ 16 = omega (arith, bits_below j 16 (omega arith)) in
    let w : more t (16 - t) ≡ 16 = more_sum t (16 - t) ∙ omega arith in
    let below : j < 2 ^ t = rw e (bits_over j) in
    let s : spread_of 16 j ≡ spread_of t j = rw w at (spread_more t (16 - t) j below) in
    omega (arith, s, marks_is t few, pairs_spread t j)

module _ (i j a b : ℕ) (hi : 0 < i) (hj : 0 < j) (ej : a ≡ bits_of j) (ei : b ≡ bits_of i) (l : 2 * a + 1 + b ≤ 64) where
  pub phi_is : phi i j ≡ pairs a j * 2 ^ (b + 1) + i
  unfolding phi
  phi_is = rw (ej, ei)

  pub word : pairs a j * 2 ^ (b + 1) + i < 2 ^ 64
  word = rw phi_is at (phi_fits 64 i j hi hj (omega arith))

  pub pairs_word : pairs a j < 2 ^ 64
  pairs_word =
      let o : pairs a j * 1 ≤ pairs a j * 2 ^ (b + 1) = mul-le-mul_left (pairs a j) (pow_pos (b + 1)) in
      omega (arith, word, o)

  pub value : bit_or (pairs a j * 2 ^ (b + 1) % 2 ^ 64) i ≡ phi i j
  value =
      let m : pairs a j * 2 ^ (b + 1) < 2 ^ 64 = omega (arith, word) in
      let low : i < 2 ^ (b + 1) = rw (ei, add-one (bits_of i)) (omega (arith, bits_over i, pow-suc 2 (bits_of i))) in
      rw (mod-eq_of_lt m) (or_shifted (pairs a j) (b + 1) i low) ∙ sym phi_is

-- the answers in turn
pub bounded_i : (i j : ℕ) → i ≡ 0 → Err (Coord I) ≡ bounded_of i j
unfolding bounded_of
bounded_i i j e = sym (rw (eq-eqb i 0 e))

module _ (i j : ℕ) (ni : i ≡ 0 → ⊥) where
  pub bounded_j : j ≡ 0 → Err (Coord J) ≡ bounded_of i j
  unfolding bounded_of
  bounded_j e = sym (rw (ne_eqb i 0 ni, eq-eqb j 0 e))

  module _ (nj : j ≡ 0 → ⊥) where
    pub bounded_big : 65535 < j → Err Overflow ≡ bounded_of i j
    unfolding bounded_of
    bounded_big h = sym (rw (ne_eqb i 0 ni, ne_eqb j 0 nj, lt-ltb 65535 j h))

    module _ (h : j ≤ 65535) where
      pub bounded_over : (a b : ℕ) → a ≡ bits_of j → b ≡ bits_of i → 64 < 2 * a + 1 + b → Err Overflow ≡ bounded_of i j
      unfolding bounded_of
      bounded_over a b ej ei l =
          let m = phi_over 64 i j (omega arith) (omega arith) (omega arith) in
          sym (rw (ne_eqb i 0 ni, ne_eqb j 0 nj, le-ltb 65535 j h, le-ltb (phi i j) (2 ^ 64) m))

      pub bounded_is : (a b s : ℕ) → a ≡ bits_of j → b ≡ bits_of i → s ≡ spread_of 16 j → 2 * a + 1 + b ≤ 64
          → Ok (bit_or ((s + 0xaaaaaaaa % (1 * 2 ^ (2 * a) % 2 ^ 64)) * 2 ^ (b + 1) % 2 ^ 64) i) ≡ bounded_of i j
      unfolding bounded_of
      bounded_is a b s ej ei es l =
          let pi : 0 < i = omega arith in
          let pj : 0 < j = omega arith in
          let p : s + 0xaaaaaaaa % (1 * 2 ^ (2 * a) % 2 ^ 64) ≡ pairs a j = rw es (pairs_by j a pj (omega arith) ej) in
          let v : bit_or ((s + 0xaaaaaaaa % (1 * 2 ^ (2 * a) % 2 ^ 64)) * 2 ^ (b + 1) % 2 ^ 64) i ≡ phi i j = rw p (value i j a b pi pj ej ei l) in
          let m = phi_fits 64 i j pi pj (omega arith) in
          ap Ok v ∙ sym (rw (ne_eqb i 0 ni, ne_eqb j 0 nj, le-ltb 65535 j h, lt-ltb (phi i j) (2 ^ 64) m))

      pub bounded_sum : (a b s : ℕ) → a ≡ bits_of j → b ≡ bits_of i → s ≡ spread_of 16 j → 2 * a + 1 + b ≤ 64 → s + 0xaaaaaaaa % (1 * 2 ^ (2 * a) % 2 ^ 64) < 2 ^ 64
      bounded_sum a b s ej ei es l = rw (es, pairs_by j a (omega arith) (omega arith) ej) (pairs_word i j a b (omega arith) (omega arith) ej ei l)
