-- Laws of the search for the smallest n: its answers. Assumes nothing.
use Rattle.std.specs.Prelude.{Option, Some, None}
use Prim.Native.Nat.{ℕ, ◌+◌, ◌*◌, ◌≤◌, ◌<◌}
use Rattle.std.proofs.Common.{lt_of_not-le, mul-le-mul}
use Rattle.std.proofs.Math.Decide.{dec_le}
use native.Mathlib.Omega.{arith}
use Rattle.geometry.specs.Special.{SpecialLength}
use Rattle.geometry.specs.LengthLaws.{length_facts, exponent_most}
use Rattle.geometry_smallest.specs.Slots.{Start}
use Rattle.geometry_smallest.specs.Layouts.{FirstLayout}
use Rattle.geometry_smallest.specs.Search.{Serves, SlotsFound}

-- up to 16 slots there is no layout: the ordinary levels alone are 132
pub no_few : (n e s : ℕ) → 3 ≤ e → n ≤ 16 → SpecialLength n e s → ⊥
no_few n e s h l p =
    let f = length_facts n e s p in
    let m : 22 * 6 ≤ (4 * e + 10) * (2 * e) = mul-le-mul {n₁ = 22} {m₁ = 6} (omega arith) (omega arith) in
    let a = f.main in
    omega arith

module _ (count e first last : ℕ) (top : last ≤ 4294967296) where
  -- no exponent above 27 has a layout
  pub found_exponent : 27 < e → SlotsFound count e first last None
  unfolding SlotsFound
  found_exponent l = λ n t. let s = t.special in let h = t.to in omega (arith, exponent_most n e s.0 (omega arith) s.1.holds)

  -- a table takes at most its slots
  pub found_count : last < count → SlotsFound count e first last None
  unfolding SlotsFound
  found_count l = λ n t. let a = t.enough in let h = t.to in omega arith

  module _ (start : ℕ) (h : 3 ≤ e) (is : Start count e first start) where
    pub found_first : (r : Option ℕ) → FirstLayout e start last r → SlotsFound count e first last r
    unfolding FirstLayout SlotsFound
    found_first None f = λ n t. go n t (dec_le start n)
      where
        go : (n : ℕ) → Serves count e first last n → Dec (start ≤ n) → ⊥
        go n t (yes l) = let b = t.to in f n t.special.0 l (omega arith) t.special.1.holds
        go n t (no k) = no_few n e t.special.0 h (is.passed n t.from t.enough (lt_of_not-le k)) t.special.1.holds
    found_first (Some r) f =
        let a = is.from in
        let b = f.from in
        record {
          holds = record { from = omega arith; to = f.to; enough = is.enough r b; special = f.special };
          below = λ n t. go n t (dec_le r n) (dec_le start n);
        }
      where
        go : (n : ℕ) → Serves count e first last n → Dec (r ≤ n) → Dec (start ≤ n) → r ≤ n
        go n t (yes l) k = l
        go n t (no l) (yes k) = absurd (f.bare n t.special.0 k (lt_of_not-le l) t.special.1.holds)
        go n t (no l) (no k) = absurd (no_few n e t.special.0 h (is.passed n t.from t.enough (lt_of_not-le k)) t.special.1.holds)
