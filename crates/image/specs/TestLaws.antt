-- Tests taken apart: by the test's outcome, and what a test between two bounds says. Assumes nothing.
use Rattle.std.specs.Prelude.{◌≡◌, refl, Bool, true, false, ℕ, ◌≤◌, leb}
use Rattle.std.proofs.Common.{arith, leb-true, le-leb}
use Rattle.words.specs.Pick.{pick}
use Rattle.image.specs.Reading.{between}

pub cases : {P : Type 0} (x : Bool) → (x ≡ true → P) → (x ≡ false → P) → P
cases true t f = t refl
cases false t f = f refl

pub not_both : {P : Type 0} → true ≡ false → P
not_both h = let z : ◌≡◌ {A = ℕ} 0 1 = cc in absurd (omega arith)

pub between_facts : (lo x hi : ℕ) → between lo x hi ≡ true → (lo ≤ x) × (x ≤ hi)
between_facts lo x hi h = go (leb lo x) refl h
  where
    go : (y : Bool) → leb lo x ≡ y → pick y (leb x hi) false ≡ true → (lo ≤ x) × (x ≤ hi)
    go true e h = (leb-true _ _ e, leb-true _ _ h)
    go false e h = let z : ◌≡◌ {A = ℕ} 0 1 = cc in absurd (omega arith)

pub between_is : (lo x hi : ℕ) → lo ≤ x → x ≤ hi → between lo x hi ≡ true
between_is lo x hi a b = rw (le-leb _ _ a, le-leb _ _ b)
