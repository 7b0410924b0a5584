-- Laws of the largest and the smallest. Assumes nothing.
use Rattle.std.specs.Prelude.{◌≡◌, ℕ}
use Rattle.std.proofs.Common.{le_antisymm}
use Rattle.geometry.specs.Extreme.{IsLargest, IsSmallest}

pub largest_one : {P : ℕ → Type 0} {x y : ℕ} → IsLargest P x → IsLargest P y → x ≡ y
largest_one {x = x} {y = y} p q = le_antisymm (q.above x p.holds) (p.above y q.holds)

pub smallest_one : {P : ℕ → Type 0} {x y : ℕ} → IsSmallest P x → IsSmallest P y → x ≡ y
smallest_one {x = x} {y = y} p q = le_antisymm (p.below y q.holds) (q.below x p.holds)
