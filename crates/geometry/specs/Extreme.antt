-- The largest and the smallest number with a property. Assumes nothing.
use Rattle.std.specs.Prelude.{ℕ, ◌≤◌}

pub record IsLargest (P : ℕ → Type 0) (y : ℕ) : Type 0 where
  pub holds : P y
  pub above : (z : ℕ) → P z → z ≤ y

pub record IsSmallest (P : ℕ → Type 0) (y : ℕ) : Type 0 where
  pub holds : P y
  pub below : (z : ℕ) → P z → y ≤ z
