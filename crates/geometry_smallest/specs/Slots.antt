-- The smallest n that a count asks for. Assumes nothing.
use Rattle.std.specs.Prelude.{ℕ, ◌≤◌, ◌<◌}
use Rattle.geometry.specs.Config.{maximum}

-- n has a maximum of at least the count exactly from r on
pub record Needed (count e r : ℕ) : Type 0 where
  pub enough : (n : ℕ) → r ≤ n → count ≤ maximum n e
  pub least : (n : ℕ) → count ≤ maximum n e → r ≤ n

-- a start of the search: from `first` on, enough for the count, and above 16; what is passed over is too few slots or at most 16
pub record Start (count e first r : ℕ) : Type 0 where
  pub from : first ≤ r
  pub above : 16 < r
  pub enough : (n : ℕ) → r ≤ n → count ≤ maximum n e
  pub passed : (n : ℕ) → first ≤ n → count ≤ maximum n e → n < r → n ≤ 16
