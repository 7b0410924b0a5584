-- What the search for the smallest n answers, before its plan is worked out. Assumes nothing.
use Rattle.std.specs.Prelude.{Option, Some, None, ℕ, ◌≤◌}
use Rattle.geometry.specs.Config.{maximum}
use Rattle.geometry.specs.Extreme.{IsLargest, IsSmallest}
use Rattle.geometry.specs.Special.{SpecialLength}

-- n lies in the range, takes the count, and has a special length
pub record Serves (count e first last n : ℕ) : Type 0 where
  pub from : first ≤ n
  pub to : n ≤ last
  pub enough : count ≤ maximum n e
  pub special : (s : ℕ) × IsLargest (SpecialLength n e) s

-- the smallest, or None where there is none
unfoldable pub SlotsFound : (count e first last : ℕ) → Option ℕ → Type 0
SlotsFound count e first last None = (n : ℕ) → Serves count e first last n → ⊥
SlotsFound count e first last (Some n) = IsSmallest (Serves count e first last) n
