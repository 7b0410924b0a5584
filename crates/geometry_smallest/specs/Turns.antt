-- How many turns the search takes. Assumes nothing.
use Rattle.std.specs.Prelude.{ℕ, suc, ◌<◌}
use Rattle.geometry.specs.Special.{SpecialLength}
use Rattle.geometry_smallest.specs.Layouts.{Next}

-- from n on the search ends within k turns: it is past the last n, or n has a special length, or it goes on from the next
pub data Ends : (e last n k : ℕ) → Type 0 where
  past : {e last n k : ℕ} → last < n → Ends e last n k
  here : {e last n k : ℕ} (s : ℕ) → SpecialLength n e s → Ends e last n (suc k)
  turn : {e last n k : ℕ} (r : ℕ) → Next e n r → Ends e last r k → Ends e last n (suc k)
