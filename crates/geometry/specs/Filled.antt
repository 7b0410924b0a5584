-- Counts that are filled in from the front. Assumes nothing.
use Rattle.std.specs.Prelude.{◌≡◌, List, ℕ, ◌≤◌, ◌<◌, take, drop}
use Rattle.geometry.specs.Counts.{low, high, low_sum, high_sum, Counts}

-- the sum that is left lies between the smallest and the largest path of what follows x
pub record Fits (x n sum : ℕ) : Type 0 where
  pub pos : 0 < x
  pub least : low_sum (low x) n ≤ sum
  pub most : sum ≤ high_sum (high x) n

-- the array that is filled: the counts in front, and the others as they were
pub record Filled (t levels : ℕ) (old new : List ℕ) : Type 0 where
  pub counts : Counts t levels (take levels new)
  pub others : drop levels new ≡ drop levels old
