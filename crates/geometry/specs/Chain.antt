-- The counts by what a cheap test sees: each step within its bounds and to the largest, and the sum. Assumes nothing.
use Rattle.std.specs.Prelude.{◌≡◌, List, [], ◌∷◌, ℕ, suc, ◌+◌, ◌-◌, ◌≤◌, ◌<◌, length}
use Rattle.geometry.specs.Counts.{low, high, low_sum, high_sum, quarter, total}

-- each count lies within the bounds that the one before sets
unfoldable pub Steps : ℕ → List ℕ → Type 0
Steps x [] = Unit {0}
Steps x (y ∷ ys) = (low x ≤ y) × (y ≤ high x) × Steps y ys

-- each count is the top, or the next larger goes past the sum
unfoldable pub Tight : ℕ → List ℕ → Type 0
Tight x [] = Unit {0}
Tight x (y ∷ ys) = (y < high x → y + total ys < low_sum (y + 1) (suc (length ys))) × Tight y ys

-- one step within the bounds, and to the largest
pub record Step (x y levels sum : ℕ) : Type 0 where
  pub from : low x ≤ y
  pub to : y ≤ high x
  pub past : y < high x → sum < low_sum (y + 1) levels

unfoldable pub Good : List ℕ → Type 0
Good [] = Unit {0}
Good (x ∷ xs) = Steps x xs × Tight x xs

pub record Chain (t : ℕ) (xs : List ℕ) : Type 0 where
  pub good : Good xs
  pub sums : total xs ≡ t

-- the first count, with the brackets that the chain gives
pub record FirstStep (t levels x : ℕ) : Type 0 where
  pub larger : quarter t < x → high_sum (x - 1) levels < t
  pub smaller : x < quarter t → t < low_sum (x + 1) levels
