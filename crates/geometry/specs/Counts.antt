-- The bucket counts of a funnel's levels, as the rules say them. Assumes nothing.
use Rattle.std.specs.Prelude.{◌≡◌, List, [], ◌∷◌, ℕ, zero, suc, ◌+◌, ◌-◌, ◌/◌, ◌≤◌, min, max, length}
use Rattle.geometry.specs.Extreme.{IsLargest, IsSmallest}

-- "From a count x the next lies between max(1, C(x)-1) and min(x, x - ceil(x/4) + 1)", where "C(L) = L - floor(L/4)"
abbrev pub low : ℕ → ℕ
low x = max 1 (x - x / 4 - 1)

abbrev pub high : ℕ → ℕ
high x = min x (x - (x + 3) / 4 + 1)

-- the sums of the smallest and of the largest path from x over some levels, x's among them
unfoldable pub low_sum : ℕ → ℕ → ℕ
low_sum x zero = 0
low_sum x (suc levels) = x + low_sum (low x) levels

unfoldable pub high_sum : ℕ → ℕ → ℕ
high_sum x zero = 0
high_sum x (suc levels) = x + high_sum (high x) levels

-- "smallest and largest paths bracket the remaining sum"
pub record Brackets (x levels sum : ℕ) : Type 0 where
  pub least : low_sum x levels ≤ sum
  pub most : sum ≤ high_sum x levels

-- a count that may follow x, with the sum of the levels from it on
pub record Follows (x levels sum y : ℕ) : Type 0 where
  pub from : low x ≤ y
  pub to : y ≤ high x
  pub brackets : Brackets y levels sum

-- "Each next is the largest whose smallest and largest paths bracket the remaining sum": the counts after x
unfoldable pub Rest : ℕ → ℕ → List ℕ → Type 0
Rest x sum [] = sum ≡ 0
Rest x sum (y ∷ ys) = IsLargest (Follows x (suc (length ys)) sum) y × Rest y (sum - y) ys

-- "T/4 rounded (remainder 3 goes up)"
abbrev pub quarter : ℕ → ℕ
quarter t = (t + 1) / 4

-- "clamped between the smallest whose largest path reaches T and the largest whose smallest path stays within T"
pub record First (t levels x : ℕ) : Type 0 where
  pub lo : ℕ
  pub hi : ℕ
  pub lo_smallest : IsSmallest (λ y. t ≤ high_sum y levels) lo
  pub hi_largest : IsLargest (λ y. low_sum y levels ≤ t) hi
  pub ordered : lo ≤ hi
  pub clamped : x ≡ max lo (min hi (quarter t))

-- "T = (n-s)/beta buckets fill alpha levels": the counts of all levels
unfoldable pub Counts : ℕ → ℕ → List ℕ → Type 0
Counts t levels [] = ⊥
Counts t levels (x ∷ xs) = (suc (length xs) ≡ levels) × First t levels x × Rest x (t - x) xs

-- the sum of a list
unfoldable pub total : List ℕ → ℕ
total [] = 0
total (x ∷ xs) = x + total xs
