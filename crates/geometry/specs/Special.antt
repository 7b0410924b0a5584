-- The special length of a funnel, as the rule says it. Assumes nothing.
use Rattle.std.specs.Prelude.{◌≡◌, Option, Some, None, ℕ, ◌+◌, ◌-◌, ◌*◌, ◌/◌, ◌^◌, ◌≤◌, ◌<◌, min, max}
use Rattle.std.specs.Int.{◌∣◌}
use Rattle.words.specs.Log.{ceil_log2}
use Rattle.words.specs.Quotient.{ceil_div}
use Rattle.geometry.specs.Extreme.{IsLargest, IsSmallest}

-- "g = ceil(log2(ceil(log2 n))) but at least 1"
unfoldable pub loglog : ℕ → ℕ
loglog n = max 1 (ceil_log2 (ceil_log2 n))

-- "max(ceil(n/2^(e+1)), 4g)"
unfoldable pub special_least : ℕ → ℕ → ℕ
special_least n e = max (ceil_div n (2 ^ (e + 1))) (4 * loglog n)

-- "min(floor(3n/2^(e+2)), n - alpha*beta)"; where alpha*beta is above n the difference is 0, below the least
unfoldable pub special_most : ℕ → ℕ → ℕ
special_most n e = min (3 * n / 2 ^ (e + 2)) (n - (4 * e + 10) * (2 * e))

-- s lies between the two, "beta dividing n - s, and floor(s/2) a positive multiple of 2g", which is w here
pub record Special (n lo hi beta w s : ℕ) : Type 0 where
  pub from : lo ≤ s
  pub to : s ≤ hi
  pub main : beta ∣ n - s
  pub fallback : w ∣ s / 2
  pub some : 0 < s / 2

abbrev pub SpecialLength : ℕ → ℕ → ℕ → Type 0
SpecialLength n e s = Special n (special_least n e) (special_most n e) (2 * e) (2 * loglog n) s

-- "Special length s is the largest with .."; before it lie `main` buckets of beta, and its smaller half is `half` buckets of w
pub record Measured (n lo hi beta w s main half : ℕ) : Type 0 where
  pub largest : IsLargest (Special n lo hi beta w) s
  pub is_main : main ≡ (n - s) / beta
  pub is_half : half ≡ s / 2 / w

abbrev pub SpecialMeasured : ℕ → ℕ → ℕ → ℕ → ℕ → Type 0
SpecialMeasured n e s main half = Measured n (special_least n e) (special_most n e) (2 * e) (2 * loglog n) s main half

-- what a search answers: the largest, or None where there is none
unfoldable pub Found : (n lo hi beta w : ℕ) → Option ℕ → Type 0
Found n lo hi beta w None = (z : ℕ) → Special n lo hi beta w z → ⊥
Found n lo hi beta w (Some s) = IsLargest (Special n lo hi beta w) s

-- a search from the top: s leaves whole buckets, and nothing larger will do
pub record Below (n lo hi beta w s : ℕ) : Type 0 where
  pub to : s ≤ hi
  pub main : beta ∣ n - s
  pub above : (z : ℕ) → Special n lo hi beta w z → z ≤ s

-- the same at the bounds of n and e
unfoldable pub FoundFor : (n e : ℕ) → Option ℕ → Type 0
FoundFor n e None = (z : ℕ) → SpecialLength n e z → ⊥
FoundFor n e (Some s) = IsLargest (SpecialLength n e) s

-- the smallest number of buckets whose halves w divides
unfoldable pub IsPeriod : (h w k : ℕ) → Type 0
IsPeriod h w k = IsSmallest (λ j. (0 < j) × (w ∣ j * h)) k
