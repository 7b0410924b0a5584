-- A queue: a set of numbers below m, in three levels of flags from byte `at` of a buffer on; and what its calls promise. Assumes nothing.
use Rattle.std.specs.Prelude.{Option, Some, None, Bool, true, false, not, List, ◌≡◌, ℕ, zero, suc, ◌+◌, ◌≤◌, ◌<◌, length, get_or, eqb}
use Rattle.words.specs.Pick.{pick}
use Rattle.queue.specs.Level.{groups, Over}

-- the bytes that a queue takes: a flag for each number, one for each 64 of those, and one for each 64 of these
abbrev pub room : ℕ → ℕ
room m = m + groups m + groups (groups m)

-- whether number i is in the queue
unfoldable pub holds : (b : List ℕ) (at i : ℕ) → Bool
holds b at i = not (eqb (get_or b (at + i) 0) 0)

pub record Queue (b : List ℕ) (at m : ℕ) : Type 0 where
  pub fits : at + room m ≤ length b
  -- both upper levels are exact
  pub middle : Over b at (at + m) m
  pub top : Over b (at + m) (at + m + groups m) (groups m)

-- ---- what the calls leave

-- the bytes outside the queue are as before
pub record Kept (before after : List ℕ) (at m : ℕ) : Type 0 where
  pub same_n : length after ≡ length before
  pub low : (t : ℕ) → t < at → get_or after t 0 ≡ get_or before t 0
  pub high : (t : ℕ) → at + room m ≤ t → get_or after t 0 ≡ get_or before t 0

-- a queue that holds nothing
pub record Emptied (before after : List ℕ) (at m : ℕ) : Type 0 where
  pub queue : Queue after at m
  pub none : (i : ℕ) → i < m → holds after at i ≡ false
  pub kept : Kept before after at m

-- number i is in the queue or not, as `is` says, and every other number as before
pub record Changed (is : Bool) (before after : List ℕ) (at m i : ℕ) : Type 0 where
  pub queue : Queue after at m
  pub here : holds after at i ≡ is
  pub others : (k : ℕ) → k < m → (k ≡ i → ⊥) → holds after at k ≡ holds before at k
  pub kept : Kept before after at m

-- ---- the smallest

-- the smallest of k numbers from one on that passes a test
unfoldable pub first_in : (ℕ → Bool) → (number k : ℕ) → Option ℕ
first_in test number zero = None
first_in test number (suc k) = pick (test number) (Some number) (first_in test (suc number) k)

-- what that says of a number s: it is among them, it passes, and none before it does
pub record Found (test : ℕ → Bool) (number k s : ℕ) : Type 0 where
  pub least : number ≤ s
  pub below : s < number + k
  pub holds : test s ≡ true
  pub before : (t : ℕ) → number ≤ t → t < s → test t ≡ false
