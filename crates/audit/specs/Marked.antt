-- The marks of the slots that were taken. Assumes nothing.
use Rattle.std.specs.Prelude.{List, ◌≡◌, ℕ, zero, suc, ◌≤◌, ◌<◌, length, get_or, set, replicate}
use Rattle.audit.specs.Greedy.{Taken}

-- n marks, set at the first k slots of an order
unfoldable pub marks_of : (n : ℕ) (order : List ℕ) (k : ℕ) → List ℕ
marks_of n order zero = replicate n 0
marks_of n order (suc k) = set (marks_of n order k) (get_or order k 0) 1

-- the marks are those of the slots taken, which are among the n
pub record Listed (n : ℕ) (t : Taken) : Type 0 where
  pub marks_are : t.marks ≡ marks_of n t.order t.placed
  pub slots : (k : ℕ) → k < t.placed → get_or t.order k 0 < n
  pub few : t.placed ≤ length t.order
