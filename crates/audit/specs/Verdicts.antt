-- What the pass over the special slots knows of them at its start: a verdict on each. They are queued in the ordinary marks, which
-- no search reads once all verdicts are given. Assumes nothing.
use Rattle.std.specs.Prelude.{Bool, true, false, not, List, ◌≡◌, ℕ, ◌+◌, ◌*◌, ◌≤◌, ◌<◌, length, get_or, eqb}
use Rattle.waiting.specs.Links.{link, candidate, Fits}

-- marks that are 0 or 1, and 0 in the special part
pub record Early (start : ℕ) (marks : List ℕ) : Type 0 where
  pub small : (i : ℕ) → get_or marks i 0 ≤ 1
  pub none : (i : ℕ) → start ≤ i → get_or marks i 0 ≡ 0

-- 1 for true
abbrev pub bit : Bool → ℕ
bit true = 1
bit false = 0

-- whether a mark is set
abbrev pub set? : ℕ → Bool
set? mark = not (eqb mark 0)

-- the verdicts on the special slots below `to`, each in its own mark
pub record Judged (verdict : ℕ → Bool) (start to : ℕ) (before marks : List ℕ) : Type 0 where
  pub same_n : length marks ≡ length before
  pub ordinary : (i : ℕ) → i < start → get_or marks i 0 ≡ get_or before i 0
  pub given : (i : ℕ) → start ≤ i → i < to → get_or marks i 0 ≡ bit (verdict i)

-- those on the first `to` special slots moved to a queue that lies in the ordinary marks, and their own marks cleared
pub record Offered (start m to : ℕ) (before marks : List ℕ) : Type 0 where
  pub same_n : length marks ≡ length before
  pub fits : Fits marks m
  pub links : (i : ℕ) → i < 2 * m → link marks i ≡ 0
  pub moved : (x : ℕ) → x < to → x < m → candidate marks m x ≡ set? (get_or before (start + x) 0)
  pub kept : (x : ℕ) → to ≤ x → x < m → candidate marks m x ≡ false
  pub cleared : (i : ℕ) → start ≤ i → i < start + to → get_or marks i 0 ≡ 0
  pub left : (i : ℕ) → start + to ≤ i → get_or marks i 0 ≡ get_or before i 0
