-- What the passes over the slots promise each other: how far the greedy order is. Assumes nothing.
use Rattle.std.specs.Prelude.{false, List, ◌≡◌, ℕ, ◌-◌, ◌<◌, length}
use Rattle.funnel.specs.declared.table.FunnelTable.{FunnelTable}
use Rattle.audit.specs.Greedy.{ready, Taken, greedy_of}

-- on the way to the whole: what is left of it from these marks, this order and this number on is all that is left; no slot below i is
-- ready
pub record Going (whole : Taken) (table : FunnelTable) (counts words flags marks order : List ℕ) (placed i : ℕ) : Type 0 where
  pub left : whole ≡ greedy_of table counts words flags table.n (table.n - placed) marks order placed
  pub quiet : (t : ℕ) → t < i → ready table counts words flags marks placed t ≡ false
  pub marks_n : length marks ≡ table.n
  pub order_n : length order ≡ table.n
