-- The check of an image: what it answers, and what it leaves in marks and order. Assumes nothing.
use Rattle.std.specs.Prelude.{List, [], ◌∷◌, ◌≡◌, ℕ, length, replicate, Some, None, Result, Ok, Err}
use Rattle.refusal.specs.Table.{name_of, Report, answered, refused}
use Rattle.refusal.specs.declared.Name.TheVariants as name
use Rattle.geometry.specs.Config.{Gated}
use Rattle.funnel.specs.declared.table.FunnelTable.{FunnelTable}
use Rattle.funnel.specs.Dirty.{dirty_at}
use Rattle.funnel.specs.Calls.{gate_then, lengths_then, table_gate}
use Rattle.funnel.specs.Valid.{Valid}
use Rattle.audit_calls.specs.declared.check.CheckRefusal.{CheckRefusal}
use Rattle.audit_calls.specs.declared.check.CheckRefusal.TheVariants as checked
use Rattle.audit.specs.Greedy.{First, first_from, unplaced, Taken, greedy_of}

-- what the check answers: how many members are placed, where all are; or why the image is refused
abbrev pub Checked : Type 0
Checked = Result ℕ CheckRefusal

-- what a check leaves
pub record Ended : Type 0 where
  pub answer : Checked
  pub marks : List ℕ
  pub order : List ℕ

abbrev pub ended : Checked → (marks order : List ℕ) → Ended
ended answer marks order = record { answer = answer; marks = marks; order = order }

-- DISORDER: "check stuck: number placed, smallest occupied slot unplaced"
abbrev pub answer_of : First → (placed : ℕ) → Checked
answer_of None placed = Ok placed
answer_of (Some slot) placed = Err (checked.Disorder placed slot)

unfoldable pub end_of : (flags : List ℕ) (n : ℕ) → Taken → Ended
end_of flags n t = ended (answer_of (first_from (unplaced flags t.marks) 0 n) t.placed) t.marks t.order

-- "From empty marks it takes, again and again, the smallest .."
unfoldable pub take_all : FunnelTable → (counts words flags order : List ℕ) → Ended
take_all table counts words flags order =
    end_of flags table.n (greedy_of table counts words flags table.n table.n (replicate table.n 0) order 0)

-- DIRTY: "smallest such slot"; it leaves marks and order as they are
abbrev pub unless_dirty : First → (marks order : List ℕ) → Ended → Ended
unless_dirty (Some slot) marks order next = ended (Err (checked.Dirty slot)) marks order
unless_dirty None marks order next = next

-- "STATE, then DIRTY, come first": the check past STATE
unfoldable pub audit_of : FunnelTable → (counts words flags marks order : List ℕ) → Ended
audit_of table counts words flags marks order =
    unless_dirty (first_from (dirty_at words flags) 0 table.n) marks order (take_all table counts words flags order)

-- ---- the public call

-- 1 to 7 of a table; STATE (7): "a lent buffer isn't n long", marks and order among them
unfoldable pub check_gate : FunnelTable → List ℕ → (words flags marks order : ℕ) → Gated
check_gate table counts words flags marks order = gate_then (table_gate table counts words flags) (lengths_then table.n marks order (Ok tt))

-- a refusal leaves marks and order as on entry
abbrev pub check_by : Gated → (marks order : List ℕ) → Ended → Ended
check_by (Err g) marks order next = ended (Err (checked.Gate g)) marks order
check_by (Ok _) marks order next = next

unfoldable pub check_of : FunnelTable → (counts words flags marks order : List ℕ) → Ended
check_of table counts words flags marks order =
    check_by (check_gate table counts (length words) (length flags) (length marks) (length order)) marks order (audit_of table counts words flags marks order)

-- a call past STATE: the state is valid, and marks and order are n long
pub record Lent (table : FunnelTable) (counts words flags marks order : List ℕ) : Type 0 where
  pub valid : Valid table counts words flags
  pub marks_n : length marks ≡ table.n
  pub order_n : length order ≡ table.n

-- what the check reports: this paper's number, 0 where there is none, and the values
abbrev pub report_of : Checked → Report
report_of (Ok placed) = answered (placed ∷ [])
report_of (Err (checked.Disorder placed slot)) = refused name.Disorder (placed ∷ slot ∷ [])
report_of (Err (checked.Dirty slot)) = refused name.Dirty (slot ∷ [])
report_of (Err (checked.Gate g)) = refused (name_of g) []
