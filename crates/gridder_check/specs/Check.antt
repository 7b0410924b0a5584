-- The exported check: its gate, and what it answers and leaves. Assumes nothing.
use Rattle.std.specs.Prelude.{Ok, Err, List, [], ◌∷◌, ℕ, length}
use Rattle.words.specs.Pick.{pick}
use Rattle.refusal.specs.Table.{number_of, name_of}
use Rattle.refusal.specs.declared.Name.TheVariants as name
use Rattle.geometry.specs.Config.{Gated}
use Rattle.funnel.specs.declared.table.FunnelTable.{FunnelTable}
use Rattle.audit_calls.specs.Check.{Checked, Ended, audit_of, check_gate, report_of}
use Rattle.audit_calls.specs.declared.check.CheckRefusal.TheVariants as checked
use Rattle.lent.specs.Lent.{words_of, word_count}
use Rattle.gridder_answer.specs.Gate.{block_gate}
use Rattle.gridder_answer.specs.Answer.{answer_length, Field, field, slot_at, placed_at, says, saying}
use Rattle.gridder_state.specs.State.{holds_funnel, table_in, counts_in}

-- the tests 1 to 7 of a check, by the numbers of words and of places in the order, and the lengths of flags, marks and answer block
unfoldable pub check_call_gate : FunnelTable → List ℕ → (words flags marks order answer : ℕ) → Gated
check_call_gate table counts words flags marks order answer =
    block_gate (check_gate table counts words flags marks order) answer answer_length

-- how many members were placed, and the slot of DISORDER or DIRTY
abbrev pub checked_fields : Checked → List Field
checked_fields (Ok placed) = field placed_at placed ∷ []
checked_fields (Err (checked.Disorder placed slot)) = field placed_at placed ∷ field slot_at slot ∷ []
checked_fields (Err (checked.Dirty slot)) = field slot_at slot ∷ []
checked_fields (Err (checked.Gate g)) = []

-- what a check leaves: the number of its refusal, the answer block, marks and order
pub record CheckLeft : Type 0 where
  pub number : ℕ
  pub answer : List ℕ
  pub marks : List ℕ
  pub order : List ℕ

abbrev pub check_left : ℕ → (answer marks order : List ℕ) → CheckLeft
check_left number answer marks order = record { number = number; answer = answer; marks = marks; order = order }

unfoldable pub check_by : (answer marks order : List ℕ) → Gated → Ended → CheckLeft
check_by answer marks order (Err g) d = check_left (number_of (name_of g)) (saying answer []) marks order
check_by answer marks order (Ok _) d = check_left (report_of d.answer).number (says (checked_fields d.answer)) d.marks d.order

-- words and order are given and left as the words that the bytes are
unfoldable pub check_call : (state words flags marks order answer : List ℕ) → CheckLeft
check_call state words flags marks order answer =
    pick (holds_funnel state)
    (check_by answer marks (words_of order)
    (check_call_gate (table_in state) (counts_in state) (word_count (length words)) (length flags) (length marks) (word_count (length order)) (length answer))
    (audit_of (table_in state) (counts_in state) (words_of words) flags marks (words_of order)))
    (check_left (number_of name.State) answer marks (words_of order))
