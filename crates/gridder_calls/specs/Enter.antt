-- What a call on a block that holds a funnel table begins with. Assumes nothing.
use Rattle.std.specs.Prelude.{true, false, Result, Ok, Err, List, [], ◌≡◌, ℕ}
use Rattle.refusal.specs.Table.{number_of, name_of}
use Rattle.refusal.specs.declared.Name.TheVariants as name
use Rattle.funnel.specs.declared.table.FunnelTable.{FunnelTable}
use Rattle.gridder_answer.specs.Answer.{saying, Reply, reply}
use Rattle.gridder_calls.specs.Calls.{call_gate}
use Rattle.gridder_calls.specs.declared.enter.EnterRefusal.{EnterRefusal}
use Rattle.gridder_calls.specs.declared.enter.EnterRefusal.TheVariants as entered
use Rattle.gridder_state.specs.State.{holds_funnel, table_in, counts_in}
use Rattle.lent.specs.Lent.{word_count}

-- a table and the counts of its levels as a block has them, whose tests passed for buffers of so many bytes
pub record Entry (state : List ℕ) (words flags answer : ℕ) (table : FunnelTable) (counts : List ℕ) : Type 0 where
  pub held : holds_funnel state ≡ true
  pub passed : call_gate (table_in state) (counts_in state) (word_count words) flags answer ≡ Ok tt
  pub table_is : table ≡ table_in state
  pub counts_are : counts ≡ counts_in state

-- the block holds no table, or the tests refuse, or the table is entered
unfoldable pub Enters : List ℕ → (words flags answer : ℕ) → Result FunnelTable EnterRefusal → List ℕ → Type 0
Enters state words flags answer (Err entered.Unheld) counts = holds_funnel state ≡ false
Enters state words flags answer (Err (entered.Refused g)) counts =
    (holds_funnel state ≡ true) × (call_gate (table_in state) (counts_in state) (word_count words) flags answer ≡ Err g)
Enters state words flags answer (Ok table) counts = Entry state words flags answer table counts

-- what a call is answered that ends so: "one that holds no state, is STATE ..; then .. the answer block stays as it was"
abbrev pub refusal_reply : (answer : List ℕ) → EnterRefusal → Reply
refusal_reply answer entered.Unheld = reply (number_of name.State) answer
refusal_reply answer (entered.Refused g) = reply (number_of (name_of g)) (saying answer [])
