-- What a call on a block that holds an elastic table begins with. Assumes nothing.
use Rattle.std.specs.Prelude.{true, false, Result, Ok, Err, List, ◌≡◌, ℕ}
use Rattle.elastic.specs.declared.state.State.{State}
use Rattle.lent.specs.Lent.{word_count}
use Rattle.gridder_calls.specs.declared.enter.EnterRefusal.{EnterRefusal}
use Rattle.gridder_calls.specs.declared.enter.EnterRefusal.TheVariants as entered
use Rattle.gridder_elastic.specs.Calls.{call_gate}
use Rattle.gridder_elastic_state.specs.State.{holds_elastic, state_in, counts_in}

-- a table and the counts of its levels as a block has them, whose tests passed for buffers of so many bytes
pub record Entry (state : List ℕ) (words flags answer : ℕ) (st : State) (counts : List ℕ) : Type 0 where
  pub held : holds_elastic state ≡ true
  pub passed : call_gate (state_in state) (counts_in state) (word_count words) flags answer ≡ Ok tt
  pub st_is : st ≡ state_in state
  pub counts_are : counts ≡ counts_in state

-- the block holds no state, or the tests refuse, or the table is entered
unfoldable pub Enters : List ℕ → (words flags answer : ℕ) → Result State EnterRefusal → List ℕ → Type 0
Enters state words flags answer (Err entered.Unheld) counts = holds_elastic state ≡ false
Enters state words flags answer (Err (entered.Refused g)) counts =
    (holds_elastic state ≡ true) × (call_gate (state_in state) (counts_in state) (word_count words) flags answer ≡ Err g)
Enters state words flags answer (Ok st) counts = Entry state words flags answer st counts
