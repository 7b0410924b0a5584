-- The exported placement of many identities: its gate, and what it answers and leaves. Assumes nothing.
use Rattle.std.specs.Prelude.{Ok, Err, Bool, not, false, List, [], ℕ, ◌/◌, ◌%◌, eqb, leb, length}
use Rattle.refusal.specs.Table.{number_of, name_of}
use Rattle.refusal.specs.declared.Gate.TheVariants as gate
use Rattle.refusal.specs.declared.Name.TheVariants as name
use Rattle.words.specs.Pick.{pick}
use Rattle.geometry.specs.Config.{Gated, refuse_if}
use Rattle.funnel.specs.Calls.{gate_then, placement_report}
use Rattle.funnel.specs.Insert.{Placed, place_all_of}
use Rattle.funnel.specs.declared.table.FunnelTable.{FunnelTable}
use Rattle.gridder_answer.specs.Answer.{says, saying, placement_fields}
use Rattle.gridder_calls.specs.Calls.{call_gate}
use Rattle.lent.specs.Lent.{words_of, word_count}
use Rattle.gridder_state.specs.State.{holds_funnel, table_in, counts_in, with_count_in}

-- whether identities and slots are whole words, with a slot for each identity, by their lengths
unfoldable pub room_for : (identities slots : ℕ) → Bool
room_for identities slots = pick (eqb (identities % 8) 0) (pick (eqb (slots % 8) 0) (leb identities slots) false) false

-- the tests of a placement: the slots' buffer must have room for each identity
unfoldable pub place_call_gate : FunnelTable → List ℕ → (words flags identities slots answer : ℕ) → Gated
place_call_gate table counts words flags identities slots answer =
    gate_then (call_gate table counts words flags answer) (refuse_if (not (room_for identities slots)) gate.State (Ok tt))

-- what a placement leaves
pub record AllLeft : Type 0 where
  pub number : ℕ
  pub answer : List ℕ
  pub state : List ℕ
  pub words : List ℕ
  pub flags : List ℕ
  pub slots : List ℕ

abbrev pub all_left : ℕ → (answer state words flags slots : List ℕ) → AllLeft
all_left number answer state words flags slots =
    record { number = number; answer = answer; state = state; words = words; flags = flags; slots = slots }

-- the slots as far as it came, and the count in the block, also where an identity is refused
unfoldable pub place_left : (answer state words flags slots : List ℕ) → Gated → (total : ℕ) → Placed → AllLeft
place_left answer state words flags slots (Err g) total d = all_left (number_of (name_of g)) (saying answer []) state words flags slots
place_left answer state words flags slots (Ok _) total d =
    all_left (placement_report d.answer).number (says (placement_fields d.answer total)) (with_count_in state d.table.count) d.words d.flags
    d.slots

-- words, identities and slots are given and left as the words that the bytes are
unfoldable pub place_call : (state words flags identities slots answer : List ℕ) → AllLeft
place_call state words flags identities slots answer =
    pick (holds_funnel state)
    (place_left answer state (words_of words) flags (words_of slots)
    (place_call_gate (table_in state) (counts_in state) (word_count (length words)) (length flags) (length identities) (length slots) (length answer))
    (length identities / 8)
    (place_all_of (table_in state) (counts_in state) (words_of words) flags (words_of identities) (words_of slots)))
    (all_left (number_of name.State) answer state (words_of words) flags (words_of slots))
