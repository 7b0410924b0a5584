-- The exported calls on images: what each answers and leaves. Assumes nothing.
use Rattle.std.specs.Prelude.{Ok, Err, List, [], ℕ, length}
use Rattle.refusal.specs.Table.{number_of, name_of}
use Rattle.refusal.specs.declared.Name.TheVariants as name
use Rattle.words.specs.Pick.{pick}
use Rattle.geometry.specs.Config.{Gated}
use Rattle.funnel.specs.declared.table.FunnelTable.{FunnelTable}
use Rattle.image_calls.specs.Calls.{write_gate, loaded_of, loaded_report, written_report}
use Rattle.image_calls.specs.Loading.{LoadAnswer, Loads, load_of}
use Rattle.image_writer.specs.Writing.{Writes, head_of, write_of}
use Rattle.lent.specs.Lent.{words_of, word_count}
use Rattle.gridder_answer.specs.Gate.{block_gate}
use Rattle.gridder_answer.specs.Answer.{answer_length, says, saying}
use Rattle.gridder_calls.specs.Calls.{state_gate, Left, left}
use Rattle.gridder_state.specs.State.{holds_funnel, table_in, counts_in, with_count_in}
use Rattle.gridder_images.specs.Say.{filled_fields, written_fields}

-- ---- loading

-- "sets the count from 6"; a refusal leaves the state as on entry
unfoldable pub filled_in : List ℕ → LoadAnswer → List ℕ
filled_in state (Err r) = state
filled_in state (Ok f) = with_count_in state f.count

unfoldable pub load_left : (answer state words flags : List ℕ) → Gated → FunnelTable → Loads → Left
load_left answer state words flags (Err g) table l = left (number_of (name_of g)) (saying answer []) state words flags
load_left answer state words flags (Ok _) table l =
    left (loaded_report (loaded_of table l.answer)).number (says (filled_fields l.answer)) (filled_in state l.answer) l.words l.flags

-- words are given and left as the words that the bytes are; "one that holds no state, is STATE ..; then .. the answer block stays as it was"
unfoldable pub load_call : (state words flags image answer : List ℕ) → Left
load_call state words flags image answer =
    pick (holds_funnel state)
    (load_left answer state (words_of words) flags (state_gate state words flags answer) (table_in state)
    (load_of (head_of (table_in state)) (words_of words) flags image))
    (left (number_of name.State) answer state (words_of words) flags)

-- ---- writing

-- what a writing leaves: the number of its refusal, the answer block and the image
pub record Sent : Type 0 where
  pub number : ℕ
  pub answer : List ℕ
  pub image : List ℕ

abbrev pub sent : ℕ → (answer image : List ℕ) → Sent
sent number answer image = record { number = number; answer = answer; image = image }

-- the writer's tests 1 to 7, by the number of words and the lengths of flags, label and answer block
unfoldable pub write_call_gate : FunnelTable → List ℕ → (words flags label answer : ℕ) → Gated
write_call_gate table counts words flags label answer =
    block_gate (write_gate table counts words flags label) answer answer_length

-- the same for a table in a state block, with words lent as bytes
abbrev pub write_state_gate : (state words flags label answer : List ℕ) → Gated
write_state_gate state words flags label answer = write_call_gate (table_in state) (counts_in state) (word_count (length words)) (length flags) (length label) (length answer)

unfoldable pub write_left : (answer image : List ℕ) → Gated → Writes → Sent
write_left answer image (Err g) w = sent (number_of (name_of g)) (saying answer []) image
write_left answer image (Ok _) w = sent (written_report w.answer).number (says (written_fields w.answer)) w.out

unfoldable pub write_call : (state words flags label image answer : List ℕ) → Sent
write_call state words flags label image answer =
    pick (holds_funnel state)
    (write_left answer image (write_state_gate state words flags label answer)
    (write_of (head_of (table_in state)) label (words_of words) flags image))
    (sent (number_of name.State) answer image)
