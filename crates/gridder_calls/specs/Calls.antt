-- The exported calls on funnel tables: what each answers and leaves. Assumes nothing.
use Rattle.std.specs.Prelude.{Ok, Err, List, [], ℕ, length}
use Rattle.refusal.specs.Table.{number_of, name_of}
use Rattle.refusal.specs.declared.Name.TheVariants as name
use Rattle.words.specs.Pick.{pick}
use Rattle.geometry.specs.Config.{Gated}
use Rattle.funnel.specs.Calls.{table_gate, search_report, insertion_report}
use Rattle.funnel.specs.Insert.{Insertion, Done, insert_of}
use Rattle.funnel.specs.Search.{find_of}
use Rattle.funnel.specs.declared.table.FunnelTable.{FunnelTable}
use Rattle.funnel.specs.declared.table.Search.{Search}
use Rattle.gridder_answer.specs.Gate.{block_gate}
use Rattle.gridder_answer.specs.Answer.{answer_length, says, saying, search_fields, insertion_fields, Reply, reply}
use Rattle.lent.specs.Lent.{words_of, word_count}
use Rattle.gridder_state.specs.State.{holds_funnel, table_in, counts_in, with_count_in}

-- ---- the gate: "a block of another length .. is STATE, tested with the other buffers"

-- the tests 1 to 7 of a table, by the number of words and the lengths of flags and answer block
unfoldable pub call_gate : FunnelTable → List ℕ → (words flags answer : ℕ) → Gated
call_gate table counts words flags answer = block_gate (table_gate table counts words flags) answer answer_length

-- the same for a table in a state block, with words lent as bytes
abbrev pub state_gate : (state words flags answer : List ℕ) → Gated
state_gate state words flags answer = call_gate (table_in state) (counts_in state) (word_count (length words)) (length flags) (length answer)

-- ---- search

unfoldable pub search_reply : List ℕ → Gated → Search → Reply
search_reply answer (Err g) found = reply (number_of (name_of g)) (saying answer [])
search_reply answer (Ok _) found = reply (search_report found).number (says (search_fields found))

-- "one that holds no state, is STATE ..; then .. the answer block stays as it was"
unfoldable pub search_call : (state words flags : List ℕ) (identity : ℕ) (answer : List ℕ) → Reply
search_call state words flags identity answer =
    pick (holds_funnel state)
    (search_reply answer (state_gate state words flags answer) (find_of (table_in state) (counts_in state) (words_of words) flags identity))
    (reply (number_of name.State) answer)

-- ---- insertion

-- what an insertion leaves: the number of its refusal, the blocks, the words and the flags
pub record Left : Type 0 where
  pub number : ℕ
  pub answer : List ℕ
  pub state : List ℕ
  pub words : List ℕ
  pub flags : List ℕ

abbrev pub left : ℕ → (answer state words flags : List ℕ) → Left
left number answer state words flags = record { number = number; answer = answer; state = state; words = words; flags = flags }

-- an insertion steps the count; "every refusal leaves state and buffers as on entry"
unfoldable pub counted_in : List ℕ → Insertion → ℕ → List ℕ
counted_in state (Ok _) count = with_count_in state count
counted_in state (Err _) count = state

unfoldable pub insert_left : (answer state words flags : List ℕ) → Gated → Done → Left
insert_left answer state words flags (Err g) d = left (number_of (name_of g)) (saying answer []) state words flags
insert_left answer state words flags (Ok _) d =
    left (insertion_report d.answer).number (says (insertion_fields d.answer)) (counted_in state d.answer d.table.count) d.words d.flags

-- words are given and left as the words that the bytes are
unfoldable pub insert_call : (state words flags : List ℕ) (identity : ℕ) (answer : List ℕ) → Left
insert_call state words flags identity answer =
    pick (holds_funnel state)
    (insert_left answer state (words_of words) flags (state_gate state words flags answer) (insert_of (table_in state) (counts_in state) (words_of words) flags identity))
    (left (number_of name.State) answer state (words_of words) flags)
