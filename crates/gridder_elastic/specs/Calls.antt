-- The exported calls on elastic tables: what each answers and leaves. Assumes nothing.
use Rattle.std.specs.Prelude.{List, [], ◌≡◌, ℕ, Ok, Err, length, replicate}
use Rattle.refusal.specs.Table.{number_of, name_of}
use Rattle.refusal.specs.declared.Name.TheVariants as name
use Rattle.words.specs.Pick.{pick}
use Rattle.geometry.specs.Config.{Gated}
use Rattle.elastic_steps.specs.Insert.{InsertAnswer, Done, insert_of, insert_report}
use Rattle.elastic_query.specs.Query.{QueryAnswer, query_of, query_report}
use Rattle.elastic.specs.State.{gate_of, open_gate, fresh_of}
use Rattle.elastic.specs.declared.state.Limits.{Limits}
use Rattle.elastic.specs.declared.state.State.{State}
use Rattle.lent.specs.Lent.{words_of, word_count}
use Rattle.gridder_answer.specs.Gate.{block_gate}
use Rattle.gridder_answer.specs.Answer.{answer_length, says, saying, Reply, reply}
use Rattle.gridder_calls.specs.Calls.{Left, left}
use Rattle.gridder_open.specs.Open.{open_saying}
use Rattle.gridder_state.specs.State.{state_length}
use Rattle.gridder_elastic_answer.specs.Say.{insert_fields, query_fields}
use Rattle.gridder_elastic_state.specs.State.{holds_elastic, state_in, counts_in, elastic_block, with_counts_in}

-- ---- the gate: "a block of another length .. is STATE, tested with the other buffers"

-- the base's tests of a state, by the number of words and the lengths of flags and answer block
unfoldable pub call_gate : State → List ℕ → (words flags answer : ℕ) → Gated
call_gate st counts words flags answer = block_gate (gate_of st counts words flags) answer answer_length

-- the same for a state in a block, with words lent as bytes
abbrev pub state_gate : (state words flags answer : List ℕ) → Gated
state_gate state words flags answer = call_gate (state_in state) (counts_in state) (word_count (length words)) (length flags) (length answer)

-- ---- query

unfoldable pub query_reply : List ℕ → Gated → QueryAnswer → Reply
query_reply answer (Err g) said = reply (number_of (name_of g)) (saying answer [])
query_reply answer (Ok _) said = reply (query_report said).number (says (query_fields said))

-- "one that holds no state, is STATE ..; then .. the answer block stays as it was"
unfoldable pub query_call : (state words flags : List ℕ) (identity : ℕ) (answer : List ℕ) → Reply
query_call state words flags identity answer =
    pick (holds_elastic state)
    (query_reply answer (state_gate state words flags answer) (query_of (state_in state) (counts_in state) (words_of words) flags identity))
    (reply (number_of name.State) answer)

-- ---- insertion

-- an insertion steps the count and a level's; "every refusal leaves state and buffers as on entry"
unfoldable pub counted_in : List ℕ → InsertAnswer → ℕ → List ℕ → List ℕ
counted_in state (Ok i) count counts = with_counts_in state count counts
counted_in state (Err r) count counts = state

unfoldable pub insert_left : (answer state words flags : List ℕ) → Gated → Done → Left
insert_left answer state words flags (Err g) d = left (number_of (name_of g)) (saying answer []) state words flags
insert_left answer state words flags (Ok _) d =
    left (insert_report d.answer).number (says (insert_fields d.answer)) (counted_in state d.answer d.st.count d.counts) d.words d.flags

-- words are given and left as the words that the bytes are
unfoldable pub insert_call : (state words flags : List ℕ) (identity : ℕ) (answer : List ℕ) → Left
insert_call state words flags identity answer =
    pick (holds_elastic state)
    (insert_left answer state (words_of words) flags (state_gate state words flags answer) (insert_of (state_in state) (counts_in state) (words_of words) flags identity))
    (left (number_of name.State) answer state (words_of words) flags)

-- ---- opening

-- the tests of an opening, by the number of words and the lengths of flags, state block and answer block
unfoldable pub open_blocks_gate : (n e : ℕ) → Limits → (words flags state answer : ℕ) → Gated
open_blocks_gate n e limits words flags state answer =
    block_gate (block_gate (open_gate n e limits words flags) state state_length) answer answer_length

-- "Opening zeroes both; that is a fresh table"; a refusal leaves state and buffers as on entry
unfoldable pub open_left : Gated → (n e seed : ℕ) → Limits → (state words flags answer : List ℕ) → Left
open_left (Err g) n e seed limits state words flags answer =
    left (number_of (name_of g)) (open_saying (number_of (name_of g)) (length state) answer) state (words_of words) flags
open_left (Ok _) n e seed limits state words flags answer =
    left 0 (says []) (elastic_block (fresh_of n e seed limits) (replicate 32 0)) (replicate n 0) (replicate n 0)

unfoldable pub open_call : (n e seed : ℕ) → Limits → (state words flags answer : List ℕ) → Left
open_call n e seed limits state words flags answer =
    open_left (open_blocks_gate n e limits (word_count (length words)) (length flags) (length state) (length answer)) n e seed limits state words flags answer

-- the limits, in the order of the call's arguments
abbrev pub limits_of : (c word_cap search_cap position_cap : ℕ) → Limits
limits_of c word_cap search_cap position_cap =
    record { probe_budget_c = c; range_word_cap = word_cap; uniform_search_probe_cap = search_cap; hit_query_position_cap = position_cap }

-- blocks and buffers of a fresh table, all of them written
pub record Fresh (st : State) (words flags answer : List ℕ) (number : ℕ) (state' words' flags' answer' : List ℕ) : Type 0 where
  pub number_is : number ≡ 0
  pub state_is : state' ≡ elastic_block st (replicate 32 0)
  pub words_are_lem : words' ≡ replicate (length words) 0
  pub flags_are_lem : flags' ≡ replicate (length flags) 0
  pub answer_is : answer' ≡ replicate (length answer) 0
