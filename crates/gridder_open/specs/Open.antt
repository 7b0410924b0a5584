-- The exported opening of a funnel table: what it answers and leaves. Assumes nothing.
use Rattle.std.specs.Prelude.{Ok, Err, List, [], ◌≡◌, ℕ, ◌*◌, eqb, length, replicate}
use Rattle.refusal.specs.Table.{number_of, name_of}
use Rattle.refusal.specs.declared.Name.TheVariants as name
use Rattle.words.specs.Pick.{pick}
use Rattle.geometry.specs.Funnel.{IsPlan}
use Rattle.geometry.specs.Config.{Gated}
use Rattle.geometry.specs.declared.funnel.FunnelPlan.{FunnelPlan}
use Rattle.funnel.specs.Calls.{open_gate}
use Rattle.funnel.specs.declared.table.FunnelTable.{FunnelTable}
use Rattle.gridder_answer.specs.Gate.{block_gate}
use Rattle.gridder_answer.specs.Answer.{answer_length, says, saying}
use Rattle.lent.specs.Lent.{word_count}
use Rattle.gridder_state.specs.State.{state_length, funnel_block}

-- the tests of an opening, by the number of words and the lengths of flags, state block and answer block
unfoldable pub open_blocks_gate : (n e cap words flags state answer : ℕ) → Gated
open_blocks_gate n e cap words flags state answer =
    block_gate (block_gate (open_gate n e cap words flags) state state_length) answer answer_length

-- what a refused opening leaves of the answer block: where a state block of another length is STATE, it stays as it was
unfoldable pub open_saying : (number state : ℕ) → List ℕ → List ℕ
open_saying number state answer =
    pick (eqb number (number_of name.State)) (pick (eqb state state_length) (saying answer []) answer) (saying answer [])

-- a fresh table
abbrev pub fresh : (n e seed cap : ℕ) → FunnelPlan → FunnelTable
fresh n e seed cap plan = record { n = n; e = e; seed = seed; word_cap = cap; count = 0; plan = plan }

-- an opening by its gate: "Opening zeroes both; that is a fresh table"; a refusal leaves state and buffers as on entry
unfoldable pub OpensBy : Gated → (n e seed cap : ℕ) (state words flags answer : List ℕ) (number : ℕ) (state' words' flags' answer' : List ℕ) → Type 0
OpensBy (Err g) n e seed cap state words flags answer number state' words' flags' answer' =
    (number ≡ number_of (name_of g)) × (state' ≡ state) × (words' ≡ words) × (flags' ≡ flags)
    × (answer' ≡ open_saying (number_of (name_of g)) (length state) answer)
OpensBy (Ok _) n e seed cap state words flags answer number state' words' flags' answer' =
    (plan : FunnelPlan) × (counts : List ℕ) × IsPlan n e plan counts × (number ≡ 0) × (state' ≡ funnel_block (fresh n e seed cap plan) counts)
    × (words' ≡ replicate (n * 8) 0) × (flags' ≡ replicate n 0) × (answer' ≡ says [])

abbrev pub OpensLent : (n e seed cap : ℕ) (state words flags answer : List ℕ) (number : ℕ) (state' words' flags' answer' : List ℕ) → Type 0
OpensLent n e seed cap state words flags answer number state' words' flags' answer' =
    OpensBy (open_blocks_gate n e cap (word_count (length words)) (length flags) (length state) (length answer))
    n e seed cap state words flags answer number state' words' flags' answer'
