-- The exported question for the smallest funnel table: what it answers and leaves. Assumes nothing.
use Rattle.std.specs.Prelude.{Result, Ok, Err, List, [], ◌∷◌, ◌≡◌, ℕ, length, replicate}
use Rattle.std.proofs.lemmas.List.Edits.{sets}
use Rattle.refusal.specs.Table.{number_of, name_of}
use Rattle.geometry.specs.Config.{Gated}
use Rattle.geometry.specs.declared.funnel.FunnelPlan.{FunnelPlan}
use Rattle.geometry_smallest.specs.declared.smallest.Smallest.{Smallest}
use Rattle.geometry_smallest.specs.declared.smallest.SmallestRefusal.{SmallestRefusal}
use Rattle.geometry_smallest.specs.declared.smallest.SmallestRefusal.TheVariants as smallest
use Rattle.geometry_smallest.specs.Smallest.{smallest_gate, smallest_report, Answer}
use Rattle.gridder_answer.specs.Answer.{answer_length, says, saying}
use Rattle.gridder_answer.specs.Gate.{block_gate}
use Rattle.gridder_state.specs.State.{plan_words}
use Rattle.lent.specs.Lent.{lent}

-- the tests of the question by number, the length of the answer block last
unfoldable pub rent_gate : (e first last answer : ℕ) → Gated
rent_gate e first last answer = block_gate (smallest_gate e first last) answer answer_length

-- "the smallest n in that range .. with its plan": n and the plan's numbers, and "zeros where there are none"
unfoldable pub rent_block : ℕ → FunnelPlan → List ℕ
rent_block n plan = sets (replicate answer_length 0) 0 (lent (n ∷ plan_words plan))

unfoldable pub rent_says : Result Smallest SmallestRefusal → List ℕ
rent_says (Ok s) = rent_block s.n s.plan
rent_says (Err (smallest.Refused g)) = says []
rent_says (Err smallest.Nothing) = says []

-- past the gate: the number and the block of what the base answers, whose counts of buckets are kept from the caller
unfoldable pub Rented : (count e first last number : ℕ) (answer : List ℕ) → Type 0
Rented count e first last number answer =
    (found : Result Smallest SmallestRefusal) × (counts : List ℕ) × Answer count e first last (replicate 118 0) found counts
    × (number ≡ (smallest_report found).number) × (answer ≡ rent_says found)

-- the question by its gate: a refusal says nothing but its number
unfoldable pub RentsBy : Gated → (count e first last : ℕ) (answer : List ℕ) (number : ℕ) (answer' : List ℕ) → Type 0
RentsBy (Err g) count e first last answer number answer' = (number ≡ number_of (name_of g)) × (answer' ≡ saying answer [])
RentsBy (Ok _) count e first last answer number answer' = Rented count e first last number answer'

abbrev pub Rents : (count e first last : ℕ) (answer : List ℕ) (number : ℕ) (answer' : List ℕ) → Type 0
Rents count e first last answer number answer' = RentsBy (rent_gate e first last (length answer)) count e first last answer number answer'
