-- Laws of the exported question for the smallest funnel table. Assumes nothing.
use Rattle.std.specs.Prelude.{Result, Ok, Err, List, [], ◌∷◌, ◌≡◌, ℕ, length, replicate}
use Rattle.std.proofs.Math.Path.{ap, sym}
use Rattle.std.proofs.Common.{◌∙◌}
use Rattle.std.proofs.lemmas.List.Edits.{sets}
use Rattle.refusal.specs.Table.{number_of, name_of}
use Rattle.refusal.specs.declared.Gate.{Gate}
use Rattle.refusal.specs.declared.Name.TheVariants as name
use Rattle.geometry.specs.Config.{Gated}
use Rattle.geometry.specs.declared.funnel.FunnelPlan.{FunnelPlan}
use Rattle.geometry_smallest.specs.declared.smallest.Smallest.{Smallest}
use Rattle.geometry_smallest.specs.declared.smallest.SmallestRefusal.{SmallestRefusal}
use Rattle.geometry_smallest.specs.declared.smallest.SmallestRefusal.TheVariants as smallest
use Rattle.geometry_smallest.specs.Smallest.{smallest_report, Answer}
use Rattle.geometry_smallest.specs.SmallestLaws.{answer_unique}
use Rattle.gridder_answer.specs.Answer.{answer_length, saying, Reply, reply}
use Rattle.gridder_answer.specs.AnswerLaws.{says_none, gate_says}
use Rattle.gridder_answer.specs.GateLaws.{block_facts}
use Rattle.gridder_rent.specs.Rent.{rent_gate, rent_block, rent_says, Rented, RentsBy, Rents}
use Rattle.gridder_state.specs.State.{plan_words}
use Rattle.lent.specs.Lent.{lent}

-- where the gate passes, the answer block has its length
pub rent_long : (e first last answer : ℕ) (g : Gated) → g ≡ rent_gate e first last answer → g ≡ Ok tt → answer ≡ answer_length
unfolding rent_gate
rent_long e first last answer g is p = (block_facts _ _ _ (sym is ∙ p)).1

-- ---- the question by its gate

module _ (count e first last : ℕ) (answer : List ℕ) (g : Gated) (is : g ≡ rent_gate e first last (length answer)) (number : ℕ) (answer' : List ℕ) where
  pub rents_refused : (x : Gate) → g ≡ Err x → reply number answer' ≡ reply (number_of (name_of x)) (saying answer []) → Rents count e first last answer number answer'
  unfolding RentsBy
  rents_refused x p h = rw (sym is ∙ p) (ap (λ (r : Reply). r.number) h, ap (λ (r : Reply). r.answer) h)

  pub rents_passed : g ≡ Ok tt → Rented count e first last number answer' → Rents count e first last answer number answer'
  unfolding RentsBy
  rents_passed p h = rw (sym is ∙ p) h

-- ---- past the gate, by what the base answers

module _ (count e first last : ℕ) (answer counts : List ℕ) (found : Result Smallest SmallestRefusal) (base : Answer count e first last (replicate 118 0) found counts) where
  rented : (number : ℕ) (answer' : List ℕ) → number ≡ (smallest_report found).number → answer' ≡ rent_says found → Rented count e first last number answer'
  unfolding Rented
  rented number answer' p q = (found, counts, base, p, q)

  module _ (answer' : List ℕ) where
    pub rented_found : (s : Smallest) → found ≡ Ok s → answer' ≡ rent_block s.n s.plan → Rented count e first last 0 answer'
    unfolding rent_says
    rented_found s p q = rented 0 answer' (sym (rw p)) (q ∙ sym (rw p))

    module _ (number : ℕ) (long : length answer ≡ answer_length) where
      pub rented_refused : (g : Gate) → found ≡ Err (smallest.Refused g) → reply number answer' ≡ reply (number_of (name_of g)) (saying answer []) → Rented count e first last number answer'
      unfolding rent_says
      rented_refused g p h =
          let k = gate_says number (number_of (name_of g)) answer answer' long h in
          rented number answer' (ap (λ (r : Reply). r.number) k ∙ sym (rw p)) (ap (λ (r : Reply). r.answer) k ∙ sym (rw p))

      pub rented_none : found ≡ Err smallest.Nothing → number ≡ number_of name.None → answer' ≡ replicate (length answer) 0 → Rented count e first last number answer'
      unfolding rent_says
      rented_none p q h = rented number answer' (q ∙ sym (rw p)) (h ∙ says_none _ long ∙ sym (rw p))

-- a block that was zeroed, and then written
pub block_written : (n : ℕ) (plan : FunnelPlan) (length : ℕ) (zeros answer' : List ℕ) → length ≡ answer_length → zeros ≡ replicate length 0
    → answer' ≡ sets zeros 0 (lent (n ∷ plan_words plan)) → answer' ≡ rent_block n plan
unfolding rent_block
block_written n plan length zeros answer' long cleared h = h ∙ rw (cleared, long)

-- ---- the question has one outcome

pub rents_unique : (count e first last : ℕ) (answer : List ℕ) (x y : ℕ) (a b : List ℕ)
    → Rents count e first last answer x a → Rents count e first last answer y b → (x ≡ y) × (a ≡ b)
unfolding RentsBy Rented
rents_unique count e first last answer x y a b p q = go (rent_gate e first last (length answer)) p q
  where
    go : (g : Gated) → RentsBy g count e first last answer x a → RentsBy g count e first last answer y b → (x ≡ y) × (a ≡ b)
    go (Err g) p q = (p.0 ∙ sym q.0, p.1 ∙ sym q.1)
    go (Ok _) p q =
        let u = (answer_unique count e first last (replicate 118 0) p.0 q.0 p.1 q.1 p.2 q.2).0 in
        (p.3 ∙ ap (λ f. (smallest_report f).number) u ∙ sym q.3, p.4 ∙ ap rent_says u ∙ sym q.4)
