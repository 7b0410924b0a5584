-- Laws of the exported opening. Assumes nothing.
use Rattle.std.specs.Prelude.{Result, Ok, Err, List, [], ℕ, ◌*◌}
use Rattle.std.proofs.Math.Path.{◌≡◌, refl, ap, sym}
use Rattle.std.proofs.Common.{◌∙◌}
use native.Mathlib.Omega.{arith}
use Rattle.std.proofs.Math.ListN.{length, replicate}
use borrow.Author.Tests.{eq-eqb, ne_eqb}
use Rattle.refusal.specs.Table.{number_of, name_of}
use Rattle.refusal.specs.declared.Gate.{Gate}
use Rattle.refusal.specs.declared.Gate.TheVariants as gate
use Rattle.refusal.specs.declared.Name.TheVariants as name
use Rattle.geometry.specs.Funnel.{IsPlan}
use Rattle.geometry.specs.FunnelGate.{funnel_gate, Planned}
use Rattle.geometry.specs.FunnelLaws.{plan_unique}
use Rattle.geometry.specs.Config.{Gated}
use Rattle.geometry.specs.declared.funnel.FunnelPlan.{FunnelPlan}
use Rattle.funnel.specs.CallLaws.{open_facts}
use Rattle.gridder_answer.specs.GateLaws.{block_facts}
use Rattle.gridder_answer.specs.Answer.{answer_length, saying, Reply, reply}
use Rattle.gridder_answer.specs.AnswerLaws.{says_none}
use Rattle.gridder_open.specs.Open.{open_blocks_gate, open_saying, fresh, OpensBy, OpensLent}
use Rattle.lent.specs.Lent.{word_count}
use Rattle.lent.specs.LentLaws.{count_some}
use Rattle.gridder_state.specs.State.{state_length, funnel_block}

-- what it says that an opening's gate passed
pub record Room (n e words flags state answer : ℕ) : Type 0 where
  pub layout : funnel_gate n e ≡ Ok tt
  pub words_right : words ≡ n
  pub flags_right : flags ≡ n
  pub state_right : state ≡ state_length
  pub answer_right : answer ≡ answer_length

pub room : (n e cap words flags state answer : ℕ) → open_blocks_gate n e cap words flags state answer ≡ Ok tt → Room n e words flags state answer
unfolding open_blocks_gate
room n e cap words flags state answer h =
    let a = block_facts _ _ _ h in
    let b = block_facts _ _ _ a.0 in
    let f = open_facts n e cap words flags b.0 in
    record { layout = f.0; words_right = f.3; flags_right = f.4; state_right = b.1; answer_right = a.1 }

-- ---- what a refused opening says

module _ (refused state : ℕ) (answer : List ℕ) where
  pub open_other : (refused ≡ number_of name.State → ⊥) → saying answer [] ≡ open_saying refused state answer
  unfolding open_saying
  open_other n = sym (rw (ne_eqb _ _ n))

  module _ (e : refused ≡ number_of name.State) where
    pub open_stays : (state ≡ state_length → ⊥) → answer ≡ open_saying refused state answer
    unfolding open_saying
    open_stays n = sym (rw (eq-eqb _ _ e, ne_eqb _ _ n))

    pub open_says : state ≡ state_length → saying answer [] ≡ open_saying refused state answer
    unfolding open_saying
    open_says s = sym (rw (eq-eqb _ _ e, eq-eqb _ _ s))

-- by the refusal itself: STATE is the one with that number
module _ (g : Gate) (state : ℕ) (answer : List ℕ) where
  abbrev refusal : Reply
  refusal = reply (number_of (name_of g)) (open_saying (number_of (name_of g)) state answer)

  other_number : (g ≡ gate.State → ⊥) → number_of (name_of g) ≡ number_of name.State → ⊥
  unfolding number_of name_of
  other_number n e = go g n e
    where
      go : (g : Gate) → (g ≡ gate.State → ⊥) → number_of (name_of g) ≡ number_of name.State → ⊥
      go gate.N n e = omega arith
      go gate.ZeroExp n e = omega arith
      go gate.Size n e = omega arith
      go gate.Exponent n e = omega arith
      go gate.Layout n e = omega arith
      go gate.Limits n e = omega arith
      go gate.State n e = n refl

  pub refuse_other : (g ≡ gate.State → ⊥) → (r : ℕ) (a : List ℕ) → reply r a ≡ reply (number_of (name_of g)) (saying answer []) → reply r a ≡ refusal
  refuse_other n r a e = e ∙ ap (reply (number_of (name_of g))) (open_other (number_of (name_of g)) state answer (other_number n))

  module _ (h : g ≡ gate.State) where
    state_number : number_of (name_of g) ≡ number_of name.State
    unfolding name_of
    state_number = rw h

    pub refuse_stays : (state ≡ state_length → ⊥) → (r : ℕ) → r ≡ number_of name.State → reply r answer ≡ refusal
    refuse_stays n r e =
        ap (λ (m : ℕ). reply m answer) (e ∙ sym state_number) ∙ ap (reply (number_of (name_of g))) (open_stays (number_of (name_of g)) state answer state_number n)

    pub refuse_says : state ≡ state_length → (r : ℕ) (a : List ℕ) → reply r a ≡ reply (number_of (name_of g)) (saying answer []) → reply r a ≡ refusal
    refuse_says s r a e = e ∙ ap (reply (number_of (name_of g))) (open_says (number_of (name_of g)) state answer state_number s)

-- ---- the opening by its gate

module _ (n e seed cap : ℕ) (state words flags answer : List ℕ) (entries : ℕ) (w : entries ≡ word_count (length words)) (g : Gated)
    (is : g ≡ open_blocks_gate n e cap entries (length flags) (length state) (length answer)) where
  gate_of_lem : open_blocks_gate n e cap (word_count (length words)) (length flags) (length state) (length answer) ≡ g
  gate_of_lem = sym (is ∙ rw w)

  pub open_passes : g ≡ Ok tt → open_blocks_gate n e cap (word_count (length words)) (length flags) (length state) (length answer) ≡ Ok tt
  open_passes p = gate_of_lem ∙ p

  module _ (number : ℕ) (answer' : List ℕ) where
    pub opens_refused : (x : Gate) → g ≡ Err x → reply number answer' ≡ reply (number_of (name_of x)) (open_saying (number_of (name_of x)) (length state) answer)
        → OpensLent n e seed cap state words flags answer number state words flags answer'
    unfolding OpensBy
    opens_refused x p h = rw (gate_of_lem, p) (ap (λ (r : Reply). r.number) h, refl, refl, refl, ap (λ (r : Reply). r.answer) h)

    pub opens_passed : (state' words' flags' : List ℕ) → g ≡ Ok tt → OpensBy (Ok tt) n e seed cap state words flags answer number state' words' flags' answer'
        → OpensLent n e seed cap state words flags answer number state' words' flags' answer'
    opens_passed state' words' flags' p h = rw (gate_of_lem, p) h

-- ---- the opening itself

module _ (n e seed cap : ℕ) (state words flags answer : List ℕ)
    (passed : open_blocks_gate n e cap (word_count (length words)) (length flags) (length state) (length answer) ≡ Ok tt) where
  facts : Room n e (word_count (length words)) (length flags) (length state) (length answer)
  facts = room n e cap (word_count (length words)) (length flags) (length state) (length answer) passed

  module _ (p : Result FunnelPlan Gate) (before counts : List ℕ) (plans : Planned n e before p counts) where
    -- where the gate passes there is a plan
    pub opens_planned : (g : Gate) → p ≡ Err g → ⊥
    unfolding Planned
    opens_planned g f =
        let a = facts.layout in
        let b : funnel_gate n e ≡ Err g = (rw f at plans).0 in
        let z : ◌≡◌ {A = ℕ} 0 1 = cc in
        omega arith

    pub opens_open : (plan : FunnelPlan) (state' words' flags' answer' : List ℕ) → p ≡ Ok plan → state' ≡ funnel_block (fresh n e seed cap plan) counts
        → words' ≡ replicate (length words) 0 → flags' ≡ replicate (length flags) 0 → answer' ≡ replicate (length answer) 0
        → OpensBy (Ok tt) n e seed cap state words flags answer 0 state' words' flags' answer'
    unfolding OpensBy Planned
    opens_open plan state' words' flags' answer' f s w v a =
        let i : IsPlan n e plan counts = rw f at plans in
        let l = i.configured.least in
        let k : length words ≡ n * 8 = count_some (length words) n (omega arith) facts.words_right in
        (plan, counts, i, refl, s, w ∙ ap (λ (m : ℕ). replicate m 0) k, v ∙ ap (λ (m : ℕ). replicate m 0) facts.flags_right, a ∙ says_none _ facts.answer_right)

-- ---- an opening has one outcome

pub opens_unique : (n e seed cap : ℕ) (state words flags answer : List ℕ) (x y : ℕ) (s w f a s' w' f' a' : List ℕ)
    → OpensLent n e seed cap state words flags answer x s w f a → OpensLent n e seed cap state words flags answer y s' w' f' a'
    → (x ≡ y) × (s ≡ s') × (w ≡ w') × (f ≡ f') × (a ≡ a')
unfolding OpensBy
opens_unique n e seed cap state words flags answer x y s w f a s' w' f' a' p q =
    go (open_blocks_gate n e cap (word_count (length words)) (length flags) (length state) (length answer)) p q
  where
    go : (g : Gated) → OpensBy g n e seed cap state words flags answer x s w f a → OpensBy g n e seed cap state words flags answer y s' w' f' a'
        → (x ≡ y) × (s ≡ s') × (w ≡ w') × (f ≡ f') × (a ≡ a')
    go (Err g) p q = (p.0 ∙ sym q.0, p.1 ∙ sym q.1, p.2 ∙ sym q.2, p.3 ∙ sym q.3, p.4 ∙ sym q.4)
    go (Ok _) p q =
        let u = plan_unique p.2 q.2 in
        (p.3 ∙ sym q.3, p.4 ∙ rw (u.0, u.1) (sym q.4), p.5 ∙ sym q.5, p.6 ∙ sym q.6, p.7 ∙ sym q.7)
