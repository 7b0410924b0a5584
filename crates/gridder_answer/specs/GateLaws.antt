-- Laws of the test of a block's length. Assumes nothing.
use Rattle.std.specs.Prelude.{Ok, Err, Bool, true, false, not, ◌≡◌, refl, ℕ, eqb}
use Rattle.std.proofs.Common.{ap, ◌∙◌, arith}
use Rattle.std.proofs.Math.Path.{sym}
use borrow.Author.Tests.{eq-eqb, ne_eqb, eqb-true}
use Rattle.refusal.specs.declared.Gate.{Gate}
use Rattle.refusal.specs.declared.Gate.TheVariants as gate
use Rattle.geometry.specs.Config.{Gated, refuse_if}
use Rattle.gridder_answer.specs.Gate.{block_gate}

module _ (before : Gated) (given wanted : ℕ) where
  pub block_refused : (g : Gate) → before ≡ Err g → Err g ≡ block_gate before given wanted
  unfolding block_gate
  block_refused g h = sym (rw h)

  pub block_other : before ≡ Ok tt → (given ≡ wanted → ⊥) → Err gate.State ≡ block_gate before given wanted
  unfolding block_gate
  block_other h n = sym (rw (h, ne_eqb _ _ n))

  pub block_passed : before ≡ Ok tt → given ≡ wanted → Ok tt ≡ block_gate before given wanted
  unfolding block_gate
  block_passed h e = sym (rw (h, eq-eqb _ _ e))

-- what it says that the test passed
pub block_facts : (before : Gated) (given wanted : ℕ) → block_gate before given wanted ≡ Ok tt → (before ≡ Ok tt) × (given ≡ wanted)
unfolding block_gate
block_facts (Err g) given wanted h = let z : ◌≡◌ {A = ℕ} 0 1 = cc in absurd (omega arith)
block_facts (Ok _) given wanted h = (refl, eqb-true given wanted (yes (eqb given wanted) h))
  where
    yes : (t : Bool) → refuse_if (not t) gate.State (Ok tt) ≡ Ok tt → t ≡ true
    yes true h = refl
    yes false h = let z : ◌≡◌ {A = ℕ} 0 1 = cc in absurd (omega arith)

-- the test past tests that said the same
pub block_after : (before tests : Gated) (given wanted : ℕ) (r : Gated) → r ≡ block_gate before given wanted → before ≡ tests → r ≡ block_gate tests given wanted
block_after before tests given wanted r e h = e ∙ ap (λ b. block_gate b given wanted) h
