use mathlib.Core.Path.{refl, ◌∙◌}
use native.Mathlib.Omega.{arith}
use Rattle.lent.specs.Lent.{lent}
use Rattle.lent.specs.LentLaws.{storing_more}
use Rattle.gridder_state.proofs.state.write_words.Goals as goal

pub loop-i-init : goal.loop-i-init
unfolding lent
loop-i-init c = (omega arith, refl, refl)

pub loop-i-preserved : goal.loop-i-preserved
loop-i-preserved c = (omega arith, c.write64.auto.out ∙ c.loop-i.invariant.1, storing_more _ _ _ _ _ _ c.loop-i-test.true c.loop-i.invariant.2 c.write64.ensures)
