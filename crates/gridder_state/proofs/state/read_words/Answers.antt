-- `gridder_state::state::read_words` meets its contract. Assumes nothing.
use mathlib.Core.Path.{refl}
use native.Mathlib.Omega.{arith}
use lib.ListN.{length-set}
use Rattle.lent.specs.Lent.{words_from}
use Rattle.lent.specs.LentLaws.{filled_more, filled_all}
use Rattle.gridder_state.proofs.state.read_words.Goals as goal

pub loop-i-init : goal.loop-i-init
unfolding words_from
loop-i-init c = (refl, refl)

pub loop-i-preserved : goal.loop-i-preserved
loop-i-preserved c = (simp length-set c.loop-i.invariant.0, filled_more _ _ _ _ _ (omega arith) c.read64.ensures c.loop-i.invariant.1)

pub returns : goal.returns
returns c = filled_all _ _ _ _ _ (omega arith) (omega arith) (omega arith) c.loop-i.invariant.1
