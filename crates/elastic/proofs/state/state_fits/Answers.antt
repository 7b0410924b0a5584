-- `elastic::state::state_fits` meets its contract. Assumes nothing.
use Rattle.std.proofs.Common.{arith}
use Rattle.std.proofs.lemmas.Grind.{common_steps}
use Rattle.elastic.specs.State.{state_fits}
use Rattle.elastic.proofs.state.state_fits.Goals as goal

pub returns-then-is_elastic_plan : goal.returns-then-is_elastic_plan
unfolding state_fits
returns-then-is_elastic_plan c = grind (arith, common_steps)

pub returns-else-is_elastic_plan : goal.returns-else-is_elastic_plan
unfolding state_fits
returns-else-is_elastic_plan c = grind (arith, common_steps)
