-- `elastic::state::limits_fit` meets its contract. Assumes nothing.
use Rattle.std.proofs.Common.{arith}
use Rattle.std.proofs.lemmas.Grind.{common_steps}
use Rattle.elastic.specs.State.{limits_fit}
use Rattle.elastic.proofs.state.limits_fit.Goals as goal

pub returns-then-factor_fits : goal.returns-then-factor_fits
unfolding limits_fit
returns-then-factor_fits c = grind (arith, common_steps)

pub returns-else-factor_fits : goal.returns-else-factor_fits
unfolding limits_fit
returns-else-factor_fits c = grind (arith, common_steps)
