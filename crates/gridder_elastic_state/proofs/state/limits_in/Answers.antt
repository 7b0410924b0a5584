-- `gridder_elastic_state::state::limits_in` meets its contract. Field by field. Assumes nothing.
use Rattle.gridder_elastic_state.specs.State.{limits_in}
use Rattle.gridder_elastic_state.proofs.state.limits_in.Goals as goal

pub returns : goal.returns
unfolding limits_in
returns c = cc
