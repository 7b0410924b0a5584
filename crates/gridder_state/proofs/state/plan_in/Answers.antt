-- `gridder_state::state::plan_in` meets its contract. Field by field. Assumes nothing.
use Rattle.gridder_state.specs.State.{plan_in}
use Rattle.gridder_state.proofs.state.plan_in.Goals as goal

pub returns : goal.returns
unfolding plan_in
returns c = cc
