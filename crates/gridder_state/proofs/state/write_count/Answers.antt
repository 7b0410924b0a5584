-- `gridder_state::state::write_count` meets its contract. One word is stored. Assumes nothing.
use Rattle.gridder_state.specs.State.{with_count_in}
use Rattle.gridder_state.proofs.state.write_count.Goals as goal

pub returns : goal.returns
unfolding with_count_in
returns c = cc
