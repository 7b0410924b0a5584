-- `gridder_images::calls::write_call_gate` meets its contract. The length of the answer block past the writer's tests. Assumes nothing.
use Rattle.gridder_answer.specs.GateLaws.{block_after}
use Rattle.gridder_images.specs.Calls.{write_call_gate}
use Rattle.gridder_images.proofs.calls.write_call_gate.Goals as goal

pub returns : goal.returns
unfolding write_call_gate
returns c = block_after _ _ _ _ _ c.block_gate.ensures c.write_gate.ensures
