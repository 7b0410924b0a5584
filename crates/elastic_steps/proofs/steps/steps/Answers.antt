-- `elastic_steps::steps::steps` meets its contract. Assumes nothing.
use Rattle.elastic_steps.specs.InsertLaws.{steps_first, steps_later}
use Rattle.elastic_steps.proofs.steps.steps.Goals as goal

pub returns-then-batch-eq0 : goal.returns-then-batch-eq0
returns-then-batch-eq0 c = steps_first _ _ _ _ _ _ c.if-batch-eq0.true c.uniform.ensures

pub returns : goal.returns
returns c = steps_later _ _ _ _ _ _ c.if-batch-eq0.false c.pair.ensures
