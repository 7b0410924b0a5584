use Rattle.probe.specs.RangeLaws.{keyed_told}
use Rattle.probe.proofs.range.elastic_draw.Goals as goal

pub returns : goal.returns
returns c = keyed_told _ _ _ _ _ _ _ _ c.elastic_base.ensures c.draw.ensures c.told.ensures
