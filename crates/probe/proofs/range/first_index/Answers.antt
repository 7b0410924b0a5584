-- `probe::range::first_index` meets its contract. Assumes nothing.
use Rattle.std.proofs.Common.{arith}
use Rattle.probe.specs.RangeLaws.{first_index, first_none}
use Rattle.probe.proofs.range.first_index.Goals as goal

pub returns-then-multiply-upper : goal.returns-then-multiply-upper
returns-then-multiply-upper c = first_none _ _ _ _

pub returns : goal.returns
returns c = first_index _ _ _ _ _ _ _ c.requires c.keyed_word-word.ensures c.multiply.ensures (omega (arith, c.if-multiply-upper.false)) c.multiply_high.ensures
