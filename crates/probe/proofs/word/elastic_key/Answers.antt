-- `probe::word::elastic_key` meets its contract. Assumes nothing.
use Rattle.std.proofs.Common.{arith}
use Rattle.probe.specs.Word.{elastic_key_of}
use Rattle.probe.proofs.word.elastic_key.Goals as goal

pub returns : goal.returns
unfolding elastic_key_of
returns c = omega arith
