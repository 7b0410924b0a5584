-- `probe::word::keyed_word` meets its contract. Assumes nothing.
use Rattle.probe.specs.WordLaws.{word_steps}
use Rattle.std.proofs.Common.{rules}
use Rattle.probe.proofs.word.keyed_word.Goals as goal

pub returns : goal.returns
returns c = word_steps _ _ _ _ (search rules) (search rules) (search rules) (search rules) c.mix64.ensures
