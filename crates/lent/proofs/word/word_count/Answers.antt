-- `lent::word::word_count` meets its contract. By its test. Assumes nothing.
use Rattle.lent.specs.LentLaws.{count_whole, count_broken}
use Rattle.lent.proofs.word.word_count.Goals as goal

pub returns-then-len-eq0 : goal.returns-then-len-eq0
returns-then-len-eq0 c = count_whole _ c.if-len-eq0.true

pub returns : goal.returns
returns c = count_broken _ c.if-len-eq0.false
