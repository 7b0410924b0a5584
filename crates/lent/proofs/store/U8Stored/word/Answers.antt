-- The bytes of a slot that is a word's.
use Rattle.std.proofs.Common.{◌∙◌}
use Rattle.lent.specs.StoreLaws.{whole_fits, whole_word}
use Rattle.lent.proofs.store.U8Stored.word.Goals as goal

pub word_at-requires : goal.word_at-requires
word_at-requires c = whole_fits _ _ c.requires

pub returns : goal.returns
returns c = c.word_at.ensures ∙ whole_word _ _ c.requires
