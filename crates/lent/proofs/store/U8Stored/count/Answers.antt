-- So many bytes are an eighth of that many words.
use Rattle.std.proofs.Common.{sym}
use Rattle.lent.specs.StoreLaws.{length_wholes}
use Rattle.lent.proofs.store.U8Stored.count.Goals as goal

pub returns : goal.returns
returns c = sym (length_wholes _)
