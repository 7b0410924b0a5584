-- Bytes that are all 0 are words that are all 0.
use Rattle.std.proofs.Common.{◌∙◌, ap}
use Rattle.lent.specs.Lent.{whole_of}
use Rattle.lent.specs.StoreLaws.{whole_zeros}
use Rattle.lent.proofs.store.U8Stored.clear.Goals as goal

pub returns : goal.returns
returns c = ap whole_of c.clear_bytes.ensures ∙ whole_zeros _
