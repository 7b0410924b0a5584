-- Eight bytes stored in a word's place are that word stored.
use Rattle.std.proofs.Common.{◌∙◌, ap, arith}
use Rattle.lent.specs.Lent.{whole_of}
use Rattle.lent.specs.StoreLaws.{whole_fits, whole_put}
use Rattle.lent.proofs.store.U8Stored.put.Goals as goal

pub overflow_mul-slot : goal.overflow_mul-slot
overflow_mul-slot c = let h = whole_fits _ _ c.requires in omega arith

pub write64-requires : goal.write64-requires
write64-requires c = whole_fits _ _ c.requires

pub returns : goal.returns
returns c = ap whole_of c.write64.ensures ∙ whole_put _ _ c.requires _ (omega arith)
