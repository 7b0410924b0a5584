-- `queue::keep::empty` meets its contract. Assumes nothing.
use native.Mathlib.Omega.{arith}
use Rattle.queue.specs.QueueLaws.{wiped_emptied}
use Rattle.queue.proofs.keep.empty.Goals as goal

pub returns : goal.returns
returns c = let g = c.groups_of-g.ensures in let h = c.groups_of-h.ensures in let p = c.requires in wiped_emptied c.wipe.ensures (omega arith) (omega arith)
