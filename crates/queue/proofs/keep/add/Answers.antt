-- `queue::keep::add` meets its contract. Assumes nothing.
use native.Mathlib.Omega.{arith}
use lib.ListN.{length-set}
use Rattle.queue.specs.QueueLaws.{added}
use Rattle.queue.proofs.keep.add.Goals as goal

pub bounds-b-middle : goal.bounds-b-middle
bounds-b-middle c = let f = c.requires.0.fits in simp length-set (omega arith)

pub bounds-b-top : goal.bounds-b-top
bounds-b-top c = let f = c.requires.0.fits in let e = c.groups_of-g.ensures in simp length-set (omega arith)

pub returns : goal.returns
returns c = added c.requires.0 c.requires.1 _ c.groups_of-g.ensures
