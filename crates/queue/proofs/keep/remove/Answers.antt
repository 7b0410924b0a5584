-- `queue::keep::remove` meets its contract. Assumes nothing.
use native.Mathlib.Omega.{arith}
use mathlib.Core.Path.{◌∙◌}
use lib.ListN.{length-set}
use Rattle.queue.specs.QueueLaws.{removed_first, removed_second, removed_fits, removed}
use Rattle.queue.proofs.keep.remove.Goals as goal

pub settle-requires : goal.settle-requires
settle-requires c = let f = c.requires.0.fits in (removed_first c.requires.0 c.requires.1, c.requires.1, omega arith, simp length-set (omega arith))

pub settle-requires-2 : goal.settle-requires-2
settle-requires-2 c = let e = c.groups_of-g.ensures in let l = c.requires.1 in (removed_second c.requires.0 c.requires.1 c.settle.ensures _ c.groups_of-g.ensures, omega arith, omega arith, removed_fits c.requires.0 c.requires.1 c.settle.ensures _ c.groups_of-g.ensures)

pub shape_of-b : goal.shape_of-b
shape_of-b c = c.settle-2.ensures.lowered.same_n ∙ c.settle.ensures.lowered.same_n ∙ simp length-set

pub returns : goal.returns
returns c = removed c.requires.0 c.requires.1 c.settle.ensures _ c.groups_of-g.ensures c.settle-2.ensures
