-- `queue::keep::smallest` meets its contract. Assumes nothing.
use native.Mathlib.Omega.{arith}
use Rattle.queue.specs.QueueLaws.{smallest_none, smallest_group, smallest_found}
use Rattle.queue.proofs.keep.smallest.Goals as goal

pub returns-then-found-top : goal.returns-then-found-top
returns-then-found-top c = smallest_none c.requires _ c.groups_of-g.ensures _ c.groups_of-h.ensures c.first_set-found.ensures (let t = c.if-found-top.true in omega arith)

pub first_of-requires : goal.first_of-requires
first_of-requires c = let p = c.requires.fits in let g = c.groups_of-g.ensures in let f = c.first_set-found.ensures.most in let j = smallest_group c.requires _ c.groups_of-g.ensures _ c.groups_of-h.ensures c.first_set-found.ensures (let t = c.if-found-top.false in omega arith) c.first_of-j.ensures in (omega arith, omega arith)

pub returns : goal.returns
returns c = let f = c.first_set-found.ensures.most in smallest_found c.requires _ c.groups_of-g.ensures _ c.groups_of-h.ensures c.first_set-found.ensures (let t = c.if-found-top.false in omega arith) c.first_of-j.ensures c.first_of.ensures
