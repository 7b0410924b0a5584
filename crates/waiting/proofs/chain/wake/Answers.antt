use native.Mathlib.Omega.{arith}
use mathlib.Core.Path.{◌≡◌}
use Rattle.waiting.specs.LinksLaws.{link_read}
use Rattle.waiting.specs.WaitingLaws.{woken_none, woken_first, woken_less, woken_more}
use Rattle.waiting.proofs.chain.wake.Goals as goal

pub overflow_mul-c : goal.overflow_mul-c
overflow_mul-c c = let f = c.requires.0.small in omega arith

pub read32-head-requires : goal.read32-head-requires
read32-head-requires c = let f = c.requires.0.queue.fits in let g = c.requires.1 in omega arith

pub loop-head-init : goal.loop-head-init
loop-head-init c = woken_none _ _ _ _ c.requires.0 (link_read _ _ _ _ c.read32-head.ensures)

pub overflow_sub-head : goal.overflow_sub-head
overflow_sub-head c = omega arith

pub pop-requires : goal.pop-requires
pop-requires c =
    let p = c.requires in
    let k = c.loop-head.invariant in
    (k.fits, p.1, (woken_first k p.2 p.1 c.loop-head-test.true).small)

pub overflow_mul-c-in-loop-head : goal.overflow_mul-c-in-loop-head
overflow_mul-c-in-loop-head c = let f = c.requires.0.small in omega arith

pub read32-head-requires-in-loop-head : goal.read32-head-requires-in-loop-head
read32-head-requires-in-loop-head c = let f = c.pop.ensures.queue.fits in let g = c.requires.1 in omega arith

pub loop-head-smaller : goal.loop-head-smaller
loop-head-smaller c = woken_less c.loop-head.invariant c.requires.2 c.requires.1 c.loop-head-test.true c.pop.ensures

pub loop-head-preserved : goal.loop-head-preserved
loop-head-preserved c = woken_more c.loop-head.invariant c.requires.2 c.requires.1 c.loop-head-test.true c.pop.ensures _ (link_read _ _ _ _ c.read32-head-in-loop-head.ensures)

pub shape_of-b : goal.shape_of-b
shape_of-b c = c.loop-head.invariant.beyond.same_n

pub returns : goal.returns
returns c = let e : c.loop-head.head ≡ 0 = c.loop-head-test.false in rw e at c.loop-head.invariant
