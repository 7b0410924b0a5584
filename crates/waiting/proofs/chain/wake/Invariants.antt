-- `waiting::chain::wake` meets its contract. Assumes nothing.
use Rattle.waiting.specs.Links.{idle}
use Rattle.waiting.specs.Waiting.{Woken}
use Rattle.waiting.proofs.chain.wake.Given as goal

abbrev pub invariant-loop-head : goal.invariant-loop-head
invariant-loop-head l = Woken l.initial.b l.b l.m l.c l.head

abbrev pub decreases-loop-head : goal.decreases-loop-head
decreases-loop-head l = idle l.b l.m l.m
