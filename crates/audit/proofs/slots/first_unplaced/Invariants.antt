-- `audit::slots::first_unplaced` meets its contract. Assumes nothing.
use Rattle.audit.specs.Greedy.{unplaced}
use Rattle.audit.specs.FirstLaws.{Passed}
use Rattle.audit.proofs.slots.first_unplaced.Given as goal

abbrev pub invariant-loop-slot : goal.invariant-loop-slot
invariant-loop-slot l = Passed (unplaced l.flags l.marks) 0 l.n l.slot
