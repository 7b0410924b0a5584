-- `audit::slots::first_dirty` meets its contract. Assumes nothing.
use Rattle.funnel.specs.Dirty.{dirty_at}
use Rattle.audit.specs.FirstLaws.{Passed}
use Rattle.audit.proofs.slots.first_dirty.Given as goal

abbrev pub invariant-loop-slot : goal.invariant-loop-slot
invariant-loop-slot g l = Passed (dirty_at (g.E.Stored.words l.words) l.flags) 0 l.n l.slot
