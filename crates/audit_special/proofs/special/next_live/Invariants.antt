-- `audit_special::special::next_live` meets its contract. Assumes nothing.
use Prim.Native.Nat.{◌-◌}
use Rattle.waiting.specs.Links.{idle}
use Rattle.audit.specs.Waits.{Turned}
use Rattle.audit_special.proofs.special.next_live.Given as goal

abbrev pub invariant-loop-number : goal.invariant-loop-number
invariant-loop-number g l = Turned l.table (g.E.Stored.words l.words) l.start l.m l.initial.marks l.marks

abbrev pub decreases-loop-number : goal.decreases-loop-number
decreases-loop-number g l = l.m - idle l.marks l.m l.m
