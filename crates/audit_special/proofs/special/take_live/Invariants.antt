-- `audit_special::special::take_live` meets its contract. Assumes nothing.
use Prim.Native.Nat.{◌-◌}
use mathlib.Core.Path.{◌≡◌}
use lib.ListN.{length}
use Rattle.audit.specs.Waits.{Onward}
use Rattle.audit_special.proofs.special.take_live.Given as goal

abbrev pub invariant-loop-placed : goal.invariant-loop-placed
invariant-loop-placed g l = Onward l.table l.counts (g.E.Stored.words l.words) l.flags l.start l.m l.initial.marks (g.E.Stored.words l.initial.order) l.before l.marks (g.E.Stored.words l.order) l.placed
    × (length l.order ≡ length l.initial.order)

abbrev pub decreases-loop-placed : goal.decreases-loop-placed
decreases-loop-placed g l = l.n - l.placed
