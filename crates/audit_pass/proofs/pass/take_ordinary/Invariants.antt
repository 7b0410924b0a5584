-- `audit_pass::pass::take_ordinary` meets its contract. Assumes nothing.
use Prim.Native.Nat.{◌≤◌}
use mathlib.Core.Path.{◌≡◌}
use lib.ListN.{length}
use Rattle.audit.specs.Viewed.{greedy_in, GoingIn}
use Rattle.funnel.specs.Viewed.{slots_in}
use Rattle.audit.specs.Verdicts.{Early}
use Rattle.audit_pass.proofs.pass.take_ordinary.Given as goal

abbrev pub invariant-loop-slot : goal.invariant-loop-slot
invariant-loop-slot g l = (l.placed ≤ l.slot) × Early l.slot l.marks
    × GoingIn l.view (greedy_in l.view (slots_in l.view) l.initial.marks (g.E.Stored.words l.initial.order) 0) l.marks (g.E.Stored.words l.order) l.placed l.slot
    × (length l.order ≡ length l.initial.order)
