-- `audit::verdict::offer` meets its contract. Assumes nothing.
use Prim.Native.Nat.{◌+◌}
use mathlib.Core.Path.{◌≡◌}
use lib.ListN.{length}
use Rattle.audit.specs.Verdicts.{Offered}
use Rattle.audit.proofs.verdict.offer.Given as goal

abbrev pub invariant-loop-number : goal.invariant-loop-number
invariant-loop-number l = (length l.initial.marks ≡ l.start + l.m) × Offered l.start l.m l.number l.initial.marks l.marks
