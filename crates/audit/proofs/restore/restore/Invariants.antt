-- `audit::restore::restore` meets its contract. Assumes nothing.
use mathlib.Core.Path.{◌≡◌}
use lib.ListN.{length}
use Rattle.audit.specs.Marked.{marks_of}
use Rattle.audit.proofs.restore.restore.Given as goal

abbrev pub invariant-loop-k : goal.invariant-loop-k
invariant-loop-k g l = l.marks ≡ marks_of (length l.initial.marks) (g.E.Stored.words l.order) l.k
