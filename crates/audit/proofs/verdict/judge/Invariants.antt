-- `audit::verdict::judge` meets its contract. Assumes nothing.
use Rattle.audit.specs.Viewed.{live_in}
use Rattle.audit.specs.Verdicts.{Judged}
use Rattle.audit.proofs.verdict.judge.Given as goal

abbrev pub invariant-loop-slot : goal.invariant-loop-slot
invariant-loop-slot g l = Judged (live_in l.view l.initial.marks) l.start l.slot l.initial.marks l.marks
