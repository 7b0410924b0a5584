-- `audit_ready::ready::pass_placed` meets its contract. The invariant: no level before the present one stops the search, and its bucket is drawn. Assumes nothing.
use Rattle.funnel.specs.StopLaws.{LevelsPassed}
use Rattle.audit_ready.proofs.ready.pass_placed.Given as goal

abbrev pub invariant-loop-level : goal.invariant-loop-level
invariant-loop-level g l = LevelsPassed l.part.table.now l.part.counts.now (g.E.Stored.words l.part.words.now) l.part.flags.now l.identity l.key l.level l.start l.bucket
