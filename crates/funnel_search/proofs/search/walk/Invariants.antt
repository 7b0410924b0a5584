-- `funnel_search::search::walk` meets its contract. The invariant: no level before the present one stops the search, and its bucket is drawn. Assumes nothing.
use Rattle.funnel.specs.StopLaws.{LevelsPassed}
use Rattle.funnel_search.proofs.search.walk.Given as goal

abbrev pub invariant-loop-level : goal.invariant-loop-level
invariant-loop-level g l = LevelsPassed l.sought.view.now.table.now l.sought.view.now.counts.now (g.E.Stored.words l.sought.view.now.words.now) l.sought.view.now.flags.now l.sought.identity l.key l.level l.start l.bucket
