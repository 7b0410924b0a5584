-- `funnel_search::search::pass_levels` meets its contract. The invariant: no level before the present one stops the search, and its bucket is drawn. Assumes nothing.
use Rattle.funnel.specs.StopLaws.{LevelsPassed}
use Rattle.funnel_search.proofs.search.pass_levels.Given as goal

abbrev pub invariant-loop-level : goal.invariant-loop-level
invariant-loop-level g l = LevelsPassed l.view.table.now l.view.counts.now (g.E.Stored.words l.view.words.now) l.view.flags.now l.identity l.key l.level l.start l.bucket
