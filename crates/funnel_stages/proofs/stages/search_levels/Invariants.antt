-- `funnel_stages::stages::search_levels` meets its contract. The invariant: the levels that are left give what all give, `start` is where the
-- next begins, and no level takes more than 54 probes. Assumes nothing.
use Prim.Native.Nat.{◌≤◌, ◌*◌}
use mathlib.Core.Path.{◌≡◌}
use Rattle.funnel.specs.Path.{level_start}
use Rattle.funnel.specs.StageLaws.{LevelsLeft}
use Rattle.funnel_stages.proofs.stages.search_levels.Given as goal

abbrev pub invariant-loop-level : goal.invariant-loop-level
invariant-loop-level g l = (l.start ≡ level_start l.sought.view.now.table.now.plan l.sought.view.now.counts.now l.level) × (l.probes ≤ l.level * 54)
    × LevelsLeft l.sought.view.now.table.now.plan l.sought.view.now.counts.now (g.E.Stored.words l.sought.view.now.words.now) l.sought.view.now.flags.now l.sought.view.now.table.now.seed l.sought.view.now.table.now.word_cap l.sought.identity l.level l.probes
