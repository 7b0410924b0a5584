-- `funnel_stages::stages::search_primary` meets its contract. The invariant: the probes that are left give what all give. Assumes nothing.
use Prim.Native.Nat.{◌+◌}
use mathlib.Core.Path.{◌≡◌}
use Rattle.funnel.specs.StageLaws.{PrimaryLeft}
use Rattle.funnel_stages.proofs.stages.search_primary.Given as goal

abbrev pub invariant-loop-probe : goal.invariant-loop-probe
invariant-loop-probe g l = (l.made ≡ l.probes + l.probe) × PrimaryLeft l.table.plan l.start (g.E.Stored.words l.words) l.flags l.table.seed l.table.word_cap l.identity l.probes l.probe l.made
