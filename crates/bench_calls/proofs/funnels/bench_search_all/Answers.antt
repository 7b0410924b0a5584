-- A table whose gate passes is valid.
use Rattle.std.proofs.Common.{sym}
use Rattle.funnel.specs.CallLaws.{gate_valid}
use Rattle.bench_calls.proofs.funnels.bench_search_all.Goals as goal

pub invariant_of-view : goal.invariant_of-view
invariant_of-view c = record { valid = gate_valid _ _ _ _ (sym c.in-Ok.ensures) }
