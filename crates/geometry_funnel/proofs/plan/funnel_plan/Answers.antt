-- `geometry_funnel::plan::funnel_plan` meets its contract. Assumes nothing.
use mathlib.Core.Path.{refl, sym}
use Rattle.std.proofs.lemmas.Result.{err_from_is_err_and}
use Rattle.geometry.specs.FunnelGate.{Planned}
use Rattle.geometry_funnel.specs.SpecialGateLaws.{special_or_length, special_or_refused}
use Rattle.geometry_funnel.proofs.plan.funnel_plan.Goals as goal

pub write_plan-requires : goal.write_plan-requires
write_plan-requires c = special_or_length _ _ _ _ c.special_gate.ensures c.in_ok-s.was

pub returns : goal.returns
unfolding Planned
returns c = c.write_plan.ensures

pub returns-in_err-s : goal.returns-in_err-s
unfolding Planned
returns-in_err-s c =
    let p = err_from_is_err_and c.from_residual.result c.from_residual.ensures.1 in
    rw (p.1, p.2) (sym (special_or_refused _ _ _ _ c.special_gate.ensures c.in_err-s.was), refl)
