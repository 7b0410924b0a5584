-- `funnel_calls::calls::open_gate` meets its contract. By what each test said. Assumes nothing.
use mathlib.Core.Path.{refl}
use Rattle.std.proofs.lemmas.Result.{err_from_is_err_and}
use Rattle.funnel.specs.CallLaws.{open_gate_refused, open_gate_later, limits_refused, limits_passed}
use Rattle.funnel_calls.proofs.calls.open_gate.Goals as goal

pub returns-in_err-funnel_gate : goal.returns-in_err-funnel_gate
returns-in_err-funnel_gate c =
    let p = err_from_is_err_and c.from_residual.result c.from_residual.ensures.1 in
    rw (p.1, p.2) (open_gate_refused _ _ _ _ _ _ _ c.funnel_gate.ensures c.in_err-funnel_gate.was)

pub returns-in_err-limits_gate : goal.returns-in_err-limits_gate
returns-in_err-limits_gate c =
    let p = err_from_is_err_and c.from_residual-in_err-limits_gate.result c.from_residual-in_err-limits_gate.ensures.1 in
    rw (p.1, p.2) (open_gate_later _ _ _ _ _ _ _ _ c.funnel_gate.ensures c.in_ok-funnel_gate.was refl (limits_refused _ _ c.limits_gate.ensures _ _ c.in_err-limits_gate.was))

pub returns : goal.returns
returns c = open_gate_later _ _ _ _ _ _ _ _ c.funnel_gate.ensures c.in_ok-funnel_gate.was c.lengths_gate.ensures (limits_passed _ _ c.limits_gate.ensures _ c.in_ok-limits_gate.was)
