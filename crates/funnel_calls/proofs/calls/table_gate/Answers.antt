-- `funnel_calls::calls::table_gate` meets its contract. A right plan has a layout; a wrong one is refused by the gate of n and e, by its cap or by STATE. Assumes nothing.
use mathlib.Core.Path.{sym, ◌∙◌}
use Rattle.std.proofs.lemmas.Result.{err_from_is_err_and}
use Rattle.funnel.specs.CallLaws.{gate_refused, gate_unplanned, gate_right, gate_tested, gate_counted, gate_uncounted, limits_refused, limits_passed, lengths_refused}
use Rattle.funnel_calls.proofs.calls.table_gate.Goals as goal

pub returns-in_err-limits_gate : goal.returns-in_err-limits_gate
returns-in_err-limits_gate c =
    let p = err_from_is_err_and c.from_residual.result c.from_residual.ensures.1 in
    rw (p.1, p.2) (limits_refused _ _ c.limits_gate.ensures _ _ c.in_err-limits_gate.was ∙ sym (gate_right _ _ _ _ (sym c.is_funnel_plan.ensures ∙ c.if-is_funnel_plan.true)))

pub returns-in_err-lengths_gate : goal.returns-in_err-lengths_gate
returns-in_err-lengths_gate c =
    let p = err_from_is_err_and c.from_residual-in_err-lengths_gate.result c.from_residual-in_err-lengths_gate.ensures.1 in
    rw (p.1, p.2) (gate_tested _ _ _ _ (sym c.is_funnel_plan.ensures ∙ c.if-is_funnel_plan.true) _ c.limits_gate.ensures c.in_ok-limits_gate.was (lengths_refused _ _ _ _ c.lengths_gate.ensures _ _ c.in_err-lengths_gate.was))

pub returns-then-table : goal.returns-then-table
returns-then-table c = gate_counted _ _ _ _ (sym c.is_funnel_plan.ensures ∙ c.if-is_funnel_plan.true) _ c.limits_gate.ensures c.in_ok-limits_gate.was _ c.lengths_gate.ensures c.in_ok-lengths_gate.was c.if-table.true

pub returns-then-is_funnel_plan : goal.returns-then-is_funnel_plan
returns-then-is_funnel_plan c = gate_uncounted _ _ _ _ (sym c.is_funnel_plan.ensures ∙ c.if-is_funnel_plan.true) _ c.limits_gate.ensures c.in_ok-limits_gate.was _ c.lengths_gate.ensures c.in_ok-lengths_gate.was c.if-table.false

pub returns-in_err-funnel_gate : goal.returns-in_err-funnel_gate
returns-in_err-funnel_gate c =
    let p = err_from_is_err_and c.from_residual-in_err-funnel_gate.result c.from_residual-in_err-funnel_gate.ensures.1 in
    rw (p.1, p.2) (gate_refused _ _ _ _ _ _ c.funnel_gate.ensures c.in_err-funnel_gate.was)

pub returns-in_err-limits_gate-2 : goal.returns-in_err-limits_gate-2
returns-in_err-limits_gate-2 c =
    let p = err_from_is_err_and c.from_residual-in_err-limits_gate-2.result c.from_residual-in_err-limits_gate-2.ensures.1 in
    rw (p.1, p.2) (gate_unplanned _ _ _ _ _ _ (sym c.is_funnel_plan.ensures ∙ c.if-is_funnel_plan.false) c.funnel_gate.ensures c.in_ok-funnel_gate.was (limits_refused _ _ c.limits_gate-2.ensures _ _ c.in_err-limits_gate-2.was))

pub returns : goal.returns
returns c = gate_unplanned _ _ _ _ _ _ (sym c.is_funnel_plan.ensures ∙ c.if-is_funnel_plan.false) c.funnel_gate.ensures c.in_ok-funnel_gate.was (limits_passed _ _ c.limits_gate-2.ensures _ c.in_ok-limits_gate-2.was)
