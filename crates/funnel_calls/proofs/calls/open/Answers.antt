-- `funnel_calls::calls::open` meets its contract. By what its gate and the plan said. Assumes nothing.
use Rattle.std.proofs.lemmas.Result.{err_from_is_err_and}
use Rattle.funnel.specs.CallLaws.{opens_refused, opens_planned, opens_table}
use Rattle.funnel_calls.proofs.calls.open.Goals as goal

pub returns-in_err-open_gate : goal.returns-in_err-open_gate
returns-in_err-open_gate c =
    let p = err_from_is_err_and c.from_residual.result c.from_residual.ensures.1 in
    rw (p.1, p.2) (opens_refused _ _ _ _ _ _ _ _ c.open_gate.ensures _ c.in_err-open_gate.was)

pub returns-in_err-plan : goal.returns-in_err-plan
returns-in_err-plan c = absurd (opens_planned _ _ c.args.seed _ _ c.args.words.now c.args.flags.now _ c.open_gate.ensures c.in_ok-open_gate.was _ _ c.funnel_plan.ensures _ c.in_err-plan.was)

pub returns : goal.returns
returns c = opens_table _ _ _ _ _ _ _ _ c.open_gate.ensures c.in_ok-open_gate.was _ _ c.funnel_plan.ensures _ _ _ c.in_ok-plan.was c.clear_words.ensures c.clear_bytes.ensures
