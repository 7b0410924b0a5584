-- `funnel_calls::calls::place_gate` meets its contract. By what the gate of the table said. Assumes nothing.
use Rattle.std.proofs.lemmas.Result.{err_from_is_err_and}
use Rattle.funnel.specs.CallLaws.{place_gate_refused, place_gate_short, place_gate_pass}
use Rattle.funnel_calls.proofs.calls.place_gate.Goals as goal

pub returns-then-slots-identities : goal.returns-then-slots-identities
returns-then-slots-identities c = place_gate_short _ _ _ _ _ _ _ c.table_gate.ensures c.in_ok-table_gate.was c.if-slots-identities.true

pub returns-in_err-table_gate : goal.returns-in_err-table_gate
returns-in_err-table_gate c =
    let p = err_from_is_err_and c.from_residual.result c.from_residual.ensures.1 in
    rw (p.1, p.2) (place_gate_refused _ _ _ _ _ _ _ c.table_gate.ensures _ c.in_err-table_gate.was)

pub returns : goal.returns
returns c = place_gate_pass _ _ _ _ _ _ _ c.table_gate.ensures c.in_ok-table_gate.was c.if-slots-identities.false
