-- `audit_calls::check::check_gate` meets its contract. By what the gate of the table said. Assumes nothing.
use Rattle.std.proofs.Common.{arith}
use mathlib.Core.Logic.{inl, inr}
use Rattle.std.proofs.lemmas.Result.{err_from_is_err_and}
use Rattle.audit_calls.specs.CheckLaws.{check_gate_refused, check_gate_marks, check_gate_order, check_gate_pass}
use Rattle.audit_calls.proofs.check.check_gate.Goals as goal

pub returns-then-marks-table : goal.returns-then-marks-table
returns-then-marks-table c = elim c.then-marks-table.either [
  | inl h ↦ check_gate_marks _ _ _ _ _ _ _ c.table_gate.ensures c.in_ok-table_gate.was h
  | inr h ↦ check_gate_order _ _ _ _ _ _ _ c.table_gate.ensures c.in_ok-table_gate.was h.0 h.1
]

pub returns-in_err-table_gate : goal.returns-in_err-table_gate
returns-in_err-table_gate c =
    let p = err_from_is_err_and c.from_residual.result c.from_residual.ensures.1 in
    rw (p.1, p.2) (check_gate_refused _ _ _ _ _ _ _ c.table_gate.ensures _ c.in_err-table_gate.was)

pub returns : goal.returns
returns c = check_gate_pass _ _ _ _ _ _ _ c.table_gate.ensures c.in_ok-table_gate.was (omega arith) (omega arith)
