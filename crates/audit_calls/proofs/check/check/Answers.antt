-- `audit_calls::check::check` meets its contract. By what its gate said. Assumes nothing.
use Rattle.std.proofs.lemmas.Result.{err_from_is_err_and}
use Rattle.audit_calls.specs.CheckLaws.{passed_lent, check_refused, check_passed}
use Rattle.audit_calls.proofs.check.check.Goals as goal

pub invariant_of-view : goal.invariant_of-view
invariant_of-view c = record { valid = (passed_lent _ _ _ _ _ _ _ c.check_gate.ensures c.in_ok-check_gate.was).valid }

pub audit-requires : goal.audit-requires
audit-requires c = let l = passed_lent _ _ _ _ _ _ _ c.check_gate.ensures c.in_ok-check_gate.was in (l.marks_n, l.order_n)

pub returns-in_err-check_gate : goal.returns-in_err-check_gate
returns-in_err-check_gate c =
    let p = err_from_is_err_and c.from_residual.result c.from_residual.ensures.1 in
    rw (p.1, p.2) (check_refused _ _ _ _ _ _ _ c.check_gate.ensures _ c.in_err-check_gate.was)

pub returns : goal.returns
returns c = check_passed _ _ _ _ _ _ _ c.check_gate.ensures _ c.in_ok-check_gate.was c.audit.ensures
