-- `funnel_calls::calls::search` meets its contract. By what its gate said. Assumes nothing.
use Rattle.std.proofs.lemmas.Result.{err_from_is_err_and}
use Rattle.funnel.specs.CallLaws.{passed_valid, search_refused, search_passed}
use Rattle.funnel_calls.proofs.calls.search.Goals as goal

pub invariant_of-view : goal.invariant_of-view
invariant_of-view c = record { valid = passed_valid _ _ _ _ _ c.table_gate.ensures c.in_ok-table_gate.was }

pub returns-in_err-table_gate : goal.returns-in_err-table_gate
returns-in_err-table_gate c =
    let p = err_from_is_err_and c.from_residual.result c.from_residual.ensures.1 in
    rw (p.1, p.2) (search_refused _ _ _ _ _ c.table_gate.ensures _ _ c.in_err-table_gate.was)

pub returns : goal.returns
returns c = search_passed _ _ _ _ _ c.table_gate.ensures _ _ c.in_ok-table_gate.was c.find.ensures
