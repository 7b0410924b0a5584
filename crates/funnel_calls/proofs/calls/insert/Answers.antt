-- `funnel_calls::calls::insert` meets its contract. By what its gate said. Assumes nothing.
use Rattle.std.proofs.lemmas.Result.{err_from_is_err_and}
use Rattle.funnel.specs.CallLaws.{passed_valid, insert_refused, insert_passed}
use Rattle.funnel_calls.proofs.calls.insert.Goals as goal

pub insert-requires : goal.insert-requires
insert-requires c = passed_valid _ _ _ _ _ c.table_gate.ensures c.in_ok-table_gate.was

pub returns-in_err-table_gate : goal.returns-in_err-table_gate
returns-in_err-table_gate c =
    let p = err_from_is_err_and c.from_residual.result c.from_residual.ensures.1 in
    rw (p.1, p.2) (insert_refused _ _ _ _ _ c.table_gate.ensures _ _ c.in_err-table_gate.was)

pub returns : goal.returns
returns c = insert_passed _ _ _ _ _ c.table_gate.ensures _ _ _ _ c.in_ok-table_gate.was c.insert.ensures
