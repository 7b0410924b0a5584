-- `funnel_calls::calls::place_all` meets its contract. By what its gate said. Assumes nothing.
use Rattle.std.proofs.lemmas.Result.{err_from_is_err_and}
use Rattle.funnel.specs.CallLaws.{place_passed_valid, place_refused, place_passed}
use Rattle.funnel_calls.proofs.calls.place_all.Goals as goal

pub place_all-requires : goal.place_all-requires
place_all-requires c = place_passed_valid _ _ _ _ _ _ _ c.place_gate.ensures c.in_ok-place_gate.was

pub returns-in_err-place_gate : goal.returns-in_err-place_gate
returns-in_err-place_gate c =
    let p = err_from_is_err_and c.from_residual.result c.from_residual.ensures.1 in
    rw (p.1, p.2) (place_refused _ _ _ _ _ _ _ c.place_gate.ensures _ c.in_err-place_gate.was)

pub returns : goal.returns
returns c = place_passed _ _ _ _ _ _ _ c.place_gate.ensures _ _ _ _ c.in_ok-place_gate.was c.place_all.ensures
