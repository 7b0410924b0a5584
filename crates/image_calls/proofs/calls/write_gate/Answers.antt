-- `image_calls::calls::write_gate` meets its contract. Assumes nothing.
use mathlib.Core.Path.{sym, ◌∙◌}
use Rattle.std.proofs.lemmas.Result.{err_from_is_err_and}
use Rattle.image_calls.specs.CallLaws.{gate_short, gate_long_refused, gate_long_passed}
use Rattle.image_calls.proofs.calls.write_gate.Goals as goal

pub returns-then-label-le-LABEL_MOST : goal.returns-then-label-le-LABEL_MOST
returns-then-label-le-LABEL_MOST c = c.table_gate.ensures ∙ gate_short _ _ _ _ _ c.if-label-le-LABEL_MOST.true

pub returns-in_err-funnel_gate : goal.returns-in_err-funnel_gate
returns-in_err-funnel_gate c =
    let p = err_from_is_err_and c.from_residual.result c.from_residual.ensures.1 in
    rw (p.1, p.2) (gate_long_refused _ _ _ _ _ c.if-label-le-LABEL_MOST.false _ (sym c.funnel_gate.ensures ∙ c.in_err-funnel_gate.was))

pub returns : goal.returns
returns c = gate_long_passed _ _ _ _ _ c.if-label-le-LABEL_MOST.false (sym c.funnel_gate.ensures ∙ c.in_ok-funnel_gate.was)
