-- `gridder_elastic::enter::enter` meets its contract. By what was read, and what the gate said of it. Assumes nothing.
use mathlib.Core.Path.{◌≡◌}
use Rattle.std.proofs.lemmas.Result.{err_from_is_err_and}
use Rattle.gridder_calls.specs.declared.enter.EnterRefusal.TheVariants.{Unheld}
use Rattle.gridder_elastic.specs.EnterLaws.{enters_unheld, enters_refused, enters_open}
use Rattle.gridder_elastic.proofs.enter.enter.Goals as goal

pub returns-in_err-st : goal.returns-in_err-st
returns-in_err-st c =
    let p = err_from_is_err_and c.from_residual.result c.from_residual.ensures.1 in
    let none = c.in_err-st.ensures.ok_part in
    let value = rw none at c.in_err-st.ensures.value in
    let is : c.in_err-st.field-0.0 ≡ Unheld = cc in
    rw (p.1, p.2, is) (enters_unheld _ _ _ _ _ _ _ c.read_state.ensures none)

pub returns-in_err-block_gate : goal.returns-in_err-block_gate
returns-in_err-block_gate c =
    let p = err_from_is_err_and c.from_residual-in_err-block_gate.result c.from_residual-in_err-block_gate.ensures.1 in
    rw (p.1, p.2) (enters_refused _ _ _ _ _ _ _ c.read_state.ensures _ c.in_ok-st.ensures.ok_part _ _ _ c.word_count-entries.ensures c.state_gate.ensures c.block_gate.ensures _ c.in_err-block_gate.was)

pub returns : goal.returns
returns c = enters_open _ _ _ _ _ _ _ c.read_state.ensures _ c.in_ok-st.ensures.ok_part _ _ _ c.word_count-entries.ensures c.state_gate.ensures c.block_gate.ensures c.in_ok-block_gate.was
