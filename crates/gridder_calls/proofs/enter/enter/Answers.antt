-- `gridder_calls::enter::enter` meets its contract. By what was read, and what the gate said of it. Assumes nothing.
use mathlib.Core.Path.{◌≡◌}
use Rattle.std.proofs.lemmas.Result.{err_from_is_err_and}
use Rattle.gridder_calls.specs.declared.enter.EnterRefusal.TheVariants.{Unheld}
use Rattle.gridder_calls.specs.EnterLaws.{enters_unheld, enters_refused, enters_open}
use Rattle.gridder_calls.proofs.enter.enter.Goals as goal

pub returns-in_err-table : goal.returns-in_err-table
returns-in_err-table c =
    let p = err_from_is_err_and c.from_residual.result c.from_residual.ensures.1 in
    let none = c.in_err-table.ensures.ok_part in
    let value = rw none at c.in_err-table.ensures.value in
    let is : c.in_err-table.field-0.0 ≡ Unheld = cc in
    rw (p.1, p.2, is) (enters_unheld _ _ _ _ _ _ _ c.read_table.ensures none)

pub returns-in_err-call_gate : goal.returns-in_err-call_gate
returns-in_err-call_gate c =
    let p = err_from_is_err_and c.from_residual-in_err-call_gate.result c.from_residual-in_err-call_gate.ensures.1 in
    rw (p.1, p.2) (enters_refused _ _ _ _ _ _ _ c.read_table.ensures _ c.in_ok-table.ensures.ok_part _ _ c.word_count-entries.ensures c.call_gate.ensures _ c.in_err-call_gate.was)

pub returns : goal.returns
returns c = enters_open _ _ _ _ _ _ _ c.read_table.ensures _ c.in_ok-table.ensures.ok_part _ _ c.word_count-entries.ensures c.call_gate.ensures c.in_ok-call_gate.was
