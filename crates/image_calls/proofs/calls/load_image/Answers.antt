-- `image_calls::calls::load_image` meets its contract. Assumes nothing.
use mathlib.Core.Path.{sym, ◌∙◌}
use Rattle.std.proofs.Common.{ap}
use Rattle.std.proofs.lemmas.Result.{err_from_is_err_and}
use Rattle.funnel.specs.CallLaws.{gate_valid}
use Rattle.image_calls.specs.Calls.{loaded_of}
use Rattle.image_calls.specs.CallLaws.{load_refused, load_passed}
use Rattle.image_calls.proofs.calls.load_image.Goals as goal

pub returns-in_err-table_gate : goal.returns-in_err-table_gate
returns-in_err-table_gate c =
    let p = err_from_is_err_and c.from_residual.result c.from_residual.ensures.1 in
    rw (p.1, p.2) (load_refused _ _ _ _ _ _ (sym c.table_gate.ensures ∙ c.in_err-table_gate.was))

pub load-requires : goal.load-requires
load-requires c = let s = c.args in
    let v = gate_valid s.table s.counts.now s.words.now s.flags.now (sym c.table_gate.ensures ∙ c.in_ok-table_gate.was) in (v.words_length, v.flags_length)

pub returns-in_err-filled : goal.returns-in_err-filled
unfolding loaded_of
returns-in_err-filled c =
    let p = err_from_is_err_and c.from_residual-in_err-filled.result c.from_residual-in_err-filled.ensures.1 in
    rw (p.1, p.2) (load_passed _ _ _ _ _ (sym c.table_gate.ensures ∙ c.in_ok-table_gate.was) _ _ _ _ (sym (ap (loaded_of c.args.table) c.in_err-filled.was)) c.load.ensures)

pub returns : goal.returns
unfolding loaded_of
returns c = load_passed _ _ _ _ _ (sym c.table_gate.ensures ∙ c.in_ok-table_gate.was) _ _ _ _ (sym (ap (loaded_of c.args.table) c.in_ok-filled.was)) c.load.ensures
