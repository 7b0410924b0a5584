-- `elastic::state::open_gate` meets its contract: each return is a law of a test after those that passed. Assumes nothing.
use mathlib.Core.Path.{sym, ◌∙◌}
use Rattle.std.proofs.lemmas.Result.{err_from_is_err_and}
use Rattle.elastic.specs.State.{open_gate}
use Rattle.elastic.specs.StateLaws.{demand_refused, demand_passed, demand_failed}
use Rattle.elastic.proofs.state.open_gate.Goals as goal

pub returns-in_err-setting_gate : goal.returns-in_err-setting_gate
unfolding open_gate
returns-in_err-setting_gate c =
    let p = err_from_is_err_and c.from_residual.result c.from_residual.ensures.1 in
    rw (p.1, p.2) (demand_refused _ _ _ _ (sym c.setting_gate.ensures ∙ c.in_err-setting_gate.was))

pub returns-then-buffers_fit : goal.returns-then-buffers_fit
unfolding open_gate
returns-then-buffers_fit c =
    demand_passed _ _ _ (sym c.setting_gate.ensures ∙ c.in_ok-setting_gate.was)
    (sym c.buffers_fit.ensures ∙ c.if-buffers_fit.true)

pub returns-else-buffers_fit : goal.returns-else-buffers_fit
unfolding open_gate
returns-else-buffers_fit c =
    demand_failed _ _ _ (sym c.setting_gate.ensures ∙ c.in_ok-setting_gate.was)
    (sym c.buffers_fit.ensures ∙ c.if-buffers_fit.false)
