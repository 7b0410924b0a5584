-- `elastic::state::setting_gate` meets its contract: each return is a law of a test after those that passed. Assumes nothing.
use mathlib.Core.Path.{sym, ◌∙◌}
use Rattle.std.proofs.lemmas.Result.{err_from_is_err_and}
use Rattle.elastic.specs.State.{setting_gate}
use Rattle.elastic.specs.StateLaws.{demand_refused, demand_passed, demand_failed}
use Rattle.elastic.proofs.state.setting_gate.Goals as goal

pub returns-in_err-config_gate : goal.returns-in_err-config_gate
unfolding setting_gate
returns-in_err-config_gate c =
    let p = err_from_is_err_and c.from_residual.result c.from_residual.ensures.1 in
    rw (p.1, p.2) (demand_refused _ _ _ _ (sym c.config_gate.ensures ∙ c.in_err-config_gate.was))

pub returns-then-limits_fit : goal.returns-then-limits_fit
unfolding setting_gate
returns-then-limits_fit c =
    demand_passed _ _ _ (sym c.config_gate.ensures ∙ c.in_ok-config_gate.was)
    (sym c.limits_fit.ensures ∙ c.if-limits_fit.true)

pub returns-else-limits_fit : goal.returns-else-limits_fit
unfolding setting_gate
returns-else-limits_fit c =
    demand_failed _ _ _ (sym c.config_gate.ensures ∙ c.in_ok-config_gate.was)
    (sym c.limits_fit.ensures ∙ c.if-limits_fit.false)
