-- `geometry_funnel::plan::special_gate` meets its contract: each return is a law of the gate. Assumes nothing.
use mathlib.Core.Path.{sym, ◌∙◌}
use Rattle.std.proofs.lemmas.Result.{err_from_is_err_and}
use Rattle.geometry.specs.ConfigLaws.{config_gate_facts}
use Rattle.geometry.specs.FunnelGateLaws.{gate_config, gate_exponent}
use Rattle.geometry_funnel.specs.SpecialGate.{SpecialOr}
use Rattle.geometry_funnel.specs.SpecialGateLaws.{special_or_found}
use Rattle.geometry_funnel.proofs.plan.special_gate.Goals as goal

pub returns-in_err-config_gate : goal.returns-in_err-config_gate
unfolding SpecialOr
returns-in_err-config_gate c =
    let p = err_from_is_err_and c.from_residual.result c.from_residual.ensures.1 in
    rw (p.1, p.2) (gate_config _ _ _ (sym c.config_gate.ensures ∙ c.in_err-config_gate.was))

pub returns-then-e-lt3 : goal.returns-then-e-lt3
unfolding SpecialOr
returns-then-e-lt3 c = gate_exponent _ _ (sym c.config_gate.ensures ∙ c.in_ok-config_gate.was) c.if-e-lt3.true

pub special_len_of-requires : goal.special_len_of-requires
special_len_of-requires c = ((config_gate_facts _ _ (sym c.config_gate.ensures ∙ c.in_ok-config_gate.was)).most, c.if-e-lt3.false)

pub returns : goal.returns
returns c =
    rw c.ok_or.ensures.value (special_or_found _ _ (sym c.config_gate.ensures ∙ c.in_ok-config_gate.was) c.if-e-lt3.false _ c.special_len_of.ensures)
