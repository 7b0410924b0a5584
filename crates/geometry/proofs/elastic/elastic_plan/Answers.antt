-- `geometry::elastic::elastic_plan` meets its contract: the gate refuses, or both arrays are filled. Assumes nothing.
use mathlib.Core.Path.{sym, ◌∙◌}
use native.Mathlib.Omega.{arith}
use Rattle.std.proofs.lemmas.Result.{err_from_is_err_and}
use Rattle.words.specs.LogLaws.{log_computed}
use Rattle.geometry.specs.ConfigLaws.{config_gate_facts}
use Rattle.geometry.specs.ElasticLaws.{lay_refused, lay_plan}
use Rattle.geometry.proofs.elastic.elastic_plan.Goals as goal

pub returns-in_err-config_gate : goal.returns-in_err-config_gate
returns-in_err-config_gate c =
    let p = err_from_is_err_and c.from_residual.result c.from_residual.ensures.1 in
    rw (p.1, p.2) (lay_refused _ _ _ _ _ (sym c.config_gate.ensures ∙ c.in_err-config_gate.was))

pub fill-requires : goal.fill-requires
fill-requires c =
    let f = config_gate_facts _ _ (sym c.config_gate.ensures ∙ c.in_ok-config_gate.was) in
    (f.most, f.some)

pub returns : goal.returns
returns c =
    let d = c in
    let g = d.config_gate in
    lay_plan _ _ _ _ _ _ _ _ (sym g.ensures ∙ d.in_ok-config_gate.was) (log_computed _ _ (omega arith) d.ceil_log2-levels.ensures) d.max_insertions-maximum.ensures c.fill.ensures.0 c.fill.ensures.1
