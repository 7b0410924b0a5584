-- `elastic_query::query::query` meets its contract: the gate refuses, or the walk over the positions. Assumes nothing.
use mathlib.Core.Path.{sym, ◌∙◌}
use Rattle.std.proofs.lemmas.Result.{err_from_is_err_and}
use Rattle.elastic.specs.StateLaws.{gate_valid}
use Rattle.elastic_query.specs.QueryLaws.{query_gate, query_look}
use Rattle.elastic_query.proofs.query.query.Goals as goal

pub returns-in_err-state_gate : goal.returns-in_err-state_gate
returns-in_err-state_gate g c =
    let p = err_from_is_err_and c.from_residual.result c.from_residual.ensures.1 in
    rw (p.1, p.2) (query_gate _ _ _ _ _ _ (sym (rw c.count.ensures at c.state_gate.ensures) ∙ c.in_err-state_gate.was))

pub look-requires : goal.look-requires
look-requires g c = gate_valid _ _ _ _ (sym (rw c.count.ensures at c.state_gate.ensures) ∙ c.in_ok-state_gate.was)

pub returns : goal.returns
returns g c = query_look _ _ _ _ _ _ (sym (rw c.count.ensures at c.state_gate.ensures) ∙ c.in_ok-state_gate.was) c.look.ensures
