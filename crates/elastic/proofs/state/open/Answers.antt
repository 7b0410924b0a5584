-- `elastic::state::open` meets its contract: the gate refuses, or all three lists are zeroed. Assumes nothing.
use mathlib.Core.Path.{sym, ◌∙◌, refl}
use Rattle.std.proofs.lemmas.Result.{err_from_is_err_and}
use Rattle.elastic.specs.StateLaws.{open_refused, open_fresh}
use Rattle.elastic.proofs.state.open.Goals as goal

pub returns-in_err-open_gate : goal.returns-in_err-open_gate
returns-in_err-open_gate g c =
    let p = err_from_is_err_and c.from_residual.result c.from_residual.ensures.1 in
    rw (p.1, p.2) (open_refused _ _ _ _ _ _ _ _ (sym (rw c.count.ensures at c.open_gate.ensures) ∙ c.in_err-open_gate.was))

pub returns : goal.returns
returns g c =
    rw c.fresh.ensures (open_fresh _ _ _ _ _ _ _ _ _ _ _ _ (sym (rw c.count.ensures at c.open_gate.ensures) ∙ c.in_ok-open_gate.was)
    refl refl c.clear_words.ensures c.clear.ensures c.clear_bytes.ensures)
