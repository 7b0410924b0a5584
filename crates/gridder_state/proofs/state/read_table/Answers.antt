-- `gridder_state::state::read_table` meets its contract. A block that holds a table has its length, and its e fits. Assumes nothing.
use mathlib.Core.Path.{refl, ap, sym, ◌∙◌}
use native.Mathlib.Omega.{arith}
use Rattle.lent.specs.Lent.{words_from}
use Rattle.gridder_state.specs.State.{Reads, table_in, counts_in}
use Rattle.gridder_state.specs.StateLaws.{holds_facts}
use Rattle.gridder_state.proofs.state.read_table.Goals as goal

pub returns-then-not-holds_funnel : goal.returns-then-not-holds_funnel
unfolding Reads
returns-then-not-holds_funnel c = (sym c.holds_funnel.ensures ∙ c.if-not-holds_funnel.true, refl)

pub returns-in_err-block : goal.returns-in_err-block
returns-in_err-block c =
    let h = holds_facts _ _ (sym c.holds_funnel.ensures ∙ c.if-not-holds_funnel.false) in
    let n = c.in_err-block.ensures.cases in
    absurd (n h.long)

pub overflow_cast-result : goal.overflow_cast-result
overflow_cast-result c =
    let h = holds_facts _ _ (sym c.holds_funnel.ensures ∙ c.if-not-holds_funnel.false) in
    let e = rw c.in_ok-block.ensures.cases.same at c.read64-2.ensures in
    omega (arith, h.exponent)

pub returns : goal.returns
unfolding Reads table_in counts_in
returns c =
    let same = c.in_ok-block.ensures.cases.same in
    (sym c.holds_funnel.ensures ∙ c.if-not-holds_funnel.false, rw (← same) (cc), c.read_words.ensures ∙ ap (words_from _ 136) c.told-counts ∙ ap counts_in same)
