-- `geometry_smallest::smallest::smallest_funnel` meets its contract: the smallest has a plan, so its plan is not refused. Assumes nothing.
use mathlib.Core.Path.{◌≡◌, sym, ◌∙◌}
use Rattle.std.proofs.lemmas.Result.{err_from_is_err_and}
use Rattle.geometry_smallest.specs.declared.smallest.SmallestRefusal.TheVariants.{Nothing}
use Rattle.geometry_smallest.specs.SmallestLaws.{gate_facts, answer_refused, answer_none, answer_found, answer_never}
use Rattle.geometry_smallest.proofs.smallest.smallest_funnel.Goals as goal

pub returns-in_err-smallest_gate : goal.returns-in_err-smallest_gate
returns-in_err-smallest_gate c =
    let p = err_from_is_err_and c.from_residual.result c.from_residual.ensures.1 in
    rw (p.1, p.2) (answer_refused _ _ _ _ _ _ (sym c.smallest_gate.ensures ∙ c.in_err-smallest_gate.was))

pub smallest_slots-requires : goal.smallest_slots-requires
smallest_slots-requires c =
    let f = gate_facts _ _ _ (sym c.smallest_gate.ensures ∙ c.in_ok-smallest_gate.was) in
    (f.1, f.2)

pub returns-in_err-n : goal.returns-in_err-n
returns-in_err-n c =
    let p = err_from_is_err_and c.from_residual-in_err-n.result c.from_residual-in_err-n.ensures.1 in
    let gate = sym c.smallest_gate.ensures ∙ c.in_ok-smallest_gate.was in
    let none = c.in_err-n.ensures.ok_part in
    let value = rw none at c.in_err-n.ensures.value in
    let is : c.in_err-n.field-0.0 ≡ Nothing = cc in
    rw (p.1, p.2, is) (answer_none _ _ _ _ _ gate (rw none at c.smallest_slots.ensures))

pub returns-in_err-plan : goal.returns-in_err-plan
returns-in_err-plan c =
    let gate = sym c.smallest_gate.ensures ∙ c.in_ok-smallest_gate.was in
    absurd (answer_never _ _ _ _ _ gate _ (rw c.in_ok-n.ensures.ok_part at c.smallest_slots.ensures) _ _ c.funnel_plan.ensures _ c.in_err-plan.was)

pub returns : goal.returns
returns c =
    let gate = sym c.smallest_gate.ensures ∙ c.in_ok-smallest_gate.was in
    answer_found _ _ _ _ _ gate _ (rw c.in_ok-n.ensures.ok_part at c.smallest_slots.ensures) _ _ c.funnel_plan.ensures _ c.in_ok-plan.was
