use Rattle.image_calls.specs.LoadingLaws.{onward_none, onward_wrong, onward_framing, onward_last, onward_fits, onward_five, onward_other}
use native.Mathlib.Omega.{arith}
use mathlib.Core.Path.{sym, ◌∙◌}
use Rattle.image_calls.proofs.loader.fill_image.Goals as goal

pub loop-tag-init : goal.loop-tag-init
loop-tag-init g c = let q = c.requires in onward_none _ _ _ q.0 q.1 q.2

pub returns-then-tag-eq6 : goal.returns-then-tag-eq6
returns-then-tag-eq6 g c = onward_last c.loop-tag.invariant _ _ (sym c.frame.ensures ∙ c.in-Ok.is) c.if-tag-eq6.true

pub overflow_add-at : goal.overflow_add-at
overflow_add-at g c = let f = onward_framing c.loop-tag.invariant _ _ (sym c.frame.ensures ∙ c.in-Ok.is) in omega (arith, f.within)

pub fill_field-requires : goal.fill_field-requires
fill_field-requires g c = let l = c.loop-tag.invariant in
    let w = (sym c.frame.ensures ∙ c.in-Ok.is) in
    let f = onward_framing l _ _ w in
    (omega (arith, f.within), onward_fits l _ _ w c.if-tag-eq6.false c.if-tag-eq5.true)

pub loop-tag-smaller-then-tag-eq5 : goal.loop-tag-smaller-then-tag-eq5
loop-tag-smaller-then-tag-eq5 g c = let f = onward_framing c.loop-tag.invariant _ _ (sym c.frame.ensures ∙ c.in-Ok.is) in omega (arith, f.within)

pub loop-tag-preserved-then-tag-eq5 : goal.loop-tag-preserved-then-tag-eq5
loop-tag-preserved-then-tag-eq5 g c = let l = c.loop-tag.invariant in
    let w = (sym c.frame.ensures ∙ c.in-Ok.is) in
    rw c.low_after-low.ensures (onward_five l _ _ w c.if-tag-eq6.false c.if-tag-eq5.true _ _ c.fill_field.ensures)

pub loop-tag-smaller : goal.loop-tag-smaller
loop-tag-smaller g c = let f = onward_framing c.loop-tag.invariant _ _ (sym c.frame.ensures ∙ c.in-Ok.is) in omega (arith, f.within)

pub loop-tag-preserved : goal.loop-tag-preserved
loop-tag-preserved g c = rw c.low_after-low.ensures (onward_other c.loop-tag.invariant _ _ (sym c.frame.ensures ∙ c.in-Ok.is) c.if-tag-eq6.false c.if-tag-eq5.false)

pub returns : goal.returns
returns g c = onward_wrong c.loop-tag.invariant _ (sym c.frame.ensures ∙ c.in_default.is)
