use Rattle.std.proofs.Common.{◌≡◌, ap, ◌∙◌, arith}
use Rattle.probe.specs.Range.{all_rejected}
use Rattle.probe.specs.RangeLaws.{drawing_none, drawing_end, drawing_accept, drawing_more}
use Rattle.probe.proofs.range.draw_scaled.Goals as goal

pub loop-used-init : goal.loop-used-init
loop-used-init c = drawing_none _ _ _ _ _

pub overflow_add-base : goal.overflow_add-base
overflow_add-base c = omega arith

pub returns-then-accepts : goal.returns-then-accepts
returns-then-accepts c = drawing_accept _ _ _ _ _ _ c.loop-used.invariant _ _ _ (omega arith) c.keyed_word-word.ensures c.multiply.ensures c.accepts.ensures _ c.if-accepts.true c.multiply_high.ensures

pub loop-used-preserved : goal.loop-used-preserved
loop-used-preserved c = drawing_more _ _ _ _ _ _ c.loop-used.invariant _ _ _ (omega arith) c.keyed_word-word.ensures c.multiply.ensures c.accepts.ensures c.if-accepts.false

pub returns : goal.returns
returns c = let e : c.args.cap ≡ c.loop-used.used = omega arith in ap all_rejected e ∙ drawing_end _ _ _ _ _ _ c.loop-used.invariant (omega arith)
