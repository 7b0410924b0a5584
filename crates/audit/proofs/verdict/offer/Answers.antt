use native.Mathlib.Omega.{arith}
use mathlib.Core.Path.{◌∙◌}
use Rattle.audit.specs.VerdictLaws.{offered_none, offered_from, offered_dead, bared_queue, offered_live, offered_end}
use Rattle.audit.proofs.verdict.offer.Goals as goal
use Rattle.audit.proofs.verdict.offer.Goals.{then-marks-at-ne0, else-marks-at-ne0}

pub clear-requires : goal.clear-requires
clear-requires c = omega arith

pub loop-number-init : goal.loop-number-init
loop-number-init c = (c.clear.ensures.beyond.same_n ∙ c.requires.0, offered_none _ _ _ _ c.clear.ensures)

pub overflow_add-at : goal.overflow_add-at
overflow_add-at c = omega arith

pub bounds-marks-at : goal.bounds-marks-at
bounds-marks-at c = let g = c.loop-number.invariant.1.same_n in omega arith

pub bounds-marks-at-then-marks-at-ne0 : goal.bounds-marks-at-then-marks-at-ne0
bounds-marks-at-then-marks-at-ne0 c = let g = c.loop-number.invariant.1.same_n in omega arith

pub overflow_mul-m : goal.overflow_mul-m
overflow_mul-m c = omega arith

pub add-requires : goal.add-requires
add-requires c = (bared_queue c.loop-number.invariant.1 c.loop-number-test.true c.requires.1 c.loop-number.invariant.0, c.loop-number-test.true)

pub shape_of-marks : goal.shape_of-marks
shape_of-marks c = c.loop-number.invariant.1.same_n ∙ c.clear.ensures.beyond.same_n

pub returns : goal.returns
returns c = offered_from c.clear.ensures.beyond c.requires.1 (offered_end c.loop-number.invariant.1 c.loop-number-test.false (omega arith))

pub loop-number-preserved : goal.loop-number-preserved
loop-number-preserved c = elim c.if-marks-at-ne0.branch [
  | then-marks-at-ne0 w ↦ (c.loop-number.invariant.0, rw w.marks-is (offered_live c.loop-number.invariant.1 c.loop-number-test.true c.requires.1 c.loop-number.invariant.0 _ w.add.ensures w.if-marks-at-ne0.true))
  | else-marks-at-ne0 w ↦ (c.loop-number.invariant.0, rw w.marks-is (offered_dead c.loop-number.invariant.1 c.loop-number-test.true c.requires.1 c.loop-number.invariant.0 w.if-marks-at-ne0.false))
]
