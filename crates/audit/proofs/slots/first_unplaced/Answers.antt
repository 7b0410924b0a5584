use mathlib.Core.Path.{◌∙◌}
use Rattle.audit.specs.FirstLaws.{passed_none, passed_at, passed_more, passed_end, from_zero}
use Rattle.audit.specs.ReadyLaws.{unplaced_yes, unplaced_vacant, unplaced_marked}
use Rattle.audit.proofs.slots.first_unplaced.Goals as goal
use Rattle.audit.proofs.slots.first_unplaced.Goals.{else-flags-s-ne0-via-then-flags-s-ne0+else-marks-s-eq0, else-flags-s-ne0-via-else-flags-s-ne0}

pub loop-slot-init : goal.loop-slot-init
loop-slot-init c = passed_none _ _ _

pub returns-then-marks-s-eq0 : goal.returns-then-marks-s-eq0
returns-then-marks-s-eq0 c =
    passed_at c.loop-slot.invariant c.loop-slot-test.true
    (unplaced_yes _ _ _ c.if-flags-s-ne0.true c.if-marks-s-eq0.true)
    ∙ from_zero _ _

pub returns : goal.returns
returns c = passed_end c.loop-slot.invariant c.loop-slot-test.false ∙ from_zero _ _

pub loop-slot-preserved : goal.loop-slot-preserved
loop-slot-preserved c = elim c.else-flags-s-ne0.branch [
  | else-flags-s-ne0-via-then-flags-s-ne0+else-marks-s-eq0 w ↦ passed_more c.loop-slot.invariant c.loop-slot-test.true (unplaced_marked _ _ _ w.if-marks-s-eq0.false)
  | else-flags-s-ne0-via-else-flags-s-ne0 w ↦ passed_more c.loop-slot.invariant c.loop-slot-test.true (unplaced_vacant _ _ _ w.if-flags-s-ne0.false)
]
