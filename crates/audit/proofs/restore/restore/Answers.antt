use mathlib.Core.Path.{ap, sym}
use Rattle.audit.specs.MarkedLaws.{cleared_n, marks_end}
use native.Mathlib.Omega.{arith}
use mathlib.Core.Path.{◌∙◌}
use lib.ListN.{length}
use Rattle.audit.specs.MarkedLaws.{length_marks, marks_none, marks_more}
use Rattle.audit.proofs.restore.restore.Goals as goal

pub loop-k-init : goal.loop-k-init
loop-k-init g c = (marks_none _ _ _ c.args.marks.now c.clear_bytes.ensures (sym (cleared_n _ c.args.marks.now c.clear_bytes.ensures)))

pub word-slot-requires : goal.word-slot-requires
word-slot-requires g c = omega arith

pub bounds-marks-slot : goal.bounds-marks-slot
bounds-marks-slot g c = let m = ap length c.loop-k.invariant ∙ length_marks _ _ _ ∙ cleared_n _ c.args.marks.now c.clear_bytes.ensures in rw (c.word-slot.ensures, m) (c.requires.1 _ c.loop-k-test.true)

pub loop-k-preserved : goal.loop-k-preserved
loop-k-preserved g c = (rw c.word-slot.ensures (marks_more _ _ _ _ c.loop-k.invariant))

pub shape_of-marks : goal.shape_of-marks
shape_of-marks g c = ap length c.loop-k.invariant ∙ length_marks _ _ _ ∙ cleared_n _ c.args.marks.now c.clear_bytes.ensures

pub returns : goal.returns
returns g c = marks_end _ _ _ _ _ _ (cleared_n _ c.args.marks.now c.clear_bytes.ensures) (omega arith) c.loop-k.invariant
