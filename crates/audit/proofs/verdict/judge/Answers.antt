use native.Mathlib.Omega.{arith}
use mathlib.Core.Path.{◌∙◌}
use Rattle.audit.specs.VerdictLaws.{judged_none, judged_more, judged_bit, judged_end}
use Rattle.audit.proofs.verdict.judge.Goals as goal
use Rattle.audit.proofs.verdict.judge.Goals.{then-is_live, else-is_live}

pub loop-slot-init : goal.loop-slot-init
loop-slot-init g c = judged_none _ _ _

pub is_live-requires : goal.is_live-requires
is_live-requires g c = (c.loop-slot.invariant.same_n ∙ c.requires.0, omega arith)

pub shape_of-marks : goal.shape_of-marks
shape_of-marks g c = c.loop-slot.invariant.same_n

pub returns : goal.returns
returns g c = judged_end _ c.args.view.now.valid.planned _ _ c.requires.1 c.loop-slot.invariant _ c.loop-slot-test.false

pub bounds-marks-slot : goal.bounds-marks-slot
bounds-marks-slot g c = let g = c.loop-slot.invariant.same_n in let h = c.requires.0 in omega arith

pub bounds-marks-slot-else-is_live : goal.bounds-marks-slot-else-is_live
bounds-marks-slot-else-is_live g c = let g = c.loop-slot.invariant.same_n in let h = c.requires.0 in omega arith

pub loop-slot-preserved : goal.loop-slot-preserved
loop-slot-preserved g c = elim c.if-is_live.branch [
  | then-is_live w ↦ rw w.marks-is (judged_more c.loop-slot.invariant _ (omega arith) (let g = c.requires.0 in omega arith) (judged_bit _ c.args.view.now.valid.planned _ _ c.requires.1 c.loop-slot.invariant _ _ c.is_live.ensures w.if-is_live.true))
  | else-is_live w ↦ rw w.marks-is (judged_more c.loop-slot.invariant _ (omega arith) (let g = c.requires.0 in omega arith) (judged_bit _ c.args.view.now.valid.planned _ _ c.requires.1 c.loop-slot.invariant _ _ c.is_live.ensures w.if-is_live.false))
]
