use native.Mathlib.Omega.{arith}
use mathlib.Core.Path.{◌≡◌, refl, sym, ◌∙◌}
use Rattle.audit.specs.VerdictLaws.{early_more, early_set}
use Rattle.audit.specs.GreedyLaws.{going_none, going_skip, going_rise}
use Rattle.audit_pass.proofs.pass.take_ordinary.Goals as goal
use Rattle.audit_pass.proofs.pass.take_ordinary.Goals.{then-is_ready, else-is_ready}

pub loop-slot-init : goal.loop-slot-init
loop-slot-init g c = (omega arith, c.requires.4, going_none _ _ _ _ _ _ c.requires.0 c.requires.1, refl)

pub is_ready-requires : goal.is_ready-requires
is_ready-requires g c = (c.loop-slot.invariant.2.marks_n, omega arith)

pub bounds-marks-slot : goal.bounds-marks-slot
bounds-marks-slot g c = let g = c.loop-slot.invariant.2.marks_n in omega arith

pub put-requires : goal.put-requires
put-requires g c = let g = c.loop-slot.invariant.2.order_n in let p = c.loop-slot.invariant.0 in let s = c.requires.3 in let q = c.loop-slot-test.true in omega arith

pub overflow_add-placed : goal.overflow_add-placed
overflow_add-placed g c = let g = c.loop-slot.invariant in let q = c.loop-slot-test.true in omega arith

pub loop-slot-preserved : goal.loop-slot-preserved
loop-slot-preserved g c = let q = c.loop-slot-test.true in elim c.if-is_ready.branch [
  | then-is_ready w ↦
      let p = c.loop-slot.invariant.0 in
      rw (w.marks-is, w.order-is, w.placed-is) (
        omega arith,
        early_set c.loop-slot.invariant.1,
        rw w.put.ensures (going_rise c.loop-slot.invariant.2 c.args.view.now.valid.planned (omega arith) (omega arith) (omega arith) (sym c.is_ready.ensures ∙ w.if-is_ready.true)),
        omega (arith, w.put.auto.lent, c.loop-slot.invariant.3),
      )
  | else-is_ready w ↦
      let p = c.loop-slot.invariant.0 in
      rw (w.marks-is, w.order-is, w.placed-is) (omega arith, early_more c.loop-slot.invariant.1, going_skip c.loop-slot.invariant.2 (sym c.is_ready.ensures ∙ w.if-is_ready.false), c.loop-slot.invariant.3)
]

pub shape_of-marks : goal.shape_of-marks
shape_of-marks g c = c.loop-slot.invariant.2.marks_n ∙ sym c.requires.0

pub shape_of-order : goal.shape_of-order
shape_of-order g c = c.loop-slot.invariant.3

pub returns : goal.returns
returns g c = let e : c.loop-slot.slot ≡ c.args.start = omega arith in (rw e at c.loop-slot.invariant.1, rw e at c.loop-slot.invariant.2)
