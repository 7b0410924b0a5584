use Rattle.geometry.specs.FunnelLaws.{plan_facts}
use native.Mathlib.Omega.{arith}
use mathlib.Core.Path.{refl, sym, ◌∙◌}
use Rattle.audit.specs.FirstLaws.{none_left}
use Rattle.audit.specs.GreedyLaws.{valid_marks}
use Rattle.audit.specs.VerdictLaws.{special_room}
use Rattle.audit.specs.WaitsLaws.{doing_end, doing_chained, doing_stop, choice_within, marked_queue, doing_placed}
use Rattle.audit_special.proofs.special.take_live.Goals as goal

pub loop-placed-init : goal.loop-placed-init
loop-placed-init g c = (record { on = λ whole d. d }, refl)

pub next_live-requires : goal.next_live-requires
next_live-requires g c = (valid_marks c.requires.0 _ (c.loop-placed.invariant.0.on c.requires.2.whole c.requires.2.doing).size, c.requires.1, (c.loop-placed.invariant.0.on c.requires.2.whole c.requires.2.doing).fits)

pub overflow_sub-number : goal.overflow_sub-number
overflow_sub-number g c = (choice_within c.requires.0.planned c.requires.1 (special_room c.requires.0.planned c.requires.1) (c.loop-placed.invariant.0.on c.requires.2.whole c.requires.2.doing) c.next_live.ensures.0 c.next_live.ensures.1 c.in-Some.is).0

pub wake-requires : goal.wake-requires
wake-requires g c = (c.next_live.ensures.0.fits, (choice_within c.requires.0.planned c.requires.1 (special_room c.requires.0.planned c.requires.1) (c.loop-placed.invariant.0.on c.requires.2.whole c.requires.2.doing) c.next_live.ensures.0 c.next_live.ensures.1 c.in-Some.is).1, doing_chained c.requires.0.planned c.requires.1 (special_room c.requires.0.planned c.requires.1) (c.loop-placed.invariant.0.on c.requires.2.whole c.requires.2.doing) c.next_live.ensures.0)

pub bounds-marks-slot : goal.bounds-marks-slot
bounds-marks-slot g c = let l = c.wake.ensures.beyond.same_n ∙ c.next_live.ensures.0.beyond.same_n ∙ (c.loop-placed.invariant.0.on c.requires.2.whole c.requires.2.doing).size in let w = choice_within c.requires.0.planned c.requires.1 (special_room c.requires.0.planned c.requires.1) (c.loop-placed.invariant.0.on c.requires.2.whole c.requires.2.doing) c.next_live.ensures.0 c.next_live.ensures.1 c.in-Some.is in omega (arith, l, w.2)

pub overflow_mul-m : goal.overflow_mul-m
overflow_mul-m g c = let f = c.wake.ensures.fits.small in omega arith

pub remove-requires : goal.remove-requires
remove-requires g c = (marked_queue c.requires.0.planned c.requires.1 (special_room c.requires.0.planned c.requires.1) (c.loop-placed.invariant.0.on c.requires.2.whole c.requires.2.doing) c.next_live.ensures.0 c.next_live.ensures.1 c.in-Some.is c.wake.ensures, (choice_within c.requires.0.planned c.requires.1 (special_room c.requires.0.planned c.requires.1) (c.loop-placed.invariant.0.on c.requires.2.whole c.requires.2.doing) c.next_live.ensures.0 c.next_live.ensures.1 c.in-Some.is).1)

pub put-requires : goal.put-requires
put-requires g c = let g = (c.loop-placed.invariant.0.on c.requires.2.whole c.requires.2.doing).going.order_n in let l = c.loop-placed-test.true in omega (arith, g, l)

pub loop-placed-preserved : goal.loop-placed-preserved
loop-placed-preserved g c = (record { on = λ whole d. rw c.put.ensures (doing_placed c.requires.0.planned c.requires.1 (special_room c.requires.0.planned c.requires.1) (c.loop-placed.invariant.0.on whole d) c.next_live.ensures.0 c.next_live.ensures.1 c.in-Some.is c.wake.ensures c.remove.ensures c.loop-placed-test.true) }, omega (arith, c.put.auto.lent, c.loop-placed.invariant.1))

pub shape_of-marks-in_default : goal.shape_of-marks-in_default
shape_of-marks-in_default g c = c.next_live.ensures.0.beyond.same_n ∙ (c.loop-placed.invariant.0.on c.requires.2.whole c.requires.2.doing).size ∙ sym c.requires.0.flags_length

pub shape_of-order-in_default : goal.shape_of-order-in_default
shape_of-order-in_default g c = c.loop-placed.invariant.1

pub returns-in_default : goal.returns-in_default
returns-in_default g c = record { end = λ whole d. doing_stop c.requires.0.planned c.requires.1 (special_room c.requires.0.planned c.requires.1) (c.loop-placed.invariant.0.on whole d) c.next_live.ensures.0 _ c.next_live.ensures.1 (none_left _ c.in_default.not-Some) c.loop-placed-test.true }

pub shape_of-marks : goal.shape_of-marks
shape_of-marks g c = (c.loop-placed.invariant.0.on c.requires.2.whole c.requires.2.doing).size ∙ sym c.requires.0.flags_length

pub shape_of-order : goal.shape_of-order
shape_of-order g c = c.loop-placed.invariant.1

pub returns : goal.returns
returns g c = record { end = λ whole d. doing_end c.requires.0.planned c.requires.1 (special_room c.requires.0.planned c.requires.1) (c.loop-placed.invariant.0.on whole d) c.loop-placed-test.false }

pub overflow_add-placed : goal.overflow_add-placed
overflow_add-placed g c = let f = plan_facts c.requires.0.planned in let l = c.loop-placed-test.true in omega (arith, f.n_most, l)

pub loop-placed-smaller : goal.loop-placed-smaller
loop-placed-smaller g c = let l = c.loop-placed-test.true in omega (arith, l)
