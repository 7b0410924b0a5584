use native.Mathlib.Omega.{arith}
use mathlib.Core.Path.{◌∙◌}
use Rattle.geometry.specs.FunnelLaws.{plan_facts}
use Rattle.audit.specs.FirstLaws.{none_left}
use Rattle.audit.specs.GreedyLaws.{valid_marks}
use Rattle.audit.specs.VerdictLaws.{special_room}
use Rattle.audit.specs.WaitsLaws.{turned_none, chosen_full, chosen_none, smallest_below, chosen_at, end_within, turned_filed, filed_fewer, turned_dropped, dropped_fewer}
use Rattle.audit_special.proofs.special.next_live.Goals as goal

pub returns-then-table-placed : goal.returns-then-table-placed
returns-then-table-placed g c = (turned_none _ _ _ _ _ c.requires.2, chosen_full _ _ _ _ _ _ _ c.if-table-placed.true)

pub loop-number-init : goal.loop-number-init
loop-number-init g c = turned_none _ _ _ _ _ c.requires.2

pub overflow_mul-m : goal.overflow_mul-m
overflow_mul-m g c = let f = c.loop-number.invariant.fits.small in omega arith

pub smallest-requires : goal.smallest-requires
smallest-requires g c = c.loop-number.invariant.fits.queue

pub returns : goal.returns
returns g c = (c.loop-number.invariant, chosen_none _ _ _ _ _ _ _ _ c.smallest.ensures (none_left _ c.in_default.not-Some))

pub overflow_add-slot : goal.overflow_add-slot
overflow_add-slot g c = let s = smallest_below c.requires.0.planned c.requires.1 (special_room c.requires.0.planned c.requires.1) c.loop-number.invariant _ c.smallest.ensures c.in-Some.is in let r = special_room c.requires.0.planned c.requires.1 in let f = plan_facts c.requires.0.planned in omega (arith, s, r.parts, f.n_most)

pub invariant_of-part : goal.invariant_of-part
invariant_of-part g c = record { valid = valid_marks c.requires.0 _ (c.loop-number.invariant.beyond.same_n ∙ c.requires.0.flags_length) }

pub vacancy-requires : goal.vacancy-requires
vacancy-requires g c = let s = smallest_below c.requires.0.planned c.requires.1 (special_room c.requires.0.planned c.requires.1) c.loop-number.invariant _ c.smallest.ensures c.in-Some.is in let r = special_room c.requires.0.planned c.requires.1 in (c.requires.1, omega (arith, s, r.parts))

pub overflow_mul-m-in-None : goal.overflow_mul-m-in-None
overflow_mul-m-in-None g c = let f = c.loop-number.invariant.fits.small in omega arith

pub remove-requires : goal.remove-requires
remove-requires g c = (c.loop-number.invariant.fits.queue, smallest_below c.requires.0.planned c.requires.1 (special_room c.requires.0.planned c.requires.1) c.loop-number.invariant _ c.smallest.ensures c.in-Some.is)

pub loop-number-smaller-in-None : goal.loop-number-smaller-in-None
loop-number-smaller-in-None g c = dropped_fewer c.requires.0.planned c.requires.1 (special_room c.requires.0.planned c.requires.1) c.loop-number.invariant _ c.smallest.ensures c.in-Some.is _ c.vacancy.ensures c.remove.ensures

pub loop-number-preserved-in-None : goal.loop-number-preserved-in-None
loop-number-preserved-in-None g c = turned_dropped c.requires.0.planned c.requires.1 (special_room c.requires.0.planned c.requires.1) c.loop-number.invariant _ c.smallest.ensures c.in-Some.is _ c.vacancy.ensures c.in-None.is c.remove.ensures

pub shape_of-marks-then-end-slot : goal.shape_of-marks-then-end-slot
shape_of-marks-then-end-slot g c = c.loop-number.invariant.beyond.same_n

pub returns-then-end-slot : goal.returns-then-end-slot
returns-then-end-slot g c = (c.loop-number.invariant, chosen_at c.requires.0.planned c.requires.1 (special_room c.requires.0.planned c.requires.1) c.loop-number.invariant _ c.smallest.ensures c.in-Some.is _ c.vacancy.ensures _ _ c.in-Some-vacancy.is c.if-end-slot.true c.if-table-placed.false)

pub overflow_sub-end : goal.overflow_sub-end
overflow_sub-end g c = let w = end_within c.requires.0.planned c.requires.1 (special_room c.requires.0.planned c.requires.1) c.loop-number.invariant _ c.smallest.ensures c.in-Some.is _ c.vacancy.ensures _ c.in-Some-vacancy.is in omega (arith, w.0)

pub file-requires : goal.file-requires
file-requires g c = (c.loop-number.invariant.fits, smallest_below c.requires.0.planned c.requires.1 (special_room c.requires.0.planned c.requires.1) c.loop-number.invariant _ c.smallest.ensures c.in-Some.is, (end_within c.requires.0.planned c.requires.1 (special_room c.requires.0.planned c.requires.1) c.loop-number.invariant _ c.smallest.ensures c.in-Some.is _ c.vacancy.ensures _ c.in-Some-vacancy.is).1)

pub loop-number-smaller : goal.loop-number-smaller
loop-number-smaller g c = filed_fewer c.requires.0.planned c.requires.1 (special_room c.requires.0.planned c.requires.1) c.loop-number.invariant _ c.smallest.ensures c.in-Some.is _ c.vacancy.ensures _ c.file.ensures

pub loop-number-preserved : goal.loop-number-preserved
loop-number-preserved g c = turned_filed c.requires.0.planned c.requires.1 (special_room c.requires.0.planned c.requires.1) c.loop-number.invariant _ c.smallest.ensures c.in-Some.is _ c.vacancy.ensures _ c.in-Some-vacancy.is c.if-end-slot.false c.file.ensures
