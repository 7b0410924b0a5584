use Rattle.std.specs.Prelude.{Ok}
use mathlib.Core.Path.{refl, ◌∙◌, ap}
use native.Mathlib.Omega.{arith}
use Rattle.geometry.specs.FunnelLaws.{plan_facts}
use Rattle.funnel.proofs.PlaceLaws.{placing_none, placing_lengths, placing_put, placing_there, placing_refused, placing_all, placed_table}
use Rattle.funnel_place.proofs.PlaceAll.{settles_of}
use Rattle.funnel_place.proofs.place_all.place_all.Goals as goal
use Rattle.funnel_place.proofs.place_all.place_all.Goals.{in-Put, in-There}

pub loop-i-init : goal.loop-i-init
loop-i-init g c = (placing_none _ _ _ _ _ _ c.requires.0 c.requires.1, refl, refl)

pub word-identity-requires : goal.word-identity-requires
word-identity-requires g c = omega (arith, c.count-total.ensures, c.loop-i-test.true)

pub settle-requires : goal.settle-requires
settle-requires g c = (c.loop-i.invariant.0.valid, c.loop-i.invariant.0.most)

pub overflow_add-count : goal.overflow_add-count
overflow_add-count g c = let p = (placing_put _ _ _ _ _ _ c.loop-i.invariant.0 (omega (arith, c.count-total.ensures, c.loop-i-test.true)) _ _ _ (settles_of _ _ _ _ _ _ _ _ _ _ c.word-identity.ensures c.settle.ensures) _ (c.in-Ok.is ∙ ap Ok c.in-Put.is)).0 in
    let f = plan_facts c.loop-i.invariant.0.valid.planned in
    omega arith

pub put-requires : goal.put-requires
put-requires g c = let p = c.loop-i.invariant.0 in omega (arith, c.count-total.ensures, c.loop-i-test.true)

pub put-requires-in-There : goal.put-requires-in-There
put-requires-in-There g c = let p = c.loop-i.invariant.0 in omega (arith, c.count-total.ensures, c.loop-i-test.true)

pub loop-i-preserved : goal.loop-i-preserved
loop-i-preserved g c = elim c.match-settled.branch [
  | in-Put w ↦
      rw (w.slots-is, w.count-is) (
        rw w.put.ensures (placing_put _ _ _ _ _ _ c.loop-i.invariant.0 (omega (arith, c.count-total.ensures, c.loop-i-test.true)) _ _ _ (settles_of _ _ _ _ _ _ _ _ _ _ c.word-identity.ensures c.settle.ensures) _ (c.in-Ok.is ∙ ap Ok w.in-Put.is)).1,
        omega (arith, c.settle.auto.words, c.loop-i.invariant.1),
        omega (arith, w.put.auto.lent, c.loop-i.invariant.2),
      )
  | in-There w ↦
      rw (w.slots-is, w.count-is) (
        rw w.put-in-There.ensures (placing_there _ _ _ _ _ _ c.loop-i.invariant.0 (omega (arith, c.count-total.ensures, c.loop-i-test.true)) _ _ _ (settles_of _ _ _ _ _ _ _ _ _ _ c.word-identity.ensures c.settle.ensures) _ (c.in-Ok.is ∙ ap Ok w.in-There.is)),
        omega (arith, c.settle.auto.words, c.loop-i.invariant.1),
        omega (arith, w.put-in-There.auto.lent, c.loop-i.invariant.2),
      )
]

pub shape_of-words-in-Err : goal.shape_of-words-in-Err
shape_of-words-in-Err g c = omega (arith, c.settle.auto.words, c.loop-i.invariant.1)

pub shape_of-flags-in-Err : goal.shape_of-flags-in-Err
shape_of-flags-in-Err g c = (placing_lengths _ _ _ _ _ _ c.loop-i.invariant.0 (omega (arith, c.count-total.ensures, c.loop-i-test.true)) _ _ _ (settles_of _ _ _ _ _ _ _ _ _ _ c.word-identity.ensures c.settle.ensures)).1

pub shape_of-slots-in-Err : goal.shape_of-slots-in-Err
shape_of-slots-in-Err g c = c.loop-i.invariant.2

pub returns-in-Err : goal.returns-in-Err
returns-in-Err g c = placed_table _ _ _ _ _ _ _ c.with_count.ensures (placing_refused _ _ _ _ _ _ c.loop-i.invariant.0 (omega (arith, c.count-total.ensures, c.loop-i-test.true)) _ _ _ (settles_of _ _ _ _ _ _ _ _ _ _ c.word-identity.ensures c.settle.ensures) _ c.in-Err.is)

pub shape_of-words : goal.shape_of-words
shape_of-words g c = c.loop-i.invariant.1

pub shape_of-flags : goal.shape_of-flags
shape_of-flags g c = c.loop-i.invariant.0.same_flags

pub shape_of-slots : goal.shape_of-slots
shape_of-slots g c = c.loop-i.invariant.2

pub returns : goal.returns
returns g c = placed_table _ _ _ _ _ _ _ c.with_count-2.ensures (placing_all _ _ _ _ _ _ c.loop-i.invariant.0 (omega (arith, c.count-total.ensures, c.loop-i-test.false)))
