-- `gridder_place::placing::place_in` meets its contract. By how the table was entered, and by the room for the slots. Assumes nothing.
use mathlib.Core.Path.{sym, ◌∙◌}
use Rattle.gridder_state.specs.StateLaws.{holds_facts}
use Rattle.gridder_calls.specs.EnterLaws.{entry_open, entry_ready, valid_in}
use Rattle.gridder_place.specs.PlaceLaws.{room_facts, room_in, placement_refused, placement_narrow, placement_open}
use Rattle.gridder_place.proofs.placing.place_in.Goals as goal

pub returns-in-Err : goal.returns-in-Err
returns-in-Err c = placement_refused _ _ _ _ _ _ _ _ c.enter.ensures _ _ _ c.in-Err.is c.refuse.ensures

pub returns-then-not-room_for : goal.returns-then-not-room_for
returns-then-not-room_for c = placement_narrow _ _ _ _ _ _ _ _ c.enter.ensures _ _ _ c.in-Ok.is _ c.room_for.ensures c.if-not-room_for.true c.say_gate.ensures

pub place_all-all-requires : goal.place_all-all-requires
place_all-all-requires c =
    let a = c.args in
    let r = room_facts a.identities.now a.slots.now (sym c.room_for.ensures ∙ c.if-not-room_for.false) in
    (valid_in (entry_ready _ a.words.now a.flags.now a.answer.now _ _ c.enter.ensures _ c.in-Ok.is), room_in r)

pub write_count-requires : goal.write_count-requires
write_count-requires c = (holds_facts _ _ (entry_open _ c.args.words.now c.args.flags.now c.args.answer.now _ _ c.enter.ensures _ c.in-Ok.is).held).long

pub unwrap-requires : goal.unwrap-requires
unwrap-requires c =
    c.as_mut_array.ensures.variant.1 (entry_ready _ c.args.words.now c.args.flags.now c.args.answer.now _ _ c.enter.ensures _ c.in-Ok.is).room

pub returns-else-not-room_for : goal.returns-else-not-room_for
returns-else-not-room_for c =
    placement_open _ _ _ _ _ _ _ _ c.enter.ensures _ _ _ c.in-Ok.is _ c.room_for.ensures c.if-not-room_for.false _ _ _ _ _ _
    c.place_all-all.auto.words c.place_all-all.auto.slots c.place_all-all.ensures c.write_count.ensures c.say_placement.ensures
