-- `elastic_insert::insert::place` meets its contract: the slot that is chosen is vacant and lies in its level, so all writes are within bounds. Assumes nothing.
use mathlib.Core.Path.{sym, refl}
use native.Mathlib.Omega.{arith}
use Rattle.elastic_steps.specs.InsertLaws.{choose_taken, taken_storable, taken_offset, taken_asked, place_refused, place_position, place_inserted}
use Rattle.elastic_insert.proofs.insert.place.Goals as goal

pub returns-in-Err : goal.returns-in-Err
returns-in-Err g c = place_refused _ _ _ _ _ _ c.in-Err.ensures _ refl

pub position_of-position-requires : goal.position_of-position-requires
position_of-position-requires g c = let t = choose_taken _ _ _ _ c.requires _ _ _ _ _ (sym c.in-Ok.ensures) in (t.few, t.in_time)

pub returns-then-st-position : goal.returns-then-st-position
returns-then-st-position g c = place_position _ _ _ _ _ _ c.in-Ok.ensures _ _ _ _ _ refl c.position_of-position.ensures c.if-st-position.true

pub store-requires : goal.store-requires
store-requires g c =
    let v = c.requires in
    let t = choose_taken _ _ _ _ c.requires _ _ _ _ _ (sym c.in-Ok.ensures) in
    (taken_storable v t, omega (arith, t.below, v.words_size), omega (arith, t.below, v.flags_size))

pub taken-requires : goal.taken-requires
taken-requires g c =
    let t = choose_taken _ _ _ _ c.requires _ _ _ _ _ (sym c.in-Ok.ensures) in
    taken_asked c.requires t

pub returns-else-st-position : goal.returns-else-st-position
returns-else-st-position g c =
    let t = choose_taken _ _ _ _ c.requires _ _ _ _ _ (sym c.in-Ok.ensures) in
    let s = c.store.ensures in
    place_inserted _ _ _ _ _ _ c.in-Ok.ensures _ _ _ _ _ refl c.position_of-position.ensures _ c.if-st-position.false (taken_offset c.requires t) c.taken.ensures.0 c.taken.ensures.1 s.0 s.1 s.2
