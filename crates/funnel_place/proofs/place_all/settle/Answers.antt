-- `funnel_place::place_all::settle` meets its contract. A slot that the levels settle is that of the whole search; else the insertion is made in full. Assumes nothing.
use native.Mathlib.Omega.{arith}
use Rattle.funnel.specs.StopLaws.{stopped_hit, stopped_vacant}
use Rattle.funnel.proofs.SettleLaws.{settles_by, settles_there, settles_put, vacant_slot}
use Rattle.funnel_place.proofs.place_all.settle.Goals as goal

pub returns-then-maximum-count : goal.returns-then-maximum-count
returns-then-maximum-count g c = settles_by c.put.ensures c.settled.ensures

pub put-requires-in-Vacant : goal.put-requires-in-Vacant
put-requires-in-Vacant g c = let l = vacant_slot c.requires.0 _ _ (stopped_vacant _ _ _ c.pass_levels.ensures _ c.in-Vacant.is) in omega arith

pub bounds-flags-at : goal.bounds-flags-at
bounds-flags-at g c = let l = vacant_slot c.requires.0 _ _ (stopped_vacant _ _ _ c.pass_levels.ensures _ c.in-Vacant.is) in omega arith

pub returns-in-Hit : goal.returns-in-Hit
returns-in-Hit g c = settles_there _ _ _ _ _ _ _ _ (stopped_hit _ _ _ c.pass_levels.ensures _ c.in-Hit.is)

pub returns-else-maximum-count : goal.returns-else-maximum-count
returns-else-maximum-count g c = rw c.put-in-Vacant.ensures (settles_put _ _ _ _ _ _ _ (omega (arith, c.if-maximum-count.false)) _ (stopped_vacant _ _ _ c.pass_levels.ensures _ c.in-Vacant.is))

pub returns-in-Nowhere : goal.returns-in-Nowhere
returns-in-Nowhere g c = settles_by c.put-in-Nowhere.ensures c.settled-in-Nowhere.ensures
