-- `funnel_search::search::find` meets its contract. What the walk settles is the answer of the whole search. Assumes nothing.
use native.Mathlib.Omega.{arith}
use Rattle.funnel.specs.StopLaws.{walked_hit, walked_vacant, walked_past, found_hit, found_vacant, levels_few}
use Rattle.funnel_search.proofs.search.find.Goals as goal

pub overflow_mul-level : goal.overflow_mul-level
overflow_mul-level g c = let h = walked_hit c.args.view.now.table.now _ _ _ _ _ c.walk.ensures _ _ _ _ c.in-Hit.is in omega (arith, h.probes)

pub halted-requires : goal.halted-requires
halted-requires g c = let h = walked_hit c.args.view.now.table.now _ _ _ _ _ c.walk.ensures _ _ _ _ c.in-Hit.is in (h.inside, h.slots, h.probes)

pub overflow_mul-level-in-Vacant : goal.overflow_mul-level-in-Vacant
overflow_mul-level-in-Vacant g c = let h = walked_vacant c.args.view.now.table.now _ _ _ _ _ c.walk.ensures _ _ _ _ c.in-Vacant.is in omega (arith, h.probes)

pub halted-requires-in-Vacant : goal.halted-requires-in-Vacant
halted-requires-in-Vacant g c = let h = walked_vacant c.args.view.now.table.now _ _ _ _ _ c.walk.ensures _ _ _ _ c.in-Vacant.is in (h.inside, h.slots, h.probes)

pub overflow_mul-view : goal.overflow_mul-view
overflow_mul-view g c = let f = levels_few c.args.view.now.valid in omega (arith, f)

pub search_special-requires : goal.search_special-requires
search_special-requires g c = walked_past c.args.view.now.table.now _ _ _ _ _ c.walk.ensures c.in-Past.is

pub returns-in-Hit : goal.returns-in-Hit
returns-in-Hit g c = found_hit _ _ _ _ _ _ c.walk.ensures _ _ _ _ _ c.halted.ensures c.in-Hit.is

pub returns-in-Vacant : goal.returns-in-Vacant
returns-in-Vacant g c = found_vacant _ _ _ _ _ _ c.walk.ensures _ _ _ _ _ c.halted-in-Vacant.ensures c.in-Vacant.is

pub returns-in-Past : goal.returns-in-Past
returns-in-Past g c = c.search_special.ensures

pub returns-in-Unsettled : goal.returns-in-Unsettled
returns-in-Unsettled g c = c.find_drawn.ensures
