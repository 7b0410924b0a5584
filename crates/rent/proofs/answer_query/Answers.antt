-- `rent::answer_query` meets its contract. What is found has a slot for each cell. Assumes nothing.
use Rattle.geometry_smallest.specs.SmallestLaws.{found_fits}
use Rattle.rent.proofs.answer_query.Goals as goal

pub put_found-requires : goal.put_found-requires
put_found-requires c = found_fits _ _ _ _ _ _ _ _ c.in-Ok.is c.smallest_funnel.ensures
