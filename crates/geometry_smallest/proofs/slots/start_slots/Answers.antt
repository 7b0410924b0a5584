-- `geometry_smallest::slots::start_slots` meets its contract. Assumes nothing.
use Rattle.geometry_smallest.specs.SlotsLaws.{start_most}
use Rattle.geometry_smallest.proofs.slots.start_slots.Goals as goal

pub returns : goal.returns
returns c = rw (c.max-2.ensures, c.max.ensures) (start_most _ _ _ _ c.needed_slots.ensures)
