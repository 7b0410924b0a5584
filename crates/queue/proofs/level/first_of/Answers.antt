-- `queue::level::first_of` meets its contract. Assumes nothing.
use Rattle.queue.specs.LevelLaws.{group_found, group_none}
use Rattle.queue.proofs.level.first_of.Goals as goal

pub returns-then-found-to : goal.returns-then-found-to
returns-then-found-to c = group_found c.group_end-end.ensures _ c.first_set-found.ensures c.if-found-to.true

pub returns : goal.returns
returns c = group_none c.group_end-end.ensures _ c.first_set-found.ensures c.if-found-to.false
