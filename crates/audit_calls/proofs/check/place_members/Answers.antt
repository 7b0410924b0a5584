-- `audit_calls::check::place_members` meets its contract. Assumes nothing.
use Rattle.audit_calls.specs.CheckLaws.{take_ends}
use Rattle.audit_calls.proofs.check.place_members.Goals as goal

pub returns-in-Some : goal.returns-in-Some
returns-in-Some g c = take_ends _ _ _ _ _ _ _ _ _ _ c.take_members-placed.ensures c.first_unplaced.ensures c.in-Some.is

pub returns-in-None : goal.returns-in-None
returns-in-None g c = take_ends _ _ _ _ _ _ _ _ _ _ c.take_members-placed.ensures c.first_unplaced.ensures c.in-None.is
