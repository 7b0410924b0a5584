-- `audit_calls::check::audit` meets its contract. Assumes nothing.
use mathlib.Core.Path.{◌∙◌}
use Rattle.audit.specs.FirstLaws.{none_left}
use Rattle.audit_calls.specs.CheckLaws.{audit_dirty, audit_clean}
use Rattle.audit_calls.proofs.check.audit.Goals as goal

pub returns-in-Some : goal.returns-in-Some
returns-in-Some g c = audit_dirty _ _ _ _ _ _ _ c.first_dirty.ensures _ c.in-Some.is

pub returns : goal.returns
returns g c = c.place_members.ensures ∙ audit_clean _ _ _ _ _ _ _ c.first_dirty.ensures (none_left _ c.in_default.not-Some)
