-- `audit_ready::ready::ends_at` meets its contract. Assumes nothing.
use mathlib.Core.Logic.{inl, inr}
use Rattle.audit.specs.ReadyLaws.{ends_found}
use Rattle.audit_ready.proofs.ready.ends_at.Goals as goal

pub returns-in-Vacant : goal.returns-in-Vacant
returns-in-Vacant g c = rw c.slot_of.ensures (ends_found _ _ _ _ c.find.ensures c.in-Vacant.is)

pub returns-in-Hit : goal.returns-in-Hit
returns-in-Hit g c = elim c.in-Hit.is [
  | inl v ↦ ends_found _ _ _ _ c.find.ensures v.2
  | inr r ↦ elim r [
    | inl v ↦ ends_found _ _ _ _ c.find.ensures v.1
    | inr v ↦ ends_found _ _ _ _ c.find.ensures v.1
  ]
]
