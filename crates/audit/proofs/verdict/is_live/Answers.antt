use mathlib.Core.Logic.{inl, inr}
-- `audit::verdict::is_live` meets its contract. Assumes nothing.
use Rattle.audit.specs.SpecialLaws.{live_vacant, live_found}
use Rattle.audit.proofs.verdict.is_live.Goals as goal

pub returns-then-view-slot-eq0 : goal.returns-then-view-slot-eq0
returns-then-view-slot-eq0 g c = live_vacant _ _ _ _ _ _ c.if-view-slot-eq0.true

pub returns-in-Full : goal.returns-in-Full
returns-in-Full g c = live_found _ _ _ _ _ _ c.if-view-slot-eq0.false _ c.word-identity.ensures _ _ c.find_ordinary.ensures c.in-Full.is

pub returns-in-Vacant : goal.returns-in-Vacant
returns-in-Vacant g c = elim c.in-Vacant.is [
  | inl v ↦ live_found _ _ _ _ _ _ c.if-view-slot-eq0.false _ c.word-identity.ensures _ _ c.find_ordinary.ensures v.2
  | inr r ↦ elim r [
    | inl v ↦ live_found _ _ _ _ _ _ c.if-view-slot-eq0.false _ c.word-identity.ensures _ _ c.find_ordinary.ensures v.2
    | inr v ↦ live_found _ _ _ _ _ _ c.if-view-slot-eq0.false _ c.word-identity.ensures _ _ c.find_ordinary.ensures v.1
  ]
]
