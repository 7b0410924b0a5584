-- `audit_special::special::vacancy` meets its contract. Assumes nothing.
use Rattle.std.specs.Prelude.{Some}
use mathlib.Core.Logic.{inl, inr}
use mathlib.Core.Path.{refl, ap}
use Rattle.audit.specs.WaitsLaws.{vacancy_found}
use Rattle.audit_special.proofs.special.vacancy.Goals as goal

pub returns-in-Vacant : goal.returns-in-Vacant
returns-in-Vacant g c = vacancy_found c.args.part.now.table.now _ _ _ _ _ c.word-identity.ensures _ c.find_special.ensures _ c.in-Vacant.is _ (ap Some c.slot_of.ensures)

pub returns-in-Hit : goal.returns-in-Hit
returns-in-Hit g c = elim c.in-Hit.is [
  | inl v ↦ vacancy_found c.args.part.now.table.now _ _ _ _ _ c.word-identity.ensures _ c.find_special.ensures _ v.2 _ refl
  | inr r ↦ elim r [
    | inl v ↦ vacancy_found c.args.part.now.table.now _ _ _ _ _ c.word-identity.ensures _ c.find_special.ensures _ v.1 _ refl
    | inr v ↦ vacancy_found c.args.part.now.table.now _ _ _ _ _ c.word-identity.ensures _ c.find_special.ensures _ v.1 _ refl
  ]
]
