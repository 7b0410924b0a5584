-- Properties of lists of places: each of them, and the order of their slots. Assumes nothing.
use Rattle.std.specs.Prelude.{List, [], ◌∷◌, ℕ, ◌+◌, ◌≤◌, ◌<◌}
use Rattle.words.specs.declared.place.Place.{Place}
use Rattle.funnel.specs.Path.{slot_of}

-- every place has the property
unfoldable pub Every : (Place → Type 0) → List Place → Type 0
Every P [] = Unit {0}
Every P (p ∷ places) = P p × Every P places

-- the slots rise, none is below lo, and all are below hi
unfoldable pub Rising : (lo hi : ℕ) → List Place → Type 0
Rising lo hi [] = lo ≤ hi
Rising lo hi (p ∷ places) = (lo ≤ slot_of p) × Rising (slot_of p + 1) hi places

-- the slot of a place lies between two others
pub record Between (lo hi : ℕ) (p : Place) : Type 0 where
  pub from : lo ≤ slot_of p
  pub to : slot_of p < hi
