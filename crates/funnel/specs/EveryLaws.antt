-- Laws of properties of lists of places. Assumes nothing.
use Rattle.std.specs.Prelude.{List, [], ◌∷◌, ◌++◌, ℕ, ◌+◌, ◌≤◌}
use Rattle.std.proofs.Common.{arith}
use Rattle.words.specs.declared.place.Place.{Place}
use Rattle.funnel.specs.Path.{slot_of}
use Rattle.funnel.specs.Every.{Every, Rising, Between}

pub every_append : (P : Place → Type 0) (places others : List Place) → Every P places → Every P others → Every P (places ++ others)
unfolding Every
every_append P [] others h k = k
every_append P (p ∷ places) others h k = (h.0, every_append P places others h.1 k)

-- of a place in the middle
pub every_middle : (P : Place → Type 0) (places others : List Place) (p : Place) → Every P (places ++ (p ∷ others)) → P p
unfolding Every
every_middle P [] others p h = h.0
every_middle P (q ∷ places) others p h = every_middle P places others p h.1

pub every_map : (P Q : Place → Type 0) → ((p : Place) → P p → Q p) → (places : List Place) → Every P places → Every Q places
unfolding Every
every_map P Q f [] h = tt
every_map P Q f (p ∷ places) h = (f p h.0, every_map P Q f places h.1)

-- what rises up to a bound stays below it
pub rising_bounds : (lo hi : ℕ) (places : List Place) → Rising lo hi places → lo ≤ hi
unfolding Rising
rising_bounds lo hi [] h = h
rising_bounds lo hi (p ∷ places) h = let r = rising_bounds (slot_of p + 1) hi places h.1 in let l = h.0 in omega arith

pub rising_lower : (lo less hi : ℕ) (places : List Place) → less ≤ lo → Rising lo hi places → Rising less hi places
unfolding Rising
rising_lower lo less hi [] l h = omega arith
rising_lower lo less hi (p ∷ places) l h = let f = h.0 in (omega arith, h.1)

pub rising_append : (lo mid hi : ℕ) (places others : List Place) → Rising lo mid places → Rising mid hi others → Rising lo hi (places ++ others)
unfolding Rising
rising_append lo mid hi [] others h k = rising_lower mid lo hi others h k
rising_append lo mid hi (p ∷ places) others h k = (h.0, rising_append (slot_of p + 1) mid hi places others h.1 k)

pub rising_between : (lo hi : ℕ) (places : List Place) → Rising lo hi places → Every (Between lo hi) places
unfolding Rising Every
rising_between lo hi [] h = tt
rising_between lo hi (p ∷ places) h =
    let f = h.0 in
    let b = rising_bounds (slot_of p + 1) hi places h.1 in
    (record { from = f; to = omega arith }, rising_between lo hi places (rising_lower (slot_of p + 1) lo hi places (omega arith) h.1))
