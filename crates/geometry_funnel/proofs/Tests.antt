-- A test answers a question where each of its outcomes does. Assumes nothing.
use Rattle.std.specs.Prelude.{Bool, true, false, ◌≡◌, refl, ℕ, ◌≤◌, ◌<◌, eqb, ltb}
use borrow.Author.Tests.{eqb-true, eqb-false, ltb-true, ltb-false}
use Rattle.geometry.specs.Says.{Says}

pub says_lt : (a b : ℕ) (P : Type 0) → (a < b → P) → (b ≤ a → P → ⊥) → Says (ltb a b) P
says_lt a b P holds denied = go (ltb a b) refl
  where
    go : (t : Bool) → ltb a b ≡ t → Says t P
    go true e = holds (ltb-true a b e)
    go false e = denied (ltb-false a b e)

pub says_eq : (a b : ℕ) (P : Type 0) → (a ≡ b → P) → ((a ≡ b → ⊥) → P → ⊥) → Says (eqb a b) P
says_eq a b P holds denied = go (eqb a b) refl
  where
    go : (t : Bool) → eqb a b ≡ t → Says t P
    go true e = holds (eqb-true a b e)
    go false e = denied (eqb-false a b e)
