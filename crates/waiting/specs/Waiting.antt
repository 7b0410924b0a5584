-- Which numbers wait on which: a number that is no candidate lies on the chain of the one it waits on. Assumes nothing.
use Rattle.std.specs.Prelude.{Bool, true, false, List, [], ◌∷◌, ◌⊎◌, ◌≡◌, ℕ, ◌+◌, ◌<◌}
use Rattle.waiting.specs.Links.{link, candidate, Fits, Beyond}

unfoldable pub In : ℕ → List ℕ → Type 0
In x [] = ⊥
In x (y ∷ ys) = (x ≡ y) ⊎ In x ys

-- a link leads to these numbers, one by one, and to none of them twice
unfoldable pub Linked : List ℕ → (m h : ℕ) → List ℕ → Type 0
Linked b m h [] = h ≡ 0
Linked b m h (x ∷ xs) = (h ≡ x + 1) × (In x xs → ⊥) × Linked b m (link b (m + x)) xs

-- no number waits on two
abbrev pub Unique : (ℕ → ℕ → Bool) → Type 0
Unique waits = (x u v : ℕ) → waits x u ≡ true → waits x v ≡ true → u ≡ v

-- what a number x on the chain of u is
pub record Member (waits : ℕ → ℕ → Bool) (pending : ℕ → Bool) (b : List ℕ) (m u x : ℕ) : Type 0 where
  pub small : x < m
  pub pends : pending x ≡ true
  pub idles : candidate b m x ≡ false
  pub waiting : waits x u ≡ true
  pub other : x ≡ u → ⊥

-- the chains of the numbers below m. Candidates and members of chains pend; what pends, is no candidate and waits lies on the chain of what it
-- waits on
pub record Waiting (waits : ℕ → ℕ → Bool) (pending : ℕ → Bool) (b : List ℕ) (m : ℕ) : Type 0 where
  pub lists : ℕ → List ℕ
  pub linked : (u : ℕ) → u < m → Linked b m (link b u) (lists u)
  pub members : (u x : ℕ) → u < m → In x (lists u) → Member waits pending b m u x
  pub settled : (x u : ℕ) → x < m → u < m → candidate b m x ≡ false → pending x ≡ true → waits x u ≡ true → In x (lists u)
  pub lively : (x : ℕ) → x < m → candidate b m x ≡ true → pending x ≡ true

-- some number may wait on some other
pub record Chained (b : List ℕ) (m : ℕ) : Type 0 where
  pub waits : ℕ → ℕ → Bool
  pub pending : ℕ → Bool
  pub unique : Unique waits
  pub waiting : Waiting waits pending b m

-- numbers that waited on c became candidates, up to where `head` leads: with 0, all of them
pub record Woken (before after : List ℕ) (m c head : ℕ) : Type 0 where
  pub fits : Fits after m
  pub beyond : Beyond before after m
  pub is_head : link after c ≡ head
  pub grown : (x : ℕ) → x < m → candidate before m x ≡ true → candidate after m x ≡ true
  pub kept : (waits : ℕ → ℕ → Bool) (pending : ℕ → Bool) → Unique waits → Waiting waits pending before m → Waiting waits pending after m
