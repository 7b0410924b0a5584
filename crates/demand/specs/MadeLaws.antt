-- Laws of members and of the words of a placed part. Assumes nothing.
use Rattle.std.specs.Prelude.{Bool, true, false, List, [], ◌∷◌, ◌≡◌, refl, ℕ, zero, suc, ◌+◌, ◌≤◌, ◌<◌, length, get_or, set, replicate, eqb}
use Rattle.std.proofs.Common.{ap, arith, get_or-set_same, get_or-set_other, eq-eqb, ne_eqb, eqb-true}
use Rattle.std.proofs.Math.Decide.{ℕ_discrete}
use Rattle.std.proofs.lemmas.Bool.{eqb-false}
use Rattle.words.specs.Pick.{pick}
use Rattle.funnel.specs.Fresh.{occupied}
use Rattle.demand.specs.Made.{Occupied, members, placed_words}

-- ---- lists of flags

-- a slot of a list after a store
pub get_d_set_cases : (l : List ℕ) (i v t : ℕ) (P : ℕ → Type 0) → i < length l → (t ≡ i → P v) → ((t ≡ i → ⊥) → P (get_or l t 0)) → P (get_or (set l i v) t 0)
get_d_set_cases l i v t P h a b = go (ℕ_discrete t i)
  where
    go : Dec (t ≡ i) → P (get_or (set l i v) t 0)
    go (yes e) = rw (e, get_or-set_same l i v 0 h) (a e)
    go (no n) = rw (get_or-set_other l i t v 0 n) (b n)

-- an occupied slot is in the list
pub occupied_below : (l : List ℕ) (t : ℕ) → Occupied l t → t < length l
occupied_below [] t o = absurd (o refl)
occupied_below (x ∷ l) zero o = omega arith
occupied_below (x ∷ l) (suc t) o = let h = occupied_below l t o in omega arith

-- ---- members

pub members_most : (l : List ℕ) → members l ≤ length l
unfolding occupied
members_most [] = omega arith
members_most (x ∷ l) = go (eqb x 0) (members_most l)
  where
    go : (b : Bool) → members l ≤ length l → pick b 0 1 + members l ≤ suc (length l)
    go true h = omega arith
    go false h = omega arith

-- a part has no more members, and if it has as many it lacks none
pub members_part : (a b : List ℕ) → ((t : ℕ) → Occupied a t → Occupied b t) → members a ≤ members b
unfolding occupied
members_part [] b h = omega arith
members_part (x ∷ a) [] h = go (ℕ_discrete x 0) (members_part a [] (λ t. h (suc t)))
  where
    go : Dec (x ≡ 0) → members a ≤ 0 → pick (eqb x 0) 0 1 + members a ≤ 0
    go (yes e) i = rw (eq-eqb x 0 e) (omega arith)
    go (no n) i = absurd (h 0 n refl)
members_part (x ∷ a) (y ∷ b) h = go (eqb x 0) refl (eqb y 0) refl (members_part a b (λ t. h (suc t)))
  where
    go : (u : Bool) → eqb x 0 ≡ u → (v : Bool) → eqb y 0 ≡ v → members a ≤ members b → pick u 0 1 + members a ≤ pick v 0 1 + members b
    go true p true q i = omega arith
    go true p false q i = omega arith
    go false p false q i = omega arith
    go false p true q i = absurd (h 0 (eqb-false _ _ p) (eqb-true _ _ q))

pub members_whole : (a b : List ℕ) → ((t : ℕ) → Occupied a t → Occupied b t) → members b ≤ members a → (t : ℕ) → Occupied b t → Occupied a t
unfolding occupied
members_whole a [] h l t o = absurd (o refl)
members_whole [] (y ∷ b) h l zero o = go (eqb y 0) refl l
  where
    go : (v : Bool) → eqb y 0 ≡ v → pick v 0 1 + members b ≤ 0 → Occupied [] 0
    go true q l = absurd (o (eqb-true _ _ q))
    go false q l = absurd (omega arith)
members_whole [] (y ∷ b) h l (suc t) o = members_whole [] b (λ t n. absurd (n refl)) (omega arith) t o
members_whole (x ∷ a) (y ∷ b) h l t o = go (eqb x 0) refl (eqb y 0) refl l t o (λ m. members_whole a b (λ t. h (suc t)) m)
  where
    part : members a ≤ members b
    part = members_part a b (λ t. h (suc t))

    go : (u : Bool) → eqb x 0 ≡ u → (v : Bool) → eqb y 0 ≡ v → pick v 0 1 + members b ≤ pick u 0 1 + members a → (t : ℕ) → Occupied (y ∷ b) t
        → (members b ≤ members a → (t : ℕ) → Occupied b t → Occupied a t) → Occupied (x ∷ a) t
    go true p true q l zero o ih = absurd (o (eqb-true _ _ q))
    go true p true q l (suc t) o ih = ih (omega arith) t o
    go true p false q l t o ih = absurd (omega (arith, part))
    go false p v q l zero o ih = eqb-false _ _ p
    go false p true q l (suc t) o ih = absurd (h 0 (eqb-false _ _ p) (eqb-true _ _ q))
    go false p false q l (suc t) o ih = ih (omega arith) t o

-- ---- the words of a placed part

-- no word where nothing is marked
pub placed_none : (words : List ℕ) (n : ℕ) → length words ≡ n → placed_words words (replicate n 0) ≡ replicate n 0
unfolding placed_words
placed_none [] zero l = refl
placed_none [] (suc n) l = absurd (omega arith)
placed_none (w ∷ words) zero l = absurd (omega arith)
placed_none (w ∷ words) (suc n) l = ap (λ (x : List ℕ). 0 ∷ x) (placed_none words n (omega arith))

-- one slot more
pub placed_set : (words marks : List ℕ) (t : ℕ) → t < length words → length words ≡ length marks → set (placed_words words marks) t (get_or words t 0) ≡ placed_words words (set marks t 1)
unfolding placed_words
placed_set [] marks t h l = absurd (omega arith)
placed_set (w ∷ words) [] t h l = absurd (omega arith)
placed_set (w ∷ words) (m ∷ marks) zero h l = refl
placed_set (w ∷ words) (m ∷ marks) (suc t) h l = ap (λ (x : List ℕ). pick (eqb m 0) 0 w ∷ x) (placed_set words marks t (omega arith) (omega arith))

-- the marked words are the image's
pub placed_same : (words marks : List ℕ) (t : ℕ) → length words ≡ length marks → Occupied marks t → get_or (placed_words words marks) t 0 ≡ get_or words t 0
unfolding placed_words
placed_same [] marks t l o = refl
placed_same (w ∷ words) [] t l o = absurd (o refl)
placed_same (w ∷ words) (m ∷ marks) zero l o = rw (ne_eqb _ _ o)
placed_same (w ∷ words) (m ∷ marks) (suc t) l o = placed_same words marks t (omega arith) o

-- where vacant words are 0, the placed part of all the members is the image
pub placed_all : (words flags : List ℕ) → length words ≡ length flags → ((t : ℕ) → get_or flags t 0 ≡ 0 → get_or words t 0 ≡ 0) → placed_words words flags ≡ words
unfolding placed_words
placed_all [] flags l h = refl
placed_all (w ∷ words) [] l h = absurd (omega arith)
placed_all (w ∷ words) (f ∷ flags) l h = go (eqb f 0) refl (placed_all words flags (omega arith) (λ t. h (suc t)))
  where
    go : (b : Bool) → eqb f 0 ≡ b → placed_words words flags ≡ words → pick b 0 w ∷ placed_words words flags ≡ w ∷ words
    go true q ih = let z : w ≡ 0 = h 0 (eqb-true _ _ q) in cc
    go false q ih = cc
