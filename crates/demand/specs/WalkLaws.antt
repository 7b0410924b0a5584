-- Laws of walks along one path over two tables: what the walk depends on. Assumes nothing.
use Rattle.std.specs.Prelude.{Bool, ℕ, ◌+◌, ◌<◌}
use Rattle.std.proofs.Math.Bool.{true, false}
use mathlib.Core.List.{List, [], ◌∷◌}
use Rattle.std.proofs.Math.Path.{◌≡◌, refl}
use Rattle.std.proofs.Common.{◌∙◌, arith}
use Rattle.std.proofs.Math.Decide.{ℕ_discrete}
use Rattle.std.proofs.Math.ListN.{get_or}
use Rattle.std.proofs.Math.Dec.{eqb}
use borrow.Author.Tests.{eq-eqb, ne_eqb, eqb-false}
use Rattle.words.specs.declared.place.Place.{Place}
use Rattle.funnel.specs.declared.table.FunnelTable.{FunnelTable}
use Rattle.funnel.specs.declared.table.Search.TheVariants.{Vacant}
use Rattle.funnel.specs.Path.{Ending, full, refused, slot_of}
use Rattle.funnel.specs.Every.{Every}
use Rattle.funnel.specs.SearchLaws.{walk_vacant, every_reached}
use Rattle.funnel.specs.Search.{look, walk_of, search_of, table_path, find_of}
use Rattle.demand.specs.Made.{Occupied}

-- ---- over two tables that are alike where one is occupied

module _ (words words' flags : List ℕ) (identity : ℕ) (same : (t : ℕ) → Occupied flags t → get_or words' t 0 ≡ get_or words t 0) where
  walk_same : (places : List Place) (ending : Ending) (k : ℕ) → walk_of words' flags identity places ending k ≡ walk_of words flags identity places ending k
  unfolding walk_of
  walk_same [] ending k = refl
  walk_same (p ∷ places) ending k = go (ℕ_discrete (get_or flags (slot_of p) 0) 0) (walk_same places ending (k + 1))
    where
      go : Dec (get_or flags (slot_of p) 0 ≡ 0) → walk_of words' flags identity places ending (k + 1) ≡ walk_of words flags identity places ending (k + 1)
          → look (eqb (get_or flags (slot_of p) 0) 0) (eqb (get_or words' (slot_of p) 0) identity) (k + 1) p (walk_of words' flags identity places ending (k + 1))
          ≡ look (eqb (get_or flags (slot_of p) 0) 0) (eqb (get_or words (slot_of p) 0) identity) (k + 1) p (walk_of words flags identity places ending (k + 1))
      go (yes e) ih = rw (eq-eqb _ _ e)
      go (no n) ih = rw (same (slot_of p) n, ih)

  -- the words under flags that are not set play no part
  pub find_same : (table : FunnelTable) (counts : List ℕ) → find_of table counts words' flags identity ≡ find_of table counts words flags identity
  unfolding find_of search_of
  find_same table counts = walk_same _ _ 0

-- ---- over a table and a larger one

-- a table lies inside an image's placed part
pub record Inside (words' flags' words marks : List ℕ) : Type 0 where
  pub marked : (t : ℕ) → Occupied flags' t → Occupied marks t
  pub same : (t : ℕ) → Occupied flags' t → get_or words' t 0 ≡ get_or words t 0

-- a walk that ends vacant at a slot that is not placed ends so over the placed part
module _ (words' flags' words marks : List ℕ) (identity j : ℕ) (at : Place) (i : Inside words' flags' words marks) (h : get_or marks (slot_of at) 0 ≡ 0) where
  walk_over : (places : List Place) (ending : Ending) (k : ℕ) → walk_of words' flags' identity places ending k ≡ Vacant j at → walk_of words marks identity places ending k ≡ Vacant j at
  unfolding walk_of
  walk_over [] full k e = let z : ◌≡◌ {A = ℕ} 0 1 = cc in absurd (omega arith)
  walk_over [] (refused refusal) k e = let z : ◌≡◌ {A = ℕ} 0 1 = cc in absurd (omega arith)
  walk_over (p ∷ places) ending k e =
      go (eqb (get_or flags' (slot_of p) 0) 0) refl (eqb (get_or words' (slot_of p) 0) identity) refl e (walk_over places ending (k + 1))
    where
      go : (x : Bool) → eqb (get_or flags' (slot_of p) 0) 0 ≡ x → (y : Bool) → eqb (get_or words' (slot_of p) 0) identity ≡ y
          → look x y (k + 1) p (walk_of words' flags' identity places ending (k + 1)) ≡ Vacant j at
          → (walk_of words' flags' identity places ending (k + 1) ≡ Vacant j at → walk_of words marks identity places ending (k + 1) ≡ Vacant j at)
          → look (eqb (get_or marks (slot_of p) 0) 0) (eqb (get_or words (slot_of p) 0) identity) (k + 1) p (walk_of words marks identity places ending (k + 1)) ≡ Vacant j at
      go true ex y ey e ih = let m : p ≡ at = cc in rw (m, eq-eqb _ _ h) (rw m at e)
      go false ex true ey e ih = let z : ◌≡◌ {A = ℕ} 0 1 = cc in absurd (omega arith)
      go false ex false ey e ih =
          let o = eqb-false _ _ ex in
          let w : get_or words (slot_of p) 0 ≡ identity → ⊥ = λ q. eqb-false _ _ ey (i.same (slot_of p) o ∙ q) in
          rw (ne_eqb _ _ (i.marked (slot_of p) o), ne_eqb _ _ w) (ih e)

  pub find_over : (table : FunnelTable) (counts : List ℕ) → find_of table counts words' flags' identity ≡ Vacant j at → find_of table counts words marks identity ≡ Vacant j at
  unfolding find_of search_of
  find_over table counts e = walk_over _ _ 0 e

-- ---- the vacancy

-- every slot of a path is below n
abbrev pub Below : ℕ → List Place → Type 0
Below n places = Every (λ p. slot_of p < n) places

-- a slot that a search ends vacant at is vacant, and in the table
module _ (table : FunnelTable) (counts words flags : List ℕ) (identity j : ℕ) (at : Place) (e : find_of table counts words flags identity ≡ Vacant j at) where
  pub find_vacancy : get_or flags (slot_of at) 0 ≡ 0
  unfolding find_of search_of
  find_vacancy = (walk_vacant words flags identity _ _ 0 j at e).1

  pub find_below : (n : ℕ) → Below n (table_path table counts identity).places → slot_of at < n
  unfolding find_of search_of
  find_below n b = every_reached (λ q. slot_of q < n) (walk_vacant words flags identity _ _ 0 j at e).0 b
