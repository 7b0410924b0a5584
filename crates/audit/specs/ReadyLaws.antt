-- Laws of readiness: what it is by the search, and by its tests. Assumes nothing.
use Rattle.std.specs.Prelude.{Bool, List, ℕ, ◌≤◌, ◌<◌, get_or, leb}
use Rattle.std.proofs.Math.Bool.{true, false}
use Rattle.std.proofs.Math.Path.{◌≡◌, refl, ap, sym, subst}
use Rattle.std.proofs.Common.{◌∙◌, arith}
use Rattle.std.proofs.Math.Dec.{eqb}
use borrow.Author.Tests.{eq-eqb, ne_eqb, eqb-true, eqb-false, le-leb, lt-leb, leb-true, leb-false}
use Rattle.words.specs.Pick.{pick}
use Rattle.words.specs.declared.place.Place.{Place}
use Rattle.funnel.specs.declared.table.FunnelTable.{FunnelTable}
use Rattle.funnel.specs.declared.table.Search.{Search}
use Rattle.funnel.specs.declared.table.Search.TheVariants as search
use Rattle.funnel.specs.declared.table.Stop.{Stop}
use Rattle.funnel.specs.declared.table.Stop.TheVariants as stop
use Rattle.funnel.specs.Path.{slot_of}
use Rattle.funnel.specs.Search.{find_of}
use Rattle.funnel.specs.Stop.{HitAt, VacantAt, StopsAt}
use Rattle.funnel.proofs.InsertLaws.{find_count}
use Rattle.funnel.specs.Insert.{with_count, insert_by, insert_of}
use Rattle.audit.specs.Greedy.{unplaced, inserted_at, into_placed, ready, vacant_at}

-- ---- occupied and not placed

module _ (flags marks : List ℕ) (s : ℕ) where
  pub unplaced_yes : (get_or flags s 0 ≡ 0 → ⊥) → get_or marks s 0 ≡ 0 → unplaced flags marks s ≡ true
  unfolding unplaced
  unplaced_yes h e = rw (ne_eqb _ _ h, eq-eqb _ _ e)

  pub unplaced_vacant : get_or flags s 0 ≡ 0 → unplaced flags marks s ≡ false
  unfolding unplaced
  unplaced_vacant h = rw (eq-eqb _ _ h)

  pub unplaced_marked : (get_or marks s 0 ≡ 0 → ⊥) → unplaced flags marks s ≡ false
  unfolding unplaced
  unplaced_marked h = go (eqb (get_or flags s 0) 0)
    where
      go : (x : Bool) → pick x false (eqb (get_or marks s 0) 0) ≡ false
      go true = refl
      go false = ne_eqb _ _ h

  pub unplaced_facts : unplaced flags marks s ≡ true → (get_or flags s 0 ≡ 0 → ⊥) × (get_or marks s 0 ≡ 0)
  unfolding unplaced
  unplaced_facts e = go (eqb (get_or flags s 0) 0) refl e
    where
      go : (x : Bool) → eqb (get_or flags s 0) 0 ≡ x → pick x false (eqb (get_or marks s 0) 0) ≡ true → (get_or flags s 0 ≡ 0 → ⊥) × (get_or marks s 0 ≡ 0)
      go true q e = let z : ◌≡◌ {A = ℕ} 0 1 = cc in absurd (omega arith)
      go false q e = (eqb-false _ _ q, eqb-true _ _ e)

-- ---- readiness by the search

-- as the code finds it
pub ends_found : (s : ℕ) (r x y : Search) → r ≡ y → r ≡ x → vacant_at s x ≡ vacant_at s y
ends_found s r x y e q = ap (vacant_at s) (sym q ∙ e)

module _ (table : FunnelTable) (counts words flags marks : List ℕ) (placed s : ℕ) where
  -- below the maximum it is the search that decides
  pub into_search : placed < table.plan.maximum → (r : Search) → find_of table counts words marks (get_or words s 0) ≡ r
      → inserted_at s (into_placed table counts words marks placed (get_or words s 0)) ≡ vacant_at s r
  unfolding insert_of insert_by
  into_search h r e =
      ap (λ (x : Search). inserted_at s (insert_by (with_count table placed) words marks (get_or words s 0) x).answer) (find_count table placed counts words marks (get_or words s 0) ∙ e) ∙ go r
    where
      go : (r : Search) → inserted_at s (insert_by (with_count table placed) words marks (get_or words s 0) r).answer ≡ vacant_at s r
      go (search.Hit k p) = refl
      go (search.Vacant k p) = rw (lt-leb _ _ h)
      go (search.Full k) = rw (lt-leb _ _ h)
      go (search.Range refusal) = refl

  -- at the maximum nothing is ready
  pub into_exhausted : table.plan.maximum ≤ placed → inserted_at s (into_placed table counts words marks placed (get_or words s 0)) ≡ false
  unfolding insert_of insert_by
  into_exhausted h = go (find_of (with_count table placed) counts words marks (get_or words s 0))
    where
      go : (r : Search) → inserted_at s (insert_by (with_count table placed) words marks (get_or words s 0) r).answer ≡ false
      go (search.Hit k p) = refl
      go (search.Vacant k p) = rw (le-leb _ _ h)
      go (search.Full k) = rw (le-leb _ _ h)
      go (search.Range refusal) = refl

  pub ready_placed : unplaced flags marks s ≡ false → ready table counts words flags marks placed s ≡ false
  unfolding ready
  ready_placed h = rw h

  pub ready_vacant : get_or flags s 0 ≡ 0 → ready table counts words flags marks placed s ≡ false
  ready_vacant h = ready_placed (unplaced_vacant flags marks s h)

  pub ready_marked : (get_or marks s 0 ≡ 0 → ⊥) → ready table counts words flags marks placed s ≡ false
  ready_marked h = ready_placed (unplaced_marked flags marks s h)

  pub ready_exhausted : table.plan.maximum ≤ placed → ready table counts words flags marks placed s ≡ false
  unfolding ready
  ready_exhausted h = go (unplaced flags marks s)
    where
      go : (x : Bool) → pick x (inserted_at s (into_placed table counts words marks placed (get_or words s 0))) false ≡ false
      go true = into_exhausted h
      go false = refl

  pub ready_by : placed < table.plan.maximum → (get_or flags s 0 ≡ 0 → ⊥) → get_or marks s 0 ≡ 0 → (r : Search)
      → find_of table counts words marks (get_or words s 0) ≡ r → ready table counts words flags marks placed s ≡ vacant_at s r
  unfolding ready
  ready_by h o m r e = rw (unplaced_yes flags marks s o m) (into_search h r e)

  -- the same by the slot's identity, as the code reads it first
  module _ (h : placed < table.plan.maximum) (o : get_or flags s 0 ≡ 0 → ⊥) (m : get_or marks s 0 ≡ 0) (identity : ℕ) (is : identity ≡ get_or words s 0) where
    abbrev found : Search
    found = find_of table counts words marks identity

    by_found : (r : Search) → found ≡ r → ready table counts words flags marks placed s ≡ vacant_at s r
    by_found r e = ready_by h o m r (ap (find_of table counts words marks) (sym is) ∙ e)

    -- as a walk over the levels finds it
    pub ready_stopped : (r : Stop) (at : ℕ) → StopsAt r found (Unit {0}) → r ≡ stop.Vacant at → eqb at s ≡ ready table counts words flags marks placed s
    unfolding StopsAt
    ready_stopped r at e q =
        let v : VacantAt at found = subst (λ (x : Stop). StopsAt x found (Unit {0})) q e in
        ap (λ (x : ℕ). eqb x s) v.there ∙ sym (by_found _ v.is)

    pub ready_there : (r : Stop) (at : ℕ) → StopsAt r found (Unit {0}) → r ≡ stop.Hit at → false ≡ ready table counts words flags marks placed s
    unfolding StopsAt
    ready_there r at e q =
        let v : HitAt at found = subst (λ (x : Stop). StopsAt x found (Unit {0})) q e in
        sym (by_found _ v.is)

    -- as the whole search tells it
    pub ready_ends : (b : Bool) → b ≡ vacant_at s found → b ≡ ready table counts words flags marks placed s
    ready_ends b e = e ∙ sym (by_found found refl)

-- what a ready slot is
pub record Ready (table : FunnelTable) (counts words flags marks : List ℕ) (placed s : ℕ) : Type 0 where
  pub occupied : get_or flags s 0 ≡ 0 → ⊥
  pub unmarked : get_or marks s 0 ≡ 0
  pub room : placed < table.plan.maximum
  pub probes : ℕ
  pub place : Place
  pub at : slot_of place ≡ s
  pub found : find_of table counts words marks (get_or words s 0) ≡ search.Vacant probes place

pub ready_facts : (table : FunnelTable) (counts words flags marks : List ℕ) (placed s : ℕ) → ready table counts words flags marks placed s ≡ true → Ready table counts words flags marks placed s
unfolding ready
ready_facts table counts words flags marks placed s e =
    go (unplaced flags marks s) refl (leb table.plan.maximum placed) refl (find_of table counts words marks (get_or words s 0)) refl e
  where
    go : (x : Bool) → unplaced flags marks s ≡ x → (b : Bool) → leb table.plan.maximum placed ≡ b → (r : Search) → find_of table counts words marks (get_or words s 0) ≡ r
        → pick x (inserted_at s (into_placed table counts words marks placed (get_or words s 0))) false ≡ true → Ready table counts words flags marks placed s
    go false u b l r q e = let z : ◌≡◌ {A = ℕ} 0 1 = cc in absurd (omega arith)
    go true u true l r q e =
        let f = into_exhausted table counts words flags marks placed s (leb-true _ _ l) in
        let z : ◌≡◌ {A = ℕ} 0 1 = cc in
        absurd (omega arith)
    go true u false l r q e = by r q (sym (into_search table counts words flags marks placed s (leb-false _ _ l) r q) ∙ e)
      where
        by : (r : Search) → find_of table counts words marks (get_or words s 0) ≡ r → vacant_at s r ≡ true → Ready table counts words flags marks placed s
        by (search.Hit k p) q f = let z : ◌≡◌ {A = ℕ} 0 1 = cc in absurd (omega arith)
        by (search.Full k) q f = let z : ◌≡◌ {A = ℕ} 0 1 = cc in absurd (omega arith)
        by (search.Range refusal) q f = let z : ◌≡◌ {A = ℕ} 0 1 = cc in absurd (omega arith)
        by (search.Vacant k p) q f =
            let h = unplaced_facts flags marks s u in
            record { occupied = h.0; unmarked = h.1; room = leb-false _ _ l; probes = k; place = p; at = eqb-true _ _ f; found = q }
