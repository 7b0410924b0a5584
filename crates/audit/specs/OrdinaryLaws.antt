-- Whether an ordinary slot is ready depends on smaller slots only: on a path they come in rising order, before every special one. Assumes nothing.
use Rattle.std.specs.Prelude.{Bool, ◌≡◌, ℕ, ◌+◌, ◌≤◌, ◌<◌, get_or, set, eqb, ltb, leb}
use Rattle.std.proofs.Math.Bool.{true, false}
use mathlib.Core.List.{List, [], ◌∷◌, ◌++◌}
use Rattle.std.proofs.Math.Path.{refl}
use Rattle.std.proofs.Common.{sym, ◌∙◌, arith, get_or-set_other}
use borrow.Author.Tests.{ne_eqb, ltb-true, ltb-false, leb-true, leb-false}
use Rattle.words.specs.declared.place.Place.{Place}
use Rattle.geometry.specs.Funnel.{IsPlan}
use Rattle.funnel.specs.declared.table.FunnelTable.{FunnelTable}
use Rattle.funnel.specs.Path.{Ending, full, refused, Path, slot_of, join_at, join, primary_start, fallback_start, path_of}
use Rattle.funnel.specs.PathLaws.{join_every, levels_rising, primary_between, fallback_between}
use Rattle.funnel.specs.Search.{look, walk_of, search_of, table_path, find_of}
use Rattle.funnel.specs.Every.{Every, Rising, Between}
use Rattle.funnel.specs.EveryLaws.{every_append, every_map, rising_between}
use Rattle.audit.specs.Greedy.{ready, unplaced, vacant_at}
use Rattle.audit.specs.ReadyLaws.{unplaced_facts, ready_placed, ready_exhausted, ready_by}

-- every slot is above s
abbrev Above : ℕ → List Place → Type 0
Above s places = Every (λ p. s < slot_of p) places

-- once a slot is above s, so are all after it
unfoldable Settles : ℕ → List Place → Type 0
Settles s [] = Unit {0}
Settles s (p ∷ places) = (s < slot_of p → Above s places) × Settles s places

settles_above : (s : ℕ) (places : List Place) → Above s places → Settles s places
unfolding Settles Every
settles_above s [] h = tt
settles_above s (p ∷ places) h = (λ l. h.1, settles_above s places h.1)

-- rising slots, and then some above s
settles_append : (s lo hi : ℕ) (places others : List Place) → Rising lo hi places → Above s others → Settles s (places ++ others)
unfolding Settles Rising
settles_append s lo hi [] others r h = settles_above s others h
settles_append s lo hi (p ∷ places) others r h = (
  λ l. every_append _ places others (every_map (Between (slot_of p + 1) hi) (λ q. s < slot_of q) (λ q b. omega (arith, b.from)) places (rising_between (slot_of p + 1) hi places r.1)) h,
  settles_append s (slot_of p + 1) hi places others r.1 h,
)

settles_rising : (s lo hi : ℕ) (places : List Place) → Rising lo hi places → Settles s places
unfolding Settles Rising
settles_rising s lo hi [] r = tt
settles_rising s lo hi (p ∷ places) r = (
  λ l. every_map (Between (slot_of p + 1) hi) (λ q. s < slot_of q) (λ q b. omega (arith, b.from)) places (rising_between (slot_of p + 1) hi places r.1),
  settles_rising s (slot_of p + 1) hi places r.1,
)

settles_join : (s lo hi : ℕ) (p q : Path) → Rising lo hi p.places → Above s q.places → Settles s (join p q).places
unfolding join
settles_join s lo hi p q r h = go p.ending
  where
    go : (e : Ending) → Settles s (join_at e p.places q).places
    go full = settles_append s lo hi p.places q.places r h
    go (refused refusal) = settles_rising s lo hi p.places r

path_settles : (table : FunnelTable) {counts : List ℕ} → IsPlan table.n table.e table.plan counts → (identity s : ℕ) → s < primary_start table.plan counts
    → Settles s (table_path table counts identity).places
unfolding path_of
path_settles table {counts} is identity s h =
    let seed = table.seed in
    let cap = table.word_cap in
    settles_join s _ _ _ _ (levels_rising is seed cap identity 0 table.plan.alpha (omega arith))
    (join_every (λ q. s < slot_of q) _ _
    (every_map (Between (primary_start table.plan counts) (fallback_start table.plan counts)) (λ q. s < slot_of q) (λ q b. omega (arith, b.from)) _ (primary_between is seed cap identity 0 table.plan.loglog_ceiling))
    (every_map (Between (fallback_start table.plan counts) table.n) (λ q. s < slot_of q) (λ q b. omega (arith, b.from)) _ (fallback_between is seed cap identity)))

-- ---- two tables that are alike up to a slot

module _ (words : List ℕ) (identity s : ℕ) where
  -- a walk above s does not end at s
  walk_above : (flags : List ℕ) (places : List Place) (ending : Ending) (k : ℕ) → Above s places → vacant_at s (walk_of words flags identity places ending k) ≡ false
  unfolding walk_of Every
  walk_above flags [] full k h = refl
  walk_above flags [] (refused refusal) k h = refl
  walk_above flags (p ∷ places) ending k h = go (eqb (get_or flags (slot_of p) 0) 0) (eqb (get_or words (slot_of p) 0) identity) (walk_above flags places ending (k + 1) h.1)
    where
      go : (x y : Bool) → vacant_at s (walk_of words flags identity places ending (k + 1)) ≡ false
          → vacant_at s (look x y (k + 1) p (walk_of words flags identity places ending (k + 1))) ≡ false
      go true y ih = ne_eqb _ _ (λ (e : slot_of p ≡ s). omega (arith, h.0))
      go false true ih = refl
      go false false ih = ih

  module _ (flags marks : List ℕ) (alike : (t : ℕ) → t ≤ s → get_or flags t 0 ≡ get_or marks t 0) where
    walk_alike : (places : List Place) (ending : Ending) (k : ℕ) → Settles s places
        → vacant_at s (walk_of words flags identity places ending k) ≡ vacant_at s (walk_of words marks identity places ending k)
    unfolding walk_of Settles Every
    walk_alike [] ending k h = refl
    walk_alike (p ∷ places) ending k h = go (ltb s (slot_of p)) refl (walk_alike places ending (k + 1) h.1)
      where
        step : (x y : Bool) → vacant_at s (walk_of words flags identity places ending (k + 1)) ≡ vacant_at s (walk_of words marks identity places ending (k + 1))
            → vacant_at s (look x y (k + 1) p (walk_of words flags identity places ending (k + 1))) ≡ vacant_at s (look x y (k + 1) p (walk_of words marks identity places ending (k + 1)))
        step true y ih = refl
        step false true ih = refl
        step false false ih = ih

        go : (b : Bool) → ltb s (slot_of p) ≡ b
            → vacant_at s (walk_of words flags identity places ending (k + 1)) ≡ vacant_at s (walk_of words marks identity places ending (k + 1))
            → vacant_at s (walk_of words flags identity (p ∷ places) ending k) ≡ vacant_at s (walk_of words marks identity (p ∷ places) ending k)
        go true e ih =
            let l : s < slot_of p = ltb-true _ _ e in
            let a : Above s (p ∷ places) = (l, h.0 l) in
            walk_above flags (p ∷ places) ending k a ∙ sym (walk_above marks (p ∷ places) ending k a)
        go false e ih =
            let l : slot_of p ≤ s = ltb-false _ _ e in
            rw (alike (slot_of p) l) (step (eqb (get_or marks (slot_of p) 0) 0) (eqb (get_or words (slot_of p) 0) identity) ih)

    pub find_alike : (table : FunnelTable) {counts : List ℕ} → IsPlan table.n table.e table.plan counts → s < primary_start table.plan counts
        → vacant_at s (find_of table counts words flags identity) ≡ vacant_at s (find_of table counts words marks identity)
    unfolding find_of search_of
    find_alike table is h = walk_alike _ _ 0 (path_settles table is identity s h)

-- an ordinary slot that is not ready is not ready when a larger slot is placed
module _ (table : FunnelTable) {counts : List ℕ} (is : IsPlan table.n table.e table.plan counts) (words flags marks : List ℕ) (placed s i : ℕ) where
  pub ready_later : s < primary_start table.plan counts → s < i → ready table counts words flags marks placed s ≡ false → ready table counts words flags (set marks i 1) (placed + 1) s ≡ false
  ready_later h l e = go (leb table.plan.maximum (placed + 1)) refl (unplaced flags (set marks i 1) s) refl
    where
      same : (t : ℕ) → t ≤ s → get_or marks t 0 ≡ get_or (set marks i 1) t 0
      same t b = sym (get_or-set_other marks i t 1 0 (λ q. omega arith))

      go : (b : Bool) → leb table.plan.maximum (placed + 1) ≡ b → (x : Bool) → unplaced flags (set marks i 1) s ≡ x → ready table counts words flags (set marks i 1) (placed + 1) s ≡ false
      go true m x u = ready_exhausted table counts words flags (set marks i 1) (placed + 1) s (leb-true _ _ m)
      go false m false u = ready_placed table counts words flags (set marks i 1) (placed + 1) s u
      go false m true u =
          let d = unplaced_facts flags (set marks i 1) s u in
          let room : placed + 1 < table.plan.maximum = leb-false _ _ m in
          let now = ready_by table counts words flags (set marks i 1) (placed + 1) s room d.0 d.1 _ refl in
          let before = ready_by table counts words flags marks placed s (omega arith) d.0 (same s (omega arith) ∙ d.1) _ refl in
          now ∙ sym (find_alike words (get_or words s 0) s marks (set marks i 1) same table is h) ∙ sym before ∙ e
