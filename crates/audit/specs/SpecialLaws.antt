-- A special slot is ready if it is live and its special part says so; which are live, the ordinary marks alone decide. Assumes nothing.
use Rattle.std.specs.Prelude.{Bool, ◌≡◌, ℕ, zero, suc, ◌+◌, ◌*◌, ◌-◌, ◌≤◌, ◌<◌, length, get_or, set, leb}
use Rattle.std.proofs.Math.Bool.{true, false}
use mathlib.Core.List.{List, [], ◌∷◌}
use Rattle.std.proofs.Math.Path.{refl, ap, sym}
use Rattle.std.proofs.Common.{◌∙◌, arith, get_or-set_other}
use Rattle.std.proofs.Math.Dec.{eqb}
use borrow.Author.Tests.{eq-eqb, ne_eqb, eqb-true, eqb-false, leb-true, leb-false}
use Rattle.words.specs.Pick.{pick}
use Rattle.words.specs.declared.place.Place.{Place}
use Rattle.geometry.specs.Funnel.{IsPlan}
use Rattle.geometry.specs.FunnelLaws.{plan_facts}
use Rattle.funnel.specs.declared.table.FunnelTable.{FunnelTable}
use Rattle.funnel.specs.declared.table.Search.{Search}
use Rattle.funnel.specs.declared.table.Search.TheVariants as search
use Rattle.funnel.specs.Path.{Ending, full, refused, Path, slot_of, primary_start, fallback_start, primary_from, fallback_of}
use Rattle.funnel.specs.PathLaws.{primary_length, join_every, levels_rising, primary_between, fallback_between}
use Rattle.funnel.specs.Search.{look, walk_of, search_of, find_of}
use Rattle.funnel.specs.SearchLaws.{resume, search_join, search_full, walk_vacant, every_reached}
use Rattle.funnel.specs.ReadingLaws.{walk_agrees}
use Rattle.funnel.specs.FindLaws.{find_levels, primary_room_of, fallback_room_of}
use Rattle.funnel.specs.PlanLaws.{primary_start_lem, primary_room}
use Rattle.funnel.specs.Valid.{Valid, SpecialRoom}
use Rattle.funnel.specs.Every.{Every, Between}
use Rattle.funnel.specs.EveryLaws.{every_map, rising_between}
use Rattle.audit.specs.Greedy.{ready, vacant_at}
use Rattle.audit.specs.ReadyLaws.{ready_vacant, ready_marked, ready_exhausted, ready_by}
use Rattle.audit.specs.Special.{ordinary_path, special_path, goes_on, live, ready_past}

-- ---- searches over marks that are alike on their path

module _ (words : List ℕ) (identity : ℕ) (flags marks : List ℕ) where
  search_alike : (p : Path) (k : ℕ) → Every (λ q. get_or flags (slot_of q) 0 ≡ get_or marks (slot_of q) 0) p.places
      → search_of words flags identity p k ≡ search_of words marks identity p k
  unfolding search_of
  search_alike p k h =
      walk_agrees words flags words marks identity p.places p.ending k
      (every_map _ _ (λ q e. record { to = λ z. sym e ∙ z; from = λ z. e ∙ z; same = λ n. refl }) p.places h)

module _ (table : FunnelTable) {counts : List ℕ} (is : IsPlan table.n table.e table.plan counts) where
  -- every ordinary slot of a path is below the special part
  ordinary_below : (identity : ℕ) → Every (λ q. slot_of q < primary_start table.plan counts) (ordinary_path table counts identity).places
  ordinary_below identity =
      every_map (Between _ (primary_start table.plan counts)) _ (λ q b. b.to) _
      (rising_between _ _ _ (levels_rising is table.seed table.word_cap identity 0 table.plan.alpha (omega arith)))

  -- and every special one is in it
  special_between : (identity : ℕ) → Every (Between (primary_start table.plan counts) table.n) (special_path table (primary_start table.plan counts) identity).places
  special_between identity =
      let r = primary_room is in
      join_every (Between (primary_start table.plan counts) table.n) _ _
      (every_map (Between (primary_start table.plan counts) (fallback_start table.plan counts)) _ (λ q b. record { from = b.from; to = omega (arith, b.to) }) _
      (primary_between is table.seed table.word_cap identity 0 table.plan.loglog_ceiling))
      (every_map (Between (fallback_start table.plan counts) table.n) _ (λ q b. record { from = omega (arith, b.from); to = b.to }) _
      (fallback_between is table.seed table.word_cap identity))

  module _ (words flags marks others : List ℕ) where
    -- which slots are live, the ordinary marks decide
    pub live_alike : ((i : ℕ) → i < primary_start table.plan counts → get_or marks i 0 ≡ get_or others i 0) → (s : ℕ)
        → live table counts words flags marks s ≡ live table counts words flags others s
    unfolding live
    live_alike alike s =
        ap (λ (r : Search). pick (eqb (get_or flags s 0) 0) false (goes_on r))
        (search_alike words (get_or words s 0) marks others (ordinary_path table counts (get_or words s 0)) 0
        (every_map _ _ (λ q l. alike (slot_of q) l) _ (ordinary_below (get_or words s 0))))

  module _ (words marks : List ℕ) (start identity : ℕ) (at : start ≡ primary_start table.plan counts) where
    -- and past them the special marks
    pub special_alike : (others : List ℕ) → ((i : ℕ) → start ≤ i → get_or marks i 0 ≡ get_or others i 0)
        → search_of words marks identity (special_path table start identity) 0 ≡ search_of words others identity (special_path table start identity) 0
    special_alike others alike =
        search_alike words identity marks others (special_path table start identity) 0
        (rw at (every_map _ _ (λ q b. alike (slot_of q) (omega (arith, b.from))) _ (special_between identity)))

    -- a vacancy that such a search ends at is special
    pub special_vacant : (k : ℕ) (p : Place) → search_of words marks identity (special_path table start identity) 0 ≡ search.Vacant k p → Between start table.n p
    unfolding search_of
    special_vacant k p e =
        every_reached (Between start table.n) (walk_vacant words marks identity _ _ 0 k p e).0 (rw at (special_between identity))

-- ---- where a walk ends does not depend on the readings made before

module _ (words flags : List ℕ) (identity s : ℕ) where
  vacant_count : (places : List Place) (e : Ending) (k j : ℕ) → vacant_at s (walk_of words flags identity places e k) ≡ vacant_at s (walk_of words flags identity places e j)
  unfolding walk_of
  vacant_count [] full k j = refl
  vacant_count [] (refused refusal) k j = refl
  vacant_count (p ∷ places) e k j = go (eqb (get_or flags (slot_of p) 0) 0) (eqb (get_or words (slot_of p) 0) identity) (vacant_count places e (k + 1) (j + 1))
    where
      go : (x y : Bool) → vacant_at s (walk_of words flags identity places e (k + 1)) ≡ vacant_at s (walk_of words flags identity places e (j + 1))
          → vacant_at s (look x y (k + 1) p (walk_of words flags identity places e (k + 1))) ≡ vacant_at s (look x y (j + 1) p (walk_of words flags identity places e (j + 1)))
      go true y ih = refl
      go false true ih = refl
      go false false ih = ih

-- ---- a slot marked changes no walk that does not end there

set_marked : (marks : List ℕ) (v i : ℕ) → (get_or marks i 0 ≡ 0 → ⊥) → get_or (set marks v 1) i 0 ≡ 0 → ⊥
set_marked [] v i h e = h e
set_marked (a ∷ marks) zero zero h e = omega arith
set_marked (a ∷ marks) zero (suc i) h e = h e
set_marked (a ∷ marks) (suc v) zero h e = h e
set_marked (a ∷ marks) (suc v) (suc i) h e = set_marked marks v i h e

module _ (words marks : List ℕ) (identity v : ℕ) where
  walk_marked : (places : List Place) (e : Ending) (k : ℕ) → vacant_at v (walk_of words marks identity places e k) ≡ false
      → walk_of words (set marks v 1) identity places e k ≡ walk_of words marks identity places e k
  unfolding walk_of
  walk_marked [] e k h = refl
  walk_marked (p ∷ places) e k h =
      go (eqb (get_or marks (slot_of p) 0) 0) refl (eqb (get_or words (slot_of p) 0) identity) h (walk_marked places e (k + 1))
    where
      go : (x : Bool) → eqb (get_or marks (slot_of p) 0) 0 ≡ x → (y : Bool) → vacant_at v (look x y (k + 1) p (walk_of words marks identity places e (k + 1))) ≡ false
          → (vacant_at v (walk_of words marks identity places e (k + 1)) ≡ false → walk_of words (set marks v 1) identity places e (k + 1) ≡ walk_of words marks identity places e (k + 1))
          → look (eqb (get_or (set marks v 1) (slot_of p) 0) 0) y (k + 1) p (walk_of words (set marks v 1) identity places e (k + 1))
          ≡ look x y (k + 1) p (walk_of words marks identity places e (k + 1))
      go true q y h ih = rw (get_or-set_other marks v (slot_of p) 1 0 (eqb-false _ _ h), q)
      go false q true h ih = rw (ne_eqb _ _ (set_marked marks v (slot_of p) (eqb-false _ _ q)))
      go false q false h ih = rw (ne_eqb _ _ (set_marked marks v (slot_of p) (eqb-false _ _ q))) (ih h)

pub search_marked : (words marks : List ℕ) (identity v : ℕ) (p : Path) (k : ℕ) → vacant_at v (search_of words marks identity p k) ≡ false
    → search_of words (set marks v 1) identity p k ≡ search_of words marks identity p k
unfolding search_of
search_marked words marks identity v p k h = walk_marked words marks identity v p.places p.ending k h

-- ---- readiness by the two parts

module _ (table : FunnelTable) {counts : List ℕ} (is : IsPlan table.n table.e table.plan counts) (words flags marks : List ℕ) (placed s : ℕ) where
  -- a search that ends in the ordinary part is not vacant at a special slot
  vacant_past : primary_start table.plan counts ≤ s → (r : Search) → r ≡ search_of words marks (get_or words s 0) (ordinary_path table counts (get_or words s 0)) 0
      → vacant_at s (find_of table counts words marks (get_or words s 0))
      ≡ pick (goes_on r) (vacant_at s (search_of words marks (get_or words s 0) (special_path table (primary_start table.plan counts) (get_or words s 0)) 0)) false
  unfolding resume search_of
  vacant_past l r e = ap (vacant_at s) (find_levels table counts words marks (get_or words s 0) r e) ∙ go r e
    where
      go : (r : Search) → r ≡ search_of words marks (get_or words s 0) (ordinary_path table counts (get_or words s 0)) 0
          → vacant_at s (resume words marks (get_or words s 0) (special_path table (primary_start table.plan counts) (get_or words s 0)) r)
          ≡ pick (goes_on r) (vacant_at s (search_of words marks (get_or words s 0) (special_path table (primary_start table.plan counts) (get_or words s 0)) 0)) false
      go (search.Hit k p) q = refl
      go (search.Range refusal) q = refl
      go (search.Full k) q = vacant_count words marks (get_or words s 0) s _ _ k 0
      go (search.Vacant k p) q =
          let b : slot_of p < primary_start table.plan counts =
          every_reached (λ x. slot_of x < primary_start table.plan counts) (walk_vacant words marks (get_or words s 0) _ _ 0 k p (sym q)).0 (ordinary_below table is (get_or words s 0)) in
          ne_eqb _ _ (λ (z : slot_of p ≡ s). omega arith)

  pub ready_live : primary_start table.plan counts ≤ s
      → ready table counts words flags marks placed s ≡ pick (live table counts words flags marks s) (ready_past table words marks (primary_start table.plan counts) placed s) false
  unfolding live ready_past
  ready_live l = go (eqb (get_or flags s 0) 0) refl (eqb (get_or marks s 0) 0) refl (leb table.plan.maximum placed) refl (goes_on r) refl
    where
      r : Search
      r = search_of words marks (get_or words s 0) (ordinary_path table counts (get_or words s 0)) 0

      past : Bool
      past = vacant_at s (search_of words marks (get_or words s 0) (special_path table (primary_start table.plan counts) (get_or words s 0)) 0)

      go : (x : Bool) → eqb (get_or flags s 0) 0 ≡ x → (y : Bool) → eqb (get_or marks s 0) 0 ≡ y → (m : Bool) → leb table.plan.maximum placed ≡ m → (g : Bool) → goes_on r ≡ g
          → ready table counts words flags marks placed s ≡ pick (pick x false g) (pick y (pick m false past) false) false
      go true ex y ey m em g eg = ready_vacant table counts words flags marks placed s (eqb-true _ _ ex)
      go false ex false ey m em true eg = ready_marked table counts words flags marks placed s (eqb-false _ _ ey)
      go false ex false ey m em false eg = ready_marked table counts words flags marks placed s (eqb-false _ _ ey)
      go false ex true ey true em true eg = ready_exhausted table counts words flags marks placed s (leb-true _ _ em)
      go false ex true ey true em false eg = ready_exhausted table counts words flags marks placed s (leb-true _ _ em)
      go false ex true ey false em g eg =
          ready_by table counts words flags marks placed s (leb-false _ _ em) (eqb-false _ _ ex) (eqb-true _ _ ey) _ refl ∙ vacant_past l r refl ∙ by g eg
        where
          by : (g : Bool) → goes_on r ≡ g → pick (goes_on r) past false ≡ pick (pick false false g) (pick true (pick false false past) false) false
          by true e = rw e
          by false e = rw e

-- ---- as the code tests it

module _ (table : FunnelTable) (counts words flags marks : List ℕ) (s : ℕ) where
  pub live_vacant : get_or flags s 0 ≡ 0 → false ≡ live table counts words flags marks s
  unfolding live
  live_vacant h = rw (eq-eqb _ _ h)

  -- by the slot's identity, as the code reads it first
  pub live_found : (get_or flags s 0 ≡ 0 → ⊥) → (identity : ℕ) → identity ≡ get_or words s 0 → (r x : Search)
      → r ≡ search_of words marks identity (ordinary_path table counts identity) 0 → r ≡ x → goes_on x ≡ live table counts words flags marks s
  unfolding live
  live_found h identity is r x e q = rw (ne_eqb _ _ h, ← is, ← e, q)

-- ---- the two special stages put together

module _ {table : FunnelTable} {counts words marks : List ℕ} (valid : Valid table counts words marks) (start identity : ℕ) (is : start ≡ primary_start table.plan counts) where
  begins : start ≡ table.n - table.plan.special_len
  begins = is ∙ primary_start_lem valid.planned

  pub special_primary : SpecialRoom table start table.plan.special_primary_len (length words) (length marks) 0
  special_primary = rw begins (primary_room_of valid 0 (omega arith))

  module _ (r : Search) (is-r : r ≡ search_of words marks identity (primary_from table.plan start table.seed table.word_cap identity 0 table.plan.loglog_ceiling) 0) where
    pub special_resume : resume words marks identity (fallback_of table.plan (start + table.plan.special_primary_len) table.seed table.word_cap identity) r
        ≡ search_of words marks identity (special_path table start identity) 0
    special_resume = rw is-r (sym (search_join words marks identity _ _ 0))

    module _ (j : ℕ) (past : r ≡ search.Full j) where
      pub special_fallback : SpecialRoom table (start + table.plan.special_primary_len) (table.plan.fallback_bucket_count * table.plan.fallback_bucket_width) (length words) (length marks) j
      special_fallback =
          let f = plan_facts valid.planned in
          let p = primary_length table.plan counts table.seed table.word_cap identity start 0 table.plan.loglog_ceiling in
          let s = search_full words marks identity (primary_from table.plan start table.seed table.word_cap identity 0 table.plan.loglog_ceiling) 0 j (sym is-r ∙ past) in
          let few : j ≤ 4294967296 = omega arith in
          rw begins (fallback_room_of valid j few)

      pub special_found : (x : Search) → x ≡ search_of words marks identity (fallback_of table.plan (start + table.plan.special_primary_len) table.seed table.word_cap identity) j
          → x ≡ search_of words marks identity (special_path table start identity) 0
      unfolding resume
      special_found x e = e ∙ (rw past at special_resume)
