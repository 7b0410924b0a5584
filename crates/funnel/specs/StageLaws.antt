-- The stages of a search as loops make them: what is left of a stage gives what the whole gives. Assumes nothing.
use Rattle.std.specs.Prelude.{List, [], ◌∷◌, ◌≡◌, get_or, Ok, Err}
use Rattle.std.proofs.Common.{ap, ◌∙◌}
use Rattle.std.proofs.Math.Path.{sym}
use Prim.Native.Nat.{ℕ, suc, ◌+◌, ◌*◌, ◌-◌, ◌≤◌, ◌<◌}
use native.Mathlib.Omega.{arith}
use Rattle.words.specs.declared.place.Place.{Place}
use Rattle.words.specs.declared.place.Place.TheVariants as place
use Rattle.refusal.specs.declared.RangeRefusal.{RangeRefusal}
use Rattle.geometry.specs.declared.funnel.FunnelPlan.{FunnelPlan}
use Rattle.probe.specs.declared.counter.Domain.{Domain}
use Rattle.probe.specs.declared.counter.Domain.TheVariants as domain
use Rattle.probe.specs.declared.range.Index.{Index}
use Rattle.probe.specs.declared.word.FunnelKey.{FunnelKey}
use Rattle.probe.specs.Range.{Drawn, domain_draw_of, funnel_draw_of}
use Rattle.probe.specs.RangeLaws.{funnel_core, domain_draw_index}
use Rattle.funnel.specs.declared.table.FunnelTable.{FunnelTable}
use Rattle.funnel.specs.declared.table.Search.{Search}
use Rattle.funnel.specs.declared.table.Search.TheVariants.{Hit, Vacant, Full, Range}
use Rattle.funnel.specs.Path.{Path, slot_of, run, join, sampled, bucket_from, level_start, levels_from, primary_from, pairs_from, fallback_of}
use Rattle.funnel.specs.PathLaws.{bucket_length}
use Rattle.funnel.specs.PlanLaws.{part_room}
use Rattle.funnel.specs.Search.{search_of}
use Rattle.funnel.specs.Valid.{Keyed, SpecialRoom}
use Rattle.funnel.specs.SearchLaws.{resume, search_join, search_stopped, search_none, search_vacant, search_hit, search_other, search_full}

-- ---- a bucket

-- one slot more, as a loop that counts up goes
pub bucket_step : (level bucket from i w : ℕ) → i < w
    → bucket_from level bucket from i (w - i) ≡ place.Ordinary level bucket i (record { 0 = from + i }) ∷ bucket_from level bucket from (i + 1) (w - (i + 1))
unfolding bucket_from
bucket_step level bucket from i w h =
    let e : w - i ≡ suc (w - (i + 1)) = omega arith in
    let f : suc i ≡ i + 1 = omega arith in
    rw (e, f)

-- a bucket without the identity and without a vacancy has each of its slots read
pub bucket_full : (words flags : List ℕ) (identity level bucket from w k j : ℕ) (found : Search)
    → found ≡ search_of words flags identity (run (bucket_from level bucket from 0 w)) k → found ≡ Full j → j ≡ k + w
bucket_full words flags identity level bucket from w k j found e f =
    search_full words flags identity (run (bucket_from level bucket from 0 w)) k j (sym e ∙ f) ∙ ap (λ (x : ℕ). k + x) (bucket_length level bucket from 0 w)

pub record BucketLeft (words flags : List ℕ) (identity level bucket from w k i : ℕ) : Type 0 where
  pub left : search_of words flags identity (run (bucket_from level bucket from 0 w)) k ≡ search_of words flags identity (run (bucket_from level bucket from i (w - i))) (k + i)

pub bucket_none : (words flags : List ℕ) (identity level bucket from w k : ℕ) → BucketLeft words flags identity level bucket from w k 0
bucket_none words flags identity level bucket from w k =
    let a : w - 0 ≡ w = omega arith in
    let b : k + 0 ≡ k = omega arith in
    record { left = rw (a, b) }

module _ {words flags : List ℕ} {identity level bucket from w k i : ℕ} (l : BucketLeft words flags identity level bucket from w k i) where
  module _ (h : i < w) where
    pub bucket_vacant : get_or flags (from + i) 0 ≡ 0
        → Vacant (k + i + 1) (place.Ordinary level bucket i (record { 0 = from + i })) ≡ search_of words flags identity (run (bucket_from level bucket from 0 w)) k
    bucket_vacant v = sym (l.left ∙ rw (bucket_step level bucket from i w h) (search_vacant words flags identity _ _ _ v))

    module _ (n : get_or flags (from + i) 0 ≡ 0 → ⊥) where
      pub bucket_hit : get_or words (from + i) 0 ≡ identity
          → Hit (k + i + 1) (place.Ordinary level bucket i (record { 0 = from + i })) ≡ search_of words flags identity (run (bucket_from level bucket from 0 w)) k
      bucket_hit e = sym (l.left ∙ rw (bucket_step level bucket from i w h) (search_hit words flags identity _ _ _ n e))

      pub bucket_more : (get_or words (from + i) 0 ≡ identity → ⊥) → BucketLeft words flags identity level bucket from w k (i + 1)
      bucket_more e =
          let d : k + (i + 1) ≡ k + i + 1 = omega arith in
          record { left = l.left ∙ rw (bucket_step level bucket from i w h, d) (search_other words flags identity _ _ _ n e) }

  pub bucket_end : i ≡ w → Full (k + w) ≡ search_of words flags identity (run (bucket_from level bucket from 0 w)) k
  unfolding bucket_from
  bucket_end e = sym (l.left ∙ (let z : w - i ≡ 0 = omega arith in rw (z, e) (search_none words flags identity (k + w))))

-- ---- what was drawn

-- the core drew by an identity's key what the definition draws
pub drew : {seed identity : ℕ} {key : FunnelKey} → Keyed seed identity key → (d : Domain) (probe u cap : ℕ) (r x : Drawn)
    → r ≡ domain_draw_of key.inner key.outer d probe u cap → r ≡ x → funnel_draw_of seed identity d probe u cap ≡ x
drew {seed} {identity} {key} k d probe u cap r x e h =
    sym (funnel_core seed identity d probe u cap key.inner key.outer k.is_inner k.is_outer) ∙ sym e ∙ h

-- and an index that it drew is below the number of values
pub drew_below : (inner outer : ℕ) (d : Domain) (probe u cap : ℕ) {i : Index} {r : Drawn} → 0 < u
    → r ≡ domain_draw_of inner outer d probe u cap → r ≡ Ok i → i.index < u
drew_below inner outer d probe u cap {i} pos e h = (domain_draw_index inner outer d probe u cap i.index i.words pos (sym e ∙ h)).below

-- a fallback bucket that it drew lies within the room for them
pub drew_room : {table : FunnelTable} {start words flags probes : ℕ} → SpecialRoom table start (table.plan.fallback_bucket_count * table.plan.fallback_bucket_width) words flags probes
    → (inner outer : ℕ) (d : Domain) (probe cap : ℕ) {i : Index} {r : Drawn} → r ≡ domain_draw_of inner outer d probe table.plan.fallback_bucket_count cap → r ≡ Ok i
    → start + i.index * table.plan.fallback_bucket_width + table.plan.fallback_bucket_width ≤ words
drew_room {table} p inner outer d probe cap {i} e h =
    let u = part_room i.index table.plan.fallback_bucket_count table.plan.fallback_bucket_width (drew_below inner outer d probe table.plan.fallback_bucket_count cap p.fallback e h) in
    let w = p.within in
    omega arith

-- ---- the levels

module _ (plan : FunnelPlan) (counts words flags : List ℕ) (seed cap identity : ℕ) where
  -- the levels from one on
  abbrev pub levels_on : ℕ → Path
  levels_on level = levels_from plan counts seed cap identity level (plan.alpha - level)

  pub record LevelsLeft (level k : ℕ) : Type 0 where
    pub left : search_of words flags identity (levels_from plan counts seed cap identity 0 plan.alpha) 0 ≡ search_of words flags identity (levels_on level) k

  pub levels_none : LevelsLeft 0 0
  levels_none = record { left = let e : plan.alpha - 0 ≡ plan.alpha = omega arith in rw e }

  -- one level more, as a loop that counts up goes
  levels_step : (level : ℕ) → level < plan.alpha
      → levels_on level
      ≡ sampled (funnel_draw_of seed identity (domain.Ordinary level) 0 (get_or counts level 0) cap)
      (λ bucket. join (run (bucket_from level bucket (level_start plan counts level + bucket * plan.beta) 0 plan.beta)) (levels_on (level + 1)))
  unfolding levels_from
  levels_step level h =
      let e : plan.alpha - level ≡ suc (plan.alpha - (level + 1)) = omega arith in
      let f : suc level ≡ level + 1 = omega arith in
      rw (e, ← f)

  module _ {level k : ℕ} (l : LevelsLeft level k) where
    pub levels_refused : (refusal : RangeRefusal) → level < plan.alpha
        → funnel_draw_of seed identity (domain.Ordinary level) 0 (get_or counts level 0) cap ≡ Err refusal
        → Range refusal ≡ search_of words flags identity (levels_from plan counts seed cap identity 0 plan.alpha) 0
    levels_refused refusal h d = sym (l.left ∙ rw (levels_step level h, d) (search_stopped words flags identity refusal k))

    pub levels_found : (bucket : Index) (start : ℕ) (found : Search) → level < plan.alpha → start ≡ level_start plan counts level
        → funnel_draw_of seed identity (domain.Ordinary level) 0 (get_or counts level 0) cap ≡ Ok bucket
        → found ≡ search_of words flags identity (run (bucket_from level bucket.index (start + bucket.index * plan.beta) 0 plan.beta)) k
        → search_of words flags identity (levels_from plan counts seed cap identity 0 plan.alpha) 0 ≡ resume words flags identity (levels_on (level + 1)) found
    levels_found bucket start found h s d f = l.left ∙ rw (levels_step level h, d, f, s) (search_join words flags identity _ (levels_on (level + 1)) k)

    pub levels_end : plan.alpha ≤ level → Full k ≡ search_of words flags identity (levels_from plan counts seed cap identity 0 plan.alpha) 0
    unfolding levels_from
    levels_end h = sym (l.left ∙ (let z : plan.alpha - level ≡ 0 = omega arith in rw z (search_none words flags identity k)))

-- ---- one reading, and what follows it

module _ (words flags : List ℕ) (identity : ℕ) where
  pub search_cons : (p : Place) (places : List Place) (k : ℕ)
      → search_of words flags identity (run (p ∷ places)) k ≡ resume words flags identity (run places) (search_of words flags identity (run (p ∷ [])) k)
  unfolding join
  search_cons p places k = search_join words flags identity (run (p ∷ [])) (run places) k

  pub read_full : (p : Place) (k j : ℕ) (found : Search) → found ≡ search_of words flags identity (run (p ∷ [])) k → found ≡ Full j → j ≡ k + 1
  read_full p k j found e f = search_full words flags identity (run (p ∷ [])) k j (sym e ∙ f)

-- the reading of a place whose slot is known
module _ (words flags : List ℕ) (identity : ℕ) (p : Place) (k at : ℕ) (is : slot_of p ≡ at) where
  pub read_vacant : get_or flags at 0 ≡ 0 → Vacant (k + 1) p ≡ search_of words flags identity (run (p ∷ [])) k
  read_vacant v = sym (search_vacant words flags identity p [] k (rw is v))

  pub read_hit : (get_or flags at 0 ≡ 0 → ⊥) → get_or words at 0 ≡ identity → Hit (k + 1) p ≡ search_of words flags identity (run (p ∷ [])) k
  read_hit n e = sym (search_hit words flags identity p [] k (rw is n) (rw is e))

  pub read_other : (get_or flags at 0 ≡ 0 → ⊥) → (get_or words at 0 ≡ identity → ⊥) → Full (k + 1) ≡ search_of words flags identity (run (p ∷ [])) k
  read_other n e = sym (search_other words flags identity p [] k (rw is n) (rw is e) ∙ search_none words flags identity (k + 1))

-- ---- the primary probes

module _ (plan : FunnelPlan) (start : ℕ) (words flags : List ℕ) (seed cap identity before : ℕ) where
  -- the probes from one on
  abbrev pub primary_on : ℕ → Path
  primary_on probe = primary_from plan start seed cap identity probe (plan.loglog_ceiling - probe)

  abbrev primary_whole : Search
  primary_whole = search_of words flags identity (primary_from plan start seed cap identity 0 plan.loglog_ceiling) before

  pub record PrimaryLeft (probe k : ℕ) : Type 0 where
    pub left : primary_whole ≡ search_of words flags identity (primary_on probe) k

  pub primary_none : PrimaryLeft 0 before
  primary_none = record { left = let e : plan.loglog_ceiling - 0 ≡ plan.loglog_ceiling = omega arith in rw e }

  primary_step : (probe : ℕ) → probe < plan.loglog_ceiling
      → primary_on probe
      ≡ sampled (funnel_draw_of seed identity domain.Primary probe plan.special_primary_len cap)
      (λ s. join (run (place.SpecialPrimary s (record { 0 = start + s }) ∷ [])) (primary_on (probe + 1)))
  unfolding primary_from
  primary_step probe h =
      let e : plan.loglog_ceiling - probe ≡ suc (plan.loglog_ceiling - (probe + 1)) = omega arith in
      let f : suc probe ≡ probe + 1 = omega arith in
      rw (e, ← f)

  module _ {probe k : ℕ} (l : PrimaryLeft probe k) where
    pub primary_refused : (refusal : RangeRefusal) → probe < plan.loglog_ceiling
        → funnel_draw_of seed identity domain.Primary probe plan.special_primary_len cap ≡ Err refusal → Range refusal ≡ primary_whole
    primary_refused refusal h d = sym (l.left ∙ rw (primary_step probe h, d) (search_stopped words flags identity refusal k))

    pub primary_found : (s : Index) (found : Search) → probe < plan.loglog_ceiling
        → funnel_draw_of seed identity domain.Primary probe plan.special_primary_len cap ≡ Ok s
        → found ≡ search_of words flags identity (run (place.SpecialPrimary s.index (record { 0 = start + s.index }) ∷ [])) k
        → primary_whole ≡ resume words flags identity (primary_on (probe + 1)) found
    primary_found s found h d f = l.left ∙ rw (primary_step probe h, d, f) (search_join words flags identity _ (primary_on (probe + 1)) k)

    pub primary_end : plan.loglog_ceiling ≤ probe → Full k ≡ primary_whole
    unfolding primary_from
    primary_end h = sym (l.left ∙ (let z : plan.loglog_ceiling - probe ≡ 0 = omega arith in rw z (search_none words flags identity k)))

-- ---- the fallback buckets, slot by slot

module _ (words flags : List ℕ) (identity a b at_a at_b w before : ℕ) where
  abbrev pub pairs_on : ℕ → List Place
  pairs_on i = pairs_from a b at_a at_b i (w - i)

  abbrev pairs_whole : Search
  pairs_whole = search_of words flags identity (run (pairs_from a b at_a at_b 0 w)) before

  pub record PairsLeft (i k : ℕ) : Type 0 where
    pub left : pairs_whole ≡ search_of words flags identity (run (pairs_on i)) k

  pub pairs_none : PairsLeft 0 before
  pairs_none = record { left = let e : w - 0 ≡ w = omega arith in rw e }

  pairs_step : (i : ℕ) → i < w
      → pairs_on i ≡ place.SpecialFallback a i (record { 0 = at_a + i }) ∷ place.SpecialFallback b i (record { 0 = at_b + i }) ∷ pairs_on (i + 1)
  unfolding pairs_from
  pairs_step i h =
      let e : w - i ≡ suc (w - (i + 1)) = omega arith in
      let f : suc i ≡ i + 1 = omega arith in
      rw (e, ← f)

  module _ {i k : ℕ} (l : PairsLeft i k) where
    pub pairs_a : (found : Search) → i < w → found ≡ search_of words flags identity (run (place.SpecialFallback a i (record { 0 = at_a + i }) ∷ [])) k
        → pairs_whole ≡ resume words flags identity (run (place.SpecialFallback b i (record { 0 = at_b + i }) ∷ pairs_on (i + 1))) found
    pairs_a found h f = l.left ∙ rw (pairs_step i h, f) (search_cons words flags identity _ _ k)

    pub pairs_b : (found other : Search) (j : ℕ) → i < w → found ≡ search_of words flags identity (run (place.SpecialFallback a i (record { 0 = at_a + i }) ∷ [])) k
        → found ≡ Full j → other ≡ search_of words flags identity (run (place.SpecialFallback b i (record { 0 = at_b + i }) ∷ [])) j
        → pairs_whole ≡ resume words flags identity (run (pairs_on (i + 1))) other
    unfolding resume
    pairs_b found other j h f g o =
        pairs_a found h f ∙ rw (g, o) (search_cons words flags identity _ (pairs_on (i + 1)) j)

    pub pairs_end : w ≤ i → Full k ≡ pairs_whole
    unfolding pairs_from
    pairs_end h = sym (l.left ∙ (let z : w - i ≡ 0 = omega arith in rw z (search_none words flags identity k)))

-- ---- the choice of the two

module _ (plan : FunnelPlan) (start : ℕ) (words flags : List ℕ) (seed cap identity before : ℕ) where
  abbrev fallback_whole : Search
  fallback_whole = search_of words flags identity (fallback_of plan start seed cap identity) before

  abbrev draw_a : Drawn
  draw_a = funnel_draw_of seed identity domain.FallbackA 0 plan.fallback_bucket_count cap

  abbrev draw_b : Drawn
  draw_b = funnel_draw_of seed identity domain.FallbackB 0 plan.fallback_bucket_count cap

  pub fallback_refused_a : (refusal : RangeRefusal) → draw_a ≡ Err refusal → Range refusal ≡ fallback_whole
  unfolding fallback_of
  fallback_refused_a refusal d = sym (rw d (search_stopped words flags identity refusal before))

  pub fallback_refused_b : (refusal : RangeRefusal) (a : Index) → draw_a ≡ Ok a → draw_b ≡ Err refusal → Range refusal ≡ fallback_whole
  unfolding fallback_of
  fallback_refused_b refusal a d f = sym (rw (d, f) (search_stopped words flags identity refusal before))

  pub fallback_both : (a b : Index) → draw_a ≡ Ok a → draw_b ≡ Ok b
      → search_of words flags identity (run (pairs_from a.index b.index (start + a.index * plan.fallback_bucket_width) (start + b.index * plan.fallback_bucket_width) 0 plan.fallback_bucket_width)) before
      ≡ fallback_whole
  unfolding fallback_of
  fallback_both a b d f = rw (d, f)
