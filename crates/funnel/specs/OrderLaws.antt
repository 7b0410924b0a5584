-- In what order the parts of a path come, and when a part is reached. Assumes nothing.
use Rattle.std.specs.Prelude.{List, [], ◌∷◌, ◌++◌, ◌⊎◌, ◌≡◌, length, get_or, Ok, Err}
use Rattle.std.proofs.Common.{append-nil, ap, suc-mul, zero-mul, arith, length-append}
use Rattle.std.proofs.Math.Logic.{inl, inr}
use Rattle.std.proofs.Math.Path.{refl, sym}
use Prim.Native.Nat.{ℕ, zero, suc, ◌+◌, ◌*◌, ◌<◌}
use Rattle.words.specs.declared.place.Place.{Place}
use Rattle.words.specs.declared.place.Place.TheVariants as place
use Rattle.refusal.specs.declared.RangeRefusal.{RangeRefusal}
use Rattle.geometry.specs.Funnel.{IsPlan}
use Rattle.geometry.specs.declared.funnel.FunnelPlan.{FunnelPlan}
use Rattle.probe.specs.declared.counter.Domain.TheVariants as domain
use Rattle.probe.specs.Range.{Drawn, indexed, funnel_draw_of}
use Rattle.funnel.specs.Every.{Every, Rising, Between}
use Rattle.funnel.specs.EveryLaws.{rising_lower}
use Rattle.funnel.specs.Path.{Ending, full, refused, Path, run, join_at, join, sampled, bucket_from, level_start, levels_from, primary_from, pairs_from, fallback_of, path_of, primary_start, fallback_start}
use Rattle.funnel.specs.PathLaws.{bucket_length, levels_rising, primary_between, fallback_between}
use Rattle.funnel.specs.PlanLaws.{level_none}

not_full : {refusal : RangeRefusal} → refused refusal ≡ full → ⊥
not_full h = let z : ◌≡◌ {A = ℕ} 0 1 = cc in omega arith

module _ (plan : FunnelPlan) (counts : List ℕ) (seed cap identity : ℕ) where
  -- where no draw is refused, every slot of every level is there
  pub levels_whole : (level levels : ℕ) → (levels_from plan counts seed cap identity level levels).ending ≡ full
      → length (levels_from plan counts seed cap identity level levels).places ≡ levels * plan.beta
  unfolding levels_from join
  levels_whole level zero h = sym (zero-mul plan.beta)
  levels_whole level (suc levels) h = go (funnel_draw_of seed identity (domain.Ordinary level) 0 (get_or counts level 0) cap) h (levels_whole (suc level) levels)
    where
      rest : Path
      rest = levels_from plan counts seed cap identity (suc level) levels

      from : ℕ → ℕ
      from i = level_start plan counts level + i * plan.beta

      go : (d : Drawn) → (sampled d (λ i. join (run (bucket_from level i (from i) 0 plan.beta)) rest)).ending ≡ full
          → (rest.ending ≡ full → length rest.places ≡ levels * plan.beta)
          → length (sampled d (λ i. join (run (bucket_from level i (from i) 0 plan.beta)) rest)).places ≡ suc levels * plan.beta
      go (Err refusal) h ih = absurd (not_full h)
      go (Ok i) h ih =
          let l = ih h in
          omega (arith, length-append (bucket_from level i.index (from i.index) 0 plan.beta) rest.places, bucket_length level i.index (from i.index) 0 plan.beta, suc-mul levels plan.beta)

  -- and so are the g primary probes
  pub primary_whole_lem : (start probe probes : ℕ) → (primary_from plan start seed cap identity probe probes).ending ≡ full
      → length (primary_from plan start seed cap identity probe probes).places ≡ probes
  unfolding primary_from join
  primary_whole_lem start probe zero h = refl
  primary_whole_lem start probe (suc probes) h = go (funnel_draw_of seed identity domain.Primary probe plan.special_primary_len cap) h (primary_whole_lem start (suc probe) probes)
    where
      rest : Path
      rest = primary_from plan start seed cap identity (suc probe) probes

      go : (d : Drawn) → (sampled d (λ s. join (run (place.SpecialPrimary s (record { 0 = start + s }) ∷ [])) rest)).ending ≡ full
          → (rest.ending ≡ full → length rest.places ≡ probes)
          → length (sampled d (λ s. join (run (place.SpecialPrimary s (record { 0 = start + s }) ∷ [])) rest)).places ≡ suc probes
      go (Err refusal) h ih = absurd (not_full h)
      go (Ok s) h ih = ap suc (ih h)

  -- "buckets A and B both sampled": unless both are, none of their slots is read
  pub record Sampled (start : ℕ) : Type 0 where
    pub a : ℕ
    pub b : ℕ
    pub words_a : ℕ
    pub words_b : ℕ
    pub drawn_a : funnel_draw_of seed identity domain.FallbackA 0 plan.fallback_bucket_count cap ≡ Ok (indexed a words_a)
    pub drawn_b : funnel_draw_of seed identity domain.FallbackB 0 plan.fallback_bucket_count cap ≡ Ok (indexed b words_b)
    pub pairs : fallback_of plan start seed cap identity
        ≡ run (pairs_from a b (start + a * plan.fallback_bucket_width) (start + b * plan.fallback_bucket_width) 0 plan.fallback_bucket_width)

  pub fallback_sampled : (start : ℕ) → ((fallback_of plan start seed cap identity).places ≡ []) ⊎ Sampled start
  unfolding fallback_of
  fallback_sampled start =
      go (funnel_draw_of seed identity domain.FallbackA 0 plan.fallback_bucket_count cap) refl (funnel_draw_of seed identity domain.FallbackB 0 plan.fallback_bucket_count cap) refl
    where
      go : (d : Drawn) → funnel_draw_of seed identity domain.FallbackA 0 plan.fallback_bucket_count cap ≡ d
          → (e : Drawn) → funnel_draw_of seed identity domain.FallbackB 0 plan.fallback_bucket_count cap ≡ e
          → ((fallback_of plan start seed cap identity).places ≡ []) ⊎ Sampled start
      go (Err refusal) p e q = inl (rw p)
      go (Ok a) p (Err refusal) q = inl (rw (p, q))
      go (Ok a) p (Ok b) q = inr (record { a = a.index; b = b.index; words_a = a.words; words_b = b.words; drawn_a = p; drawn_b = q; pairs = rw (p, q) })

-- "slot by slot, A before B", also where A is B
pub pairs_a : (a b at_a at_b j w i : ℕ) (d : Place) → i < w → get_or (pairs_from a b at_a at_b j w) (2 * i) d ≡ place.SpecialFallback a (j + i) (record { 0 = at_a + (j + i) })
unfolding pairs_from
pairs_a a b at_a at_b j zero i d h = absurd (omega arith)
pairs_a a b at_a at_b j (suc w) zero d h = let e : j + 0 ≡ j = omega arith in rw e
pairs_a a b at_a at_b j (suc w) (suc i) d h =
    let e : 2 * suc i ≡ suc (suc (2 * i)) = omega arith in
    let f : suc j + i ≡ j + suc i = omega arith in
    rw (e, ← f) (pairs_a a b at_a at_b (suc j) w i d (omega arith))

pub pairs_b : (a b at_a at_b j w i : ℕ) (d : Place) → i < w → get_or (pairs_from a b at_a at_b j w) (2 * i + 1) d ≡ place.SpecialFallback b (j + i) (record { 0 = at_b + (j + i) })
unfolding pairs_from
pairs_b a b at_a at_b j zero i d h = absurd (omega arith)
pairs_b a b at_a at_b j (suc w) zero d h = let e : j + 0 ≡ j = omega arith in rw e
pairs_b a b at_a at_b j (suc w) (suc i) d h =
    let e : 2 * suc i + 1 ≡ suc (suc (2 * i + 1)) = omega arith in
    let f : suc j + i ≡ j + suc i = omega arith in
    rw (e, ← f) (pairs_b a b at_a at_b (suc j) w i d (omega arith))

-- a path is its ordinary places, rising; after all of these the primary ones; after all of these the fallback ones
pub record Parts (n : ℕ) (plan : FunnelPlan) (counts : List ℕ) (places : List Place) : Type 0 where
  pub ordinary : List Place
  pub primary : List Place
  pub fallback : List Place
  pub whole : places ≡ ordinary ++ (primary ++ fallback)
  pub rising : Rising 0 (primary_start plan counts) ordinary
  pub primary_in : Every (Between (primary_start plan counts) (fallback_start plan counts)) primary
  pub fallback_in : Every (Between (fallback_start plan counts) n) fallback
  pub after_ordinary : 0 < length primary + length fallback → length ordinary ≡ plan.alpha * plan.beta
  pub after_primary : 0 < length fallback → length primary ≡ plan.loglog_ceiling

pub path_parts : {n e : ℕ} {plan : FunnelPlan} {counts : List ℕ} → IsPlan n e plan counts → (seed cap identity : ℕ)
    → Parts n plan counts (path_of plan counts seed cap identity).places
unfolding path_of join Every
path_parts {n} {e} {plan} {counts} is seed cap identity = go l.ending refl p.ending refl
  where
    l : Path
    l = levels_from plan counts seed cap identity 0 plan.alpha

    p : Path
    p = primary_from plan (primary_start plan counts) seed cap identity 0 plan.loglog_ceiling

    f : Path
    f = fallback_of plan (fallback_start plan counts) seed cap identity

    rises : Rising 0 (primary_start plan counts) l.places
    rises =
        let z = level_none plan counts in
        rising_lower (level_start plan counts 0) 0 (primary_start plan counts) l.places (omega arith) (levels_rising is seed cap identity 0 plan.alpha (omega arith))

    go : (x : Ending) → l.ending ≡ x → (y : Ending) → p.ending ≡ y → Parts n plan counts (join_at x l.places (join_at y p.places f)).places
    go full hl full hp =
        record {
          ordinary = l.places;
          primary = p.places;
          fallback = f.places;
          whole = refl;
          rising = rises;
          primary_in = primary_between is seed cap identity 0 plan.loglog_ceiling;
          fallback_in = fallback_between is seed cap identity;
          after_ordinary = λ h. levels_whole plan counts seed cap identity 0 plan.alpha hl;
          after_primary = λ h. primary_whole_lem plan counts seed cap identity (primary_start plan counts) 0 plan.loglog_ceiling hp;
        }
    go full hl (refused refusal) hp =
        record {
          ordinary = l.places;
          primary = p.places;
          fallback = [];
          whole = ap (λ (x : List Place). l.places ++ x) (sym (append-nil p.places));
          rising = rises;
          primary_in = primary_between is seed cap identity 0 plan.loglog_ceiling;
          fallback_in = tt;
          after_ordinary = λ h. levels_whole plan counts seed cap identity 0 plan.alpha hl;
          after_primary = λ h. absurd (omega arith);
        }
    go (refused refusal) hl y hp =
        record {
          ordinary = l.places;
          primary = [];
          fallback = [];
          whole = sym (append-nil l.places);
          rising = rises;
          primary_in = tt;
          fallback_in = tt;
          after_ordinary = λ h. absurd (omega arith);
          after_primary = λ h. absurd (omega arith);
        }
