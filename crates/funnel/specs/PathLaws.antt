-- Laws of paths: how long they are, that every slot lies in the table, and in what order the parts come. Assumes nothing.
use Rattle.std.specs.Prelude.{List, [], ◌∷◌, ◌≡◌, length, get_or, Ok, Err}
use Rattle.std.proofs.Math.Path.{refl}
use Rattle.std.proofs.Common.{ap, suc-mul, length-append}
use Prim.Native.Nat.{ℕ, zero, suc, ◌+◌, ◌*◌, ◌≤◌, ◌<◌}
use native.Mathlib.Omega.{arith}
use Rattle.words.specs.declared.place.Place.{Place}
use Rattle.words.specs.declared.place.Place.TheVariants as place
use Rattle.geometry.specs.Funnel.{IsPlan}
use Rattle.geometry.specs.FunnelLaws.{plan_facts}
use Rattle.geometry.specs.declared.funnel.FunnelPlan.{FunnelPlan}
use Rattle.probe.specs.declared.counter.Domain.TheVariants as domain
use Rattle.probe.specs.Range.{Drawn, funnel_draw_of}
use Rattle.probe.specs.RangeLaws.{funnel_draw_index}
use Rattle.funnel.specs.Path.{Ending, full, refused, Path, slot_of, run, join_at, join, sampled, bucket_from, level_start, levels_from, primary_from, pairs_from, fallback_of, path_of, primary_start, fallback_start}
use Rattle.funnel.specs.Every.{Every, Rising, Between}
use Rattle.funnel.specs.EveryLaws.{every_append, every_map, rising_lower, rising_append, rising_between}
use Rattle.funnel.specs.PlanLaws.{part_room, level_room, fallback_room, primary_room, primary_start_lem}

-- ---- lengths

pub bucket_length : (level bucket from i w : ℕ) → length (bucket_from level bucket from i w) ≡ w
unfolding bucket_from
bucket_length level bucket from i zero = refl
bucket_length level bucket from i (suc w) = ap suc (bucket_length level bucket from (suc i) w)

pub pairs_length : (a b at_a at_b i w : ℕ) → length (pairs_from a b at_a at_b i w) ≡ 2 * w
unfolding pairs_from
pairs_length a b at_a at_b i zero = refl
pairs_length a b at_a at_b i (suc w) = let h = pairs_length a b at_a at_b (suc i) w in omega arith

pub join_length : (p q : Path) → length (join p q).places ≤ length p.places + length q.places
unfolding join
join_length p q = go p.ending
  where
    go : (e : Ending) → length (join_at e p.places q).places ≤ length p.places + length q.places
    go full = omega (arith, length-append p.places q.places)
    go (refused refusal) = omega arith

module _ (plan : FunnelPlan) (counts : List ℕ) (seed cap identity : ℕ) where
  pub levels_length : (level levels : ℕ) → length (levels_from plan counts seed cap identity level levels).places ≤ levels * plan.beta
  unfolding levels_from
  levels_length level zero = omega arith
  levels_length level (suc levels) = go (funnel_draw_of seed identity (domain.Ordinary level) 0 (get_or counts level 0) cap) (levels_length (suc level) levels)
    where
      rest : Path
      rest = levels_from plan counts seed cap identity (suc level) levels

      from : ℕ → ℕ
      from i = level_start plan counts level + i * plan.beta

      go : (d : Drawn) → length rest.places ≤ levels * plan.beta
          → length (sampled d (λ i. join (run (bucket_from level i (from i) 0 plan.beta)) rest)).places ≤ suc levels * plan.beta
      go (Err refusal) h = omega arith
      go (Ok i) h =
          let j = join_length (run (bucket_from level i.index (from i.index) 0 plan.beta)) rest in
          let l = bucket_length level i.index (from i.index) 0 plan.beta in
          omega (arith, suc-mul levels plan.beta)

  pub primary_length : (start probe probes : ℕ) → length (primary_from plan start seed cap identity probe probes).places ≤ probes
  unfolding primary_from
  primary_length start probe zero = omega arith
  primary_length start probe (suc probes) = go (funnel_draw_of seed identity domain.Primary probe plan.special_primary_len cap) (primary_length start (suc probe) probes)
    where
      rest : Path
      rest = primary_from plan start seed cap identity (suc probe) probes

      go : (d : Drawn) → length rest.places ≤ probes
          → length (sampled d (λ s. join (run (place.SpecialPrimary s (record { 0 = start + s }) ∷ [])) rest)).places ≤ suc probes
      go (Err refusal) h = omega arith
      go (Ok i) h =
          let j = join_length (run (place.SpecialPrimary i.index (record { 0 = start + i.index }) ∷ [])) rest in
          omega arith

  pub fallback_length : (start : ℕ) → length (fallback_of plan start seed cap identity).places ≤ 2 * plan.fallback_bucket_width
  unfolding fallback_of
  fallback_length start =
      go (funnel_draw_of seed identity domain.FallbackA 0 plan.fallback_bucket_count cap) (funnel_draw_of seed identity domain.FallbackB 0 plan.fallback_bucket_count cap)
    where
      width : ℕ
      width = plan.fallback_bucket_width

      go : (d e : Drawn) → length (sampled d (λ a. sampled e (λ b. run (pairs_from a b (start + a * width) (start + b * width) 0 width)))).places ≤ 2 * width
      go (Err refusal) e = omega arith
      go (Ok a) (Err refusal) = omega arith
      go (Ok a) (Ok b) = omega (arith, pairs_length a.index b.index (start + a.index * width) (start + b.index * width) 0 width)

  -- "Its probe count .. is at most alpha*beta + g + 4g", where the width is 2g
  pub path_length : length (path_of plan counts seed cap identity).places ≤ plan.alpha * plan.beta + (plan.loglog_ceiling + 2 * plan.fallback_bucket_width)
  unfolding path_of
  path_length =
      let l = levels_from plan counts seed cap identity 0 plan.alpha in
      let p = primary_from plan (primary_start plan counts) seed cap identity 0 plan.loglog_ceiling in
      let f = fallback_of plan (fallback_start plan counts) seed cap identity in
      omega (arith, join_length l (join p f), join_length p f, levels_length 0 plan.alpha, primary_length (primary_start plan counts) 0 plan.loglog_ceiling, fallback_length (fallback_start plan counts))

-- ---- where the slots lie

pub bucket_rising : (level bucket from i w : ℕ) → Rising (from + i) (from + i + w) (bucket_from level bucket from i w)
unfolding bucket_from Rising
bucket_rising level bucket from i zero = omega arith
bucket_rising level bucket from i (suc w) =
    let e : from + suc i ≡ from + i + 1 = omega arith in
    let f : from + suc i + w ≡ from + i + suc w = omega arith in
    let r : Rising (from + suc i) (from + suc i + w) (bucket_from level bucket from (suc i) w) = bucket_rising level bucket from (suc i) w in
    (omega arith, rw (← f, ← e) r)

pub pairs_between : (lo hi a b at_a at_b i w : ℕ) → lo ≤ at_a → lo ≤ at_b → at_a + i + w ≤ hi → at_b + i + w ≤ hi → Every (Between lo hi) (pairs_from a b at_a at_b i w)
unfolding pairs_from Every
pairs_between lo hi a b at_a at_b i zero l m g h = tt
pairs_between lo hi a b at_a at_b i (suc w) l m g h =
    (record { from = omega arith; to = omega arith }, (record { from = omega arith; to = omega arith }, pairs_between lo hi a b at_a at_b (suc i) w l m (omega arith) (omega arith)))

-- the places of a join are those of the first, or of both
pub join_every : (P : Place → Type 0) (p q : Path) → Every P p.places → Every P q.places → Every P (join p q).places
unfolding join
join_every P p q h k = go p.ending
  where
    go : (e : Ending) → Every P (join_at e p.places q).places
    go full = every_append P p.places q.places h k
    go (refused refusal) = h

module _ {n e : ℕ} {plan : FunnelPlan} {counts : List ℕ} (is : IsPlan n e plan counts) (seed cap identity : ℕ) where
  -- the ordinary slots rise, from the start of a level to the special part
  pub levels_rising : (level levels : ℕ) → level + levels ≡ plan.alpha
      → Rising (level_start plan counts level) (primary_start plan counts) (levels_from plan counts seed cap identity level levels).places
  unfolding levels_from Rising join
  levels_rising level zero h = let e : level ≡ plan.alpha = omega arith in rw e (omega arith)
  levels_rising level (suc levels) h =
      go (funnel_draw_of seed identity (domain.Ordinary level) 0 (get_or counts level 0) cap) refl (levels_rising (suc level) levels (omega arith))
    where
      rest : Path
      rest = levels_from plan counts seed cap identity (suc level) levels

      from : ℕ → ℕ
      from i = level_start plan counts level + i * plan.beta

      below : level < plan.alpha
      below = omega arith

      go : (d : Drawn) → funnel_draw_of seed identity (domain.Ordinary level) 0 (get_or counts level 0) cap ≡ d
          → Rising (level_start plan counts (suc level)) (primary_start plan counts) rest.places
          → Rising (level_start plan counts level) (primary_start plan counts) (sampled d (λ i. join (run (bucket_from level i (from i) 0 plan.beta)) rest)).places
      go (Err refusal) q r = let l = level_room is level below in omega (arith, primary_start_lem is)
      go (Ok i) q r =
          let l = level_room is level below in
          let d = funnel_draw_index seed identity (domain.Ordinary level) 0 (get_or counts level 0) cap i.index i.words l.some q in
          let m = part_room i.index (get_or counts level 0) plan.beta d.below in
          let s : suc level ≡ level + 1 = omega arith in
          let t : level_start plan counts (suc level) ≡ level_start plan counts (level + 1) = rw s in
          rising_append (level_start plan counts level) (from i.index + 0 + plan.beta) (primary_start plan counts) (bucket_from level i.index (from i.index) 0 plan.beta) rest.places
          (rising_lower (from i.index + 0) (level_start plan counts level) (from i.index + 0 + plan.beta) (bucket_from level i.index (from i.index) 0 plan.beta) (omega arith) (bucket_rising level i.index (from i.index) 0 plan.beta))
          (rising_lower (level_start plan counts (suc level)) (from i.index + 0 + plan.beta) (primary_start plan counts) rest.places (omega arith) r)

  pub primary_between : (probe probes : ℕ) → Every (Between (primary_start plan counts) (fallback_start plan counts)) (primary_from plan (primary_start plan counts) seed cap identity probe probes).places
  unfolding primary_from Every join
  primary_between probe zero = tt
  primary_between probe (suc probes) =
      go (funnel_draw_of seed identity domain.Primary probe plan.special_primary_len cap) refl (primary_between (suc probe) probes)
    where
      rest : Path
      rest = primary_from plan (primary_start plan counts) seed cap identity (suc probe) probes

      go : (d : Drawn) → funnel_draw_of seed identity domain.Primary probe plan.special_primary_len cap ≡ d
          → Every (Between (primary_start plan counts) (fallback_start plan counts)) rest.places
          → Every (Between (primary_start plan counts) (fallback_start plan counts))
          (sampled d (λ s. join (run (place.SpecialPrimary s (record { 0 = primary_start plan counts + s }) ∷ [])) rest)).places
      go (Err refusal) q r = tt
      go (Ok s) q r =
          let d = funnel_draw_index seed identity domain.Primary probe plan.special_primary_len cap s.index s.words (plan_facts is).primary_some q in
          let b = d.below in
          (record { from = omega arith; to = omega arith }, r)

  pub fallback_between : Every (Between (fallback_start plan counts) n) (fallback_of plan (fallback_start plan counts) seed cap identity).places
  unfolding fallback_of Every
  fallback_between =
      go (funnel_draw_of seed identity domain.FallbackA 0 plan.fallback_bucket_count cap) (funnel_draw_of seed identity domain.FallbackB 0 plan.fallback_bucket_count cap) refl refl
    where
      width : ℕ
      width = plan.fallback_bucket_width

      room : (s i w : ℕ) → s < plan.fallback_bucket_count → fallback_start plan counts + s * width + 0 + width ≤ n
      room s i w h = omega (arith, fallback_room is s h)

      go : (d e : Drawn) → funnel_draw_of seed identity domain.FallbackA 0 plan.fallback_bucket_count cap ≡ d → funnel_draw_of seed identity domain.FallbackB 0 plan.fallback_bucket_count cap ≡ e
          → Every (Between (fallback_start plan counts) n)
          (sampled d (λ a. sampled e (λ b. run (pairs_from a b (fallback_start plan counts + a * width) (fallback_start plan counts + b * width) 0 width)))).places
      go (Err refusal) e p q = tt
      go (Ok a) (Err refusal) p q = tt
      go (Ok a) (Ok b) p q =
          let some = (plan_facts is).fallback_some in
          let i = funnel_draw_index seed identity domain.FallbackA 0 plan.fallback_bucket_count cap a.index a.words some p in
          let j = funnel_draw_index seed identity domain.FallbackB 0 plan.fallback_bucket_count cap b.index b.words some q in
          pairs_between (fallback_start plan counts) n a.index b.index (fallback_start plan counts + a.index * width) (fallback_start plan counts + b.index * width) 0 width (omega arith) (omega arith) (room a.index 0 0 i.below) (room b.index 0 0 j.below)

  -- every slot of a path is below n
  pub path_below : Every (λ p. slot_of p < n) (path_of plan counts seed cap identity).places
  unfolding path_of
  path_below =
      let s = primary_room is in
      let t = primary_start_lem is in
      join_every (λ p. slot_of p < n) _ _
      (every_map (Between (level_start plan counts 0) (primary_start plan counts)) (λ p. slot_of p < n) (λ p b. omega arith) _ (rising_between _ _ _ (levels_rising 0 plan.alpha (omega arith))))
      (join_every (λ p. slot_of p < n) _ _
      (every_map (Between (primary_start plan counts) (fallback_start plan counts)) (λ p. slot_of p < n) (λ p b. omega arith) _ (primary_between 0 plan.loglog_ceiling))
      (every_map (Between (fallback_start plan counts) n) (λ p. slot_of p < n) (λ p b. omega arith) _ fallback_between))
