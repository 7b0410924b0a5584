-- The path of an identity: the places that a search reads, in order, and how it ends. It does not depend on what the
-- table holds. Assumes nothing.
use Rattle.std.specs.Prelude.{List, [], ◌∷◌, ◌++◌, ℕ, zero, suc, ◌+◌, ◌*◌, take, get_or, Ok, Err}
use Rattle.words.specs.declared.place.Place.{Place}
use Rattle.words.specs.declared.place.Place.TheVariants as place
use Rattle.refusal.specs.declared.RangeRefusal.{RangeRefusal}
use Rattle.geometry.specs.Counts.{total}
use Rattle.geometry.specs.declared.funnel.FunnelPlan.{FunnelPlan}
use Rattle.probe.specs.declared.counter.Domain.TheVariants as domain
use Rattle.probe.specs.Range.{Drawn, funnel_draw_of}

-- the global slot of a place
abbrev pub slot_of : Place → ℕ
slot_of (place.Ordinary level bucket i slot) = slot.0
slot_of (place.SpecialPrimary s slot) = slot.0
slot_of (place.SpecialFallback bucket i slot) = slot.0

-- how a path ends: past its last place, or in a range reduction that is refused
pub data Ending : Type 0 where
  full : Ending
  refused : RangeRefusal → Ending

pub record Path : Type 0 where
  pub places : List Place
  pub ending : Ending

-- some places, none of them refused
abbrev pub run : List Place → Path
run places = record { places = places; ending = full }

-- a path that a refused reduction ends at once
abbrev pub stopped : RangeRefusal → Path
stopped refusal = record { places = []; ending = refused refusal }

-- one path and then another; where the first is refused, the second is not reached
abbrev pub join_at : Ending → List Place → Path → Path
join_at full places q = record { places = places ++ q.places; ending = q.ending }
join_at (refused refusal) places q = record { places = places; ending = refused refusal }

unfoldable pub join : Path → Path → Path
join p q = join_at p.ending p.places q

-- the path from a draw on: by its index, or refused
abbrev pub sampled : Drawn → (ℕ → Path) → Path
sampled (Ok index) next = next index.index
sampled (Err refusal) next = stopped refusal

-- the levels lie side by side from slot 0 on, each bucket beta slots wide; then come the primary slots, then the fallback buckets
abbrev pub level_start : FunnelPlan → List ℕ → ℕ → ℕ
level_start plan counts level = total (take level counts) * plan.beta

abbrev pub primary_start : FunnelPlan → List ℕ → ℕ
primary_start plan counts = level_start plan counts plan.alpha

abbrev pub fallback_start : FunnelPlan → List ℕ → ℕ
fallback_start plan counts = primary_start plan counts + plan.special_primary_len

-- "slots in order": w slots of a bucket that starts at `from`, from its slot i on
unfoldable pub bucket_from : (level bucket from i w : ℕ) → List Place
bucket_from level bucket from i zero = []
bucket_from level bucket from i (suc w) = place.Ordinary level bucket i (record { 0 = from + i }) ∷ bucket_from level bucket from (suc i) w

-- "per level one bucket, slots in order": some levels, the first of them given
unfoldable pub levels_from : FunnelPlan → List ℕ → (seed cap identity level levels : ℕ) → Path
levels_from plan counts seed cap identity level zero = run []
levels_from plan counts seed cap identity level (suc levels) =
    sampled (funnel_draw_of seed identity (domain.Ordinary level) 0 (get_or counts level 0) cap)
    (λ bucket.
    join (run (bucket_from level bucket (level_start plan counts level + bucket * plan.beta) 0 plan.beta))
    (levels_from plan counts seed cap identity (suc level) levels))

-- "then g primary probes": some of them, the first given, among the primary slots from `start` on
unfoldable pub primary_from : FunnelPlan → (start seed cap identity probe probes : ℕ) → Path
primary_from plan start seed cap identity probe zero = run []
primary_from plan start seed cap identity probe (suc probes) =
    sampled (funnel_draw_of seed identity domain.Primary probe plan.special_primary_len cap)
    (λ s. join (run (place.SpecialPrimary s (record { 0 = start + s }) ∷ [])) (primary_from plan start seed cap identity (suc probe) probes))

-- "slot by slot, A before B": w slots of the buckets a and b that start at `at_a` and `at_b`, from their slot i on
unfoldable pub pairs_from : (a b at_a at_b i w : ℕ) → List Place
pairs_from a b at_a at_b i zero = []
pairs_from a b at_a at_b i (suc w) =
    place.SpecialFallback a i (record { 0 = at_a + i }) ∷ place.SpecialFallback b i (record { 0 = at_b + i }) ∷ pairs_from a b at_a at_b (suc i) w

-- "then buckets A and B both sampled", among the fallback buckets from `start` on
unfoldable pub fallback_of : FunnelPlan → (start seed cap identity : ℕ) → Path
fallback_of plan start seed cap identity =
    sampled (funnel_draw_of seed identity domain.FallbackA 0 plan.fallback_bucket_count cap)
    (λ a. sampled (funnel_draw_of seed identity domain.FallbackB 0 plan.fallback_bucket_count cap)
    (λ b. run
    (pairs_from a b (start + a * plan.fallback_bucket_width) (start + b * plan.fallback_bucket_width) 0 plan.fallback_bucket_width)))

-- "Funnel search: per level one bucket, slots in order; then g primary probes; then buckets A and B both sampled, slot by slot, A before B"
unfoldable pub path_of : FunnelPlan → List ℕ → (seed cap identity : ℕ) → Path
path_of plan counts seed cap identity =
    join (levels_from plan counts seed cap identity 0 plan.alpha)
    (join (primary_from plan (primary_start plan counts) seed cap identity 0 plan.loglog_ceiling)
    (fallback_of plan (fallback_start plan counts) seed cap identity))
