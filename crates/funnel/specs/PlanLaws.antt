-- Where the parts of a valid table lie, as the stages of a search use it. Assumes nothing.
use Rattle.std.specs.Prelude.{List, ◌≡◌, ℕ, suc, ◌+◌, ◌*◌, ◌-◌, ◌≤◌, ◌<◌, get_or}
use Rattle.std.proofs.Common.{ap, sym, ◌∙◌, suc-mul, zero-mul, mul-le-mul_right, arith}
use Rattle.geometry.specs.Counts.{total}
use Rattle.geometry.specs.Funnel.{IsPlan}
use Rattle.geometry.specs.FunnelLaws.{plan_facts, count_some, level_within}
use Rattle.geometry.specs.LevelLaws.{start_next}
use Rattle.geometry.specs.declared.funnel.FunnelPlan.{FunnelPlan}
use Rattle.funnel.specs.Path.{level_start, primary_start, fallback_start}

-- a part of w slots lies within a row of them
pub part_room : (index count w : ℕ) → index < count → index * w + w ≤ count * w
part_room index count w h =
    let m : suc index * w ≤ count * w = mul-le-mul_right w (omega arith) in
    omega (arith, suc-mul index w)

module _ {n e : ℕ} {plan : FunnelPlan} {counts : List ℕ} (is : IsPlan n e plan counts) where
  -- the special part starts where the levels end
  pub primary_start_lem : primary_start plan counts ≡ n - plan.special_len
  primary_start_lem = let f = plan_facts is in ap (λ (x : ℕ). x * plan.beta) f.counts_sum ∙ f.main_fill

  -- one level ends where the next starts, within the ordinary part
  pub record LevelRoom (level : ℕ) : Type 0 where
    pub next : level_start plan counts (level + 1) ≡ level_start plan counts level + get_or counts level 0 * plan.beta
    pub within : level_start plan counts level + get_or counts level 0 * plan.beta ≤ n - plan.special_len
    pub some : 0 < get_or counts level 0

  pub level_room : (level : ℕ) → level < plan.alpha → LevelRoom level
  level_room level h =
      let f = plan_facts is in
      record { next = start_next counts plan.beta level (omega arith); within = level_within is level h; some = count_some is level h }

  -- a bucket of a level lies within the level
  pub bucket_room : (level bucket : ℕ) → level < plan.alpha → bucket < get_or counts level 0
      → level_start plan counts level + bucket * plan.beta + plan.beta ≤ n - plan.special_len
  bucket_room level bucket h l =
      let m = part_room bucket (get_or counts level 0) plan.beta l in
      let r = level_room level h in
      omega arith

  -- a fallback bucket lies within the table
  pub fallback_room : (bucket : ℕ) → bucket < plan.fallback_bucket_count
      → fallback_start plan counts + bucket * plan.fallback_bucket_width + plan.fallback_bucket_width ≤ n
  fallback_room bucket l =
      let f = plan_facts is in
      let m = part_room bucket plan.fallback_bucket_count plan.fallback_bucket_width l in
      omega (arith, primary_start_lem)

  -- the primary slots lie before the fallback, within the table
  pub primary_room : fallback_start plan counts ≤ n
  primary_room = let f = plan_facts is in omega (arith, primary_start_lem)

-- the first level starts at slot 0
pub level_none : (plan : FunnelPlan) (counts : List ℕ) → 0 ≡ level_start plan counts 0
unfolding total
level_none plan counts = sym (zero-mul plan.beta)
