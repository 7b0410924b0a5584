-- The parts of a funnel table side by side: every slot lies in one level, in primary or in fallback, and they hold no other. Assumes nothing.
use Rattle.std.specs.Prelude.{◌≡◌, List, ℕ, ◌+◌, ◌-◌, ◌*◌, ◌≤◌, ◌<◌, length, take}
use Rattle.std.proofs.Common.{ap, ◌∙◌, lt_of_not-le, mul-le-mul_right, arith}
use Rattle.std.proofs.Math.Decide.{dec_le}
use Rattle.std.proofs.Math.Seq.{take-length}
use Rattle.geometry.specs.declared.funnel.FunnelPlan.{FunnelPlan}
use Rattle.geometry.specs.Counts.{total}
use Rattle.geometry.specs.LevelLaws.{InLevel, level_of_lem, total_take}
use Rattle.geometry.specs.Funnel.{IsPlan}
use Rattle.geometry.specs.FunnelLaws.{PlanFacts, plan_facts}

-- where a slot x lies; `level_one` says that no second level holds it
pub data Part (n : ℕ) (p : FunnelPlan) (cs : List ℕ) (x : ℕ) : Type 0 where
  ordinary : (k : ℕ) → InLevel (take p.alpha cs) p.beta x k → Part n p cs x
  primary : n - p.special_len ≤ x → x < n - p.special_len + p.special_primary_len → Part n p cs x
  fallback : n - p.special_len + p.special_primary_len ≤ x → x < n - p.special_len + p.special_primary_len + p.special_fallback_len → Part n p cs x

module _ {n e : ℕ} {p : FunnelPlan} {cs : List ℕ} (i : IsPlan n e p cs) where
  main_total : total (take p.alpha cs) * p.beta ≡ n - p.special_len
  main_total = let f = plan_facts i in ap (λ (x : ℕ). x * p.beta) f.counts_sum ∙ f.main_fill

  -- the levels end where primary begins
  pub ordinary_below : (x k : ℕ) → InLevel (take p.alpha cs) p.beta x k → x < n - p.special_len
  ordinary_below x k l =
      let m = mul-le-mul_right p.beta (total_take (take p.alpha cs) (k + 1)) in
      omega (arith, l.below, main_total)

  pub slot_part : (x : ℕ) → x < n → Part n p cs x
  slot_part x h = go (dec_le (n - p.special_len) x) (dec_le (n - p.special_len + p.special_primary_len) x)
    where
      f : PlanFacts n e p cs
      f = plan_facts i

      whole : take (length (take p.alpha cs)) (take p.alpha cs) ≡ take p.alpha cs
      whole = take-length (take p.alpha cs)

      go : Dec (n - p.special_len ≤ x) → Dec (n - p.special_len + p.special_primary_len ≤ x) → Part n p cs x
      go (no a) b =
          let u : x < n - p.special_len = lt_of_not-le a in
          let v : x < total (take p.alpha cs) * p.beta = omega (arith, main_total) in
          let w : x < total (take (length (take p.alpha cs)) (take p.alpha cs)) * p.beta = rw whole v in
          let r = level_of_lem (take p.alpha cs) p.beta x w in
          ordinary r.0 r.1
      go (yes a) (no b) = primary a (lt_of_not-le b)
      go (yes a) (yes b) = fallback b (omega (arith, f.special_parts, f.special_most_lem))

  pub part_slot : (x : ℕ) → Part n p cs x → x < n
  part_slot x (ordinary k l) = omega (arith, ordinary_below x k l)
  part_slot x (primary a b) = let f = plan_facts i in omega (arith, f.special_parts, f.special_most_lem)
  part_slot x (fallback a b) = let f = plan_facts i in omega (arith, f.special_parts, f.special_most_lem)
