-- The parts of a plan put together, from what the code writes and from what its tests say. Assumes nothing.
use Rattle.std.specs.Prelude.{Bool, true, false, ◌≡◌, refl, List, ℕ, ◌-◌, ◌≤◌, length, take, drop, get_or, replicate}
use Rattle.std.proofs.Common.{sym, ap, ◌∙◌}
use Rattle.geometry.specs.declared.funnel.FunnelPlan.{FunnelPlan}
use Rattle.geometry.specs.Config.{Configured}
use Rattle.geometry.specs.Says.{Says}
use Rattle.geometry.specs.SaysLaws.{says_true, says_false}
use Rattle.geometry.specs.Counts.{Counts}
use Rattle.geometry.specs.Filled.{Filled}
use Rattle.geometry.specs.Special.{SpecialMeasured}
use Rattle.geometry.specs.Funnel.{PlanNumbers, PlanCounts, IsPlan}
use Rattle.geometry.specs.ZeroLaws.{drop_zeros}

-- counts that are filled into a cleared array are those of a plan
pub filled_counts : (t levels : ℕ) (before old new : List ℕ) → length before ≡ 118 → old ≡ replicate (length before) 0 → Filled t levels old new → PlanCounts t levels (get_or new 0 0) new
filled_counts t levels before old new l z f =
    record { is_first = refl; counts = f.counts; after = f.others ∙ ap (drop levels) (z ∙ rw l) ∙ drop_zeros 118 levels }

module _ (t levels first : ℕ) (cs : List ℕ) (z : Bool) (l : length cs ≡ 118) (s : Says z (drop levels cs ≡ replicate (length cs - levels) 0)) where
  -- the counts decide, once the first and the entries past the last level are right
  pub counts_say : (d : Bool) → get_or cs 0 0 ≡ first → z ≡ true → Says d (Counts t levels (take levels cs)) → Says d (PlanCounts t levels first cs)
  counts_say true f h c = record { is_first = sym f; counts = c; after = rw l at (says_true z (drop levels cs ≡ replicate (length cs - levels) 0) s h) }
  counts_say false f h c = λ p. c p.counts

  pub zeros_deny : z ≡ false → PlanCounts t levels first cs → ⊥
  zeros_deny h p = says_false z (drop levels cs ≡ replicate (length cs - levels) 0) s h (rw l p.after)

-- the counts decide, once the numbers and the special length are right
pub plan_says : (n e : ℕ) (p : FunnelPlan) (cs : List ℕ) (d : Bool) → Configured n e → 3 ≤ e → PlanNumbers n e p → SpecialMeasured n e p.special_len p.total_buckets p.fallback_bucket_count
    → Says d (PlanCounts p.total_buckets p.alpha p.first_bucket_count cs) → Says d (IsPlan n e p cs)
plan_says n e p cs true c h m s k = record { configured = c; exponent = h; numbers = m; special = s; levels = rw m.is_alpha at k }
plan_says n e p cs false c h m s k = λ i. k (rw m.is_alpha i.levels)
