-- Laws of a funnel's plan: the facts that callers lean on, and that there is at most one. Assumes nothing.
use Rattle.std.specs.Prelude.{◌≡◌, refl, List, ◌++◌, ℕ, ◌+◌, ◌-◌, ◌*◌, ◌/◌, ◌≤◌, ◌<◌, length, take, drop, get_or}
use Rattle.std.proofs.Common.{sym, ap, subst, ◌∙◌, mul-le-mul_right, arith, length-append, take-append-drop, get_or-take, get_or-drop}
use Rattle.std.proofs.Math.Nat.{div-mul_cancel}
use Rattle.std.proofs.lemmas.List.{length-replicate, get_or-replicate}
use Rattle.geometry.specs.Config.{maximum}
use Rattle.geometry.specs.ExtremeLaws.{largest_one}
use Rattle.geometry.specs.Counts.{Counts, total}
use Rattle.geometry.specs.CountsLaws.{counts_one}
use Rattle.geometry.specs.Special.{loglog, special_least, special_most, SpecialMeasured}
use Rattle.geometry.specs.SpecialLaws.{factor_pos, buckets_enough}
use Rattle.geometry.specs.LoglogLaws.{loglog_facts}
use Rattle.geometry.specs.LengthLaws.{length_facts, exponent_most, most_within}
use Rattle.geometry.specs.PeriodLaws.{measured_most}
use Rattle.geometry.specs.LevelLaws.{counts_length, counts_total, counts_some, counts_fall, total_next, total_le, start_next}
use Rattle.geometry.specs.Funnel.{alpha_of, beta_of, PlanNumbers, PlanCounts, IsPlan}
use Rattle.geometry.specs.declared.funnel.FunnelPlan.{FunnelPlan}

-- what a plan says of its numbers, for `omega`
pub record PlanFacts (n e : ℕ) (p : FunnelPlan) (cs : List ℕ) : Type 0 where
  pub n_least : 2 ≤ n
  pub n_most : n ≤ 4294967296
  pub e_least : 3 ≤ e
  pub e_most : e ≤ 27
  pub maximum_is : p.maximum ≡ maximum n e
  pub maximum_most : p.maximum ≤ n
  pub alpha_is : p.alpha ≡ 4 * e + 10
  pub alpha_most : p.alpha ≤ 118
  pub beta_is : p.beta ≡ 2 * e
  pub loglog_least : 1 ≤ p.loglog_ceiling
  pub loglog_most : p.loglog_ceiling ≤ 5
  pub width_is : p.fallback_bucket_width ≡ 2 * p.loglog_ceiling
  -- the parts side by side: alpha levels, primary, fallback
  pub special_most_lem : p.special_len ≤ n
  pub special_least_lem : 4 * p.loglog_ceiling ≤ p.special_len
  pub special_parts : p.special_primary_len + p.special_fallback_len ≡ p.special_len
  pub primary_some : 0 < p.special_primary_len
  pub fallback_is : p.special_fallback_len ≡ p.special_len / 2
  pub fallback_some : 0 < p.fallback_bucket_count
  pub fallback_most : p.fallback_bucket_count ≤ n
  pub fallback_fill : p.fallback_bucket_count * p.fallback_bucket_width ≡ p.special_fallback_len
  pub main_fill : p.total_buckets * p.beta ≡ n - p.special_len
  pub buckets_least : p.alpha ≤ p.total_buckets
  pub buckets_most : p.total_buckets ≤ n
  -- the counts
  pub counts_118 : length cs ≡ 118
  pub counts_sum : total (take p.alpha cs) ≡ p.total_buckets
  pub first_is : p.first_bucket_count ≡ get_or cs 0 0

module _ {n e : ℕ} {p : FunnelPlan} {cs : List ℕ} (i : IsPlan n e p cs) where
  m : PlanNumbers n e p
  m = i.numbers

  d : SpecialMeasured n e p.special_len p.total_buckets p.fallback_bucket_count
  d = i.special

  c : PlanCounts p.total_buckets (alpha_of e) p.first_bucket_count cs
  c = i.levels

  e_top : e ≤ 27
  e_top = exponent_most n e p.special_len i.configured.most d.largest.holds

  main_whole : p.total_buckets * beta_of e ≡ n - p.special_len
  main_whole = ap (λ (x : ℕ). x * beta_of e) d.is_main ∙ div-mul_cancel (beta_of e) d.largest.holds.main

  half_whole : p.fallback_bucket_count * (2 * loglog n) ≡ p.special_len / 2
  half_whole = ap (λ (x : ℕ). x * (2 * loglog n)) d.is_half ∙ div-mul_cancel (2 * loglog n) d.largest.holds.fallback

  half_some : 0 < p.fallback_bucket_count
  half_some = factor_pos p.fallback_bucket_count (2 * loglog n) (omega (arith, half_whole, d.largest.holds.some))

  enough : alpha_of e ≤ p.total_buckets
  enough =
      let f = length_facts n e p.special_len d.largest.holds in
      let l : alpha_of e ≤ (n - p.special_len) / beta_of e = buckets_enough n p.special_len (alpha_of e) (beta_of e) (omega (arith, i.exponent)) (omega (arith, f.main)) (omega (arith, f.main)) in
      omega (arith, d.is_main)

  size : length cs ≡ 118
  size =
      let a : length (take (alpha_of e) cs) ≡ alpha_of e = counts_length p.total_buckets (alpha_of e) (take (alpha_of e) cs) c.counts in
      let b : length (drop (alpha_of e) cs) ≡ 118 - alpha_of e = ap length c.after ∙ length-replicate {A = ℕ} (118 - alpha_of e) 0 in
      let f : length (take (alpha_of e) cs ++ drop (alpha_of e) cs) ≡ length cs = ap length (take-append-drop (alpha_of e) cs) in
      omega (arith, length-append (take (alpha_of e) cs) (drop (alpha_of e) cs), e_top)

  pub plan_facts : PlanFacts n e p cs
  plan_facts =
      let f = length_facts n e p.special_len d.largest.holds in
      let g = loglog_facts n i.configured.most in
      let a = m.is_alpha in
      let b = m.is_beta in
      let l = m.is_loglog in
      let w = m.is_width in
      let x = m.is_primary in
      let y = m.is_fallback in
      let few = measured_most n (special_least n e) (special_most n e) e (2 * loglog n) p.special_len p.total_buckets p.fallback_bucket_count (omega (arith, i.exponent)) (omega (arith, g.least)) (most_within n e) d in
      record {
        n_least = i.configured.least;
        n_most = i.configured.most;
        e_least = i.exponent;
        e_most = e_top;
        maximum_is = m.is_maximum;
        maximum_most = omega (arith, m.is_maximum);
        alpha_is = a;
        alpha_most = omega (arith, e_top);
        beta_is = b;
        loglog_least = omega (arith, g.least);
        loglog_most = omega (arith, g.most);
        width_is = omega arith;
        special_most_lem = omega (arith, f.main);
        special_least_lem = omega (arith, f.least);
        special_parts = omega arith;
        primary_some = omega (arith, d.largest.holds.some);
        fallback_is = y;
        fallback_some = half_some;
        fallback_most = few.1;
        fallback_fill = rw (w, y) half_whole;
        main_fill = rw b main_whole;
        buckets_least = omega (arith, enough);
        buckets_most = few.0;
        counts_118 = size;
        counts_sum = rw a (counts_total p.total_buckets (alpha_of e) (take (alpha_of e) cs) c.counts);
        first_is = c.is_first;
      }

  within : (k : ℕ) → k < p.alpha → k < alpha_of e
  within k h = omega (arith, m.is_alpha)

  -- every level has a bucket
  pub count_some : (k : ℕ) → k < p.alpha → 0 < get_or cs k 0
  count_some k h =
      let l = within k h in
      rw (get_or-take (alpha_of e) cs k 0 l) at (counts_some p.total_buckets (alpha_of e) (take (alpha_of e) cs) (omega (arith, enough)) c.counts k l)

  pub count_most : (k : ℕ) → k < p.alpha → get_or cs k 0 ≤ n
  count_most k h =
      let f = plan_facts in
      omega (arith, total_next cs k (omega arith), total_le cs (k + 1) p.alpha (omega arith))

  -- no level has more buckets than the one before
  pub count_fall : (k : ℕ) → k + 1 < p.alpha → get_or cs (k + 1) 0 ≤ get_or cs k 0
  count_fall k h =
      let l = within (k + 1) h in
      let j : k < alpha_of e = omega arith in
      rw (get_or-take (alpha_of e) cs (k + 1) 0 l, get_or-take (alpha_of e) cs k 0 j) at (counts_fall p.total_buckets (alpha_of e) (take (alpha_of e) cs) c.counts k l)

  -- past the last level the entries are 0
  pub count_after : (k : ℕ) → p.alpha ≤ k → k < 118 → get_or cs k 0 ≡ 0
  count_after k h l =
      let a = m.is_alpha in
      let f : alpha_of e + (k - alpha_of e) ≡ k = omega arith in
      let r : get_or (drop (alpha_of e) cs) (k - alpha_of e) 0 ≡ 0 = rw c.after (get_or-replicate {A = ℕ} (118 - alpha_of e) (k - alpha_of e) 0 0 (omega arith)) in
      let q : get_or (drop (alpha_of e) cs) (k - alpha_of e) 0 ≡ get_or cs k 0 = get_or-drop (alpha_of e) cs (k - alpha_of e) 0 ∙ ap (λ (x : ℕ). get_or cs x 0) f in
      sym q ∙ r

  -- a level ends at or before the special part
  pub level_within : (k : ℕ) → k < p.alpha → total (take k cs) * p.beta + get_or cs k 0 * p.beta ≤ n - p.special_len
  level_within k h =
      let f = plan_facts in
      let s = start_next cs p.beta k (omega arith) in
      let t = mul-le-mul_right p.beta (total_le cs (k + 1) p.alpha (omega arith)) in
      let u : total (take p.alpha cs) * p.beta ≡ n - p.special_len = ap (λ (x : ℕ). x * p.beta) f.counts_sum ∙ f.main_fill in
      omega (arith, s, t, u)

-- plans with equal numbers are equal
pub plan_of : ℕ → ℕ → ℕ → ℕ → ℕ → ℕ → ℕ → ℕ → ℕ → ℕ → ℕ → FunnelPlan
plan_of a b d f g h i j k l o =
    record { maximum = a; alpha = b; beta = d; loglog_ceiling = f; fallback_bucket_width = g; special_len = h; special_primary_len = i; special_fallback_len = j; fallback_bucket_count = k; total_buckets = l; first_bucket_count = o }

pub plan_made : (p : FunnelPlan) → plan_of p.maximum p.alpha p.beta p.loglog_ceiling p.fallback_bucket_width p.special_len p.special_primary_len p.special_fallback_len p.fallback_bucket_count p.total_buckets p.first_bucket_count ≡ p
unfolding plan_of
plan_made p = refl

plan_eq : (p q : FunnelPlan) → p.maximum ≡ q.maximum → p.alpha ≡ q.alpha → p.beta ≡ q.beta → p.loglog_ceiling ≡ q.loglog_ceiling → p.fallback_bucket_width ≡ q.fallback_bucket_width → p.special_len ≡ q.special_len → p.special_primary_len ≡ q.special_primary_len → p.special_fallback_len ≡ q.special_fallback_len → p.fallback_bucket_count ≡ q.fallback_bucket_count → p.total_buckets ≡ q.total_buckets → p.first_bucket_count ≡ q.first_bucket_count → p ≡ q
plan_eq p q a b d f g h i j k l o = cc (plan_made p, plan_made q)

-- at most one plan
pub plan_unique : {n e : ℕ} {p q : FunnelPlan} {cs ds : List ℕ} → IsPlan n e p cs → IsPlan n e q ds → (p ≡ q) × (cs ≡ ds)
plan_unique {n} {e} {p} {q} {cs} {ds} i j =
    (plan_eq p q (a.is_maximum ∙ sym b.is_maximum) (a.is_alpha ∙ sym b.is_alpha) (a.is_beta ∙ sym b.is_beta) (a.is_loglog ∙ sym b.is_loglog) (a.is_width ∙ sym b.is_width) s (omega (arith, a.is_primary, b.is_primary, s)) (omega (arith, a.is_fallback, b.is_fallback, s)) (i.special.is_half ∙ ap (λ (x : ℕ). x / 2 / (2 * loglog n)) s ∙ sym j.special.is_half) t (i.levels.is_first ∙ ap (λ (l : List ℕ). get_or l 0 0) lists ∙ sym j.levels.is_first), lists)
  where
    a : PlanNumbers n e p
    a = i.numbers

    b : PlanNumbers n e q
    b = j.numbers

    s : p.special_len ≡ q.special_len
    s = largest_one i.special.largest j.special.largest

    t : p.total_buckets ≡ q.total_buckets
    t = i.special.is_main ∙ ap (λ (x : ℕ). (n - x) / beta_of e) s ∙ sym j.special.is_main

    front : take (alpha_of e) cs ≡ take (alpha_of e) ds
    front =
        counts_one p.total_buckets (alpha_of e) (take (alpha_of e) cs) (take (alpha_of e) ds) i.levels.counts
        (subst (λ (x : ℕ). Counts x (alpha_of e) (take (alpha_of e) ds)) (sym t) j.levels.counts)

    lists : cs ≡ ds
    lists = sym (take-append-drop (alpha_of e) cs) ∙ rw (front, i.levels.after, ← j.levels.after) (take-append-drop (alpha_of e) ds)
