-- When there is a plan: exactly where there is a special length, which always comes with a complete set of counts. It can
-- be decided whether there is one, and whether given numbers are it. Assumes nothing.
use Rattle.std.specs.Prelude.{◌≡◌, List, [], ◌∷◌, ◌++◌, ℕ, zero, suc, ◌+◌, ◌-◌, ◌*◌, ◌/◌, ◌≤◌, ◌<◌, take, get_or, replicate}
use Rattle.std.proofs.Math.Path.{refl}
use Rattle.std.proofs.Common.{sym, ap, subst, lt_of_not-le, arith, take_at, drop_at}
use Rattle.std.specs.Int.{◌∣◌}
use Rattle.std.proofs.Math.Decide.{dec_le, dec_dvd, ℕ_discrete}
use Rattle.geometry.specs.Config.{Configured, maximum}
use Rattle.geometry.specs.Extreme.{IsLargest}
use Rattle.geometry.specs.Counts.{Counts}
use Rattle.geometry.specs.CountsExist.{counts_exist}
use Rattle.geometry.specs.Special.{loglog, special_least, special_most, SpecialLength}
use Rattle.geometry.specs.SpecialLaws.{buckets_enough}
use Rattle.geometry.specs.LengthLaws.{length_facts}
use Rattle.geometry.specs.LevelLaws.{counts_length}
use Rattle.geometry.specs.Funnel.{alpha_of, beta_of, PlanCounts, IsPlan, Layout}
use Rattle.geometry.specs.FunnelLaws.{plan_made, plan_unique}
use Rattle.geometry.specs.declared.funnel.FunnelPlan.{FunnelPlan}

-- the plan with the special length s and the first count x
unfoldable pub plan_with : ℕ → ℕ → ℕ → ℕ → FunnelPlan
plan_with n e s x =
    record {
      maximum = maximum n e;
      alpha = alpha_of e;
      beta = beta_of e;
      loglog_ceiling = loglog n;
      fallback_bucket_width = 2 * loglog n;
      special_len = s;
      special_primary_len = s - s / 2;
      special_fallback_len = s / 2;
      fallback_bucket_count = s / 2 / (2 * loglog n);
      total_buckets = (n - s) / beta_of e;
      first_bucket_count = x;
    }

-- a special length leaves as many buckets as levels
pub special_buckets : (n e s : ℕ) → 3 ≤ e → SpecialLength n e s → alpha_of e ≤ (n - s) / beta_of e
special_buckets n e s h p =
    let f = length_facts n e s p in
    buckets_enough n s (alpha_of e) (beta_of e) (omega arith) (omega (arith, f.main)) (omega (arith, f.main))

module _ (n e s : ℕ) (c : Configured n e) (h : 3 ≤ e) (l : IsLargest (SpecialLength n e) s) where
  -- with counts that are right the numbers make a plan
  pub plan_is : (cs : List ℕ) → PlanCounts ((n - s) / beta_of e) (alpha_of e) (get_or cs 0 0) cs → IsPlan n e (plan_with n e s (get_or cs 0 0)) cs
  unfolding plan_with
  plan_is cs k =
      record {
        configured = c;
        exponent = h;
        numbers = record { is_maximum = refl; is_alpha = refl; is_beta = refl; is_loglog = refl; is_width = refl; is_primary = refl; is_fallback = refl };
        special = record { largest = l; is_main = refl; is_half = refl };
        levels = k;
      }

  -- so the second cause of LAYOUT never occurs
  pub special_layout : Layout n e
  special_layout =
      let q = special_buckets n e s h l.holds in
      let a : suc (4 * e + 9) ≡ alpha_of e = omega arith in
      go (subst (λ (k : ℕ). (xs : List ℕ) × Counts ((n - s) / beta_of e) k xs) a (counts_exist ((n - s) / beta_of e) (4 * e + 9) (omega arith)))
    where
      go : (xs : List ℕ) × Counts ((n - s) / beta_of e) (alpha_of e) xs → Layout n e
      go r =
          let xs = r.0 in
          let z = counts_length ((n - s) / beta_of e) (alpha_of e) xs r.1 in
          let cs : List ℕ = xs ++ replicate (118 - alpha_of e) 0 in
          let k : Counts ((n - s) / beta_of e) (alpha_of e) (take (alpha_of e) cs) = rw (take_at xs (replicate (118 - alpha_of e) 0) (alpha_of e) z) r.1 in
          (plan_with n e s (get_or cs 0 0), cs, plan_is cs (record { is_first = refl; counts = k; after = drop_at xs (replicate (118 - alpha_of e) 0) (alpha_of e) z }))

-- a bounded property that can be decided has a largest number or none
largest_dec : (P : ℕ → Type 0) → ((s : ℕ) → Dec (P s)) → (most : ℕ) → ((s : ℕ) → P s → s ≤ most) → Dec ((s : ℕ) × IsLargest P s)
largest_dec P d zero b = go (d zero)
  where
    go : Dec (P zero) → Dec ((s : ℕ) × IsLargest P s)
    go (yes p) = yes (zero, record { holds = p; above = b })
    go (no f) = no (λ q. f (subst P (let l = b q.0 q.1.holds in omega arith) q.1.holds))
largest_dec P d (suc most) b = go (d (suc most)) (λ f. largest_dec P d most (below f))
  where
    below : (P (suc most) → ⊥) → (s : ℕ) → P s → s ≤ most
    below f s p = at (dec_le s most)
      where
        at : Dec (s ≤ most) → s ≤ most
        at (yes l) = l
        at (no k) = let u = b s p in let v = lt_of_not-le k in let w : s ≡ suc most = omega arith in absurd (f (subst P w p))

    go : Dec (P (suc most)) → ((P (suc most) → ⊥) → Dec ((s : ℕ) × IsLargest P s)) → Dec ((s : ℕ) × IsLargest P s)
    go (yes p) r = yes (suc most, record { holds = p; above = b })
    go (no f) r = r f

special_dec : (n e s : ℕ) → Dec (SpecialLength n e s)
special_dec n e s = go (dec_le (special_least n e) s) (dec_le s (special_most n e)) (dec_dvd (2 * e) (n - s)) (dec_dvd (2 * loglog n) (s / 2)) (dec_le 1 (s / 2))
  where
    go : Dec (special_least n e ≤ s) → Dec (s ≤ special_most n e) → Dec (2 * e ∣ n - s) → Dec (2 * loglog n ∣ s / 2) → Dec (0 < s / 2) → Dec (SpecialLength n e s)
    go (yes a) (yes b) (yes c) (yes d) (yes f) = yes (record { from = a; to = b; main = c; fallback = d; some = f })
    go (no k) b c d f = no (λ p. k p.from)
    go (yes a) (no k) c d f = no (λ p. k p.to)
    go (yes a) (yes b) (no k) d f = no (λ p. k p.main)
    go (yes a) (yes b) (yes c) (no k) f = no (λ p. k p.fallback)
    go (yes a) (yes b) (yes c) (yes d) (no k) = no (λ p. k p.some)

-- whether there is a plan
pub layout_dec : (n e : ℕ) → Dec (Layout n e)
layout_dec n e = go (dec_le 2 n) (dec_le n 4294967296) (dec_le 3 e) (largest_dec (SpecialLength n e) (special_dec n e) (special_most n e) (λ s p. p.to))
  where
    go : Dec (2 ≤ n) → Dec (n ≤ 4294967296) → Dec (3 ≤ e) → Dec ((s : ℕ) × IsLargest (SpecialLength n e) s) → Dec (Layout n e)
    go (yes a) (yes b) (yes c) (yes s) = yes (special_layout n e s.0 (record { least = a; most = b; some = omega arith }) c s.1)
    go (no k) b c s = no (λ l. k l.2.configured.least)
    go (yes a) (no k) c s = no (λ l. k l.2.configured.most)
    go (yes a) (yes b) (no k) s = no (λ l. k l.2.exponent)
    go (yes a) (yes b) (yes c) (no k) = no (λ l. k (l.0.special_len, l.2.special.largest))

-- equality of lists and of plans can be decided
list_dec : (xs ys : List ℕ) → Dec (xs ≡ ys)
list_dec [] [] = yes refl
list_dec [] (y ∷ ys) = no (λ e. let z : ◌≡◌ {A = ℕ} 0 1 = cc in omega arith)
list_dec (x ∷ xs) [] = no (λ e. let z : ◌≡◌ {A = ℕ} 0 1 = cc in omega arith)
list_dec (x ∷ xs) (y ∷ ys) = go (ℕ_discrete x y) (list_dec xs ys)
  where
    go : Dec (x ≡ y) → Dec (xs ≡ ys) → Dec (x ∷ xs ≡ y ∷ ys)
    go (yes a) (yes b) = yes (cc)
    go (no k) b = no (λ e. k (cc))
    go (yes a) (no k) = no (λ e. k (cc))

numbers : FunnelPlan → List ℕ
numbers p = p.maximum ∷ p.alpha ∷ p.beta ∷ p.loglog_ceiling ∷ p.fallback_bucket_width ∷ p.special_len ∷ p.special_primary_len ∷ p.special_fallback_len ∷ p.fallback_bucket_count ∷ p.total_buckets ∷ p.first_bucket_count ∷ []

numbers_one : (p q : FunnelPlan) → numbers p ≡ numbers q → p ≡ q
unfolding numbers
numbers_one p q h = cc (plan_made p, plan_made q)

-- whether these are the numbers of the plan
pub plan_dec : (n e : ℕ) (p : FunnelPlan) (cs : List ℕ) → Dec (IsPlan n e p cs)
plan_dec n e p cs = go (layout_dec n e)
  where
    go : Dec (Layout n e) → Dec (IsPlan n e p cs)
    go (no k) = no (λ i. k (p, cs, i))
    go (yes l) = at (list_dec (numbers p) (numbers l.0)) (list_dec cs l.1)
      where
        at : Dec (numbers p ≡ numbers l.0) → Dec (cs ≡ l.1) → Dec (IsPlan n e p cs)
        at (yes a) (yes b) = yes (subst (λ (q : FunnelPlan). IsPlan n e q cs) (sym (numbers_one p l.0 a)) (subst (IsPlan n e l.0) (sym b) l.2))
        at (no k) b = no (λ i. k (ap numbers (plan_unique i l.2).0))
        at (yes a) (no k) = no (λ i. k (plan_unique i l.2).1)
