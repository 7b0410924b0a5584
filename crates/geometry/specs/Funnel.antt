-- The plan of a funnel table of n slots and reserve 2^-e, as the rules say it. Assumes nothing.
use Rattle.std.specs.Prelude.{◌≡◌, List, ℕ, ◌+◌, ◌-◌, ◌*◌, ◌/◌, ◌≤◌, take, drop, get_or, replicate}
use Rattle.geometry.specs.Config.{Configured, maximum}
use Rattle.geometry.specs.Counts.{Counts}
use Rattle.geometry.specs.Special.{loglog, SpecialMeasured}
use Rattle.geometry.specs.declared.funnel.FunnelPlan.{FunnelPlan}

-- "Funnel: alpha = 4e+10, beta = 2e"
abbrev pub alpha_of : ℕ → ℕ
alpha_of e = 4 * e + 10

abbrev pub beta_of : ℕ → ℕ
beta_of e = 2 * e

-- the plain numbers of the plan, and the parts of its special length
pub record PlanNumbers (n e : ℕ) (p : FunnelPlan) : Type 0 where
  pub is_maximum : p.maximum ≡ maximum n e
  pub is_alpha : p.alpha ≡ alpha_of e
  pub is_beta : p.beta ≡ beta_of e
  -- "g = .., fallback width 2g"
  pub is_loglog : p.loglog_ceiling ≡ loglog n
  pub is_width : p.fallback_bucket_width ≡ 2 * loglog n
  -- "Primary is ceil(s/2), fallback floor(s/2)"
  pub is_primary : p.special_primary_len ≡ p.special_len - p.special_len / 2
  pub is_fallback : p.special_fallback_len ≡ p.special_len / 2

-- "T = (n-s)/beta buckets fill alpha levels", in an array of 118: the entries past the last level are 0
pub record PlanCounts (t levels first : ℕ) (cs : List ℕ) : Type 0 where
  pub is_first : first ≡ get_or cs 0 0
  pub counts : Counts t levels (take levels cs)
  pub after : drop levels cs ≡ replicate (118 - levels) 0

-- p and cs are the plan of n and e: the two are in the domain, "funnel, e below 3" is refused, and every number is right
pub record IsPlan (n e : ℕ) (p : FunnelPlan) (cs : List ℕ) : Type 0 where
  pub configured : Configured n e
  pub exponent : 3 ≤ e
  pub numbers : PlanNumbers n e p
  pub special : SpecialMeasured n e p.special_len p.total_buckets p.fallback_bucket_count
  pub levels : PlanCounts p.total_buckets (alpha_of e) p.first_bucket_count cs

-- there is a plan of n and e
abbrev pub Layout : ℕ → ℕ → Type 0
Layout n e = (p : FunnelPlan) × (cs : List ℕ) × IsPlan n e p cs
