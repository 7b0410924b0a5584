-- What a request for a funnel's plan is answered, and whether given numbers are the plan. Assumes nothing.
use Rattle.std.specs.Prelude.{Result, Ok, Err, Bool, not, ◌≡◌, List, [], ◌∷◌, ℕ, ltb}
use Rattle.refusal.specs.Table.{name_of, Report, answered, refused}
use Rattle.refusal.specs.declared.Gate.TheVariants as gate
use Rattle.geometry.specs.declared.funnel.FunnelPlan.{FunnelPlan}
use Rattle.refusal.specs.declared.Gate.{Gate}
use Rattle.geometry.specs.Config.{Gated, refuse_if, config_then}
use Rattle.geometry.specs.Says.{truth}
use Rattle.geometry.specs.Funnel.{IsPlan}
use Rattle.geometry.specs.FunnelExist.{layout_dec, plan_dec}

-- whether there is a plan, and whether p and cs are it
unfoldable pub has_layout : ℕ → ℕ → Bool
has_layout n e = truth (layout_dec n e)

unfoldable pub is_plan : ℕ → ℕ → FunnelPlan → List ℕ → Bool
is_plan n e p cs = truth (plan_dec n e p cs)

-- N, ZEROEXP, SIZE, then EXPONENT (4): "funnel, e below 3", and LAYOUT (5): "no funnel layout by the rule below"
unfoldable pub funnel_gate : ℕ → ℕ → Gated
funnel_gate n e = config_then n e (refuse_if (ltb e 3) gate.Exponent (refuse_if (not (has_layout n e)) gate.Layout (Ok tt)))

-- the answer r and the counts at exit: the plan, or the gate's refusal with the counts as on entry
unfoldable pub Planned : (n e : ℕ) (before : List ℕ) → Result FunnelPlan Gate → (after : List ℕ) → Type 0
Planned n e before (Ok p) after = IsPlan n e p after
Planned n e before (Err g) after = (funnel_gate n e ≡ Err g) × (after ≡ before)

-- what it reports: 01's "F: n, e, maximum, alpha, beta, g, width, s, first count" without n and e, or the refusal
abbrev pub planned_report : Result FunnelPlan Gate → Report
planned_report (Ok p) = answered (p.maximum ∷ p.alpha ∷ p.beta ∷ p.loglog_ceiling ∷ p.fallback_bucket_width ∷ p.special_len ∷ p.first_bucket_count ∷ [])
planned_report (Err g) = refused (name_of g) []
