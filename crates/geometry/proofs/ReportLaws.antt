-- What the gates and the plans report, in 01's words: refusals by name and in their order, then the values. Assumes nothing.
use Rattle.std.specs.Prelude.{Ok, Err, Bool, true, false, not, List, [], ◌∷◌, ◌≡◌, refl, ℕ, ◌+◌, ◌*◌, eqb, ltb, get_or}
use Rattle.std.proofs.Common.{ap, sym}
use Rattle.refusal.specs.Table.{name_of, Report, answered, refused}
use Rattle.refusal.specs.declared.Gate.{Gate}
use Rattle.refusal.specs.declared.Gate.TheVariants as gate
use Rattle.refusal.specs.declared.Name.{Name}
use Rattle.refusal.specs.declared.Name.TheVariants as name
use Rattle.words.specs.Pick.{pick}
use Rattle.geometry.specs.declared.funnel.FunnelPlan.{FunnelPlan}
use Rattle.geometry.specs.Config.{Gated, refuse_if, config_then, gated_report, maximum}
use Rattle.geometry.specs.Elastic.{levels_of, lay_by, elastic_plan_of, planned_report as elasticReport}
use Rattle.geometry.specs.Funnel.{IsPlan}
use Rattle.geometry.specs.FunnelGate.{has_layout, funnel_gate, Planned, planned_report}
use Rattle.geometry.specs.Special.{loglog}

-- what a test that refuses reports, before what the later tests report
refuse_report : (t : Bool) (g : Gate) (n : Name) (later : Gated) (x : Report) → name_of g ≡ n → gated_report later ≡ x
    → gated_report (refuse_if t g later) ≡ pick t (refused n []) x
refuse_report true g n later x named said = ap (λ m. refused m []) named
refuse_report false g n later x named said = said

-- N (1), ZEROEXP (2), SIZE (3), then what the later tests report
pub config_report : (n e : ℕ) (later : Gated) → gated_report (config_then n e later)
    ≡ pick (ltb n 2) (refused name.N [])
    (pick (eqb e 0) (refused name.ZeroExp [])
    (pick (ltb 4294967296 n) (refused name.Size []) (gated_report later)))
unfolding config_then name_of
config_report n e later =
    refuse_report (ltb n 2) gate.N name.N _ _ refl
    (refuse_report (eqb e 0) gate.ZeroExp name.ZeroExp _ _ refl (refuse_report (ltb 4294967296 n) gate.Size name.Size _ _ refl refl))

-- then EXPONENT (4) and LAYOUT (5) for a funnel
pub funnel_gate_report : (n e : ℕ) → gated_report (funnel_gate n e)
    ≡ pick (ltb n 2) (refused name.N [])
    (pick (eqb e 0) (refused name.ZeroExp [])
    (pick (ltb 4294967296 n) (refused name.Size [])
    (pick (ltb e 3) (refused name.Exponent [])
    (pick (not (has_layout n e)) (refused name.Layout []) (answered [])))))
unfolding funnel_gate config_then name_of
funnel_gate_report n e =
    refuse_report (ltb n 2) gate.N name.N _ _ refl
    (refuse_report (eqb e 0) gate.ZeroExp name.ZeroExp _ _ refl
    (refuse_report (ltb 4294967296 n) gate.Size name.Size _ _ refl
    (refuse_report (ltb e 3) gate.Exponent name.Exponent _ _ refl
    (refuse_report (not (has_layout n e)) gate.Layout name.Layout _ _ refl refl))))

-- "F: n, e, maximum, alpha, beta, g, width, s, first count": the values of a plan, s being its special length and its counts those that are lent
pub funnel_plan_report : (n e : ℕ) (p : FunnelPlan) (cs : List ℕ) → IsPlan n e p cs
    → planned_report (Ok p) ≡ answered (maximum n e ∷ (4 * e + 10) ∷ (2 * e) ∷ loglog n ∷ (2 * loglog n) ∷ p.special_len ∷ get_or cs 0 0 ∷ [])
funnel_plan_report n e p cs plan = rw (
  plan.numbers.is_maximum,
  plan.numbers.is_alpha,
  plan.numbers.is_beta,
  plan.numbers.is_loglog,
  plan.numbers.is_width,
  plan.levels.is_first,
)

-- a refused plan reports what its gate does
pub funnel_refusal_report : (n e : ℕ) (before after : List ℕ) (g : Gate) → Planned n e before (Err g) after
    → planned_report (Err g) ≡ gated_report (funnel_gate n e)
unfolding Planned
funnel_refusal_report n e before after g said = sym (ap gated_report said.0)

-- an elastic plan reports its levels and its maximum, behind 1 to 3
pub elastic_plan_report : (n e : ℕ) (lengths quotas : List ℕ) → elasticReport (elastic_plan_of n e lengths quotas).answer
    ≡ pick (ltb n 2) (refused name.N [])
    (pick (eqb e 0) (refused name.ZeroExp [])
    (pick (ltb 4294967296 n) (refused name.Size []) (answered (levels_of n ∷ maximum n e ∷ []))))
unfolding elastic_plan_of lay_by config_then name_of elasticReport
elastic_plan_report n e lengths quotas = go (ltb n 2) (eqb e 0) (ltb 4294967296 n)
  where
    go : (a b c : Bool) → elasticReport (lay_by (refuse_if a gate.N (refuse_if b gate.ZeroExp (refuse_if c gate.Size (Ok tt)))) n e lengths quotas).answer
        ≡ pick a (refused name.N []) (pick b (refused name.ZeroExp []) (pick c (refused name.Size []) (answered (levels_of n ∷ maximum n e ∷ []))))
    go true b c = refl
    go false true c = refl
    go false false true = refl
    go false false false = refl
