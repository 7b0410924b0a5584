-- Laws of the funnel's gate: when it refuses, that it passes exactly where there is a plan, that the answer is one, and the
-- truth of the test whether given numbers are the plan. Assumes nothing.
use Rattle.std.specs.Prelude.{Result, Ok, Err, Some, None, Bool, not, List, ltb}
use Rattle.std.proofs.Math.Bool.{true, false}
use Rattle.std.proofs.Math.Path.{◌≡◌, refl}
use Rattle.std.proofs.Common.{sym, ap, ◌∙◌, arith, lt-ltb, le-ltb}
use Prim.Native.Nat.{ℕ, ◌≤◌, ◌<◌}
use Rattle.refusal.specs.declared.Gate.{Gate}
use Rattle.refusal.specs.declared.Gate.TheVariants as gate
use Rattle.geometry.specs.declared.funnel.FunnelPlan.{FunnelPlan}
use Rattle.geometry.specs.Config.{Configured, refuse_if, config_gate}
use Rattle.geometry.specs.ConfigLaws.{config_pass, config_refused, config_passed, config_facts, config_gate_facts}
use Rattle.geometry.specs.Says.{Says}
use Rattle.geometry.specs.SaysLaws.{says_true, says_false, says_one, truth_says}
use Rattle.geometry.specs.Extreme.{IsLargest}
use Rattle.geometry.specs.Special.{SpecialLength, FoundFor}
use Rattle.geometry.specs.Funnel.{IsPlan, Layout}
use Rattle.geometry.specs.FunnelLaws.{plan_unique}
use Rattle.geometry.specs.FunnelExist.{layout_dec, plan_dec, special_layout}
use Rattle.geometry.specs.FunnelGate.{has_layout, is_plan, funnel_gate, Planned}

-- the truth values say what they are the truth of
pub has_layout_says : (n e : ℕ) → Says (has_layout n e) (Layout n e)
unfolding has_layout
has_layout_says n e = truth_says (layout_dec n e)

pub is_plan_says : (n e : ℕ) (p : FunnelPlan) (cs : List ℕ) → Says (is_plan n e p cs) (IsPlan n e p cs)
unfolding is_plan
is_plan_says n e p cs = truth_says (plan_dec n e p cs)

module _ (n e : ℕ) (p : FunnelPlan) (cs : List ℕ) where
  pub plan_answers : (b : Bool) → Says b (IsPlan n e p cs) → b ≡ is_plan n e p cs
  plan_answers b s = says_one b (is_plan n e p cs) (IsPlan n e p cs) s (is_plan_says n e p cs)

  pub plan_of_true : is_plan n e p cs ≡ true → IsPlan n e p cs
  plan_of_true = says_true (is_plan n e p cs) (IsPlan n e p cs) (is_plan_says n e p cs)

  pub no_plan_of_false : is_plan n e p cs ≡ false → IsPlan n e p cs → ⊥
  no_plan_of_false = says_false (is_plan n e p cs) (IsPlan n e p cs) (is_plan_says n e p cs)

-- the gate's answers
module _ (n e : ℕ) where
  layout_true : Layout n e → has_layout n e ≡ true
  layout_true l = says_one (has_layout n e) true (Layout n e) (has_layout_says n e) l

  layout_false : (Layout n e → ⊥) → has_layout n e ≡ false
  layout_false f = says_one (has_layout n e) false (Layout n e) (has_layout_says n e) f

  pub gate_config : (g : Gate) → config_gate n e ≡ Err g → funnel_gate n e ≡ Err g
  unfolding funnel_gate
  gate_config g h = config_refused n e _ g h

  module _ (h : config_gate n e ≡ Ok tt) where
    pub gate_exponent : e < 3 → funnel_gate n e ≡ Err gate.Exponent
    unfolding funnel_gate
    gate_exponent l = config_passed n e _ h ∙ rw (lt-ltb e 3 l)

    pub gate_layout : 3 ≤ e → (Layout n e → ⊥) → funnel_gate n e ≡ Err gate.Layout
    unfolding funnel_gate
    gate_layout l f = config_passed n e _ h ∙ rw (le-ltb e 3 l, layout_false f)

  -- the gate passes exactly where there is a plan
  pub gate_pass : Layout n e → funnel_gate n e ≡ Ok tt
  unfolding funnel_gate
  gate_pass l =
      let c = l.2.configured in
      config_pass n e _ c.least (λ z. omega (arith, c.some)) c.most ∙ rw (le-ltb e 3 l.2.exponent, layout_true l)

  pub gate_passed : funnel_gate n e ≡ Ok tt → Layout n e
  unfolding funnel_gate
  gate_passed h = go (ltb e 3) (has_layout n e) refl (config_facts n e _ h).1
    where
      go : (x y : Bool) → has_layout n e ≡ y → refuse_if x gate.Exponent (refuse_if (not y) gate.Layout (Ok tt)) ≡ Ok tt → Layout n e
      go false true b k = says_true (has_layout n e) (Layout n e) (has_layout_says n e) b
      go true y b k = let z : ◌≡◌ {A = ℕ} 0 1 = cc in absurd (omega arith)
      go false false b k = let z : ◌≡◌ {A = ℕ} 0 1 = cc in absurd (omega arith)

pub plan_passes : {n e : ℕ} {p : FunnelPlan} {cs : List ℕ} → IsPlan n e p cs → funnel_gate n e ≡ Ok tt
plan_passes {n} {e} {p} {cs} i = gate_pass n e (p, cs, i)

-- what an answer says
module _ (n e : ℕ) (before after : List ℕ) where
  pub planned_plan : (p : FunnelPlan) → Planned n e before (Ok p) after → IsPlan n e p after
  unfolding Planned
  planned_plan p i = i

  pub planned_refused : (g : Gate) → Planned n e before (Err g) after → (funnel_gate n e ≡ Err g) × (after ≡ before)
  unfolding Planned
  planned_refused g i = i

-- the answer and the counts at exit are one
pub planned_unique : (n e : ℕ) (old : List ℕ) (r t : Result FunnelPlan Gate) (a b : List ℕ) → Planned n e old r a → Planned n e old t b → (r ≡ t) × (a ≡ b)
unfolding Planned
planned_unique n e old (Ok p) (Ok q) a b i j = let u = plan_unique i j in (ap Ok u.0, u.1)
planned_unique n e old (Ok p) (Err h) a b i j = let k = sym (plan_passes i) ∙ j.0 in let z : ◌≡◌ {A = ℕ} 0 1 = cc in absurd (omega arith)
planned_unique n e old (Err g) (Ok q) a b i j = let k = sym (plan_passes j) ∙ i.0 in let z : ◌≡◌ {A = ℕ} 0 1 = cc in absurd (omega arith)
planned_unique n e old (Err g) (Err h) a b i j = let k = sym i.0 ∙ j.0 in (let x : g ≡ h = cc in ap Err x, i.1 ∙ sym j.1)

-- what the code finds on the way
module _ (n e : ℕ) (h : config_gate n e ≡ Ok tt) (l : 3 ≤ e) where
  pub special_none : FoundFor n e None → funnel_gate n e ≡ Err gate.Layout
  unfolding FoundFor
  special_none f = gate_layout n e h l (λ y. f y.0.special_len y.2.special.largest.holds)

  pub special_some : (s : ℕ) → FoundFor n e (Some s) → Configured n e × (3 ≤ e) × IsLargest (SpecialLength n e) s
  unfolding FoundFor
  special_some s f = (config_gate_facts n e h, l, f)

pub special_passes : (n e s : ℕ) → Configured n e → 3 ≤ e → IsLargest (SpecialLength n e) s → funnel_gate n e ≡ Ok tt
special_passes n e s c h l = gate_pass n e (special_layout n e s c h l)
