-- `geometry_funnel::plan::is_funnel_plan` meets its contract: each test denies the plan or is a part of it. Assumes nothing.
use mathlib.Core.Bool.{false}
use mathlib.Core.Path.{◌≡◌, sym, ◌∙◌}
use Prim.Native.Nat.{ℕ, ◌≤◌}
use native.Mathlib.Omega.{arith}
use Rattle.std.proofs.lemmas.Grind.{common_steps}
use Rattle.geometry.specs.Special.{SpecialMeasured}
use Rattle.geometry.specs.Funnel.{PlanNumbers}
use Rattle.geometry.specs.SaysLaws.{says_true, says_false}
use Rattle.geometry.specs.FunnelLaws.{plan_facts}
use Rattle.geometry.specs.FunnelGateLaws.{plan_answers}
use Rattle.geometry.specs.FunnelTestLaws.{plan_says}
use Rattle.geometry_funnel.proofs.plan.is_funnel_plan.Goals as goal
use Rattle.geometry_funnel.proofs.plan.is_funnel_plan.Goals.{then-e-le27, else-e-le27, then-numbers_hold, else-numbers_hold}

pub returns-then-special_parts_hold : goal.returns-then-special_parts_hold
returns-then-special_parts_hold c =
    let a = c.args in
    let least : 2 ≤ a.n = grind (arith, common_steps) in
    let most : a.n ≤ 4294967296 = grind (arith, common_steps) in
    let exponent : 3 ≤ a.e = grind (arith, common_steps) in
    let special : SpecialMeasured a.n a.e a.plan.special_len a.plan.total_buckets a.plan.fallback_bucket_count = elim c.if-numbers_hold.branch [
      | then-numbers_hold v ↦ says_true _ _ v.special_parts_hold.ensures (sym v.value-is ∙ c.if-special_parts_hold.true)
      | else-numbers_hold v ↦ let z : ◌≡◌ {A = ℕ} 0 1 = cc in absurd (omega arith)
    ] in
    let numbers : PlanNumbers a.n a.e a.plan = elim c.if-numbers_hold.branch [
      | then-numbers_hold v ↦ elim c.if-e-le27.branch [
        | then-e-le27 w ↦ says_true _ _ w.numbers_hold.ensures (sym w.value-is ∙ v.if-numbers_hold.true)
        | else-e-le27 w ↦ let z : ◌≡◌ {A = ℕ} 0 1 = cc in absurd (omega arith)
      ]
      | else-numbers_hold v ↦ let z : ◌≡◌ {A = ℕ} 0 1 = cc in absurd (omega arith)
    ] in
    plan_answers _ _ _ _ c.plan_counts_hold.result (plan_says _ _ _ _ c.plan_counts_hold.result (record { least = least; most = most; some = omega arith }) exponent numbers special c.plan_counts_hold.ensures)

pub returns-else-special_parts_hold : goal.returns-else-special_parts_hold
returns-else-special_parts_hold c =
    c.if-special_parts_hold.false ∙ plan_answers c.args.n c.args.e c.args.plan c.args.counts.now false (λ i.
    elim c.if-numbers_hold.branch [
      | then-numbers_hold v ↦ says_false _ _ v.special_parts_hold.ensures (sym v.value-is ∙ c.if-special_parts_hold.false) i.special
      | else-numbers_hold v ↦ elim c.if-e-le27.branch [
        | then-e-le27 w ↦ says_false _ _ w.numbers_hold.ensures (sym w.value-is ∙ v.if-numbers_hold.false) i.numbers
        | else-e-le27 w ↦
            let within = i.configured in
            let least = within.least in
            let most = within.most in
            let from = i.exponent in
            let to = (plan_facts i).e_most in
            grind (arith, common_steps)
      ]
    ])
