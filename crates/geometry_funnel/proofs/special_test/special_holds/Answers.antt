-- `geometry_funnel::special_test::special_holds` meets its contract: each test is a law of the length. Assumes nothing.
use mathlib.Core.Path.{◌≡◌}
use Prim.Native.Nat.{◌*◌, ◌-◌, ◌/◌, ◌≤◌}
use native.Mathlib.Omega.{arith}
use Rattle.std.proofs.lemmas.Grind.{common_steps}
use Rattle.geometry.specs.PeriodLaws.{measured, measured_main, measured_half, measured_most, measured_past, period_within, product_small}
use Rattle.geometry_funnel.proofs.Tests.{says_lt}
use Rattle.geometry_funnel.proofs.special_test.special_holds.Goals as goal

pub overflow_mul-result : goal.overflow_mul-result
overflow_mul-result c =
    let s = c in
    omega (arith, product_small c.special_period.result (2 * s.args.h) (omega (arith, period_within _ _ _ s.requires.4 c.special_period.ensures)) (omega arith))

pub returns-then-half-w : goal.returns-then-half-w
returns-then-half-w c =
    let s = c.requires in
    let a : c.args.lo ≤ c.args.s = grind (arith, common_steps) in
    let b : c.args.s ≤ c.args.hi = grind (arith, common_steps) in
    let d : c.args.main * (2 * c.args.h) ≡ c.args.n - c.args.s = grind (arith, common_steps) in
    let e : c.args.half * c.args.w ≡ c.args.s / 2 = grind (arith, common_steps) in
    says_lt
    _
    _
    _
    (measured _ _ _ _ _ _ _ _ _ s.2 s.4 s.0 c.special_period.ensures s.6 a b d e)
    (measured_past _ _ _ _ _ _ _ _ _ s.2 s.4 s.0 c.special_period.ensures b)

pub returns-else-half-w : goal.returns-else-half-w
returns-else-half-w c =
    let s = c.requires in
    rw c.if-half-w.false (λ m.
    let within = measured_most _ _ _ _ _ _ _ _ s.2 s.4 s.0 m in
    let from = m.largest.holds.from in
    let to = m.largest.holds.to in
    let main = measured_main _ _ _ _ _ _ _ _ m in
    let half = measured_half _ _ _ _ _ _ _ _ m in
    grind (arith, common_steps))
