use mathlib.Core.Path.{ap}
use Prim.Native.Nat.{ℕ, ◌+◌, ◌*◌, ◌^◌, ◌≤◌}
use native.Mathlib.Omega.{arith}
use lib.Pow.{pow_mono}
use Rattle.geometry_smallest.specs.MinimumLaws.{loglog_least, loglog_most, minimum_exponent, raised_none, raised_found, raised_more}
use Rattle.geometry_smallest.proofs.minimum.funnel_minimum_slots.Goals as goal

pub returns-then-e-gt61 : goal.returns-then-e-gt61
returns-then-e-gt61 c = minimum_exponent _ _ c.if-e-gt61.true

pub required_slots-requires : goal.required_slots-requires
required_slots-requires c =
    let g = c.base_two_loglog_ceiling.ensures in
    let n = c.loop-need.n in
    let l = loglog_least c.loop-need.n in
    let m = loglog_most c.loop-need.n (omega (arith, c.loop-need.invariant.1)) in
    let two : 2 ≤ c.args.e + 2 = omega arith in
    let p : 2 ^ 2 ≤ 2 ^ (c.args.e + 2) = pow_mono two in
    (omega arith, omega arith, omega (arith, c.power_of_two-power.ensures))

pub returns-in_err-need : goal.returns-in_err-need
returns-in_err-need c =
    rw c.from_residual.ensures (raised_none _ _ _ c.loop-need.invariant.0 c.loop-need.invariant.1 _ _ 0
    (ap (λ (x : ℕ). 4 * x) c.base_two_loglog_ceiling.ensures) c.power_of_two-power.ensures c.in_err-need.ensures)

pub returns-then-need-n : goal.returns-then-need-n
returns-then-need-n c =
    raised_found _ _ _ c.loop-need.invariant.0 c.loop-need.invariant.1 _ _ _ (ap (λ (x : ℕ). 4 * x) c.base_two_loglog_ceiling.ensures)
    c.power_of_two-power.ensures c.in_ok-need.ensures c.if-need-n.true

pub loop-need-preserved : goal.loop-need-preserved
loop-need-preserved c = (
  raised_more _ _ _ c.loop-need.invariant.0 c.loop-need.invariant.1 _ _ _ (ap (λ (x : ℕ). 4 * x) c.base_two_loglog_ceiling.ensures)
      c.power_of_two-power.ensures c.in_ok-need.ensures c.if-need-n.false,
  omega arith,
)
