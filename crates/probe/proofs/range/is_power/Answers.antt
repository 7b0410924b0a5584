-- `probe::range::is_power` meets its contract. Assumes nothing.
use Rattle.std.proofs.Common.{◌≡◌, ℕ, ◌*◌, ◌^◌, eqb, ap, ◌∙◌, arith, shl_exact}
use lib.Count.{count_trailing_zeros, trailing_le}
use Rattle.probe.specs.ShiftLaws.{trailing_below}
use Rattle.probe.proofs.range.is_power.Goals as goal

pub overflow_cast-result : goal.overflow_cast-result
overflow_cast-result c = omega (arith, trailing_le 64 c.args.u)

pub overflow_shl-result : goal.overflow_shl-result
overflow_shl-result c = trailing_below 64 c.args.u c.requires c.ranges.u.fits

pub returns : goal.returns
returns c =
    let u = c.args.u in
    let z = count_trailing_zeros 64 u in
    let below = trailing_below 64 u c.requires c.ranges.u.fits in
    let one : 1 * 2 ^ z ≡ 2 ^ z = omega arith in
    ap (λ (x : ℕ). eqb x u) (shl_exact 1 z 64 (omega arith) (omega arith) ∙ one)
