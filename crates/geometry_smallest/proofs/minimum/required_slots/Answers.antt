-- `geometry_smallest::minimum::required_slots` meets its contract. Assumes nothing.
use mathlib.Core.Path.{refl}
use Prim.Native.Nat.{◌*◌}
use native.Mathlib.Omega.{arith}
use Rattle.geometry_smallest.specs.MinimumLaws.{rest_small, required_past, required_sum}
use Rattle.geometry_smallest.proofs.minimum.required_slots.Goals as goal

pub returns-in_err-checked_mul : goal.returns-in_err-checked_mul
returns-in_err-checked_mul c =
    let a = c.in_err-checked_mul.ensures in
    let s = rest_small (4 * c.args.g) c.args.power (omega arith) in
    rw c.from_residual.ensures (required_past _ _ (omega arith) _ refl (omega arith) (omega arith))

pub returns : goal.returns
returns c =
    let a = c.in_ok-checked_mul.ensures in
    let b = c.checked_add.ensures in
    let s = rest_small (4 * c.args.g) c.args.power (omega arith) in
    required_sum _ _ (omega arith) _ refl (omega arith) c.requires.2 _ (rw a.1 at b)
