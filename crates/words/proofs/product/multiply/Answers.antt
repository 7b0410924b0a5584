-- `words::product::multiply` meets its contract. Assumes nothing.
use Prim.Native.Nat.{◌/◌, ◌%◌, ◌^◌}
use native.Mathlib.Omega.{arith}
use Rattle.words.specs.Columns.{half_mul, expand}
use Rattle.words.proofs.product.multiply.Goals as goal

pub overflow_mul-low : goal.overflow_mul-low
overflow_mul-low c = omega (arith, half_mul (c.args.a % 2 ^ 32) (c.args.b % 2 ^ 32) (omega arith) (omega arith))

pub overflow_mul-mid : goal.overflow_mul-mid
overflow_mul-mid c = omega (arith, half_mul (c.args.a / 2 ^ 32) (c.args.b % 2 ^ 32) (omega arith) (omega arith))

pub overflow_mul-mid-2 : goal.overflow_mul-mid-2
overflow_mul-mid-2 c = omega (arith, half_mul (c.args.a % 2 ^ 32) (c.args.b / 2 ^ 32) (omega arith) (omega arith))

pub overflow_add-mid-2 : goal.overflow_add-mid-2
overflow_add-mid-2 c = omega (arith, half_mul (c.args.a % 2 ^ 32) (c.args.b % 2 ^ 32) (omega arith) (omega arith))

pub returns : goal.returns
returns c = omega (arith, expand c.args.a c.args.b)
