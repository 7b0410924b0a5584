-- `words::product::multiply_high` meets its contract. Assumes nothing.
use native.Mathlib.Omega.{arith}
use Rattle.words.specs.Columns.{products, expand}
use Rattle.words.proofs.product.multiply_high.Goals as goal

pub overflow_mul-t : goal.overflow_mul-t
overflow_mul-t c = omega (arith, products c.args.a c.args.b c.ranges.a.fits c.ranges.b.fits)

pub overflow_mul-t-2 : goal.overflow_mul-t-2
overflow_mul-t-2 c = omega (arith, products c.args.a c.args.b c.ranges.a.fits c.ranges.b.fits)

pub overflow_add-t : goal.overflow_add-t
overflow_add-t c = omega (arith, products c.args.a c.args.b c.ranges.a.fits c.ranges.b.fits)

pub overflow_mul-w : goal.overflow_mul-w
overflow_mul-w c = omega (arith, products c.args.a c.args.b c.ranges.a.fits c.ranges.b.fits)

pub overflow_add-w : goal.overflow_add-w
overflow_add-w c = omega (arith, products c.args.a c.args.b c.ranges.a.fits c.ranges.b.fits)

pub overflow_mul-result : goal.overflow_mul-result
overflow_mul-result c = omega (arith, products c.args.a c.args.b c.ranges.a.fits c.ranges.b.fits)

pub overflow_add-result : goal.overflow_add-result
overflow_add-result c = omega (arith, products c.args.a c.args.b c.ranges.a.fits c.ranges.b.fits)

pub overflow_add-result-2 : goal.overflow_add-result-2
overflow_add-result-2 c = omega (arith, products c.args.a c.args.b c.ranges.a.fits c.ranges.b.fits)

pub returns : goal.returns
returns c = omega (arith, expand c.args.a c.args.b)
