-- `words::power::bit_length` meets its contract. Assumes nothing.
use native.Mathlib.Omega.{arith}
use lib.Count.{leading_le}
use Rattle.words.specs.LogLaws.{log_leading}
use Rattle.words.proofs.power.bit_length.Goals as goal

pub overflow_cast-result : goal.overflow_cast-result
overflow_cast-result c = omega (arith, leading_le 64 c.args.x)

pub overflow_sub-result : goal.overflow_sub-result
overflow_sub-result c = omega (arith, leading_le 64 c.args.x)

pub returns : goal.returns
returns c = log_leading c.args.x c.ranges.x.fits
