-- `elastic_probe::wide::low_bits` meets its contract. Assumes nothing.
use Prim.Native.Nat.{◌-◌}
use native.Mathlib.Omega.{arith}
use lib.Pow.{pow_pos}
use Rattle.elastic_probe.specs.WideLaws.{one_shifted, mod_lower, mod_upper}
use borrow.Author.Rules.{rules}
use Rattle.elastic_probe.proofs.wide.low_bits.Goals as goal

pub nonzero_rem-result : goal.nonzero_rem-result
nonzero_rem-result c = rw (one_shifted c.args.k c.if-k-lt64.true) (pow_pos _)

pub returns-then-k-lt64 : goal.returns-then-k-lt64
returns-then-k-lt64 c = rw (one_shifted c.args.k c.if-k-lt64.true) (mod_lower c.args.x.hi c.args.x.lo c.args.k c.if-k-lt64.true)

pub nonzero_rem-result-2 : goal.nonzero_rem-result-2
nonzero_rem-result-2 c = rw (one_shifted (c.args.k - 64) (omega arith)) (pow_pos _)

pub returns : goal.returns
returns c = rw (one_shifted (c.args.k - 64) (omega arith)) (mod_upper c.args.x.hi c.args.x.lo c.args.k (search rules) c.if-k-lt64.false)
