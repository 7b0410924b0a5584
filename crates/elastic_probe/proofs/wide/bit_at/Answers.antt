-- `elastic_probe::wide::bit_at` meets its contract. Assumes nothing.
use Rattle.elastic_probe.specs.WideLaws.{bit_lower, bit_upper}
use borrow.Author.Rules.{rules}
use Rattle.elastic_probe.proofs.wide.bit_at.Goals as goal

pub returns-then-k-lt64 : goal.returns-then-k-lt64
returns-then-k-lt64 c = bit_lower c.args.x.hi c.args.x.lo c.args.k c.if-k-lt64.true

pub returns : goal.returns
returns c = bit_upper c.args.x.hi c.args.x.lo c.args.k (search rules) c.if-k-lt64.false
