-- `elastic_probe::wide::with_bit` meets its contract. Assumes nothing.
use Rattle.elastic_probe.specs.WideLaws.{add_lower, with_lower, add_upper, with_upper}
use Rattle.elastic_probe.proofs.wide.with_bit.Goals as goal

pub overflow_add-result : goal.overflow_add-result
overflow_add-result c = record { fits = add_lower c.args.x.hi _ _ _ c.requires.0 c.requires.2 c.if-k-lt64.true }

pub returns-then-k-lt64 : goal.returns-then-k-lt64
returns-then-k-lt64 c = with_lower c.args.x.hi _ _ _ c.requires.0 c.requires.2 c.if-k-lt64.true

pub overflow_add-result-2 : goal.overflow_add-result-2
overflow_add-result-2 c = record { fits = add_upper _ c.args.x.lo _ _ c.requires.0 c.requires.2 c.if-k-lt64.false c.requires.1 }

pub returns : goal.returns
returns c = with_upper _ _ _ _ c.requires.0 c.requires.2 c.if-k-lt64.false c.requires.1
