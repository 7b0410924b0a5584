-- `probe::counter::domain_base` meets its contract. Assumes nothing.
use Rattle.std.proofs.Common.{arith}
use Rattle.probe.proofs.counter.domain_base.Goals as goal

pub returns-in-Ordinary : goal.returns-in-Ordinary
returns-in-Ordinary c = let e = c.in-Ordinary.is in rw e (omega (arith, rw e at c.requires))

pub returns-in-Primary : goal.returns-in-Primary
returns-in-Primary c = rw c.in-Primary.is

pub returns-in-FallbackA : goal.returns-in-FallbackA
returns-in-FallbackA c = rw c.in-FallbackA.is

pub returns-in-FallbackB : goal.returns-in-FallbackB
returns-in-FallbackB c = rw c.in-FallbackB.is
