-- `probe::counter::domain_fits` meets its contract. Assumes nothing.
use Rattle.probe.proofs.counter.domain_fits.Goals as goal

pub returns-in-Ordinary : goal.returns-in-Ordinary
returns-in-Ordinary c = rw c.in-Ordinary.is

pub returns-in-Primary : goal.returns-in-Primary
returns-in-Primary c = rw c.in-Primary.is

pub returns-in-FallbackA : goal.returns-in-FallbackA
returns-in-FallbackA c = rw c.in-FallbackA.is

pub returns-in-FallbackB : goal.returns-in-FallbackB
returns-in-FallbackB c = rw c.in-FallbackB.is
