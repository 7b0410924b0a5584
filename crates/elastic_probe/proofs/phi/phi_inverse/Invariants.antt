-- `elastic_probe::phi::phi_inverse` meets its contract. Assumes nothing.
use Rattle.elastic_probe.specs.Wide.{wide_of}
use Rattle.elastic_probe.specs.PositionLaws.{Reading}
use Rattle.elastic_probe.proofs.phi.phi_inverse.Given as goal

abbrev pub invariant-loop-left : goal.invariant-loop-left
invariant-loop-left l = Reading (wide_of l.position) l.left l.j

abbrev pub decreases-loop-left : goal.decreases-loop-left
decreases-loop-left l = l.left
