-- `elastic_probe::phi::with_pairs` meets its contract. Assumes nothing.
use Rattle.std.proofs.Common.{◌+◌, ◌*◌, ◌/◌, ◌^◌}
use Rattle.elastic_probe.specs.Wide.{wide_of}
use Rattle.elastic_probe.specs.PositionLaws.{Placed}
use Rattle.elastic_probe.proofs.phi.with_pairs.Given as goal

abbrev pub invariant-loop-k : goal.invariant-loop-k
invariant-loop-k l = Placed (wide_of l.initial.out) l.place l.j (wide_of l.out) (l.place + 2 * l.k) (l.j / 2 ^ l.k)
