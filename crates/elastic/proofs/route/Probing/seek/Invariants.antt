-- `elastic::route::Probing::seek` meets its contract. The loop's invariant: the search from here on gives what the whole gives. Assumes nothing.
use Rattle.elastic.specs.ReadingLaws.{Sought-from}
use Rattle.elastic.proofs.route.Probing.seek.Given as goal

abbrev pub invariant-loop-probe : goal.invariant-loop-probe
invariant-loop-probe l = Sought-from l.self.n l.self.key l.self.cap l.flags l.level l.tries l.probe
