-- `elastic::route::first_holding` meets its contract. The loop's invariant: the scan from here on gives what the whole gives. Assumes nothing.
use Rattle.elastic.specs.ReadingLaws.{Scanned}
use Rattle.elastic.proofs.route.first_holding.Given as goal

abbrev pub invariant-loop-i : goal.invariant-loop-i
invariant-loop-i g l = Scanned (g.E.Stored.words l.words) l.flags l.id l.i
