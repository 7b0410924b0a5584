-- `funnel::scan::scan_pairs` meets its contract. The invariant: what is left of the two buckets gives what both give, and two probes were made for each slot passed. Assumes nothing.
use Prim.Native.Nat.{◌+◌, ◌*◌}
use mathlib.Core.Path.{◌≡◌}
use Rattle.funnel.specs.StageLaws.{PairsLeft}
use Rattle.funnel.proofs.scan.scan_pairs.Given as goal

abbrev pub invariant-loop-i : goal.invariant-loop-i
invariant-loop-i g l = (l.made ≡ l.probes + 2 * l.i) × PairsLeft (g.E.Stored.words l.words) l.flags l.identity l.a l.b l.at_a l.at_b l.w l.probes l.i l.made
