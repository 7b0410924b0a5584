-- `elastic::route::hits` meets its contract. The loop's invariant: where nothing was found yet, no word so far is the identity. Assumes nothing.
use mathlib.Core.Path.{◌≡◌}
use Prim.Native.Nat.{◌≤◌}
use Rattle.elastic.specs.Reading.{Without}
use Rattle.elastic.proofs.route.hits.Given as goal

abbrev pub invariant-loop-i : goal.invariant-loop-i
invariant-loop-i g l = (l.found ≤ l.i) × (l.found ≡ 0 → Without (g.E.Stored.words l.words) l.id l.i)
