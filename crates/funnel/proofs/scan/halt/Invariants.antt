-- `funnel::scan::halt` meets its contract. The invariant: no slot before the i-th stops the search, and i is even as w is. Assumes nothing.
use Prim.Native.Nat.{◌-◌, ◌%◌, ◌≤◌}
use mathlib.Core.Path.{◌≡◌}
use Rattle.funnel.specs.StopLaws.{Passing}
use Rattle.funnel.proofs.scan.halt.Given as goal

abbrev pub invariant-loop-i : goal.invariant-loop-i
invariant-loop-i g l = (l.i ≤ l.w) × (l.i % 2 ≡ 0) × Passing (g.E.Stored.words l.words) l.flags l.identity l.from l.w l.i

abbrev pub decreases-loop-i : goal.decreases-loop-i
decreases-loop-i g l = l.w - l.i
