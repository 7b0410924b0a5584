-- `geometry_funnel::counts_test::chain_holds` meets its contract. Assumes nothing.
use Prim.Native.Nat.{◌-◌, ◌≤◌, ◌<◌}
use lib.ListN.{take}
use Rattle.geometry.specs.WalkLaws.{From}
use Rattle.geometry_funnel.proofs.counts_test.chain_holds.Given as goal

-- what is walked so far starts at the index below i
abbrev pub invariant-loop-i : goal.invariant-loop-i
invariant-loop-i l = (0 < l.i) × (l.i ≤ l.levels) × From l.t (take l.levels l.counts) (l.i - 1) l.y l.sum l.lowest
