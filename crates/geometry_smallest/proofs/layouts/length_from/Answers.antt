-- `geometry_smallest::layouts::length_from` meets its contract. Assumes nothing.
use native.Mathlib.Omega.{arith}
use native.Mathlib.Nat.{mod-lt}
use Prim.Native.Nat.{◌*◌}
use Rattle.geometry_smallest.specs.LayoutsLaws.{length_here, length_up}
use Rattle.geometry_smallest.proofs.layouts.length_from.Goals as goal

pub returns-then-over-lt2 : goal.returns-then-over-lt2
returns-then-over-lt2 c = length_here _ _ c.requires.1 c.if-over-lt2.true

pub overflow_sub-result : goal.overflow_sub-result
overflow_sub-result c = omega (arith, mod-lt c.args.lo {m = 2 * c.args.w} (omega arith))

pub returns : goal.returns
returns c = length_up _ _ c.requires.1 (omega arith)
