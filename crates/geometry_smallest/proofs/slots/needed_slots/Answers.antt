-- `geometry_smallest::slots::needed_slots` meets its contract. Assumes nothing.
use native.Mathlib.Omega.{arith}
use native.Mathlib.Nat.{div-le_self}
use Prim.Native.Nat.{◌-◌}
use Rattle.geometry_smallest.specs.SlotsLaws.{needed_some, power_two}
use Rattle.geometry_smallest.proofs.slots.needed_slots.Goals as goal

pub overflow_sub-result-2 : goal.overflow_sub-result-2
overflow_sub-result-2 c = let l = c.if-count-eq0.false in omega (arith, power_two 1 _ _ (omega arith) c.requires.1 c.power_of_two.ensures)

pub nonzero_div-result : goal.nonzero_div-result
nonzero_div-result c = omega (arith, power_two 1 _ _ (omega arith) c.requires.1 c.power_of_two.ensures)

pub overflow_add-result : goal.overflow_add-result
overflow_add-result c = omega (arith, div-le_self (c.args.count - 1) (c.power_of_two.result - 1))

pub returns : goal.returns
returns c = let l = c.if-count-eq0.false in needed_some _ _ _ (omega arith) c.requires.1 c.power_of_two.ensures
