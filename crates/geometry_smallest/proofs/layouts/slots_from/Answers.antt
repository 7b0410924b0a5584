-- `geometry_smallest::layouts::slots_from` meets its contract. Assumes nothing.
use native.Mathlib.Omega.{arith}
use Rattle.geometry_smallest.specs.LayoutsLaws.{power_fits}
use Rattle.geometry_smallest.proofs.layouts.slots_from.Goals as goal

pub overflow_mul-part : goal.overflow_mul-part
overflow_mul-part c = omega (arith, power_fits _ _ _ c.power_of_two.ensures c.requires.0 c.requires.1)

pub overflow_add-part : goal.overflow_add-part
overflow_add-part c = omega (arith, power_fits _ _ _ c.power_of_two.ensures c.requires.0 c.requires.1)
