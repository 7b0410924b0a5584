-- `geometry_smallest::slots::power_of_two` meets its contract. Assumes nothing.
use mathlib.Core.Path.{◌∙◌}
use native.Mathlib.Nat.{one-mul}
use native.Mathlib.Omega.{arith}
use lib.Pow.{shl_exact}
use Rattle.geometry_smallest.proofs.slots.power_of_two.Goals as goal

pub returns : goal.returns
returns c = shl_exact 1 c.args.k 64 (omega arith) (omega arith) ∙ one-mul _
