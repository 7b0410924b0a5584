-- `geometry::elastic::level_offset` meets its contract. Assumes nothing.
use native.Mathlib.Omega.{arith}
use native.Mathlib.Nat.{div-le_self}
use Prim.Native.Nat.{◌^◌}
use Rattle.geometry.proofs.elastic.level_offset.Goals as goal

pub overflow_sub-result : goal.overflow_sub-result
overflow_sub-result c = omega (arith, c.floor_div_pow2.ensures, div-le_self c.args.n (2 ^ c.args.level))
