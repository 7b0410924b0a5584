-- `geometry_parts::special::largest_special_length` meets its contract. Assumes nothing.
use mathlib.Core.Path.{refl}
use Prim.Native.Nat.{◌-◌, ◌*◌}
use native.Mathlib.Omega.{arith}
use native.Mathlib.Nat.{mod-lt}
use Rattle.std.proofs.Common.{lt_of_not-le}
use Rattle.geometry.specs.SpecialLaws.{top_at, top_under, top_none}
use Rattle.geometry_parts.proofs.special.largest_special_length.Goals as goal

pub search_down-requires : goal.search_down-requires
search_down-requires c = record { bounds = c.requires; below = top_at _ _ _ _ _ c.requires.0 c.requires.1 c.if-over-eq0.true }

pub overflow_sub-beta : goal.overflow_sub-beta
overflow_sub-beta c = omega (arith, mod-lt (c.args.n - c.args.hi) {m = 2 * c.args.h} (omega arith))

pub returns-in_err-top : goal.returns-in_err-top
returns-in_err-top c =
    let d = c.if-over-eq0.false in
    rw c.from_residual.ensures (top_none _ _ _ _ _ c.requires.0 c.requires.1 _ refl (omega arith) (lt_of_not-le c.in_err-top.ensures))

pub search_down-requires-2 : goal.search_down-requires-2
search_down-requires-2 c =
    let d = c.if-over-eq0.false in
    record { bounds = c.requires; below = rw c.in_ok-top.ensures.1 (top_under _ _ _ _ _ c.requires.0 c.requires.1 _ refl (omega arith) c.in_ok-top.ensures.0) }
