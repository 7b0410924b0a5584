use mathlib.Core.Path.{refl}
use Prim.Native.Nat.{◌*◌}
use native.Mathlib.Omega.{arith}
use native.Mathlib.Nat.{zero-mul}
use Rattle.std.proofs.Common.{lt_of_not-le}
use Rattle.geometry.specs.SpecialLaws.{found_low, found_here, found_short, found_none, tried_more}
use Rattle.geometry_parts.proofs.special.search_down.Goals as goal

pub loop-init : goal.loop-init
loop-init c = (c.requires.below, (let b = c.requires.below.to in omega (arith, zero-mul (2 * c.args.h))), refl)

pub returns-then-s-lo : goal.returns-then-s-lo
returns-then-s-lo c = found_low _ _ _ _ _ c.requires.bounds.0 c.requires.bounds.1 _ c.loop.invariant.0 c.if-s-lo.true

pub returns-then-s-w-eq0 : goal.returns-then-s-w-eq0
returns-then-s-w-eq0 c = found_here _ _ _ _ _ c.requires.bounds.0 c.requires.bounds.1 _ c.loop.invariant.0 c.if-s-lo.false c.requires.bounds.4 c.if-s-w-eq0.true

pub returns : goal.returns
returns c = found_none _ _ _ _ _ c.requires.bounds.0 c.requires.bounds.1 _ _ c.requires.bounds.3 c.loop-test.false c.loop.invariant.0 c.loop.invariant.1

pub returns-in_err-s : goal.returns-in_err-s
returns-in_err-s c =
    rw c.from_residual.ensures (found_short _ _ _ _ _ c.requires.bounds.0 c.requires.bounds.1 _ c.loop.invariant.0 c.if-s-w-eq0.false (lt_of_not-le c.in_err-s.ensures))

pub loop-preserved : goal.loop-preserved
loop-preserved c =
    let i = c.loop.invariant in
    let m = tried_more _ _ _ _ _ c.requires.bounds.0 c.requires.bounds.1 _ _ i.0 c.if-s-w-eq0.false c.in_ok-s.ensures.0 i.1 in
    rw c.in_ok-s.ensures.1 (m.0, m.1, i.2)
