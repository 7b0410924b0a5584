-- `geometry_funnel::special_test::special_parts_hold` meets its contract. Assumes nothing.
use mathlib.Core.Path.{ap}
use Prim.Native.Nat.{ℕ, ◌*◌}
use native.Mathlib.Omega.{arith}
use Rattle.geometry.specs.LoglogLaws.{loglog_facts}
use Rattle.geometry.specs.LengthLaws.{least_two, most_within, measured_at}
use Rattle.geometry_funnel.proofs.special_test.special_parts_hold.Goals as goal

pub special_least-lo-requires : goal.special_least-lo-requires
special_least-lo-requires c = (omega arith, omega (arith, (loglog_facts _ c.requires.0).most), c.requires.3)

pub overflow_mul-g : goal.overflow_mul-g
overflow_mul-g c = omega (arith, (loglog_facts _ c.requires.0).most)

pub special_holds-requires : goal.special_holds-requires
special_holds-requires c =
    let s = c in
    let g = loglog_facts _ s.requires.0 in
    (omega (arith, c.special_most-hi.ensures, most_within s.args.n s.args.e), s.requires.0, omega arith, s.requires.2, omega (arith, g.least), omega (arith, g.most), omega (arith, c.special_least-lo.ensures, least_two s.args.n s.args.e))

pub returns : goal.returns
returns c = measured_at _ _ _ _ _ _ _ _ c.special_holds.result c.special_least-lo.ensures c.special_most-hi.ensures (ap (λ (x : ℕ). 2 * x) c.requires.3) c.special_holds.ensures
