-- `geometry_parts::special::special_len_of` meets its contract. Assumes nothing.
use mathlib.Core.Path.{ap}
use Prim.Native.Nat.{ℕ, ◌*◌}
use native.Mathlib.Omega.{arith}
use Rattle.geometry.specs.LoglogLaws.{loglog_facts}
use Rattle.geometry.specs.LengthLaws.{least_two, most_within, found_none, found_for}
use Rattle.geometry_parts.proofs.special.special_len_of.Goals as goal

pub returns-then-e-gt27 : goal.returns-then-e-gt27
returns-then-e-gt27 c = found_none _ _ c.requires.0 c.if-e-gt27.true

pub special_least-lo-requires : goal.special_least-lo-requires
special_least-lo-requires c = (omega arith, omega (arith, c.base_two_loglog_ceiling-g.ensures, (loglog_facts _ c.requires.0).most), c.base_two_loglog_ceiling-g.ensures)

pub overflow_mul-g : goal.overflow_mul-g
overflow_mul-g c = omega (arith, c.base_two_loglog_ceiling-g.ensures, (loglog_facts _ c.requires.0).most)

pub largest_special_length-requires : goal.largest_special_length-requires
largest_special_length-requires c =
    let s = c in
    (omega (arith, c.special_most-hi.ensures, most_within s.args.n s.args.e), omega arith, omega arith, omega (arith, c.base_two_loglog_ceiling-g.ensures, (loglog_facts _ s.requires.0).least), omega (arith, c.special_least-lo.ensures, least_two s.args.n s.args.e))

pub returns : goal.returns
returns c = found_for _ _ _ _ _ _ c.special_least-lo.ensures c.special_most-hi.ensures (ap (λ (x : ℕ). 2 * x) c.base_two_loglog_ceiling-g.ensures) c.largest_special_length.ensures
