-- `geometry_smallest::layouts::next_slots` meets its contract: the jump's laws. Assumes nothing.
use native.Mathlib.Omega.{arith}
use Rattle.geometry.specs.LoglogLaws.{loglog_facts}
use Rattle.geometry_smallest.specs.LayoutsLaws.{least_small, length_at_lem, next_end, next_jump, next_one}
use Rattle.geometry_smallest.proofs.layouts.next_slots.Goals as goal

pub special_least-requires : goal.special_least-requires
special_least-requires c = (omega arith, omega (arith, c.base_two_loglog_ceiling-g.ensures, (loglog_facts _ c.requires.3).most), c.base_two_loglog_ceiling-g.ensures)

pub overflow_mul-g : goal.overflow_mul-g
overflow_mul-g c = omega (arith, c.base_two_loglog_ceiling-g.ensures, (loglog_facts _ c.requires.3).most)

pub length_from-s-requires : goal.length_from-s-requires
length_from-s-requires c =
    let p = c.requires in
    let g = c.base_two_loglog_ceiling-g.ensures in
    (omega (arith, c.special_least.ensures, least_small _ c.args.e p.2 p.3), omega (arith, g, (loglog_facts _ p.3).least), omega (arith, g, (loglog_facts _ p.3).most))

pub slots_from-t-requires : goal.slots_from-t-requires
slots_from-t-requires c =
    let p = c.requires in (
      omega (
        arith,
        c.length_from-s.ensures.most,
        c.special_least.ensures,
        least_small _ c.args.e p.2
            p.3,
        c.base_two_loglog_ceiling-g.ensures,
        (loglog_facts _ p.3).most,
      ),
      p.1,
    )

pub returns-then-end-t : goal.returns-then-end-t
returns-then-end-t c =
    let d = c in
    next_end _ _ _ _ (length_at_lem _ _ _ _ _ d.special_least.ensures d.base_two_loglog_ceiling-g.ensures d.length_from-s.ensures)
    c.slots_from-t.ensures _ c.last_alike-end.ensures c.if-end-t.true

pub returns-then-n-t : goal.returns-then-n-t
returns-then-n-t c =
    let d = c in
    next_jump _ _ _ _ (length_at_lem _ _ _ _ _ d.special_least.ensures d.base_two_loglog_ceiling-g.ensures d.length_from-s.ensures)
    c.slots_from-t.ensures _ c.last_alike-end.ensures c.if-end-t.false c.if-n-t.true

pub returns : goal.returns
returns c =
    let d = c in
    next_one _ _ _ _ (length_at_lem _ _ _ _ _ d.special_least.ensures d.base_two_loglog_ceiling-g.ensures d.length_from-s.ensures)
    c.slots_from-t.ensures _ c.last_alike-end.ensures c.if-end-t.false c.if-n-t.false
