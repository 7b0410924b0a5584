use mathlib.Core.Path.{◌≡◌, sym, ◌∙◌}
use Prim.Native.Nat.{◌+◌, ◌-◌, ◌*◌}
use native.Mathlib.Omega.{arith}
use Rattle.geometry_smallest.specs.LayoutsLaws.{next_above, bare_start, bare_more, first_by, none_by, first_none}
use Rattle.geometry_smallest.specs.TurnsLaws.{turns_most, ends_more, ends_past}
use Rattle.geometry_smallest.proofs.layouts.first_layout.Goals as goal

pub loop-init : goal.loop-init
loop-init c =
    let all : 12 * c.args.e + 3 - 0 ≡ 12 * c.args.e + 3 = omega arith in
    (omega arith, bare_start _ _, rw all (turns_most _ _ c.requires.0 c.requires.3 _ c.requires.2))

pub returns-then-last-n : goal.returns-then-last-n
returns-then-last-n c = first_none _ _ _ _ c.if-last-n.true c.loop.invariant.1

pub returns-then-is_some : goal.returns-then-is_some
returns-then-is_some c =
    first_by _ _ _ _ _ (omega arith) c.loop.invariant.0 (omega arith) c.loop.invariant.1 (sym c.is_some.ensures ∙ c.if-is_some.true) c.special_len_of.ensures

pub loop-preserved : goal.loop-preserved
loop-preserved c =
    let l = c.loop in
    let none = none_by _ _ _ (sym c.is_some.ensures ∙ c.if-is_some.false) c.special_len_of.ensures in
    let m = ends_more _ _ _ _ _ l.invariant.2 (omega arith) none c.next_slots-n.ensures in
    let one : 12 * c.args.e + 3 - l.counter - 1 ≡ 12 * c.args.e + 3 - (l.counter + 1) = omega arith in
    (omega (arith, next_above c.next_slots-n.ensures), bare_more _ _ _ _ l.invariant.1 none c.next_slots-n.ensures, rw (← one) m.1)

pub returns : goal.returns
returns c = first_none _ _ _ _ (ends_past _ _ _ _ c.loop.invariant.2 (omega arith)) c.loop.invariant.1
