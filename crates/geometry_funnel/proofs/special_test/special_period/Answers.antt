use native.Mathlib.Omega.{arith}
use Rattle.geometry.specs.PeriodLaws.{meeting_start, meeting_a, meeting_b, meeting_end, meeting_within, rows_small}
use Rattle.geometry_funnel.proofs.special_test.special_period.Goals as goal

pub loop-a-init : goal.loop-a-init
loop-a-init c = meeting_start _ _ c.requires.0

pub overflow_add-a : goal.overflow_add-a
overflow_add-a c =
    let s = c.requires in
    let r = meeting_within _ _ _ _ _ (meeting_a _ _ _ _ _ c.loop-a.invariant c.if-a-b.true) s.2 in
    omega (arith, rows_small _ _ s.1 s.3)

pub overflow_add-k : goal.overflow_add-k
overflow_add-k c =
    let s = c.requires in
    let r = meeting_within _ _ _ _ _ c.loop-a.invariant s.2 in
    omega arith

pub loop-a-smaller-then-a-b : goal.loop-a-smaller-then-a-b
loop-a-smaller-then-a-b c =
    let s = c.requires in
    let r = meeting_within _ _ _ _ _ (meeting_a _ _ _ _ _ c.loop-a.invariant c.if-a-b.true) s.2 in
    omega arith

pub loop-a-preserved-then-a-b : goal.loop-a-preserved-then-a-b
loop-a-preserved-then-a-b c = meeting_a _ _ _ _ _ c.loop-a.invariant c.if-a-b.true

pub overflow_add-b : goal.overflow_add-b
overflow_add-b c =
    let s = c.requires in
    let r = meeting_within _ _ _ _ _ c.loop-a.invariant s.2 in
    omega (arith, rows_small _ _ s.1 s.3)

pub loop-a-smaller : goal.loop-a-smaller
loop-a-smaller c =
    let s = c.requires in
    let r = meeting_within _ _ _ _ _ (meeting_b _ _ _ _ _ c.loop-a.invariant (omega arith)) s.2 in
    omega arith

pub loop-a-preserved : goal.loop-a-preserved
loop-a-preserved c = meeting_b _ _ _ _ _ c.loop-a.invariant (omega arith)

pub returns : goal.returns
returns c = meeting_end _ _ _ _ _ c.loop-a.invariant c.loop-a-test.false
