use mathlib.Core.Path.{sym, ◌∙◌}
use native.Mathlib.Omega.{arith}
use Rattle.std.proofs.lemmas.Result.{err_from_is_err_and}
use Rattle.elastic.specs.ReadingLaws.{sought_start, sought_refused, sought_vacant, sought_on, sought_end, reading_read}
use Rattle.elastic.proofs.route.Probing.seek.Goals as goal

pub loop-probe-init : goal.loop-probe-init
loop-probe-init c = sought_start _ _ _ _ _ _

pub route-requires : goal.route-requires
route-requires c = let p = c.requires in (p.probed, omega (arith, p.tries_most, c.loop-probe-test.true))

pub returns-in_err-reading : goal.returns-in_err-reading
returns-in_err-reading c =
    let e = err_from_is_err_and c.from_residual.result c.from_residual.ensures.1 in
    rw (e.1, e.2) (sought_refused _ _ _ _ _ _ _ c.loop-probe.invariant c.loop-probe-test.true _ (sym c.route.ensures ∙ c.in_err-reading.was))

pub bounds-flags-reading : goal.bounds-flags-reading
bounds-flags-reading c =
    let p = c.requires in
    let r = reading_read p.probed _ _ _ _ (sym c.route.ensures ∙ c.in_ok-reading.was) in
    omega (arith, r.below, p.size)

pub returns-then-flags-reading-eq0 : goal.returns-then-flags-reading-eq0
returns-then-flags-reading-eq0 c =
    sought_vacant _ _ _ _ _ _ _ c.loop-probe.invariant c.loop-probe-test.true _ _ (sym c.route.ensures ∙ c.in_ok-reading.was) c.if-flags-reading-eq0.true

pub loop-probe-preserved : goal.loop-probe-preserved
loop-probe-preserved c =
    sought_on _ _ _ _ _ _ _ c.loop-probe.invariant c.loop-probe-test.true _ _ (sym c.route.ensures ∙ c.in_ok-reading.was) c.if-flags-reading-eq0.false

pub returns : goal.returns
returns c = sought_end _ _ _ _ _ _ _ c.loop-probe.invariant c.loop-probe-test.false
