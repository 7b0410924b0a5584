use mathlib.Core.Path.{sym, ◌∙◌, ap, refl}
use native.Mathlib.Omega.{arith}
use Rattle.funnel.specs.SearchLaws.{resume}
use Rattle.funnel.specs.StageLaws.{drew, drew_below, read_full, primary_refused, primary_found, primary_end}
use Rattle.funnel.proofs.Stays.{stays}
use Rattle.funnel_stages.proofs.stages.search_primary.Goals as goal

pub returns-in-Err : goal.returns-in-Err
returns-in-Err g c = primary_refused _ _ _ _ _ _ _ _ c.loop-probe.invariant.1 _ c.loop-probe-test.true (drew c.requires.1 _ _ _ _ _ _ c.sample.ensures c.in-Err.is)

pub overflow_add-at : goal.overflow_add-at
overflow_add-at g c = let p = c.requires.0 in
    let d = drew_below _ _ _ _ _ _ p.primary c.sample.ensures c.in-Ok.is in
    omega arith

pub read-found-requires : goal.read-found-requires
read-found-requires g c = let p = c.requires.0 in
    let d = drew_below _ _ _ _ _ _ p.primary c.sample.ensures c.in-Ok.is in
    (refl, omega arith, omega arith, omega arith)

pub returns-in_default : goal.returns-in_default
returns-in_default g c = stays _ _ _ _ _ c.in_default.not-Full ∙ sym (primary_found _ _ _ _ _ _ _ _ c.loop-probe.invariant.1 _ _ c.loop-probe-test.true (drew c.requires.1 _ _ _ _ _ _ c.sample.ensures c.in-Ok.is) c.read-found.ensures)

pub loop-probe-preserved : goal.loop-probe-preserved
unfolding resume
loop-probe-preserved g c = let j = read_full _ _ _ _ _ _ _ c.read-found.ensures c.in-Full.is in
    (omega arith, record { left = primary_found _ _ _ _ _ _ _ _ c.loop-probe.invariant.1 _ _ c.loop-probe-test.true (drew c.requires.1 _ _ _ _ _ _ c.sample.ensures c.in-Ok.is) c.read-found.ensures ∙ ap (resume _ _ _ _) c.in-Full.is })

pub returns : goal.returns
returns g c = primary_end _ _ _ _ _ _ _ _ c.loop-probe.invariant.1 c.loop-probe-test.false
