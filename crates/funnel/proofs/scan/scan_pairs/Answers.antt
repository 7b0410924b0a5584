use mathlib.Core.Path.{sym, ◌∙◌, ap, refl}
use native.Mathlib.Omega.{arith}
use Rattle.funnel.specs.SearchLaws.{resume}
use Rattle.funnel.specs.StageLaws.{read_full, pairs_none, pairs_a, pairs_b, pairs_end}
use Rattle.funnel.proofs.Stays.{stays}
use Rattle.funnel.proofs.scan.scan_pairs.Goals as goal

pub loop-i-init : goal.loop-i-init
loop-i-init g c = (omega arith, pairs_none _ _ _ _ _ _ _ _ _)

pub overflow_add-first : goal.overflow_add-first
overflow_add-first g c = omega arith

pub read-found_a-requires : goal.read-found_a-requires
read-found_a-requires g c = (refl, omega arith, omega arith, omega arith)

pub returns-in_default : goal.returns-in_default
returns-in_default g c = stays _ _ _ _ _ c.in_default.not-Full ∙ sym (pairs_a _ _ _ _ _ _ _ _ _ c.loop-i.invariant.1 _ c.loop-i-test.true c.read-found_a.ensures)

pub overflow_add-second : goal.overflow_add-second
overflow_add-second g c = omega arith

pub read-found_b-requires : goal.read-found_b-requires
read-found_b-requires g c = let j = read_full _ _ _ _ _ _ _ c.read-found_a.ensures c.in-Full.is in (refl, omega arith, omega arith, omega arith)

pub returns-in_default-found_b : goal.returns-in_default-found_b
returns-in_default-found_b g c = stays _ _ _ _ _ c.in_default-found_b.not-Full ∙ sym (pairs_b _ _ _ _ _ _ _ _ _ c.loop-i.invariant.1 _ _ _ c.loop-i-test.true c.read-found_a.ensures c.in-Full.is c.read-found_b.ensures)

pub loop-i-preserved : goal.loop-i-preserved
unfolding resume
loop-i-preserved g c = let j = read_full _ _ _ _ _ _ _ c.read-found_a.ensures c.in-Full.is in
    let m = read_full _ _ _ _ _ _ _ c.read-found_b.ensures c.in-Full-found_b.is in
    (omega arith, record { left = pairs_b _ _ _ _ _ _ _ _ _ c.loop-i.invariant.1 _ _ _ c.loop-i-test.true c.read-found_a.ensures c.in-Full.is c.read-found_b.ensures ∙ ap (resume _ _ _ _) c.in-Full-found_b.is })

pub returns : goal.returns
returns g c = pairs_end _ _ _ _ _ _ _ _ _ c.loop-i.invariant.1 c.loop-i-test.false
