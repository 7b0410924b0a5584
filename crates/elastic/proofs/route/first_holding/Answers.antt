use mathlib.Core.Path.{sym, ◌∙◌}
use native.Mathlib.Omega.{arith}
use Rattle.elastic.specs.ReadingLaws.{scanned_start, scanned_here, scanned_on, scanned_end}
use Rattle.elastic.proofs.route.first_holding.Goals as goal

pub loop-i-init : goal.loop-i-init
loop-i-init g c = scanned_start _ _ _

pub returns-then-holds : goal.returns-then-holds
returns-then-holds g c = scanned_here _ _ _ _ c.loop-i.invariant (let l = c.loop-i-test.true in let e = c.requires in omega arith) (sym c.holds.ensures ∙ c.if-holds.true)

pub loop-i-preserved : goal.loop-i-preserved
loop-i-preserved g c = scanned_on _ _ _ _ c.loop-i.invariant (let l = c.loop-i-test.true in let e = c.requires in omega arith) (sym c.holds.ensures ∙ c.if-holds.false)

pub returns : goal.returns
returns g c = scanned_end _ _ _ _ c.loop-i.invariant (let l = c.loop-i-test.false in let e = c.requires in omega arith)
