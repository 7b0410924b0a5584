use Rattle.std.proofs.Common.{refl, arith, length}
use Rattle.text.specs.LineLaws.{held_more, held_end}
use Rattle.text.proofs.line.Lines.take.Goals as goal

pub returns-in-None : goal.returns-in-None
returns-in-None g c =
    let t = rw c.in-None.is at c.gather-got.ensures in
    let end = length c.args.part.now in
    held_end _ _ _ _ _ end (held_more _ _ _ _ _ _ c.loop-from.invariant _ _ end _ t _ refl) (omega arith)

pub loop-from-smaller : goal.loop-from-smaller
loop-from-smaller g c =
    let t = rw c.in-Some.is at c.gather-got.ensures in
    let further = t.onward c.loop-from-test.true in
    omega arith

pub loop-from-preserved : goal.loop-from-preserved
loop-from-preserved g c =
    let t = rw c.in-Some.is at c.gather-got.ensures in
    held_more _ _ _ _ _ _ c.loop-from.invariant _ _ _ _ t _ refl

pub returns : goal.returns
returns g c = held_end _ _ _ _ _ _ c.loop-from.invariant (omega (arith, c.loop-from-test.false))
