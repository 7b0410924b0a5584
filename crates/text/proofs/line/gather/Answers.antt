use Rattle.std.proofs.Common.{refl, arith}
use Rattle.text.specs.LineLaws.{going_over, going_ends, going_more}
use Rattle.text.proofs.line.gather.Goals as goal

pub returns-then-b-eq10 : goal.returns-then-b-eq10
returns-then-b-eq10 c = going_ends _ _ _ _ _ _ _ c.loop-i.invariant _ c.loop-i-test.true refl c.if-b-eq10.true

pub loop-i-preserved : goal.loop-i-preserved
loop-i-preserved c =
    going_more _ _ _ _ _ _ _ c.loop-i.invariant _ c.loop-i-test.true refl
    c.if-b-eq10.false _ _ c.keep-length.ensures.0 c.keep-length.ensures.1

pub returns : goal.returns
returns c = going_over _ _ _ _ _ _ _ c.loop-i.invariant (omega (arith, c.loop-i-test.false))
