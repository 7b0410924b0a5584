-- `text::line::keep` meets its contract. Assumes nothing.
use Rattle.std.proofs.Common.{◌≤◌, length, refl, arith, length-set}
use Rattle.text.specs.LineLaws.{hold_more, hold_full}
use Rattle.text.proofs.line.keep.Goals as goal

pub returns-then-len-line : goal.returns-then-len-line
returns-then-len-line c = (hold_more c.args.line.now c.args.len c.args.b c.if-len-line.true, simp length-set)

pub returns : goal.returns
returns c =
    let h : length c.args.line.now ≤ c.args.len = omega (arith, c.if-len-line.false) in
    (hold_full _ _ _ h, refl)
