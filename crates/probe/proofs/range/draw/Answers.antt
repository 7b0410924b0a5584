-- `probe::range::draw` meets its contract. Assumes nothing.
use Rattle.std.proofs.Common.{arith}
use lib.Count.{trailing_le}
use Rattle.probe.specs.RangeLaws.{draw_none}
use Rattle.probe.specs.ShiftLaws.{draw_shifted, trailing_below}
use Rattle.probe.proofs.range.draw.Goals as goal

pub returns-then-cap-eq0 : goal.returns-then-cap-eq0
returns-then-cap-eq0 c = draw_none _ _ _ _ _ c.if-cap-eq0.true

pub overflow_cast-upper : goal.overflow_cast-upper
overflow_cast-upper c = omega (arith, trailing_le 64 c.args.upper)

pub top_bits-index-requires : goal.top_bits-index-requires
top_bits-index-requires c = trailing_below 64 c.args.upper (omega arith) c.ranges.upper.fits

pub returns-then-is_power : goal.returns-then-is_power
returns-then-is_power c =
    draw_shifted _ _ _ _ _ _ _ _ _ (trailing_le 64 _) c.is_power.ensures c.if-is_power.true
    c.if-cap-eq0.false c.keyed_word-word.ensures c.top_bits-index.ensures

pub returns : goal.returns
returns c = c.draw_scaled.ensures
