-- `elastic_probe::phi::phi_bounded` meets its contract. Assumes nothing.
use Prim.Native.Nat.{◌*◌}
use native.Mathlib.Omega.{arith}
use lib.Pow.{pow_pos}
use Rattle.elastic_probe.specs.LengthLaws.{bits_log, bits_pos}
use Rattle.elastic_probe.specs.WideLaws.{one_shifted}
use Rattle.elastic_probe.specs.BoundedLaws.{bounded_i, bounded_j, bounded_big, bounded_over, bounded_is, bounded_sum}
use borrow.Author.Rules.{rules}
use Rattle.elastic_probe.proofs.phi.phi_bounded.Goals as goal

pub returns-then-i-eq0 : goal.returns-then-i-eq0
returns-then-i-eq0 c = bounded_i _ _ c.if-i-eq0.true

pub returns-then-j-eq0 : goal.returns-then-j-eq0
returns-then-j-eq0 c = bounded_j _ _ c.if-i-eq0.false c.if-j-eq0.true

pub returns-then-j-gt-BOUNDED_J : goal.returns-then-j-gt-BOUNDED_J
returns-then-j-gt-BOUNDED_J c = bounded_big _ _ c.if-i-eq0.false c.if-j-eq0.false c.if-j-gt-BOUNDED_J.true

pub overflow_mul-j_bits : goal.overflow_mul-j_bits
overflow_mul-j_bits c = omega (arith, c.bit_length-j_bits.ensures.least 64 (search rules))

pub overflow_add-j_bits : goal.overflow_add-j_bits
overflow_add-j_bits c = omega (arith, c.bit_length-j_bits.ensures.least 64 (search rules))

pub overflow_add-j_bits-2 : goal.overflow_add-j_bits-2
overflow_add-j_bits-2 c = omega (arith, c.bit_length-j_bits.ensures.least 64 (search rules), c.bit_length-i_bits.ensures.least 64 (search rules))

pub returns-then-j_bits-i_bits-gt64 : goal.returns-then-j_bits-i_bits-gt64
returns-then-j_bits-i_bits-gt64 c = bounded_over _ _ c.if-i-eq0.false c.if-j-eq0.false (omega (arith, c.if-j-gt-BOUNDED_J.false)) _ _ (bits_log _ _ c.bit_length-j_bits.ensures) (bits_log _ _ c.bit_length-i_bits.ensures) c.if-j_bits-i_bits-gt64.true

pub nonzero_rem-marks : goal.nonzero_rem-marks
nonzero_rem-marks c = rw (one_shifted (2 * c.bit_length-j_bits.result) (omega arith)) (pow_pos _)

pub overflow_add-pairs : goal.overflow_add-pairs
overflow_add-pairs c = record { fits = bounded_sum _ _ c.if-i-eq0.false c.if-j-eq0.false (omega (arith, c.if-j-gt-BOUNDED_J.false)) _ _ _ (bits_log _ _ c.bit_length-j_bits.ensures) (bits_log _ _ c.bit_length-i_bits.ensures) c.spread.ensures (omega (arith, c.if-j_bits-i_bits-gt64.false)) }

pub overflow_shl-result : goal.overflow_shl-result
overflow_shl-result c = omega (arith, c.if-j_bits-i_bits-gt64.false, bits_log _ _ c.bit_length-j_bits.ensures, bits_pos c.args.j (omega (arith, c.if-j-eq0.false)))

pub returns : goal.returns
returns c = bounded_is _ _ c.if-i-eq0.false c.if-j-eq0.false (omega (arith, c.if-j-gt-BOUNDED_J.false)) _ _ _ (bits_log _ _ c.bit_length-j_bits.ensures) (bits_log _ _ c.bit_length-i_bits.ensures) c.spread.ensures (omega (arith, c.if-j_bits-i_bits-gt64.false))
