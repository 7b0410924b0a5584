-- `elastic_probe::phi::phi` meets its contract. Assumes nothing.
use mathlib.Core.Path.{sym, ap, ◌∙◌}
use Prim.Native.Nat.{ℕ, ◌+◌, ◌*◌, ◌^◌}
use native.Mathlib.Omega.{arith}
use Rattle.elastic_probe.specs.Length.{bits_of}
use Rattle.elastic_probe.specs.LengthLaws.{bits_log, bits_room}
use Rattle.elastic_probe.specs.Phi.{pairs}
use Rattle.elastic_probe.specs.Wide.{wide_of}
use Rattle.elastic_probe.specs.WideLaws.{wide_most}
use Rattle.elastic_probe.specs.PositionLaws.{position_i, position_j, position_over, position_at_lem}
use borrow.Author.Rules.{rules}
use Rattle.elastic_probe.proofs.phi.phi.Goals as goal

pub returns-then-i_bits-eq0 : goal.returns-then-i_bits-eq0
returns-then-i_bits-eq0 c = position_i _ _ (sym c.bits-i_bits.ensures ∙ c.if-i_bits-eq0.true)

pub returns-then-j_bits-eq0 : goal.returns-then-j_bits-eq0
returns-then-j_bits-eq0 c = position_j _ _ (λ z. c.if-i_bits-eq0.false (c.bits-i_bits.ensures ∙ z)) (sym (bits_log _ _ c.bit_length-j_bits.ensures) ∙ c.if-j_bits-eq0.true)

pub overflow_mul-j_bits : goal.overflow_mul-j_bits
overflow_mul-j_bits c = omega (arith, c.bit_length-j_bits.ensures.least 64 (search rules))

pub overflow_add-j_bits : goal.overflow_add-j_bits
overflow_add-j_bits c = omega (arith, c.bit_length-j_bits.ensures.least 64 (search rules))

pub overflow_add-j_bits-2 : goal.overflow_add-j_bits-2
overflow_add-j_bits-2 c = omega (arith, c.bit_length-j_bits.ensures.least 64 (search rules), c.bits-i_bits.ensures, wide_most c.args.i.hi c.args.i.lo (search rules) (search rules))

pub returns-then-j_bits-i_bits-gt128 : goal.returns-then-j_bits-i_bits-gt128
returns-then-j_bits-i_bits-gt128 c = position_over _ _ (λ z. c.if-i_bits-eq0.false (c.bits-i_bits.ensures ∙ z)) (λ z. c.if-j_bits-eq0.false (bits_log _ _ c.bit_length-j_bits.ensures ∙ z)) (omega (arith, c.bits-i_bits.ensures, bits_log _ _ c.bit_length-j_bits.ensures, c.if-j_bits-i_bits-gt128.true))

pub with_pairs-requires : goal.with_pairs-requires
with_pairs-requires c = (bits_room _ _ c.bits-i_bits.ensures, omega (arith, bits_log _ _ c.bit_length-j_bits.ensures, c.if-j_bits-i_bits-gt128.false))

pub returns : goal.returns
returns c = let a = c.args in
    position_at_lem (wide_of a.i) a.j (λ z. c.if-i_bits-eq0.false (c.bits-i_bits.ensures ∙ z)) (λ z. c.if-j_bits-eq0.false (bits_log _ _ c.bit_length-j_bits.ensures ∙ z)) c.with_pairs.result (search rules)
    (omega (arith, c.bits-i_bits.ensures, bits_log _ _ c.bit_length-j_bits.ensures, c.if-j_bits-i_bits-gt128.false))
    (c.with_pairs.ensures ∙ ap (λ (n : ℕ). pairs (bits_of a.j) a.j * 2 ^ (n + 1) + wide_of a.i) c.bits-i_bits.ensures)
