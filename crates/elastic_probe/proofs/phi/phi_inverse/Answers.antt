use mathlib.Core.Path.{refl, sym, ◌∙◌}
use native.Mathlib.Omega.{arith}
use borrow.Author.Rules.{rules}
use Rattle.elastic_probe.specs.WideLaws.{wide_most}
use Rattle.elastic_probe.specs.PositionLaws.{reading_short, reading_gap, reading_start, reading_end, reading_zero, reading_last, reading_place, reading_fits, reading_more}
use Rattle.elastic_probe.proofs.phi.phi_inverse.Goals as goal

pub returns-then-length-lt2 : goal.returns-then-length-lt2
returns-then-length-lt2 c = reading_short _ _ c.bits-length.ensures c.if-length-lt2.true

pub bit_at-requires : goal.bit_at-requires
bit_at-requires c = omega (arith, c.bits-length.ensures, wide_most c.args.position.hi c.args.position.lo (search rules) (search rules))

pub returns-then-bit_at-eq0 : goal.returns-then-bit_at-eq0
returns-then-bit_at-eq0 c = reading_gap _ _ c.bits-length.ensures (omega arith) (sym c.bit_at.ensures ∙ c.if-bit_at-eq0.true)

pub loop-left-init : goal.loop-left-init
loop-left-init c = reading_start _ _ c.bits-length.ensures (omega arith) (wide_most c.args.position.hi c.args.position.lo (search rules) (search rules)) (λ z. c.if-bit_at-eq0.false (c.bit_at.ensures ∙ z))

pub bit_at-bit-requires : goal.bit_at-bit-requires
bit_at-bit-requires c = omega (arith, reading_place _ _ _ c.loop-left.invariant _ c.loop-left-test.true refl)

pub overflow_add-left : goal.overflow_add-left
overflow_add-left c = omega (arith, reading_place _ _ _ c.loop-left.invariant _ c.loop-left-test.true refl)

pub bit_at-requires-in-loop-left : goal.bit_at-requires-in-loop-left
bit_at-requires-in-loop-left c = reading_place _ _ _ c.loop-left.invariant _ c.loop-left-test.true refl

pub returns-then-bit-eq0 : goal.returns-then-bit-eq0
returns-then-bit-eq0 c = reading_zero _ _ _ c.loop-left.invariant _ c.loop-left-test.true refl (sym c.bit_at-in-loop-left.ensures ∙ c.if-bit_at-eq0-2.true) (sym c.bit_at-bit.ensures ∙ c.if-bit-eq0.true)

pub overflow_add-left-then-bit_at-eq0-2 : goal.overflow_add-left-then-bit_at-eq0-2
overflow_add-left-then-bit_at-eq0-2 c = omega (arith, reading_place _ _ _ c.loop-left.invariant _ c.loop-left-test.true refl)

pub low_bits-requires : goal.low_bits-requires
low_bits-requires c = reading_place _ _ _ c.loop-left.invariant _ c.loop-left-test.true refl

pub returns-then-bit_at-eq0-2 : goal.returns-then-bit_at-eq0-2
returns-then-bit_at-eq0-2 c = reading_last _ _ _ c.loop-left.invariant _ c.loop-left-test.true refl (sym c.bit_at-in-loop-left.ensures ∙ c.if-bit_at-eq0-2.true) c.low_bits.result (search rules) (λ z. c.if-bit-eq0.false (c.bit_at-bit.ensures ∙ z)) c.low_bits.ensures

pub overflow_mul-j : goal.overflow_mul-j
overflow_mul-j c = omega (arith, reading_fits _ _ _ c.loop-left.invariant _ c.loop-left-test.true refl)

pub overflow_add-j : goal.overflow_add-j
overflow_add-j c = omega (arith, c.bit_at-bit.ensures, reading_fits _ _ _ c.loop-left.invariant _ c.loop-left-test.true refl)

pub loop-left-smaller : goal.loop-left-smaller
loop-left-smaller c = omega arith

pub loop-left-preserved : goal.loop-left-preserved
loop-left-preserved c = reading_more _ _ _ c.loop-left.invariant _ c.loop-left-test.true refl _ c.bit_at-bit.ensures (λ z. c.if-bit_at-eq0-2.false (c.bit_at-in-loop-left.ensures ∙ z))

pub returns : goal.returns
returns c = reading_end _ _ _ c.loop-left.invariant (omega arith)
