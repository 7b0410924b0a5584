use Rattle.std.proofs.Common.{◌≡◌, ◌≤◌, ◌<◌, ◌+◌, ◌*◌, ◌/◌, ◌^◌, ℕ, ap, ◌∙◌, arith, le_of_eq, lt_of_not-le, pow_pos}
use native.Mathlib.Nat.{lt_of_le_of_lt}
use Rattle.std.proofs.Math.Nat.{div-eq_of_lt}
use Rattle.std.proofs.lemmas.Nat.{le-div, shr-shr}
use Rattle.words.specs.Log.{CeilLog2}
use Rattle.elastic_probe.specs.PositionLaws.{placed_end, placed_place, placed_low, placed_more}
use Rattle.elastic_probe.proofs.phi.with_pairs.Goals as goal

-- below the length there are bits left
some : (j k r : ℕ) → CeilLog2 (j + 1) r → k < r → 0 < j / 2 ^ k
some j k r log h =
    let over : 2 ^ k < j + 1 = lt_of_not-le (λ few. absurd (omega (arith, log.least k few))) in
    le-div 1 j (2 ^ k) (pow_pos k) (omega arith)

-- and past it none
none : (j k r : ℕ) → CeilLog2 (j + 1) r → r ≤ k → k ≤ r → j / 2 ^ k ≤ 0
none j k r log h l =
    let e : k ≡ r = omega arith in
    le_of_eq (div-eq_of_lt {n = j} {m = 2 ^ k} (rw e (omega (arith, log.covers))))

pub with_bit-requires : goal.with_bit-requires
with_bit-requires c =
    let p = some _ _ _ c.bit_length-k-end.ensures c.loop-k-test.true in
    (omega arith, omega (arith, placed_place _ _ _ _ _ _ c.loop-k.invariant p), c.loop-k.invariant.below)

pub with_bit-out-requires : goal.with_bit-out-requires
with_bit-out-requires c =
    let p = some _ _ _ c.bit_length-k-end.ensures c.loop-k-test.true in
    (omega arith, placed_place _ _ _ _ _ _ c.loop-k.invariant p, lt_of_le_of_lt (le_of_eq c.with_bit.ensures) (placed_low _ _ _ _ _ _ c.loop-k.invariant p))

pub loop-k-preserved : goal.loop-k-preserved
loop-k-preserved c =
    let p = some _ _ _ c.bit_length-k-end.ensures c.loop-k-test.true in
    let at : c.args.place + 2 * (c.loop-k.k + 1) ≡ c.args.place + 2 * c.loop-k.k + 2 = omega arith in
    let more = placed_more _ _ _ _ _ _ c.loop-k.invariant p _ (c.with_bit-out.ensures ∙ ap (λ (n : ℕ). 1 * 2 ^ (c.args.place + 2 * c.loop-k.k + 1) + n) c.with_bit.ensures) in
    rw (at, ← shr-shr c.args.j c.loop-k.k 1) more

pub returns : goal.returns
returns c = placed_end _ _ _ _ _ _ c.loop-k.invariant (none _ _ _ c.bit_length-k-end.ensures c.loop-k-test.false c.loop-k.auto.k-end)
