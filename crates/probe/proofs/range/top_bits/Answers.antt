-- `probe::range::top_bits` meets its contract. Assumes nothing.
use Rattle.std.proofs.Common.{◌≡◌, ℕ, ◌+◌, ◌-◌, ◌/◌, ◌^◌, ap, ◌∙◌, arith, shr-shr}
use Rattle.probe.proofs.range.top_bits.Goals as goal

pub returns : goal.returns
returns c =
    let bits = c.args.bits in
    let e : 1 + (63 - bits) ≡ 64 - bits = omega arith in
    shr-shr c.args.word 1 (63 - bits) ∙ ap (λ (k : ℕ). c.args.word / 2 ^ k) e
