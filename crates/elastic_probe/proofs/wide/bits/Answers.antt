-- `elastic_probe::wide::bits` meets its contract. Assumes nothing.
use mathlib.Core.Path.{ap, ◌∙◌}
use Prim.Native.Nat.{ℕ, ◌+◌}
use native.Mathlib.Omega.{arith}
use Rattle.elastic_probe.specs.LengthLaws.{bits_log}
use Rattle.elastic_probe.specs.WideLaws.{wide_short, wide_long}
use borrow.Author.Rules.{rules}
use Rattle.elastic_probe.proofs.wide.bits.Goals as goal

pub returns-then-x-eq0 : goal.returns-then-x-eq0
returns-then-x-eq0 c = bits_log _ _ c.bit_length.ensures ∙ wide_short _ _ c.if-x-eq0.true

pub overflow_add-result : goal.overflow_add-result
overflow_add-result c = omega (arith, c.bit_length-2.ensures.least 64 (search rules))

pub returns : goal.returns
returns c = ap (λ (n : ℕ). 64 + n) (bits_log _ _ c.bit_length-2.ensures) ∙ wide_long c.args.x.hi c.args.x.lo c.if-x-eq0.false (search rules)
