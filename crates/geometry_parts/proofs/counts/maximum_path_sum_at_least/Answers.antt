use Rattle.std.specs.Prelude.{eqb, leb, zero, suc, ℕ, refl}
use mathlib.Core.Path.{◌≡◌, ◌∙◌, sym}
use borrow.Author.Tests.{ne_eqb}
use Rattle.std.proofs.lemmas.Bool.{lt-leb}
use Prim.Native.Nat.{◌+◌, ◌-◌}
use native.Mathlib.Omega.{arith}
use Rattle.geometry.specs.PathLaws.{high_past, high_more, high_end}
use Rattle.geometry_parts.proofs.counts.maximum_path_sum_at_least.Goals as goal

-- nothing is left exactly where no more is left than 0
zero_test : (n : ℕ) → eqb n 0 ≡ leb n 0
zero_test zero = refl
zero_test (suc n) = ne_eqb (suc n) 0 (λ z. omega arith) ∙ sym (lt-leb (suc n) 0 (omega arith))

pub returns-then-rem-cur : goal.returns-then-rem-cur
returns-then-rem-cur c = high_past c.loop.invariant (omega arith) c.if-rem-cur.true

pub loop-preserved : goal.loop-preserved
loop-preserved c =
    let l = c.loop in
    let one : c.args.levels - l.counter - 1 ≡ c.args.levels - (l.counter + 1) = omega arith in
    rw (c.maximum_next_bucket_count-cur.ensures, ← one) (high_more l.invariant (omega arith) c.if-rem-cur.false)

pub returns : goal.returns
returns c = zero_test c.loop.rem ∙ high_end c.loop.invariant (omega arith)
