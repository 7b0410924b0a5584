use mathlib.Core.Path.{◌≡◌, ◌∙◌}
use Prim.Native.Nat.{ℕ, ◌+◌, ◌-◌, ◌<◌}
use native.Mathlib.Omega.{arith}
use lib.ListN.{length}
use Rattle.std.proofs.Common.{drop, length-take, length-drop, get_or-take, get_or-drop}
use Rattle.geometry.specs.ZeroLaws.{others_more, others_none}
use Rattle.geometry_funnel.proofs.Tests.{says_eq}
use Rattle.geometry_funnel.proofs.counts_test.zero_from.Goals as goal

pub loop-count-preserved : goal.loop-count-preserved
loop-count-preserved c =
    let l = c.loop-count in
    let size = length-drop c.args.from c.args.counts.now in
    let within : l.count-index < length c.args.counts.now - c.args.from = omega (arith, length-take {A = ℕ}) in
    let next : c.args.from + l.count-index + 1 ≡ c.args.from + (l.count-index + 1) = omega arith in
    let read = get_or-take (length c.args.counts.now - c.args.from) (drop c.args.from c.args.counts.now) l.count-index 0 within ∙ get_or-drop c.args.from c.args.counts.now l.count-index 0 in
    rw (read, ← next) (others_more _ _ l.invariant (omega arith))

pub returns : goal.returns
returns c =
    let l = c.loop-count in
    let size = length-drop c.args.from c.args.counts.now in
    says_eq _ _ _ (others_none _ _ l.invariant (omega (arith, length-take {A = ℕ}))) l.invariant.some
