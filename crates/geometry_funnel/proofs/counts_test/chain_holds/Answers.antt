use mathlib.Core.Path.{refl}
use Prim.Native.Nat.{◌+◌, ◌-◌}
use native.Mathlib.Omega.{arith}
use Rattle.geometry.specs.SaysLaws.{says_true, says_false}
use Rattle.geometry.specs.WalkLaws.{here_at, sized, from_last, last_past, walk_low, walk_wrong, walk_past, walk_more, from_end, from_not}
use Rattle.geometry_funnel.proofs.Tests.{says_eq}
use Rattle.geometry_funnel.proofs.counts_test.chain_holds.Goals as goal
use Rattle.geometry_funnel.proofs.counts_test.chain_holds.Goals.{then-not-step_holds-via-then-not-step_holds, then-not-step_holds-via-else-not-step_holds+then-t-sum}

pub returns-then-t-y : goal.returns-then-t-y
returns-then-t-y c =
    let l = c.args.levels in
    last_past _ _ _ (l - 1) _ (here_at c.args.counts.now l (l - 1) l (omega arith) (omega arith) c.requires.1) c.if-t-y.true

pub loop-i-init : goal.loop-i-init
loop-i-init c =
    let l = c.args.levels in
    (omega arith, omega arith, from_last _ _ _ _ (omega (arith, sized c.args.counts.now l c.requires.1)) (here_at c.args.counts.now l (l - 1) (l - 1 + 1) refl (omega arith) c.requires.1) c.if-t-y.false)

pub step_holds-requires : goal.step_holds-requires
step_holds-requires c = λ e. walk_low _ _ _ c.requires.1 _ _ _ _ (omega arith) (omega arith) c.loop-i.invariant.2 e

pub returns-then-not-step_holds : goal.returns-then-not-step_holds
returns-then-not-step_holds c =
    elim c.then-not-step_holds.branch [
      | then-not-step_holds-via-then-not-step_holds w ↦ walk_wrong _ _ _ c.requires.1 _ _ _ _ (omega arith) (omega arith) c.loop-i.invariant.2
          (says_false _ _ c.step_holds.ensures w.if-not-step_holds.true)
      | then-not-step_holds-via-else-not-step_holds+then-t-sum w ↦ walk_past _ _ _ c.requires.1 _ _ _ _ (omega arith) (omega arith) c.loop-i.invariant.2
          w.if-t-sum.true
    ]

pub loop-i-preserved : goal.loop-i-preserved
loop-i-preserved c =
    (omega arith, omega arith, walk_more _ _ _ c.requires.1 _ _ _ _ (omega arith) (omega arith) c.loop-i.invariant.2 _ (says_true _ _ c.step_holds.ensures c.if-not-step_holds.false) c.if-t-sum.false c.follows_low-lowest.ensures)

pub returns : goal.returns
returns c = says_eq _ _ _ (from_end _ _ _ _ _ _ (omega arith) c.loop-i.invariant.2) (from_not _ _ _ _ _ _ (omega arith) c.loop-i.invariant.2)
