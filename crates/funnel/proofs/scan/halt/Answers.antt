use mathlib.Core.Path.{refl, sym, ◌∙◌}
use native.Mathlib.Omega.{arith}
use Rattle.funnel.specs.StopLaws.{passing_none, passing_vacant, passing_hit, passing_more, passing_end, passing_two}
use Rattle.funnel.proofs.scan.halt.Goals as goal

pub loop-i-init : goal.loop-i-init
loop-i-init g c = (omega arith, omega arith, passing_none _ _ _ _ _)

pub overflow_add-first : goal.overflow_add-first
overflow_add-first g c = omega arith

pub bounds-flags-first : goal.bounds-flags-first
bounds-flags-first g c = omega arith

pub returns-then-flags-first-eq0 : goal.returns-then-flags-first-eq0
returns-then-flags-first-eq0 g c = passing_vacant _ _ _ _ _ c.loop-i.invariant.2 c.loop-i-test.true _ refl c.if-flags-first-eq0.true

pub word-requires : goal.word-requires
word-requires g c = omega arith

pub returns-then-word-identity : goal.returns-then-word-identity
returns-then-word-identity g c = passing_hit _ _ _ _ _ c.loop-i.invariant.2 c.loop-i-test.true _ refl c.if-flags-first-eq0.false (sym c.word.ensures ∙ c.if-word-identity.true)

pub overflow_add-second : goal.overflow_add-second
overflow_add-second g c = omega arith

pub overflow_add-second-in-loop-i : goal.overflow_add-second-in-loop-i
overflow_add-second-in-loop-i g c = omega arith

pub bounds-flags-second : goal.bounds-flags-second
bounds-flags-second g c = let l = c.loop-i-test.true in let v = c.loop-i.invariant in omega arith

pub overflow_add-result : goal.overflow_add-result
overflow_add-result g c = omega arith

pub returns-then-flags-second-eq0 : goal.returns-then-flags-second-eq0
returns-then-flags-second-eq0 g c = let l = c.loop-i-test.true in
    let v = c.loop-i.invariant in
    let p = passing_more _ _ _ _ _ v.2 l _ refl c.if-flags-first-eq0.false (λ e. c.if-word-identity.false (c.word.ensures ∙ e)) in
    passing_vacant _ _ _ _ _ p (omega arith) _ (omega arith) c.if-flags-second-eq0.true

pub word-requires-in-loop-i : goal.word-requires-in-loop-i
word-requires-in-loop-i g c = let l = c.loop-i-test.true in let v = c.loop-i.invariant in omega arith

pub overflow_add-result-then-word-identity-2 : goal.overflow_add-result-then-word-identity-2
overflow_add-result-then-word-identity-2 g c = omega arith

pub returns-then-word-identity-2 : goal.returns-then-word-identity-2
returns-then-word-identity-2 g c = let l = c.loop-i-test.true in
    let v = c.loop-i.invariant in
    let p = passing_more _ _ _ _ _ v.2 l _ refl c.if-flags-first-eq0.false (λ e. c.if-word-identity.false (c.word.ensures ∙ e)) in
    passing_hit _ _ _ _ _ p (omega arith) _ (omega arith) c.if-flags-second-eq0.false (sym c.word-in-loop-i.ensures ∙ c.if-word-identity-2.true)

pub overflow_add-i : goal.overflow_add-i
overflow_add-i g c = omega arith

pub loop-i-smaller : goal.loop-i-smaller
loop-i-smaller g c = omega arith

pub loop-i-preserved : goal.loop-i-preserved
loop-i-preserved g c = let l = c.loop-i-test.true in
    let v = c.loop-i.invariant in
    let p = passing_more _ _ _ _ _ v.2 l _ refl c.if-flags-first-eq0.false (λ e. c.if-word-identity.false (c.word.ensures ∙ e)) in
    (omega arith, omega arith, passing_two _ _ _ _ _ _ (passing_more _ _ _ _ _ p (omega arith) _ (omega arith) c.if-flags-second-eq0.false (λ e. c.if-word-identity-2.false (c.word-in-loop-i.ensures ∙ e))))

pub returns : goal.returns
returns g c = let v = c.loop-i.invariant in passing_end _ _ _ _ _ v.2 (omega arith)
