use native.Mathlib.Omega.{arith}
use mathlib.Core.Logic.{inl, inr}
use Rattle.geometry.specs.ElasticLaws.{length_fits}
use Rattle.elastic.proofs.CountsFit.{counting_over, counting_above, counting_step, counting_end}
use Rattle.elastic.proofs.state.counts_fit.Goals as goal

pub returns-then-length-members : goal.returns-then-length-members
returns-then-length-members c = elim c.then-length-members.either [
  | inl h ↦ counting_above _ _ _ _ _ _ _ c.loop-i.invariant (omega arith) _ c.next_length-length.ensures h
  | inr h ↦ counting_over _ _ _ _ _ _ _ c.loop-i.invariant (omega arith) h.1
]

pub overflow_sub-rest : goal.overflow_sub-rest
overflow_sub-rest c = length_fits _ _ _ c.next_length-length.ensures

pub loop-i-preserved : goal.loop-i-preserved
loop-i-preserved c =
    counting_step _ _ _ _ _ _ _ c.loop-i.invariant (omega arith) _ c.next_length-length.ensures c.if-length-members.false c.if-left-members.false

pub returns : goal.returns
returns c = counting_end _ _ _ _ _ _ _ c.loop-i.invariant (omega arith)
