-- `funnel_calls::calls::limits_gate` meets its contract. Test by test. Assumes nothing.
use Rattle.std.proofs.Common.{arith}
use mathlib.Core.Logic.{inl, inr}
use Rattle.funnel.specs.CallLaws.{limits_zero, limits_many, limits_pass}
use Rattle.funnel_calls.proofs.calls.limits_gate.Goals as goal

pub returns-then-cap-eq0 : goal.returns-then-cap-eq0
returns-then-cap-eq0 c = elim c.then-cap-eq0.either [
  | inl h ↦ limits_zero _ _ h
  | inr h ↦ limits_many _ _ h.0 h.1
]

pub returns : goal.returns
returns c = limits_pass _ _ (omega arith) (omega arith)
