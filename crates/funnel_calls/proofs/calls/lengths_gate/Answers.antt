-- `funnel_calls::calls::lengths_gate` meets its contract. Test by test. Assumes nothing.
use Rattle.std.proofs.Common.{arith}
use mathlib.Core.Logic.{inl, inr}
use Rattle.funnel.specs.CallLaws.{lengths_words, lengths_flags, lengths_pass}
use Rattle.funnel_calls.proofs.calls.lengths_gate.Goals as goal

pub returns-then-words-n : goal.returns-then-words-n
returns-then-words-n c = elim c.then-words-n.either [
  | inl h ↦ lengths_words _ _ _ _ h
  | inr h ↦ lengths_flags _ _ _ _ h.0 h.1
]

pub returns : goal.returns
returns c = lengths_pass _ _ _ _ (omega arith) (omega arith)
