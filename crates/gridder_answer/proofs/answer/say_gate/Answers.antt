-- `gridder_answer::answer::say_gate` meets its contract. By the length of the block. Assumes nothing.
use mathlib.Core.Path.{◌≡◌, ◌∙◌, ap}
use lib.ListN.{length}
use native.Mathlib.Omega.{arith}
use Rattle.refusal.specs.Table.{number_of}
use Rattle.gridder_answer.specs.AnswerLaws.{reply_is, says_none, saying_stays, saying_says}
use Rattle.gridder_answer.proofs.answer.say_gate.Goals as goal

pub returns-then-answer-ne-ANSWER_LENGTH : goal.returns-then-answer-ne-ANSWER_LENGTH
returns-then-answer-ne-ANSWER_LENGTH c = reply_is _ _ _ _ (c.number-refused.ensures ∙ ap number_of c.gate_name.ensures) (saying_stays _ _ c.if-answer-ne-ANSWER_LENGTH.true)

pub returns : goal.returns
returns c = let l : length c.args.answer.now ≡ 128 = omega (arith, c.if-answer-ne-ANSWER_LENGTH.false) in
    reply_is _ _ _ _ (c.number-refused.ensures ∙ ap number_of c.gate_name.ensures) (c.clear_bytes.ensures ∙ says_none _ l ∙ saying_says _ _ l)
