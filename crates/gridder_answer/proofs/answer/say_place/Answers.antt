-- `gridder_answer::answer::say_place` meets its contract. Case by case. Assumes nothing.
use Rattle.gridder_answer.specs.AnswerLaws.{stored_first, stored_last}
use Rattle.gridder_answer.specs.Answer.{place_fields}
use Rattle.gridder_answer.proofs.answer.say_place.Goals as goal

pub returns-in-Ordinary : goal.returns-in-Ordinary
unfolding place_fields
returns-in-Ordinary c = rw c.in-Ordinary.is (stored_first _ _ _ _ _ c.write64.ensures (stored_first _ _ _ _ _ c.write64-in-Ordinary.ensures c.say_within.ensures))

pub returns-in-SpecialPrimary : goal.returns-in-SpecialPrimary
unfolding place_fields
returns-in-SpecialPrimary c = rw c.in-SpecialPrimary.is (stored_first _ _ _ _ _ c.write64-in-SpecialPrimary.ensures (stored_first _ _ _ _ _ c.write64-in-SpecialPrimary-2.ensures (stored_last _ _ _ c.write64-in-SpecialPrimary-3.ensures)))

pub returns-in-SpecialFallback : goal.returns-in-SpecialFallback
unfolding place_fields
returns-in-SpecialFallback c = rw c.in-SpecialFallback.is (stored_first _ _ _ _ _ c.write64-in-SpecialFallback.ensures c.say_within-in-SpecialFallback.ensures)
