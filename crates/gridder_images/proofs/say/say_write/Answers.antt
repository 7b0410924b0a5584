-- `gridder_images::say::say_write` meets its contract. Case by case. Assumes nothing.
use Rattle.std.proofs.Common.{◌≡◌, ◌∙◌, ap, Err}
use Rattle.image_writer.specs.Writing.{Written}
use Rattle.image_writer.specs.declared.writer.WriteRefusal.TheVariants as refusal
use Rattle.gridder_answer.specs.AnswerLaws.{gate_says}
use Rattle.gridder_images.proofs.say.say_write.Goals as goal

pub returns-in-Err-Gate : goal.returns-in-Err-Gate
returns-in-Err-Gate c =
    let e : ◌≡◌ {A = Written} c.args.written (Err (refusal.Gate c.in-Err-Gate.gate)) = c.in-Err-Gate.is ∙ ap Err (rw c.in-Err-Gate.is at c.in-Err-Gate.field-0-is) in
    rw e (gate_says _ _ _ _ c.told-answer c.say_gate.ensures)
