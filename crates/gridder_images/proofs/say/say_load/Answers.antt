-- `gridder_images::say::say_load` meets its contract. Case by case. Assumes nothing.
use Rattle.std.proofs.Common.{◌≡◌, ◌∙◌, ap, Err}
use Rattle.image_calls.specs.Loading.{LoadAnswer}
use Rattle.image_calls.specs.declared.loader.LoadRefusal.TheVariants as refusal
use Rattle.gridder_images.specs.SayLaws.{load_says}
use Rattle.gridder_answer.specs.AnswerLaws.{says_none}
use Rattle.gridder_images.proofs.say.say_load.Goals as goal

pub returns-in-Err-Foreign : goal.returns-in-Err-Foreign
returns-in-Err-Foreign c =
    let e : ◌≡◌ {A = LoadAnswer} c.args.loaded (Err refusal.Foreign) = c.in-Err-Foreign.is ∙ ap Err (rw c.in-Err-Foreign.is at c.in-Err-Foreign.field-0-is) in
    load_says _ _ _ _ e c.number-in-Err-Foreign.ensures (c.clear_bytes.ensures ∙ says_none _ c.told-answer)
