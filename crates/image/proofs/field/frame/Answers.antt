-- `image::field::frame` meets its contract. Assumes nothing.
use mathlib.Core.Path.{sym, ◌∙◌, ap}
use native.Mathlib.Omega.{arith}
use Rattle.image.specs.Reading.{right_length}
use Rattle.image.specs.FrameLaws.{frame_end, frame_tag, frame_short, frame_length, frame_cut, frame_field}
use Rattle.image.proofs.field.frame.Goals as goal

pub returns-then-size-at : goal.returns-then-size-at
returns-then-size-at c = frame_end _ _ _ _ c.if-size-at.true

pub returns-then-not-right_tag : goal.returns-then-not-right_tag
returns-then-not-right_tag c = frame_tag _ _ _ _ (omega arith) (sym c.right_tag.ensures ∙ c.if-not-right_tag.true)

pub returns-then-size-at-lt3 : goal.returns-then-size-at-lt3
returns-then-size-at-lt3 c = frame_short _ _ _ _ (omega arith) (sym c.right_tag.ensures ∙ c.if-not-right_tag.false) (omega arith)

pub returns-then-not-right_length : goal.returns-then-not-right_length
returns-then-not-right_length c =
    frame_length _ _ _ _ (omega arith) (sym c.right_tag.ensures ∙ c.if-not-right_tag.false)
    (ap (right_length _ _) (sym c.read16-len.ensures.is) ∙ sym c.right_length.ensures ∙ c.if-not-right_length.true)

pub returns-then-size-at-2 : goal.returns-then-size-at-2
returns-then-size-at-2 c =
    frame_cut _ _ _ _ (omega arith) (sym c.right_tag.ensures ∙ c.if-not-right_tag.false)
    (ap (right_length _ _) (sym c.read16-len.ensures.is) ∙ sym c.right_length.ensures ∙ c.if-not-right_length.false)
    (omega arith)

pub returns : goal.returns
returns c =
    rw c.read16-len.ensures.is
    (frame_field _ _ _ _ (omega arith) (sym c.right_tag.ensures ∙ c.if-not-right_tag.false)
    (ap (right_length _ _) (sym c.read16-len.ensures.is) ∙ sym c.right_length.ensures ∙ c.if-not-right_length.false)
    (omega arith))
