use Rattle.image_writer.specs.DirtyLaws.{scan_none, scan_flag, scan_word, scan_vacant, scan_taken, scan_end}
use mathlib.Core.Path.{sym, ◌∙◌}
use native.Mathlib.Omega.{arith}
use Rattle.image_writer.proofs.dirty.scan.Goals as goal
use Rattle.image_writer.proofs.dirty.scan.Goals.{then-flag-eq0+else-word-ne0, else-flag-eq0+else-flag-gt1}

pub loop-slot-init : goal.loop-slot-init
loop-slot-init g c = scan_none _ _

pub returns-then-word-ne0 : goal.returns-then-word-ne0
returns-then-word-ne0 g c = (
  λ h. scan_word c.loop-slot.invariant c.loop-slot-test.true (omega (arith, c.if-flag-eq0.true)) c.if-flag-eq0.true (λ e. c.if-word-ne0.true (c.word.ensures ∙ e)),
  λ h. absurd (omega (arith, h, c.loop-slot-test.true)),
)

pub returns-then-flag-gt1 : goal.returns-then-flag-gt1
returns-then-flag-gt1 g c =
    (λ h. scan_flag c.loop-slot.invariant c.loop-slot-test.true c.if-flag-gt1.true, λ h. absurd (omega (arith, h, c.loop-slot-test.true)))

pub loop-slot-preserved : goal.loop-slot-preserved
loop-slot-preserved g c =
    elim c.if-flag-eq0.branch [
      | then-flag-eq0+else-word-ne0 w ↦
          rw w.count-is (scan_vacant c.loop-slot.invariant c.loop-slot-test.true (omega (arith, w.if-flag-eq0.true)) w.if-flag-eq0.true (sym w.word.ensures ∙ w.if-word-ne0.false))
      | else-flag-eq0+else-flag-gt1 w ↦ rw w.count-is (scan_taken c.loop-slot.invariant c.loop-slot-test.true w.if-flag-gt1.false w.if-flag-eq0.false)
    ]

pub returns : goal.returns
returns g c = (λ h. absurd (omega (arith, h)), λ h. scan_end c.loop-slot.invariant c.loop-slot-test.false)
