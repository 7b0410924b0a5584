use native.Mathlib.Omega.{arith}
use mathlib.Core.Path.{sym, ◌∙◌}
use Rattle.funnel.specs.DirtyLaws.{dirty_word, dirty_flag, clean_vacant, clean_flag}
use Rattle.audit.specs.FirstLaws.{passed_none, passed_at, passed_more, passed_end, from_zero}
use Rattle.audit.proofs.slots.first_dirty.Goals as goal
use Rattle.audit.proofs.slots.first_dirty.Goals.{then-flag-eq0+else-word-ne0, else-flag-eq0+else-flag-gt1}

pub loop-slot-init : goal.loop-slot-init
loop-slot-init g c = passed_none _ _ _

pub word-requires : goal.word-requires
word-requires g c = omega arith

pub returns-then-word-ne0 : goal.returns-then-word-ne0
returns-then-word-ne0 g c = passed_at c.loop-slot.invariant c.loop-slot-test.true (dirty_word _ _ _ c.if-flag-eq0.true (λ e. c.if-word-ne0.true (c.word.ensures ∙ e))) ∙ from_zero _ _

pub returns-then-flag-gt1 : goal.returns-then-flag-gt1
returns-then-flag-gt1 g c = passed_at c.loop-slot.invariant c.loop-slot-test.true (dirty_flag _ _ _ c.if-flag-eq0.false c.if-flag-gt1.true) ∙ from_zero _ _

pub returns : goal.returns
returns g c = passed_end c.loop-slot.invariant c.loop-slot-test.false ∙ from_zero _ _

pub loop-slot-preserved : goal.loop-slot-preserved
loop-slot-preserved g c = elim c.if-flag-eq0.branch [
  | then-flag-eq0+else-word-ne0 w ↦ passed_more c.loop-slot.invariant c.loop-slot-test.true (clean_vacant _ _ _ w.if-flag-eq0.true (sym w.word.ensures ∙ w.if-word-ne0.false))
  | else-flag-eq0+else-flag-gt1 w ↦ passed_more c.loop-slot.invariant c.loop-slot-test.true (clean_flag _ _ _ w.if-flag-eq0.false w.if-flag-gt1.false)
]
