use Rattle.image_writer.specs.EntryLaws.{writing_slot, writing_skip, writing_put, writing_end}
use native.Mathlib.Omega.{arith}
use Rattle.image_writer.proofs.writer.write_entries.Goals as goal

pub bounds-slots-slot : goal.bounds-slots-slot
bounds-slots-slot g c = omega (arith, writing_slot c.loop-left.invariant c.loop-left-test.true)

pub loop-left-preserved-then-slots-slot-ne0 : goal.loop-left-preserved-then-slots-slot-ne0
loop-left-preserved-then-slots-slot-ne0 g c = writing_put c.loop-left.invariant c.loop-left-test.true c.if-slots-slot-ne0.true _ (rw c.word-identity.ensures at c.write_entry.ensures)

pub loop-left-smaller : goal.loop-left-smaller
loop-left-smaller g c = omega (arith, writing_slot c.loop-left.invariant c.loop-left-test.true)

pub loop-left-preserved : goal.loop-left-preserved
loop-left-preserved g c = writing_skip c.loop-left.invariant c.loop-left-test.true c.if-slots-slot-ne0.false

pub returns : goal.returns
returns g c = writing_end c.loop-left.invariant (omega arith)
