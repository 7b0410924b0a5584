-- `image_writer::dirty::scan` meets its contract. The loop's invariant: the slots left say what the whole table says. Assumes nothing.
use Rattle.image_writer.specs.DirtyLaws.{Scanning}
use Rattle.image_writer.proofs.dirty.scan.Given as goal

abbrev pub invariant-loop-slot : goal.invariant-loop-slot
invariant-loop-slot g l = Scanning (g.E.Stored.words l.slots.words.now) l.slots.flags.now l.slot l.count
