-- `image_writer::writer::write_entry` meets its contract. Assumes nothing.
use mathlib.Core.Path.{sym, ◌∙◌}
use Rattle.image_writer.specs.EntryLaws.{entry_then}
use Rattle.image_writer.proofs.writer.write_entry.Goals as goal

pub returns : goal.returns
returns c = c.write64-2.ensures ∙ rw c.write64.ensures (sym (entry_then _ _ _ _))
