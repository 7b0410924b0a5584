-- The invariant: the bytes left to copy give the whole copy. Assumes nothing.
use Rattle.image_writer.specs.ImageLaws.{Copying}
use Rattle.image_writer.proofs.writer.copy_in.Given as goal

abbrev pub invariant-loop-i : goal.invariant-loop-i
invariant-loop-i l = Copying l.part l.initial.out l.at l.out l.i
