-- `image::reader::read` meets its contract. The loop's invariant: the cursor is the numbers of what was seen, and the reading from here on is the
-- reading of the whole. The measure is what is left of the image. Assumes nothing.
use Rattle.image.specs.AlongLaws.{Along}
use lib.ListN.{length}
use Prim.Native.Nat.{◌-◌}
use Rattle.image.proofs.reader.read.Given as goal

abbrev pub invariant-loop-tag : goal.invariant-loop-tag
invariant-loop-tag l = Along l.image l.c

abbrev pub decreases-loop-tag : goal.decreases-loop-tag
decreases-loop-tag l = length l.image - l.c.at
