-- `image_calls::loader::fill_image` meets its contract. The loop's invariant: what is read from here on is right, and the buffers hold the entries before it. The
-- measure is what is left of the image. Assumes nothing.
use Rattle.image_calls.specs.LoadingLaws.{Onward}
use lib.ListN.{length}
use Prim.Native.Nat.{◌-◌}
use Rattle.image_calls.proofs.loader.fill_image.Given as goal

abbrev pub invariant-loop-tag : goal.invariant-loop-tag
invariant-loop-tag g l = Onward l.image (g.E.Stored.words l.initial.words) l.initial.flags l.low l.at (g.E.Stored.words l.words) l.flags

abbrev pub decreases-loop-tag : goal.decreases-loop-tag
decreases-loop-tag g l = length l.image - l.at
