-- `image::field::right_tag` meets its contract. The loop's invariant: whether the tag may come is whether it may from this rank on. The measure is the ranks left. Assumes nothing.
use Rattle.image.specs.Format.{fields}
use Rattle.image.specs.KindLaws.{Coming}
use Prim.Native.Nat.{◌-◌}
use Rattle.image.proofs.field.right_tag.Given as goal

abbrev pub invariant-loop-i : goal.invariant-loop-i
invariant-loop-i l = Coming fields l.low l.tag l.i

abbrev pub decreases-loop-i : goal.decreases-loop-i
decreases-loop-i l = 6 - l.i
