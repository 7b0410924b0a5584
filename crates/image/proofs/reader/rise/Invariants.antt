-- `image::reader::rise` meets its contract. The loop's invariant: the entries left, with the floor reached, say what all entries say. Assumes nothing.
use Rattle.image.specs.RiseLaws.{Rises}
use Prim.Native.Nat.{◌+◌, ◌*◌, ◌-◌}
use Rattle.image.proofs.reader.rise.Given as goal

abbrev pub invariant-loop-i : goal.invariant-loop-i
invariant-loop-i l = Rises l.image l.n l.floor l.at l.count l.low (l.at + 16 * l.i) (l.count - l.i)
