-- `image_calls::loader::fill_field` meets its contract. The loop's invariant: the entries left fill to what all entries fill to, and their slots are in both buffers.
-- Assumes nothing.
use Rattle.image.specs.Format.{entry_size}
use Rattle.image_calls.specs.FillLaws.{Filling}
use Prim.Native.Nat.{◌+◌, ◌-◌, ◌*◌}
use Rattle.image_calls.proofs.loader.fill_field.Given as goal

abbrev pub invariant-loop-i : goal.invariant-loop-i
invariant-loop-i g l = Filling l.image l.at l.count (g.E.Stored.words l.initial.words) l.initial.flags (g.E.Stored.words l.words) l.flags (l.at + entry_size * l.i) (l.count - l.i)
