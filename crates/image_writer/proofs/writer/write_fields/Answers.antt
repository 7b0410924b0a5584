use Rattle.image_writer.specs.EntryFieldLaws.{fields_room, fields_more, fields_end}
use lib.Seq.{length-sets}
use lib.ListN.{length}
use native.Mathlib.Omega.{arith}
use mathlib.Core.Path.{ap}
use Rattle.image_writer.proofs.writer.write_fields.Goals as goal

pub write_entries-s-requires : goal.write_entries-s-requires
write_entries-s-requires g c = let r = fields_room c.loop-left.invariant c.loop-left-test.true in let z = simp length-sets at (ap length c.write_head.ensures) in
    (omega arith, omega arith, omega arith)

pub loop-left-preserved : goal.loop-left-preserved
loop-left-preserved g c = let q = c.chunk_of-m.ensures in
    rw q (fields_more c.loop-left.invariant c.loop-left-test.true _ (rw q at c.write_head.ensures) _ _ (rw q at c.write_entries-s.ensures))

pub returns : goal.returns
returns g c = fields_end c.loop-left.invariant (omega arith)
