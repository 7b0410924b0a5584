use Rattle.std.proofs.Common.{◌≡◌, ◌+◌, ◌*◌, ◌-◌, ◌<◌}
use Rattle.image_calls.specs.FillLaws.{filling_slot, filling_more, filling_end}
use native.Mathlib.Omega.{arith}
use Rattle.image_calls.proofs.loader.fill_field.Goals as goal

pub put-requires : goal.put-requires
put-requires g c = let q = filling_slot c.loop-i.invariant (omega arith) in let e = c.read64-slot.ensures in omega arith

pub bounds-flags-slot : goal.bounds-flags-slot
bounds-flags-slot g c = let q = filling_slot c.loop-i.invariant (omega arith) in let e = c.read64-slot.ensures in omega arith

pub loop-i-preserved : goal.loop-i-preserved
loop-i-preserved g c =
    let e : c.args.at + 16 * (c.loop-i.i + 1) ≡ c.args.at + 16 * c.loop-i.i + 16 = omega arith in
    let f : c.args.count - (c.loop-i.i + 1) ≡ c.args.count - c.loop-i.i - 1 = omega arith in
    let n : 0 < c.args.count - c.loop-i.i = omega arith in
    rw (e, f, c.put.ensures, c.read64-slot.ensures, c.read64-identity.ensures) (filling_more c.loop-i.invariant n)

pub returns : goal.returns
returns g c = filling_end c.loop-i.invariant (omega arith)
