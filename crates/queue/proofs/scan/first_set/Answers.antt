use Rattle.std.specs.Prelude.{Some, None, ◌≡◌, length, take, drop, refl}
use Rattle.std.proofs.Common.{length-take, length-drop}
use mathlib.Core.Path.{sym, ◌∙◌}
use Prim.Native.Nat.{◌-◌}
use native.Mathlib.Omega.{arith}
use Rattle.queue.specs.LevelLaws.{first_of_part, first_same}
use Rattle.queue.proofs.scan.first_set.Goals as goal

pub returns-in-Some : goal.returns-in-Some
returns-in-Some c =
    first_same (omega arith) (first_of_part c.args.b.now c.args.from c.args.to (Some c.in-Some.place) c.in-Some.place refl (sym c.in-Some.is ∙ c.first_place.ensures) c.requires.0 c.requires.1)

pub returns-in-None : goal.returns-in-None
returns-in-None c =
    let n : length (take (c.args.to - c.args.from) (drop c.args.from c.args.b.now)) ≡ c.args.to - c.args.from = rw (length-take, length-drop) (omega (arith, c.requires.0, c.requires.1)) in
    first_same (omega (arith, n, c.requires.0)) (first_of_part c.args.b.now c.args.from c.args.to None _ refl (sym c.in-None.is ∙ c.first_place.ensures) c.requires.0 c.requires.1)
