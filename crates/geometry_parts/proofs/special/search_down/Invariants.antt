-- `geometry_parts::special::search_down` meets its contract. Assumes nothing.
use mathlib.Core.Path.{◌≡◌}
use Prim.Native.Nat.{◌+◌, ◌*◌, ◌≤◌}
use Rattle.geometry.specs.Special.{Below}
use Rattle.geometry_parts.proofs.special.search_down.Given as goal

abbrev pub invariant-loop : goal.invariant-loop
invariant-loop l = Below l.n l.lo l.hi (2 * l.h) l.w l.s × (l.s + l.counter * (2 * l.h) ≤ l.hi) × (l.beta ≡ 2 * l.h)
