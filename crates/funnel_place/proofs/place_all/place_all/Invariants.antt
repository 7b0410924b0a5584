-- `funnel_place::place_all::place_all` meets its contract. The invariant: the placement of what is left gives what the whole gives, and the table is valid. Assumes nothing.
use mathlib.Core.Path.{◌≡◌}
use lib.ListN.{length}
use Rattle.funnel.proofs.PlaceLaws.{Placing}
use Rattle.funnel_place.proofs.place_all.place_all.Given as goal

abbrev pub invariant-loop-i : goal.invariant-loop-i
invariant-loop-i g l = Placing l.table l.counts (g.E.Stored.words l.initial.words) l.initial.flags (g.E.Stored.words l.identities) (g.E.Stored.words l.initial.slots) (g.E.Stored.words l.words) l.flags (g.E.Stored.words l.slots) l.count l.i
    × (length l.words ≡ length l.initial.words) × (length l.slots ≡ length l.initial.slots)
