-- Lemmas of the proof of `place_all::place_all`.
use Rattle.funnel.specs.declared.table.FunnelTable.{FunnelTable}
use Rattle.funnel.specs.Insert.{Settling, Settles}
use Prim.Native.Nat.{ℕ}
use mathlib.Core.Path.{◌≡◌}
use mathlib.Core.List.{List}

pub settles_of : (t : FunnelTable) (counts words flags : List ℕ) (x y index : ℕ) (s : Settling) (w f : List ℕ) → x ≡ y → Settles t counts words flags x index s w f → Settles t counts words flags y index s w f
settles_of t counts words flags x y index s w f e h = rw (← e) h
