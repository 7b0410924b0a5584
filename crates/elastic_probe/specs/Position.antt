-- What phi, its bounded form and its inverse answer. Assumes nothing.
use Rattle.std.specs.Prelude.{[], ◌∷◌, ℕ, ◌^◌, eqb, ltb, Option, Some, None, Result, Ok, Err}
use Rattle.refusal.specs.declared.Name.TheVariants as name
use Rattle.refusal.specs.Table.{Report, answered, refused}
use Rattle.words.specs.Pick.{pick}
use Rattle.elastic_probe.specs.Phi.{phi, Coords, gap, at, coords_of}
use Rattle.elastic_probe.specs.Wide.{to_wide}
use Rattle.elastic_probe.specs.declared.phi.Coordinate.{Coordinate}
use Rattle.elastic_probe.specs.declared.phi.Coordinate.TheVariants.{I, J}
use Rattle.elastic_probe.specs.declared.phi.PhiRefusal.{PhiRefusal}
use Rattle.elastic_probe.specs.declared.phi.PhiRefusal.TheVariants.{Coord, Overflow}
use Rattle.elastic_probe.specs.declared.phi.Coordinates.{Coordinates}
use Rattle.words.specs.declared.product.Wide.{Wide}

-- "Phi: 11, 12"; COORD: "zero phi coordinate, i tested before j"; OVERFLOW: "phi doesn't fit its result"
unfoldable pub position_of : (i j : ℕ) → Result Wide PhiRefusal
position_of i j =
    pick (eqb i 0) (Err (Coord I))
    (pick (eqb j 0) (Err (Coord J))
    (pick (ltb (phi i j) (2 ^ 128)) (Ok (to_wide (phi i j))) (Err Overflow)))

-- OVERFLOW: "or bounded form with j above 65,535"; "the bounded form gives one word"
unfoldable pub bounded_of : (i j : ℕ) → Result ℕ PhiRefusal
bounded_of i j =
    pick (eqb i 0) (Err (Coord I))
    (pick (eqb j 0) (Err (Coord J))
    (pick (ltb 65535 j) (Err Overflow)
    (pick (ltb (phi i j) (2 ^ 64)) (Ok (phi i j)) (Err Overflow))))

abbrev pub coordinates : Wide → ℕ → Coordinates
coordinates i j = record { i = i; j = j }

-- GAP: "position has no phi coordinates"
abbrev pub told : Coords → Option Coordinates
told gap = None
told (at i j) = Some (coordinates (to_wide i) j)

unfoldable pub coordinates_of : ℕ → Option Coordinates
coordinates_of p = told (coords_of p)

-- which coordinate was zero: 1 for i, 2 for j
abbrev pub coordinate_number : Coordinate → ℕ
coordinate_number I = 1
coordinate_number J = 2

-- what they report
abbrev pub position_report : Result Wide PhiRefusal → Report
position_report (Ok p) = answered (p.hi ∷ p.lo ∷ [])
position_report (Err (Coord c)) = refused name.Coord (coordinate_number c ∷ [])
position_report (Err Overflow) = refused name.Overflow []

abbrev pub bounded_report : Result ℕ PhiRefusal → Report
bounded_report (Ok p) = answered (p ∷ [])
bounded_report (Err (Coord c)) = refused name.Coord (coordinate_number c ∷ [])
bounded_report (Err Overflow) = refused name.Overflow []

abbrev pub coordinates_report : Option Coordinates → Report
coordinates_report (Some c) = answered (c.i.hi ∷ c.i.lo ∷ c.j ∷ [])
coordinates_report None = refused name.Gap []
