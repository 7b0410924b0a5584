-- The refusals of a gate in the order of their numbers, as they are reported. Assumes nothing.
use Rattle.std.specs.Prelude.{not, [], ℕ, eqb, ltb}
use Rattle.refusal.specs.declared.Name.TheVariants as name
use Rattle.refusal.specs.Table.{Report, refused}
use Rattle.words.specs.Pick.{pick}
use Rattle.geometry.specs.FunnelGate.{has_layout}

-- "Order: 1 to 7 by number": 1 to 6 of n, e and a word cap, and then what the tests of STATE report
abbrev pub ranked : (n e cap : ℕ) → Report → Report
ranked n e cap state =
    pick (ltb n 2) (refused name.N [])
    (pick (eqb e 0) (refused name.ZeroExp [])
    (pick (ltb 4294967296 n) (refused name.Size [])
    (pick (ltb e 3) (refused name.Exponent [])
    (pick (not (has_layout n e)) (refused name.Layout [])
    (pick (eqb cap 0) (refused name.Limits [])
    (pick (ltb 256 cap) (refused name.Limits []) state))))))

-- STATE: "a lent buffer isn't n long", by the lengths of the two, and then what the later tests report
abbrev pub lengths : (n words flags : ℕ) → Report → Report
lengths n words flags later = pick (not (eqb words n)) (refused name.State []) (pick (not (eqb flags n)) (refused name.State []) later)
