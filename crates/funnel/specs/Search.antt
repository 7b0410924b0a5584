-- The search for an identity: a walk along its path over the words and the flags of a table. Assumes nothing.
use Rattle.std.specs.Prelude.{Bool, true, false, List, [], ◌∷◌, ℕ, ◌+◌, get_or, eqb}
use Rattle.words.specs.declared.place.Place.{Place}
use Rattle.funnel.specs.declared.table.FunnelTable.{FunnelTable}
use Rattle.funnel.specs.declared.table.Search.{Search}
use Rattle.funnel.specs.declared.table.Search.TheVariants.{Hit, Vacant, Full, Range}
use Rattle.funnel.specs.Path.{Ending, full, refused, Path, slot_of, path_of}

-- "It stops at the identity or the first vacancy": what a reading tells, by whether the slot is vacant and whether its word is
-- the identity; `later` is what the rest of the walk says
abbrev pub look : (vacant same : Bool) → ℕ → Place → Search → Search
look true same probes place later = Vacant probes place
look false true probes place later = Hit probes place
look false false probes place later = later

-- the end of a path, with all its readings made
abbrev pub end_of : Ending → ℕ → Search
end_of full probes = Full probes
end_of (refused refusal) probes = Range refusal

-- "Flag 0 is vacant, any other occupied": the walk along some places and their ending, after some readings
unfoldable pub walk_of : (words flags : List ℕ) (identity : ℕ) → List Place → Ending → (probes : ℕ) → Search
walk_of words flags identity [] ending probes = end_of ending probes
walk_of words flags identity (p ∷ places) ending probes =
    look (eqb (get_or flags (slot_of p) 0) 0) (eqb (get_or words (slot_of p) 0) identity) (probes + 1) p
    (walk_of words flags identity places ending (probes + 1))

-- the search along a path after some readings
unfoldable pub search_of : (words flags : List ℕ) (identity : ℕ) → Path → (probes : ℕ) → Search
search_of words flags identity p probes = walk_of words flags identity p.places p.ending probes

-- the path of an identity in a table
abbrev pub table_path : FunnelTable → List ℕ → ℕ → Path
table_path table counts identity = path_of table.plan counts table.seed table.word_cap identity

-- the search for an identity in a table
unfoldable pub find_of : FunnelTable → (counts words flags : List ℕ) (identity : ℕ) → Search
find_of table counts words flags identity = search_of words flags identity (table_path table counts identity) 0

-- the slots that a walk reads, in order: "the number of slot readings the steps make"
abbrev pub read_on : (vacant same : Bool) → List ℕ → List ℕ
read_on true same later = []
read_on false true later = []
read_on false false later = later

unfoldable pub readings_of : (words flags : List ℕ) (identity : ℕ) → List Place → List ℕ
readings_of words flags identity [] = []
readings_of words flags identity (p ∷ places) =
    slot_of p ∷ read_on (eqb (get_or flags (slot_of p) 0) 0) (eqb (get_or words (slot_of p) 0) identity) (readings_of words flags identity places)
