-- The public calls: their gate, what each answers and leaves, and what it reports. Assumes nothing.
use Rattle.std.specs.Prelude.{not, List, [], ◌∷◌, ◌≡◌, ℕ, eqb, ltb, length, replicate, Result, Ok, Err}
use Rattle.refusal.specs.Table.{name_of, Report, answered, refused}
use Rattle.refusal.specs.declared.Gate.{Gate}
use Rattle.refusal.specs.declared.Gate.TheVariants as gate
use Rattle.refusal.specs.declared.Name.TheVariants as name
use Rattle.words.specs.declared.place.Place.{Place}
use Rattle.words.specs.declared.place.Place.TheVariants as place
use Rattle.geometry.specs.Config.{Gated, refuse_if}
use Rattle.geometry.specs.Funnel.{IsPlan}
use Rattle.geometry.specs.FunnelGate.{funnel_gate, is_plan}
use Rattle.funnel.specs.declared.table.FunnelTable.{FunnelTable}
use Rattle.funnel.specs.declared.table.Step.{Step}
use Rattle.funnel.specs.declared.table.PlacedAll.{PlacedAll}
use Rattle.funnel.specs.declared.table.Search.{Search}
use Rattle.funnel.specs.declared.table.Search.TheVariants as search
use Rattle.funnel.specs.declared.table.InsertRefusal.TheVariants as insertion
use Rattle.funnel.specs.declared.table.PlaceRefusal.TheVariants as placement
use Rattle.funnel.specs.Search.{find_of}
use Rattle.funnel.specs.Insert.{Insertion, Placement, Done, insert_of, Placed, place_all_of}

-- ---- the gate: "Order: 1 to 7 by number"

-- what later tests say where the earlier ones pass
abbrev pub gate_then : Gated → Gated → Gated
gate_then (Err g) later = Err g
gate_then (Ok _) later = later

-- LIMITS (6): "a cap or c outside the domain"; "Funnel word cap 1 to 256"
unfoldable pub limits_then : ℕ → Gated → Gated
limits_then cap later = refuse_if (eqb cap 0) gate.Limits (refuse_if (ltb 256 cap) gate.Limits later)

-- STATE (7): "a lent buffer isn't n long", by the lengths of the two
unfoldable pub lengths_then : (n words flags : ℕ) → Gated → Gated
lengths_then n words flags later = refuse_if (not (eqb words n)) gate.State (refuse_if (not (eqb flags n)) gate.State later)

-- the tests 1 to 7 of a table, "count above n; plan not that of n and e" among them
unfoldable pub table_gate : FunnelTable → List ℕ → (words flags : ℕ) → Gated
table_gate table counts words flags =
    gate_then (funnel_gate table.n table.e)
    (limits_then table.word_cap
    (lengths_then table.n words flags
    (refuse_if (ltb table.n table.count) gate.State
    (refuse_if (not (is_plan table.n table.e table.plan counts)) gate.State (Ok tt)))))

-- the tests of an opening
unfoldable pub open_gate : (n e cap words flags : ℕ) → Gated
open_gate n e cap words flags = gate_then (funnel_gate n e) (limits_then cap (lengths_then n words flags (Ok tt)))

-- the tests of a placement: the slots' buffer must have room for each identity
unfoldable pub place_gate : FunnelTable → List ℕ → (words flags identities slots : ℕ) → Gated
place_gate table counts words flags identities slots = gate_then (table_gate table counts words flags) (refuse_if (ltb slots identities) gate.State (Ok tt))

-- ---- what the calls answer and leave: a refusal of the gate, or what the call on a valid table does

abbrev pub OpenAnswer : Type 0
OpenAnswer = Result FunnelTable Gate

abbrev pub SearchAnswer : Type 0
SearchAnswer = Result Search Gate

abbrev pub InsertAnswer : Type 0
InsertAnswer = Result Step Gate

abbrev pub PlaceAnswer : Type 0
PlaceAnswer = Result PlacedAll Gate

-- an opening: "Opening zeroes both; that is a fresh table", with the counts of its plan; a refusal leaves all as on entry
unfoldable pub Opens : (n e seed cap : ℕ) (counts words flags : List ℕ) → OpenAnswer → (counts' words' flags' : List ℕ) → Type 0
Opens n e seed cap counts words flags (Err g) counts' words' flags' =
    (open_gate n e cap (length words) (length flags) ≡ Err g) × (counts' ≡ counts) × (words' ≡ words) × (flags' ≡ flags)
Opens n e seed cap counts words flags (Ok t) counts' words' flags' =
    (open_gate n e cap (length words) (length flags) ≡ Ok tt) × IsPlan n e t.plan counts' × (words' ≡ replicate n 0) × (flags' ≡ replicate n 0)
    × (t ≡ record { n = n; e = e; seed = seed; word_cap = cap; count = 0; plan = t.plan })

-- a search
abbrev pub search_by : Gated → Search → SearchAnswer
search_by (Err g) found = Err g
search_by (Ok _) found = Ok found

unfoldable pub search_answer_of : FunnelTable → (counts words flags : List ℕ) (identity : ℕ) → SearchAnswer
search_answer_of table counts words flags identity =
    search_by (table_gate table counts (length words) (length flags)) (find_of table counts words flags identity)

-- an insertion, with both buffers after it
pub record Insertions : Type 0 where
  pub answer : InsertAnswer
  pub words : List ℕ
  pub flags : List ℕ

abbrev pub insertions : InsertAnswer → (words flags : List ℕ) → Insertions
insertions answer words flags = record { answer = answer; words = words; flags = flags }

abbrev pub insert_gated : Gated → (words flags : List ℕ) → Done → Insertions
insert_gated (Err g) words flags d = insertions (Err g) words flags
insert_gated (Ok _) words flags d = insertions (Ok (record { answer = d.answer; table = d.table })) d.words d.flags

unfoldable pub insert_answer_of : FunnelTable → (counts words flags : List ℕ) (identity : ℕ) → Insertions
insert_answer_of table counts words flags identity =
    insert_gated (table_gate table counts (length words) (length flags)) words flags (insert_of table counts words flags identity)

-- a placement, with the three buffers after it
pub record Placements : Type 0 where
  pub answer : PlaceAnswer
  pub words : List ℕ
  pub flags : List ℕ
  pub slots : List ℕ

abbrev pub placements : PlaceAnswer → (words flags slots : List ℕ) → Placements
placements answer words flags slots = record { answer = answer; words = words; flags = flags; slots = slots }

abbrev pub place_gated : Gated → (words flags slots : List ℕ) → Placed → Placements
place_gated (Err g) words flags slots d = placements (Err g) words flags slots
place_gated (Ok _) words flags slots d = placements (Ok (record { answer = d.answer; table = d.table })) d.words d.flags d.slots

unfoldable pub place_answer_of : FunnelTable → (counts words flags identities slots : List ℕ) → Placements
place_answer_of table counts words flags identities slots =
    place_gated (place_gate table counts (length words) (length flags) (length identities) (length slots)) words flags slots
    (place_all_of table counts words flags identities slots)

-- ---- what they report: this paper's number, 0 where there is none, and the values

-- a place by its numbers: 0 level, bucket, slot in bucket; 1 primary slot; 2 fallback bucket, slot in bucket; then the global slot
abbrev pub place_values : Place → List ℕ
place_values (place.Ordinary level bucket i slot) = 0 ∷ level ∷ bucket ∷ i ∷ slot.0 ∷ []
place_values (place.SpecialPrimary s slot) = 1 ∷ s ∷ slot.0 ∷ []
place_values (place.SpecialFallback bucket i slot) = 2 ∷ bucket ∷ i ∷ slot.0 ∷ []

abbrev pub search_report : Search → Report
search_report (search.Hit probes place) = answered (probes ∷ 1 ∷ place_values place)
search_report (search.Vacant probes place) = answered (probes ∷ 0 ∷ place_values place)
search_report (search.Full probes) = refused name.Full (probes ∷ [])
search_report (search.Range refusal) = refused name.Range (refusal.words ∷ [])

abbrev pub insertion_report : Insertion → Report
insertion_report (Ok put) = answered (put.probes ∷ place_values put.place)
insertion_report (Err (insertion.Range refusal)) = refused name.Range (refusal.words ∷ [])
insertion_report (Err (insertion.Duplicate probes place)) = refused name.Duplicate (probes ∷ place_values place)
insertion_report (Err (insertion.Exhausted probes)) = refused name.Exhausted (probes ∷ [])
insertion_report (Err (insertion.Full probes)) = refused name.Full (probes ∷ [])

abbrev pub placement_report : Placement → Report
placement_report (Ok _) = answered []
placement_report (Err (placement.Range index refusal)) = refused name.Range (index ∷ refusal.words ∷ [])
placement_report (Err (placement.Exhausted index probes)) = refused name.Exhausted (index ∷ probes ∷ [])
placement_report (Err (placement.Full index probes)) = refused name.Full (index ∷ probes ∷ [])

abbrev pub open_report : OpenAnswer → Report
open_report (Err g) = refused (name_of g) []
open_report (Ok t) = answered []

abbrev pub searched_report : SearchAnswer → Report
searched_report (Err g) = refused (name_of g) []
searched_report (Ok found) = search_report found

abbrev pub inserted_report : InsertAnswer → Report
inserted_report (Err g) = refused (name_of g) []
inserted_report (Ok step) = insertion_report step.answer

abbrev pub placed_report : PlaceAnswer → Report
placed_report (Err g) = refused (name_of g) []
placed_report (Ok all) = placement_report all.answer
