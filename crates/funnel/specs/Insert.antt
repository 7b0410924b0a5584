-- Insertion into a funnel table: the answer, the table and both buffers after it; and the placement of many identities, one after
-- the other. Assumes nothing.
use Rattle.std.specs.Prelude.{List, [], ◌∷◌, ◌≡◌, ℕ, ◌+◌, set, leb, Result, Ok, Err}
use Rattle.words.specs.Pick.{pick}
use Rattle.words.specs.declared.place.Place.{Place}
use Rattle.funnel.specs.declared.table.FunnelTable.{FunnelTable}
use Rattle.funnel.specs.declared.table.Search.{Search}
use Rattle.funnel.specs.declared.table.Search.TheVariants as search
use Rattle.funnel.specs.declared.table.Reached.{Reached}
use Rattle.funnel.specs.declared.table.InsertRefusal.{InsertRefusal}
use Rattle.funnel.specs.declared.table.InsertRefusal.TheVariants as insertion
use Rattle.funnel.specs.declared.table.PlaceRefusal.{PlaceRefusal}
use Rattle.funnel.specs.declared.table.PlaceRefusal.TheVariants as placement
use Rattle.funnel.specs.declared.table.Settled.{Settled}
use Rattle.funnel.specs.declared.table.Settled.TheVariants as settled
use Rattle.funnel.specs.Path.{slot_of}
use Rattle.funnel.specs.Search.{find_of}

-- a place, and how many probes it took to reach it
abbrev pub reached : (probes : ℕ) → Place → Reached
reached probes place = record { probes = probes; place = place }

-- what an insertion is answered: the place where it was put, or why it was not
abbrev pub Insertion : Type 0
Insertion = Result Reached InsertRefusal

-- what placing many identities is answered: that all have their slot, or the first refusal with its index
abbrev pub Placement : Type 0
Placement = Result (Unit {0}) PlaceRefusal

-- what the insertion of one identity is to a placement: its slot, or the refusal that ends it
abbrev pub Settling : Type 0
Settling = Result Settled PlaceRefusal

-- what an insertion leaves
pub record Done : Type 0 where
  pub answer : Insertion
  pub table : FunnelTable
  pub words : List ℕ
  pub flags : List ℕ

abbrev pub done : Insertion → FunnelTable → (words flags : List ℕ) → Done
done answer table words flags = record { answer = answer; table = table; words = words; flags = flags }

-- the table with another count
abbrev pub with_count : FunnelTable → ℕ → FunnelTable
with_count table count =
    record
    { n = table.n; e = table.e; seed = table.seed; word_cap = table.word_cap; count = count; plan = table.plan }

-- the table after an answer: an insertion steps the count
abbrev pub stepped : Insertion → FunnelTable → FunnelTable
stepped (Ok put) table = with_count table (table.count + 1)
stepped (Err refusal) table = table

-- EXHAUSTED: "count at least n minus floor(n/2^e)"; else what the search found
abbrev pub unless_exhausted : FunnelTable → (words flags : List ℕ) (probes : ℕ) → Done → Done
unless_exhausted table words flags probes next =
    pick (leb table.plan.maximum table.count) (done (Err (insertion.Exhausted probes)) table words flags) next

-- "Funnel insert: RANGE as the search meets it, else 15, 16, 20; these three, and 20 from a search, carry the probe count"; "an insertion writes 1"
unfoldable pub insert_by : FunnelTable → (words flags : List ℕ) (identity : ℕ) → Search → Done
insert_by table words flags identity (search.Range refusal) = done (Err (insertion.Range refusal)) table words flags
insert_by table words flags identity (search.Hit probes place) = done (Err (insertion.Duplicate probes place)) table words flags
insert_by table words flags identity (search.Full probes) =
    unless_exhausted table words flags probes (done (Err (insertion.Full probes)) table words flags)
insert_by table words flags identity (search.Vacant probes place) =
    unless_exhausted table words flags probes
    (done (Ok (reached probes place)) (with_count table (table.count + 1)) (set words (slot_of place) identity) (set flags (slot_of place) 1))

unfoldable pub insert_of : FunnelTable → (counts words flags : List ℕ) (identity : ℕ) → Done
insert_of table counts words flags identity = insert_by table words flags identity (find_of table counts words flags identity)

-- the answer of an insertion as a placement tells it, of the identity at an index
abbrev pub settled_of : Insertion → (index : ℕ) → Settling
settled_of (Ok put) index = Ok (settled.Put (slot_of put.place))
settled_of (Err (insertion.Duplicate probes place)) index = Ok (settled.There (slot_of place))
settled_of (Err (insertion.Range refusal)) index = Err (placement.Range index refusal)
settled_of (Err (insertion.Exhausted probes)) index = Err (placement.Exhausted index probes)
settled_of (Err (insertion.Full probes)) index = Err (placement.Full index probes)

-- that an answer and both buffers are what the insertion of the identity at an index comes to
pub record Settles (table : FunnelTable) (counts words flags : List ℕ) (identity index : ℕ) (answer : Settling) (words_after flags_after : List ℕ) : Type 0 where
  pub told : answer ≡ settled_of (insert_of table counts words flags identity).answer index
  pub words_are_lem : words_after ≡ (insert_of table counts words flags identity).words
  pub flags_are_lem : flags_after ≡ (insert_of table counts words flags identity).flags

-- what a placement of many identities leaves: `slots` holds the slot of each, as far as it came
pub record Placed : Type 0 where
  pub answer : Placement
  pub table : FunnelTable
  pub words : List ℕ
  pub flags : List ℕ
  pub slots : List ℕ

abbrev pub placed : Placement → FunnelTable → (words flags slots : List ℕ) → Placed
placed answer table words flags slots = record { answer = answer; table = table; words = words; flags = flags; slots = slots }

-- how a placement goes on after the insertion of the identity at an index: its slot is where it is or was put; `next` is the placement of
-- those after it
abbrev pub place_on : Insertion → Done → (slots : List ℕ) (index : ℕ) → (List ℕ → Placed) → Placed
place_on (Ok put) d slots index next = next (set slots index (slot_of put.place))
place_on (Err (insertion.Duplicate probes place)) d slots index next = next (set slots index (slot_of place))
place_on (Err (insertion.Range refusal)) d slots index next = placed (Err (placement.Range index refusal)) d.table d.words d.flags slots
place_on (Err (insertion.Exhausted probes)) d slots index next = placed (Err (placement.Exhausted index probes)) d.table d.words d.flags slots
place_on (Err (insertion.Full probes)) d slots index next = placed (Err (placement.Full index probes)) d.table d.words d.flags slots

-- the identities of a list from an index on, one after the other, up to the first refusal
unfoldable pub place_from : FunnelTable → (counts words flags identities slots : List ℕ) (index : ℕ) → Placed
place_from table counts words flags [] slots index = placed (Ok tt) table words flags slots
place_from table counts words flags (identity ∷ identities) slots index =
    let d = insert_of table counts words flags identity in
    place_on d.answer d slots index
    (λ written. place_from d.table counts d.words d.flags identities written (index + 1))

abbrev pub place_all_of : FunnelTable → (counts words flags identities slots : List ℕ) → Placed
place_all_of table counts words flags identities slots = place_from table counts words flags identities slots 0
