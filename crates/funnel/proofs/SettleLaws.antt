-- Laws of an insertion as a placement tells it. Assumes nothing.
use Rattle.std.specs.Prelude.{List, ◌≡◌, refl, ℕ, ◌<◌, length, set, Ok, Err}
use Rattle.std.proofs.Common.{ap, ◌∙◌, arith}
use Rattle.words.specs.declared.place.Place.{Place}
use Rattle.funnel.specs.declared.table.FunnelTable.{FunnelTable}
use Rattle.funnel.specs.declared.table.InsertRefusal.TheVariants as insertion
use Rattle.funnel.specs.declared.table.PlaceRefusal.TheVariants as placement
use Rattle.funnel.specs.declared.table.PlaceRefusal.{PlaceRefusal}
use Rattle.funnel.specs.declared.table.Settled.TheVariants as settled
use Rattle.funnel.specs.Path.{slot_of}
use Rattle.funnel.specs.Search.{find_of}
use Rattle.funnel.specs.Stop.{HitAt, VacantAt}
use Rattle.funnel.specs.Insert.{Insertion, Settling, reached, Done, done, with_count, insert_of, settled_of, Settles, Placed, placed, place_on}
use Rattle.funnel.proofs.InsertLaws.{insert_duplicate, insert_inserted, vacant_within, unchanged}
use Rattle.funnel.specs.Valid.{Valid}

-- ---- by an insertion in full

pub settles_by : {table t : FunnelTable} {counts words flags : List ℕ} {identity index : ℕ} {a : Insertion} {w f : List ℕ} {r : Settling}
    → done a t w f ≡ insert_of table counts words flags identity → r ≡ settled_of a index → Settles table counts words flags identity index r w f
settles_by {index = index} e h =
    record {
      told = h ∙ ap (λ (d : Done). settled_of d.answer index) e;
      words_are_lem = ap (λ (d : Done). d.words) e;
      flags_are_lem = ap (λ (d : Done). d.flags) e;
    }

-- ---- by the slot where the search stops

module _ (table : FunnelTable) (count : ℕ) (counts words flags : List ℕ) (identity index : ℕ) where
  pub settles_there : (slot : ℕ) → HitAt slot (find_of table counts words flags identity)
      → Settles (with_count table count) counts words flags identity index (Ok (settled.There slot)) words flags
  settles_there slot h = settles_by (insert_duplicate table count counts words flags identity h.probes h.place h.is) (ap (λ (x : ℕ). Ok (settled.There x)) h.there)

  pub settles_put : count < table.plan.maximum → (slot : ℕ) → VacantAt slot (find_of table counts words flags identity)
      → Settles (with_count table count) counts words flags identity index (Ok (settled.Put slot)) (set words slot identity) (set flags slot 1)
  settles_put l slot h = settles_by (insert_inserted table count counts words flags identity l h.probes h.place slot h.is h.there) (ap (λ (x : ℕ). Ok (settled.Put x)) h.there)

pub vacant_slot : {table : FunnelTable} {counts words flags : List ℕ} → Valid table counts words flags → (identity slot : ℕ) → VacantAt slot (find_of table counts words flags identity)
    → (slot < length words) × (slot < length flags)
vacant_slot v identity slot h = let l = vacant_within v identity h.probes h.place h.is in let s = h.there in (omega arith, omega arith)

-- ---- what each kind tells of the insertion

pub put_inserted : (a : Insertion) (index slot : ℕ) → Ok (settled.Put slot) ≡ settled_of a index → (k : ℕ) × (p : Place) × (a ≡ Ok (reached k p))
put_inserted (Ok put) index slot h = (put.probes, put.place, refl)
put_inserted (Err (insertion.Duplicate k p)) index slot h = let z : ◌≡◌ {A = ℕ} 0 1 = cc in absurd (omega arith)
put_inserted (Err (insertion.Range refusal)) index slot h = let z : ◌≡◌ {A = ℕ} 0 1 = cc in absurd (omega arith)
put_inserted (Err (insertion.Exhausted k)) index slot h = let z : ◌≡◌ {A = ℕ} 0 1 = cc in absurd (omega arith)
put_inserted (Err (insertion.Full k)) index slot h = let z : ◌≡◌ {A = ℕ} 0 1 = cc in absurd (omega arith)

module _ (d : Done) (slots : List ℕ) (index : ℕ) (next : List ℕ → Placed) where
  pub put_on : (a : Insertion) (slot : ℕ) → Ok (settled.Put slot) ≡ settled_of a index → place_on a d slots index next ≡ next (set slots index slot)
  put_on (Ok put) slot h = let e : slot_of put.place ≡ slot = cc in rw e
  put_on (Err (insertion.Duplicate k p)) slot h = let z : ◌≡◌ {A = ℕ} 0 1 = cc in absurd (omega arith)
  put_on (Err (insertion.Range refusal)) slot h = let z : ◌≡◌ {A = ℕ} 0 1 = cc in absurd (omega arith)
  put_on (Err (insertion.Exhausted k)) slot h = let z : ◌≡◌ {A = ℕ} 0 1 = cc in absurd (omega arith)
  put_on (Err (insertion.Full k)) slot h = let z : ◌≡◌ {A = ℕ} 0 1 = cc in absurd (omega arith)

  pub there_on : (a : Insertion) (slot : ℕ) → Ok (settled.There slot) ≡ settled_of a index → place_on a d slots index next ≡ next (set slots index slot)
  there_on (Ok put) slot h = let z : ◌≡◌ {A = ℕ} 0 1 = cc in absurd (omega arith)
  there_on (Err (insertion.Duplicate k p)) slot h = let e : slot_of p ≡ slot = cc in rw e
  there_on (Err (insertion.Range refusal)) slot h = let z : ◌≡◌ {A = ℕ} 0 1 = cc in absurd (omega arith)
  there_on (Err (insertion.Exhausted k)) slot h = let z : ◌≡◌ {A = ℕ} 0 1 = cc in absurd (omega arith)
  there_on (Err (insertion.Full k)) slot h = let z : ◌≡◌ {A = ℕ} 0 1 = cc in absurd (omega arith)

  pub refused_on : (a : Insertion) (q : PlaceRefusal) → Err q ≡ settled_of a index → place_on a d slots index next ≡ placed (Err q) d.table d.words d.flags slots
  refused_on (Ok put) q h = let z : ◌≡◌ {A = ℕ} 0 1 = cc in absurd (omega arith)
  refused_on (Err (insertion.Duplicate k p)) q h = let z : ◌≡◌ {A = ℕ} 0 1 = cc in absurd (omega arith)
  refused_on (Err (insertion.Range refusal)) q h = let e : placement.Range index refusal ≡ q = cc in rw e
  refused_on (Err (insertion.Exhausted k)) q h = let e : placement.Exhausted index k ≡ q = cc in rw e
  refused_on (Err (insertion.Full k)) q h = let e : placement.Full index k ≡ q = cc in rw e

-- an identity that was not put leaves the table as it was
module _ (table : FunnelTable) (counts words flags : List ℕ) (identity index : ℕ) where
  pub there_table : (slot : ℕ) → Ok (settled.There slot) ≡ settled_of (insert_of table counts words flags identity).answer index → (insert_of table counts words flags identity).table ≡ table
  there_table slot h = ap (λ (d : Done). d.table) (unchanged table counts words flags identity (λ k p e. let z : ◌≡◌ {A = ℕ} 0 1 = cc in absurd (omega arith)))

  pub refused_table : (q : PlaceRefusal) → Err q ≡ settled_of (insert_of table counts words flags identity).answer index → (insert_of table counts words flags identity).table ≡ table
  refused_table q h = ap (λ (d : Done). d.table) (unchanged table counts words flags identity (λ k p e. let z : ◌≡◌ {A = ℕ} 0 1 = cc in absurd (omega arith)))
