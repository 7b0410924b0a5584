-- What it is that an order of insertions leaves an image, and that an image is made. Assumes nothing.
use Rattle.std.specs.Prelude.{Ok, List, [], ◌∷◌, ◌⊎◌, ◌≡◌, ℕ, ◌≤◌, get_or, eqb}
use Rattle.words.specs.Pick.{pick}
use Rattle.words.specs.declared.place.Place.{Place}
use Rattle.funnel.specs.declared.table.FunnelTable.{FunnelTable}
use Rattle.funnel.specs.Fresh.{State, fresh, occupied}
use Rattle.funnel.specs.Path.{slot_of}
use Rattle.funnel.specs.Insert.{reached, done, insert_of}

-- An image is the words and the flags of a table of n slots. "Flag 0 is vacant, any other occupied".
abbrev pub Occupied : (flags : List ℕ) → ℕ → Type 0
Occupied flags slot = get_or flags slot 0 ≡ 0 → ⊥

-- no slot is dirty: flags are 0 and 1, and vacant words are 0
pub record Clean (words flags : List ℕ) : Type 0 where
  pub bits : (slot : ℕ) → get_or flags slot 0 ≤ 1
  pub vacant_words : (slot : ℕ) → get_or flags slot 0 ≡ 0 → get_or words slot 0 ≡ 0

-- the number of occupied slots
abbrev pub members : (flags : List ℕ) → ℕ
members flags = occupied flags

-- Identities inserted one after the other, each answered as inserted, at these slots: from a table with its words and flags to another.
pub data Inserts (counts : List ℕ) : FunnelTable → (words flags identities slots : List ℕ) → FunnelTable → (words' flags' : List ℕ) → Type 0 where
  none : {table : FunnelTable} {words flags : List ℕ} → Inserts counts table words flags [] [] table words flags
  one : {table table' table'' : FunnelTable} {words flags words' flags' words'' flags'' identities slots : List ℕ} {identity slot : ℕ} (probes : ℕ) (place : Place)
      → insert_of table counts words flags identity ≡ done (Ok (reached probes place)) table' words' flags' → slot_of place ≡ slot
      → Inserts counts table' words' flags' identities slots table'' words'' flags''
      → Inserts counts table words flags (identity ∷ identities) (slot ∷ slots) table'' words'' flags''

-- the fresh table of a table's configuration, seed and plan
abbrev pub fresh_of : FunnelTable → State
fresh_of table = fresh table.n table.e table.seed table.word_cap table.plan

-- Inserted into the fresh table, each answered as inserted at its slot, the identities end in the image slot for slot, words and flags.
pub record LeavesAt (table : FunnelTable) (counts identities slots words flags : List ℕ) : Type 0 where
  pub after : FunnelTable
  pub inserts : Inserts counts (fresh_of table).table (fresh_of table).words (fresh_of table).flags identities slots after words flags

-- An order of identities leaves an image: wherever they were answered to be.
abbrev pub Leaves : FunnelTable → (counts identities words flags : List ℕ) → Type 0
Leaves table counts identities words flags = (slots : List ℕ) × LeavesAt table counts identities slots words flags

-- Some order leaves the image.
abbrev pub Made : FunnelTable → (counts words flags : List ℕ) → Type 0
Made table counts words flags = (identities : List ℕ) × Leaves table counts identities words flags

-- the identities that an image has at some slots
unfoldable pub identities_at : (words slots : List ℕ) → List ℕ
identities_at words [] = []
identities_at words (slot ∷ slots) = get_or words slot 0 ∷ identities_at words slots

-- An image is a part of another: what it holds the other holds in the same slot.
pub record PartOf (words' flags' words flags : List ℕ) : Type 0 where
  pub occupied : (slot : ℕ) → Occupied flags' slot → Occupied flags slot
  pub same : (slot : ℕ) → Occupied flags' slot → get_or words' slot 0 ≡ get_or words slot 0

-- the words of the marked slots of an image, 0 elsewhere: with the marks as flags this is the placed part as an image
unfoldable pub placed_words : (words marks : List ℕ) → List ℕ
placed_words [] marks = []
placed_words (word ∷ words) [] = []
placed_words (word ∷ words) (mark ∷ marks) = pick (eqb mark 0) 0 word ∷ placed_words words marks

-- a path comes to slot b before it comes to slot a
abbrev pub Before : (b a : ℕ) → List Place → Type 0
Before b a [] = ⊥
Before b a (p ∷ places) = (slot_of p ≡ b) ⊎ ((slot_of p ≡ a → ⊥) × Before b a places)
