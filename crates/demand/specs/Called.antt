-- How a caller makes an image: it opens a table and has identities inserted, by the public calls alone. Assumes nothing.
use Rattle.std.specs.Prelude.{Ok, List, [], ◌∷◌, ◌≡◌, ℕ}
use Rattle.words.specs.declared.place.Place.{Place}
use Rattle.funnel.specs.declared.table.FunnelTable.{FunnelTable}
use Rattle.funnel.specs.Calls.{Opens, insertions, insert_answer_of}
use Rattle.funnel.specs.Insert.{reached}

-- Calls of the insertion, one after the other, each answered as inserted: from a table with its words and flags to another.
pub data Calls (counts : List ℕ) : FunnelTable → (words flags identities : List ℕ) → FunnelTable → (words' flags' : List ℕ) → Type 0 where
  no_call : {table : FunnelTable} {words flags : List ℕ} → Calls counts table words flags [] table words flags
  one_call : {table table' table'' : FunnelTable} {words flags words' flags' words'' flags'' identities : List ℕ} {identity : ℕ} (probes : ℕ) (place : Place)
      → insert_answer_of table counts words flags identity ≡ insertions (Ok (record { answer = Ok (reached probes place); table = table' })) words' flags'
      → Calls counts table' words' flags' identities table'' words'' flags''
      → Calls counts table words flags (identity ∷ identities) table'' words'' flags''

-- An opening with a table's n, e, seed and word cap on lent buffers, and after it such calls, leave the image.
pub record Called (table : FunnelTable) (counts words flags lent-counts lent-words lent-flags : List ℕ) : Type 0 where
  pub opened : FunnelTable
  pub opened_words : List ℕ
  pub opened_flags : List ℕ
  pub opens : Opens table.n table.e table.seed table.word_cap lent-counts lent-words lent-flags (Ok opened) counts opened_words opened_flags
  pub identities : List ℕ
  pub after : FunnelTable
  pub calls : Calls counts opened opened_words opened_flags identities after words flags
