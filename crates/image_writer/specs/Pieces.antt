-- What the parts of the writer put into the output. Assumes nothing.
use Rattle.std.specs.Prelude.{◌≡◌, List, ℕ, ◌+◌, ◌*◌, ◌-◌, ◌≤◌, min, length, take, drop, eqb}
use Rattle.std.proofs.lemmas.List.Edits.{sets}
use Rattle.words.specs.Pick.{pick}
use Rattle.image.specs.Format.{Entry, entry_size, field_entries, entries_from, body_of, entry_fields, fields_for}

-- the entries from slot s to the end
abbrev pub entries_to : List ℕ → List ℕ → ℕ → List Entry
entries_to words flags s = entries_from words flags s (length flags - s)

-- a part that stands at an offset, and the offset after it
pub record Put (part before : List ℕ) (at : ℕ) (after : List ℕ) (next : ℕ) : Type 0 where
  pub bytes : after ≡ sets before at part
  pub next_is : next ≡ at + length part

-- the next m entries from slot s on stand at an offset, and `next` is the slot to go on from
pub record PutEntries (words flags : List ℕ) (s m : ℕ) (before : List ℕ) (at : ℕ) (after : List ℕ) (next : ℕ) : Type 0 where
  pub bytes : after ≡ sets before at (body_of (take m (entries_to words flags s)))
  pub rest : entries_to words flags next ≡ drop m (entries_to words flags s)
  pub within : next ≤ length flags

-- all entries in their fields, and the offset after them
pub record PutFields (words flags : List ℕ) (count : ℕ) (before : List ℕ) (at : ℕ) (after : List ℕ) (next : ℕ) : Type 0 where
  pub bytes : after ≡ sets before at (entry_fields (fields_for count) (entries_to words flags 0))
  pub next_is : next ≡ at + entry_size * count + 3 * fields_for count

-- as many of k entries as a field takes
abbrev pub chunk : ℕ → ℕ
chunk k = min field_entries k

-- the length of an image with a label of l bytes and c entries
unfoldable pub size_of : ℕ → ℕ → ℕ
size_of l c = 40 + pick (eqb l 0) 0 (3 + l) + entry_size * c + 3 * fields_for c
