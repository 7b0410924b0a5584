-- The reading of an image as numbers alone: what a reader has to carry from field to field. Assumes nothing.
use Rattle.std.specs.Prelude.{Option, Some, None, Result, Ok, Err, List, ℕ, ◌+◌, ◌/◌, length, eqb}
use Rattle.words.specs.Bytes.{num_at}
use Rattle.words.specs.Pick.{pick}
use Rattle.image.specs.Format.{Entry, entry_size, fields}
use Rattle.image.specs.Reading.{low_after, entries_at, rising, floor_after, Seen, told_head, Reading, bad, good}
use Rattle.image.specs.declared.reader.Cursor.{Cursor}
use Rattle.image.specs.declared.head.Head.{Head}
use Rattle.image.specs.declared.reader.Outline.{Outline}

abbrev pub cursor : ℕ → ℕ → Head → ℕ → ℕ → ℕ → ℕ → Cursor
cursor low at h la ll count floor =
    record { low = low; at = at; head = h; label_at = la; label_len = ll; count = count; floor = floor }

-- the numbers of what was seen
abbrev pub cursor_of : Seen → ℕ → ℕ → Cursor
cursor_of s low at = cursor low at s.head s.label_at s.label_len (length s.entries) (floor_after 0 s.entries)

-- what a cursor past the last field says
abbrev pub outline_in : Cursor → Outline
outline_in c = record { head = c.head; label_at = c.label_at; label_len = c.label_len; count = c.count }

-- whether the slots rise from `floor` on, and the next floor
unfoldable pub rise_of : ℕ → ℕ → List Entry → Option ℕ
rise_of n floor es = pick (rising n floor es) (Some (floor_after floor es)) None

unfoldable pub content_of : List ℕ → Cursor → ℕ → ℕ → ℕ → Option ℕ
content_of b c tag at len =
    pick (eqb tag 5) (rise_of c.head.n c.floor (entries_at b at (len / entry_size)))
    (pick (eqb tag 6) (pick (eqb (num_at b at 8) c.count) (Some c.floor) None)
    (Some c.floor))

-- the cursor past a field whose body stands at `at`
unfoldable pub took_of : List ℕ → Cursor → ℕ → ℕ → ℕ → ℕ → Cursor
took_of b c tag at len floor =
    cursor (low_after fields tag len) (at + len) (told_head b c.head tag at)
    (pick (eqb tag 4) at c.label_at)
    (pick (eqb tag 4) len c.label_len)
    (pick (eqb tag 5) (c.count + len / entry_size) c.count)
    (pick (eqb tag 5) floor c.floor)

-- what the loader is told of a reading: all but the entries, of these the number
abbrev pub outline_of : Seen → Outline
outline_of s = record { head = s.head; label_at = s.label_at; label_len = s.label_len; count = length s.entries }

abbrev pub outcome_of : Reading → Result Outline ℕ
outcome_of (bad place) = Err place
outcome_of (good s) = Ok (outline_of s)
