-- What an image says, or the place where it is malformed: fields are found by their offset, one after the other. Assumes nothing.
use Rattle.std.specs.Prelude.{Result, Ok, Err, Bool, true, false, not, List, [], ◌∷◌, ◌++◌, ℕ, zero, suc, ◌+◌, ◌/◌, ◌%◌, length, get_or, drop, eqb, ltb, leb}
use Rattle.words.specs.Bytes.{num_at}
use Rattle.words.specs.Pick.{pick}
use Rattle.image.specs.Format.{Entry, entry, entry_size, fields, none}
use Rattle.image.specs.Head.{headed, unnamed}
use Rattle.image.specs.declared.field.Field.{Field}
use Rattle.image.specs.declared.field.Kind.{Kind}
use Rattle.image.specs.declared.head.Head.{Head}

abbrev pub between : ℕ → ℕ → ℕ → Bool
between lo x hi = pick (leb lo x) (leb x hi) false

-- ---- which tags are right, and which lengths, in a format: a list of kinds in their order

-- the rank of a tag is the place of its kind in the format, the number of kinds for a byte that is no tag
unfoldable pub rank_of : List Kind → ℕ → ℕ
rank_of [] tag = 0
rank_of (k ∷ ks) tag = pick (eqb k.tag tag) 0 (suc (rank_of ks tag))

-- whether a field of this tag may come first, before all others of these kinds: up to the first kind that must stand, each may
unfoldable pub may_come : List Kind → ℕ → Bool
may_come [] tag = false
may_come (k ∷ ks) tag = pick (eqb k.tag tag) true (pick k.must false (may_come ks tag))

-- `low` is the lowest rank that may come next
unfoldable pub right_tag : List Kind → ℕ → ℕ → Bool
right_tag ks low tag = may_come (drop low ks) tag

-- the kind of a rank
unfoldable pub kind_at : List Kind → ℕ → Kind
kind_at ks rank = get_or ks rank none

-- whether a kind may have a body of `len` bytes
unfoldable pub fits : Kind → ℕ → Bool
fits k len = pick (eqb (len % k.unit) 0) (between k.least len k.most) false

unfoldable pub right_length : List Kind → ℕ → ℕ → Bool
right_length ks tag len = fits (kind_at ks (rank_of ks tag)) len

-- the lowest rank behind a field of a kind: fields rise, and after a full field 5 another may come: "After a short field 5 only tag 6 is right"
unfoldable pub low_behind : Kind → ℕ → ℕ → ℕ
low_behind k rank len = pick k.again (pick (eqb len k.most) rank (rank + 1)) (rank + 1)

unfoldable pub low_after : List Kind → ℕ → ℕ → ℕ
low_after ks tag len = low_behind (kind_at ks (rank_of ks tag)) (rank_of ks tag) len

-- ---- one field

-- a field whose tag, length and body are right
abbrev pub framed : ℕ → ℕ → Field
framed tag len = record { tag = tag; len = len }

-- that, or the place that is wrong
abbrev pub Framed : Type 0
Framed = Result Field ℕ

abbrev pub wrong_if : Bool → ℕ → Framed → Framed
wrong_if test place otherwise = pick test (Err place) otherwise

-- "Within a field the order is: tag, both length bytes present, length, body present, content": the place is the field's offset
-- for "a wrong tag, length or content", and "the image's length if it ends before or inside a field whose tag is right"
unfoldable pub frame_of : List Kind → List ℕ → ℕ → ℕ → Framed
frame_of ks b low at =
    wrong_if (leb (length b) at) (length b)
    (wrong_if (not (right_tag ks low (get_or b at 0))) at
    (wrong_if (ltb (length b) (at + 3)) (length b)
    (wrong_if (not (right_length ks (get_or b at 0) (num_at b (at + 1) 2))) at
    (wrong_if (ltb (length b) (at + 3 + num_at b (at + 1) 2)) (length b)
    (Ok (framed (get_or b at 0) (num_at b (at + 1) 2)))))))

-- ---- what the fields say

-- k entries at an offset
unfoldable pub entries_at : List ℕ → ℕ → ℕ → List Entry
entries_at b at zero = []
entries_at b at (suc k) = entry (num_at b at 8) (num_at b (at + 8) 8) ∷ entries_at b (at + entry_size) k

-- "slots rising and below n": the slots rise, start no lower than `floor`, and stay below n
unfoldable pub rising : ℕ → ℕ → List Entry → Bool
rising n floor [] = true
rising n floor (x ∷ es) = pick (leb floor x.slot) (pick (ltb x.slot n) (rising n (x.slot + 1) es) false) false

-- one more than the last slot, `floor` if there is none
unfoldable pub floor_after : ℕ → List Entry → ℕ
floor_after floor [] = floor
floor_after floor (x ∷ es) = floor_after (x.slot + 1) es

-- what the fields so far said; the label's place is two zeros if there is none
pub record Seen : Type 0 where
  pub head : Head
  pub label_at : ℕ
  pub label_len : ℕ
  pub entries : List Entry

abbrev pub seen : Head → ℕ → ℕ → List Entry → Seen
seen h la ll es = record { head = h; label_at = la; label_len = ll; entries = es }

-- what names the table, with a body at `at` under a tag
unfoldable pub told_head : List ℕ → Head → ℕ → ℕ → Head
told_head b h tag at =
    pick (eqb tag 1) (headed (num_at b at 8) h.e h.seed)
    (pick (eqb tag 2) (headed h.n (num_at b at 4) h.seed)
    (pick (eqb tag 3) (headed h.n h.e (num_at b at 8))
    h))

-- what the fields say with a body of `len` bytes at `at` under a tag
unfoldable pub told : List ℕ → Seen → ℕ → ℕ → ℕ → Seen
told b s tag at len =
    seen (told_head b s.head tag at)
    (pick (eqb tag 4) at s.label_at)
    (pick (eqb tag 4) len s.label_len)
    (pick (eqb tag 5) (s.entries ++ entries_at b at (len / entry_size)) s.entries)

-- "Only slots and field 6 can have wrong content; .. slots are held against field 1"; "6 holds the number of entries"
unfoldable pub right_content : List ℕ → Seen → ℕ → ℕ → ℕ → Bool
right_content b s tag at len =
    pick (eqb tag 5) (rising s.head.n (floor_after 0 s.entries) (entries_at b at (len / entry_size)))
    (pick (eqb tag 6) (eqb (num_at b at 8) (length s.entries))
    true)

-- ---- the whole image

-- malformed, with the place; or well formed, with what it says
pub data Reading : Type 0 where
  bad : ℕ → Reading
  good : Seen → Reading

-- "the first byte after field 6" is a wrong place
unfoldable pub end_of : List ℕ → Seen → ℕ → Reading
end_of b s at = pick (ltb at (length b)) (bad at) (good s)

-- a field at `at`, with the reading `more` of what comes after it
unfoldable pub field_then : List ℕ → Seen → ℕ → Framed → (Seen → ℕ → ℕ → Reading) → Reading
field_then b s at (Err place) more = bad place
field_then b s at (Ok f) more =
    pick (right_content b s f.tag (at + 3) f.len)
    (pick (eqb f.tag 6) (end_of b s (at + 3 + f.len))
    (more (told b s f.tag (at + 3) f.len) (low_after fields f.tag f.len) (at + 3 + f.len)))
    (bad at)

-- fields from `at` on until field 6, at most f of them
unfoldable pub read_from : List ℕ → ℕ → Seen → ℕ → ℕ → Reading
read_from b zero s low at = bad at
read_from b (suc f) s low at = field_then b s at (frame_of fields b low at) (λ t l a. read_from b f t l a)

-- an image has fewer fields than bytes, so the bound plays no part (`read_fuel`)
unfoldable pub read_of : List ℕ → Reading
read_of b = read_from b (suc (length b)) (seen unnamed 0 0 []) 0 0
