-- The image of a funnel table: fields of a one-byte tag, a two-byte length and a body, all little-endian. Assumes nothing.
use Rattle.std.specs.Prelude.{Bool, true, false, List, [], ◌∷◌, ◌++◌, ℕ, zero, suc, length, get_or, take, drop, eqb}
use Rattle.words.specs.Bytes.{bytes_of}
use Rattle.words.specs.Pick.{pick}
use Rattle.words.specs.Quotient.{ceil_div}
use Rattle.image.specs.declared.field.Kind.{Kind}
use Rattle.image.specs.declared.head.Head.{Head}

-- "entries of slot and identity (16 bytes each .. 4,095 a field ..)"
abbrev pub entry_size : ℕ
entry_size = 16

abbrev pub field_entries : ℕ
field_entries = 4095

-- the body of a full field of entries
abbrev pub field_bytes : ℕ
field_bytes = 65520

-- "label (optional, 1 to 64 bytes)"
abbrev pub label_most : ℕ
label_most = 64

-- ---- the fields of an image

-- a kind of field: its tag, whether it must stand, how long its body may be (from `least` to `most`, a multiple of `unit`), and whether another may stand
-- behind a full one
abbrev pub kind : ℕ → Bool → ℕ → ℕ → ℕ → Bool → Kind
kind tag must least most unit again = record { tag = tag; must = must; least = least; most = most; unit = unit; again = again }

-- a number, which must stand
abbrev pub numbered : ℕ → ℕ → Kind
numbered tag size = kind tag true size size 1 false

-- "1 n (8 bytes), 2 e (4), 3 seed (8), 4 label (optional, 1 to 64 bytes), 5 entries of slot and identity (16 bytes each ..), 6 count (8). Fields stand in tag
-- order": the kinds in that order
unfoldable pub fields : List Kind
fields =
    numbered 1 8
    ∷ numbered 2 4
    ∷ numbered 3 8
    ∷ kind 4 false 1 label_most 1 false
    ∷ kind 5 false entry_size field_bytes entry_size true
    ∷ numbered 6 8
    ∷ []

-- what stands past the last kind: no field starts so
abbrev pub none : Kind
none = numbered 0 0

-- ---- what they say

-- an occupied slot with its identity
pub record Entry : Type 0 where
  pub slot : ℕ
  pub identity : ℕ

abbrev pub entry : ℕ → ℕ → Entry
entry s x = record { slot = s; identity = x }

-- the entries of k slots from slot s on, "slots rising"; "flag 0 is vacant, any other occupied"
unfoldable pub entries_from : List ℕ → List ℕ → ℕ → ℕ → List Entry
entries_from words flags s zero = []
entries_from words flags s (suc k) =
    pick (eqb (get_or flags s 0) 0) (entries_from words flags (suc s) k) (entry s (get_or words s 0) ∷ entries_from words flags (suc s) k)

-- the entries of a table
unfoldable pub entries_of : List ℕ → List ℕ → List Entry
entries_of words flags = entries_from words flags 0 (length flags)

-- "one-byte tag, two-byte length, body"
unfoldable pub field_of : ℕ → List ℕ → List ℕ
field_of tag body = tag ∷ (bytes_of 2 (length body) ++ body)

-- "an empty label writes none"
unfoldable pub label_field : List ℕ → List ℕ
label_field [] = []
label_field (b ∷ label) = field_of 4 (b ∷ label)

-- slot and identity, 8 bytes each
abbrev pub entry_bytes : ℕ → ℕ → List ℕ
entry_bytes slot identity = bytes_of 8 slot ++ bytes_of 8 identity

-- the body of a field of entries
unfoldable pub body_of : List Entry → List ℕ
body_of [] = []
body_of (x ∷ es) = entry_bytes x.slot x.identity ++ body_of es

-- the entries in k fields, each but the last full
unfoldable pub entry_fields : ℕ → List Entry → List ℕ
entry_fields zero es = []
entry_fields (suc k) es = field_of 5 (body_of (take field_entries es)) ++ entry_fields k (drop field_entries es)

-- how many fields so many entries need: "only the last field shorter, none if empty"
unfoldable pub fields_for : ℕ → ℕ
fields_for count = ceil_div count field_entries

-- "Fields stand in tag order; .. 6 holds the number of entries"
unfoldable pub image_of : Head → List ℕ → List Entry → List ℕ
image_of h label es =
    field_of 1 (bytes_of 8 h.n)
    ++ (field_of 2 (bytes_of 4 h.e)
    ++ (field_of 3 (bytes_of 8 h.seed)
    ++ (label_field label
    ++ (entry_fields (fields_for (length es)) es
    ++ field_of 6 (bytes_of 8 (length es))))))
