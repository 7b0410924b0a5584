-- The definitions at a few images: case N of 01, and a place for each way in which an image can be malformed. Assumes nothing.
use Rattle.std.specs.Prelude.{◌≡◌, refl, List, [], ◌∷◌, ◌++◌, ℕ, length, take, set}
use Rattle.words.specs.Bytes.{bytes_of, num_at}
use Rattle.image.specs.Head.{headed}
use Rattle.image.specs.Format.{fields, entry, field_of, label_field, body_of, entry_fields, fields_for, image_of}
use Rattle.image.specs.Reading.{rank_of, may_come, right_tag, kind_at, fits, right_length, low_behind, low_after, frame_of, entries_at, rising, floor_after, seen, told_head, told, right_content, bad, good, end_of, field_then, read_from, read_of}

-- "N. (144,3), seed 0, identities 7 and 9, no label: 75 image bytes, starting 01 08 00 90."
abbrev case_n : List ℕ
case_n = image_of (headed 144 3 0) [] (entry 0 7 ∷ entry 1 9 ∷ [])

pub case_n_length : length case_n ≡ 75
unfolding image_of field_of bytes_of label_field entry_fields fields_for body_of
case_n_length = refl

pub case_n_start : take 4 case_n ≡ 1 ∷ 8 ∷ 0 ∷ 144 ∷ []
unfolding image_of field_of bytes_of label_field entry_fields fields_for body_of
case_n_start = refl

pub case_n_read : read_of case_n ≡ good (seen (headed 144 3 0) 0 0 (entry 0 7 ∷ entry 1 9 ∷ []))
unfolding image_of field_of bytes_of label_field entry_fields fields_for body_of read_of read_from field_then frame_of rank_of may_come right_tag kind_at fits right_length low_behind low_after told_head told fields right_content end_of entries_at rising floor_after num_at
case_n_read = refl

-- ---- malformed: the place for each cause

-- nothing at all: its length
pub empty : read_of [] ≡ bad 0
unfolding image_of field_of bytes_of label_field entry_fields fields_for body_of read_of read_from field_then frame_of rank_of may_come right_tag kind_at fits right_length low_behind low_after told_head told fields right_content end_of entries_at rising floor_after num_at
empty = refl

-- it ends before field 2: its length
pub ends_before : read_of (take 11 case_n) ≡ bad 11
unfolding image_of field_of bytes_of label_field entry_fields fields_for body_of read_of read_from field_then frame_of rank_of may_come right_tag kind_at fits right_length low_behind low_after told_head told fields right_content end_of entries_at rising floor_after num_at
ends_before = refl

-- it ends inside the length of field 2: its length
pub ends_in_length : read_of (take 13 case_n) ≡ bad 13
unfolding image_of field_of bytes_of label_field entry_fields fields_for body_of read_of read_from field_then frame_of rank_of may_come right_tag kind_at fits right_length low_behind low_after told_head told fields right_content end_of entries_at rising floor_after num_at
ends_in_length = refl

-- it ends inside the body of field 6: its length
pub ends_in_body : read_of (take 74 case_n) ≡ bad 74
unfolding image_of field_of bytes_of label_field entry_fields fields_for body_of read_of read_from field_then frame_of rank_of may_come right_tag kind_at fits right_length low_behind low_after told_head told fields right_content end_of entries_at rising floor_after num_at
ends_in_body = refl

-- another tag in the place of field 2: the field's offset
pub wrong_tag : read_of (set case_n 11 3) ≡ bad 11
unfolding image_of field_of bytes_of label_field entry_fields fields_for body_of read_of read_from field_then frame_of rank_of may_come right_tag kind_at fits right_length low_behind low_after told_head told fields right_content end_of entries_at rising floor_after num_at
wrong_tag = refl

-- a wrong length is told before a missing body
pub wrong_length : read_of (set (take 14 case_n) 12 5) ≡ bad 11
unfolding image_of field_of bytes_of label_field entry_fields fields_for body_of read_of read_from field_then frame_of rank_of may_come right_tag kind_at fits right_length low_behind low_after told_head told fields right_content end_of entries_at rising floor_after num_at
wrong_length = refl

-- field 5 stands at 29; its second slot equals the first: the field's offset, not the entry's
pub same_slot : read_of (set case_n 48 0) ≡ bad 29
unfolding image_of field_of bytes_of label_field entry_fields fields_for body_of read_of read_from field_then frame_of rank_of may_come right_tag kind_at fits right_length low_behind low_after told_head told fields right_content end_of entries_at rising floor_after num_at
same_slot = refl

-- a slot of 144 is not below n
pub slot_at_n : read_of (set case_n 48 144) ≡ bad 29
unfolding image_of field_of bytes_of label_field entry_fields fields_for body_of read_of read_from field_then frame_of rank_of may_come right_tag kind_at fits right_length low_behind low_after told_head told fields right_content end_of entries_at rising floor_after num_at
slot_at_n = refl

-- another count than that of the entries
pub wrong_count : read_of (set case_n 67 3) ≡ bad 64
unfolding image_of field_of bytes_of label_field entry_fields fields_for body_of read_of read_from field_then frame_of rank_of may_come right_tag kind_at fits right_length low_behind low_after told_head told fields right_content end_of entries_at rising floor_after num_at
wrong_count = refl

-- a byte after field 6: that byte
pub byte_after : read_of (case_n ++ (0 ∷ [])) ≡ bad 75
unfolding image_of field_of bytes_of label_field entry_fields fields_for body_of read_of read_from field_then frame_of rank_of may_come right_tag kind_at fits right_length low_behind low_after told_head told fields right_content end_of entries_at rising floor_after num_at
byte_after = refl

-- a label of no bytes
pub empty_label : read_of (take 29 case_n ++ (4 ∷ 0 ∷ 0 ∷ [])) ≡ bad 29
unfolding image_of field_of bytes_of label_field entry_fields fields_for body_of read_of read_from field_then frame_of rank_of may_come right_tag kind_at fits right_length low_behind low_after told_head told fields right_content end_of entries_at rising floor_after num_at
empty_label = refl

-- after a short field 5 another is wrong
pub short_then_five : read_of (take 64 case_n ++ (5 ∷ [])) ≡ bad 64
unfolding image_of field_of bytes_of label_field entry_fields fields_for body_of read_of read_from field_then frame_of rank_of may_come right_tag kind_at fits right_length low_behind low_after told_head told fields right_content end_of entries_at rising floor_after num_at
short_then_five = refl
