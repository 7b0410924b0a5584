-- What the calls on images say in the answer block. Assumes nothing.
use Rattle.std.specs.Prelude.{Ok, Err, List, [], ◌∷◌, ℕ}
use Rattle.refusal.specs.Table.{number_of}
use Rattle.refusal.specs.declared.Name.TheVariants as name
use Rattle.image_calls.specs.Loading.{LoadAnswer}
use Rattle.image_calls.specs.declared.loader.LoadRefusal.TheVariants as refusal
use Rattle.image_writer.specs.Writing.{Written}
use Rattle.image_writer.specs.declared.writer.WriteRefusal.TheVariants as write_refusal
use Rattle.gridder_answer.specs.Answer.{Field, field, slot_at}

-- ---- the offsets

-- the place of IMAGE
abbrev pub byte_at : ℕ
byte_at = 96

-- "the offset and length of the label's body, two zeros if there is none"
abbrev pub label_at : ℕ
label_at = 104

abbrev pub label_length_at : ℕ
label_length_at = 112

abbrev pub image_length_at : ℕ
image_length_at = 120

-- ---- the loader

abbrev pub filled_fields : LoadAnswer → List Field
filled_fields (Err (refusal.Image place)) = field byte_at place ∷ []
filled_fields (Err refusal.Foreign) = []
filled_fields (Ok f) = field label_at f.label_at ∷ field label_length_at f.label_len ∷ []

abbrev pub filled_number : LoadAnswer → ℕ
filled_number (Err (refusal.Image place)) = number_of name.Image
filled_number (Err refusal.Foreign) = number_of name.Foreign
filled_number (Ok f) = 0

-- ---- the writer: the image's length also where there is too little room for it

abbrev pub written_fields : Written → List Field
written_fields (Err (write_refusal.Gate g)) = []
written_fields (Err (write_refusal.Dirty slot)) = field slot_at slot.0 ∷ []
written_fields (Err (write_refusal.Room need)) = field image_length_at need ∷ []
written_fields (Ok len) = field image_length_at len ∷ []
