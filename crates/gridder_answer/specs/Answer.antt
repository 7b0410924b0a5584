-- The answer block: 128 bytes, a little-endian word of eight bytes for each number that a call answers, zeros elsewhere. Assumes nothing.
use Rattle.std.specs.Prelude.{Ok, Err, List, [], ◌∷◌, ℕ, eqb, length, replicate}
use Rattle.std.proofs.lemmas.List.Edits.{sets}
use Rattle.words.specs.Bytes.{bytes_of}
use Rattle.words.specs.Pick.{pick}
use Rattle.words.specs.declared.place.Place.{Place}
use Rattle.words.specs.declared.place.Place.TheVariants as place
use Rattle.funnel.specs.declared.table.Search.{Search}
use Rattle.funnel.specs.declared.table.Search.TheVariants as search
use Rattle.funnel.specs.declared.table.InsertRefusal.TheVariants as insertion
use Rattle.funnel.specs.declared.table.PlaceRefusal.TheVariants as placement
use Rattle.funnel.specs.Insert.{Insertion, Placement}

-- "a lent 128-byte block"
abbrev pub answer_length : ℕ
answer_length = 128

-- a number and its offset
pub record Field : Type 0 where
  pub at : ℕ
  pub value : ℕ

abbrev pub field : ℕ → ℕ → Field
field at value = record { at = at; value = value }

-- a block with some numbers stored, one after the other
unfoldable pub stored : List ℕ → List Field → List ℕ
stored b [] = b
stored b (f ∷ fields) = stored (sets b f.at (bytes_of 8 f.value)) fields

-- "zeros where there are none": a block that holds some numbers and no more
unfoldable pub says : List Field → List ℕ
says fields = stored (replicate answer_length 0) fields

-- ---- the offsets

abbrev pub probes_at : ℕ
probes_at = 0

-- 1 ordinary, 2 primary, 3 fallback
abbrev pub kind_at : ℕ
kind_at = 8

abbrev pub level_at : ℕ
level_at = 16

abbrev pub bucket_at : ℕ
bucket_at = 24

-- the slot in its bucket, or among the primary ones
abbrev pub within_at : ℕ
within_at = 32

-- the global slot
abbrev pub slot_at : ℕ
slot_at = 40

abbrev pub words_at : ℕ
words_at = 48

-- 1 where a search met the identity
abbrev pub found_at : ℕ
found_at = 56

-- how many identities were placed
abbrev pub placed_at : ℕ
placed_at = 64

-- ---- what the calls say

unfoldable pub place_fields : Place → List Field
place_fields (place.Ordinary level bucket i slot) =
    field kind_at 1 ∷ field level_at level ∷ field bucket_at bucket ∷ field within_at i ∷ field slot_at slot.0 ∷ []
place_fields (place.SpecialPrimary s slot) = field kind_at 2 ∷ field within_at s ∷ field slot_at slot.0 ∷ []
place_fields (place.SpecialFallback bucket i slot) = field kind_at 3 ∷ field bucket_at bucket ∷ field within_at i ∷ field slot_at slot.0 ∷ []

abbrev pub search_fields : Search → List Field
search_fields (search.Hit probes place) = field probes_at probes ∷ field found_at 1 ∷ place_fields place
search_fields (search.Vacant probes place) = field probes_at probes ∷ place_fields place
search_fields (search.Full probes) = field probes_at probes ∷ []
search_fields (search.Range refusal) = field words_at refusal.words ∷ []

abbrev pub insertion_fields : Insertion → List Field
insertion_fields (Ok put) = field probes_at put.probes ∷ place_fields put.place
insertion_fields (Err (insertion.Range refusal)) = field words_at refusal.words ∷ []
insertion_fields (Err (insertion.Duplicate probes place)) = field probes_at probes ∷ place_fields place
insertion_fields (Err (insertion.Exhausted probes)) = field probes_at probes ∷ []
insertion_fields (Err (insertion.Full probes)) = field probes_at probes ∷ []

-- how many of so many identities have their slot, and what the first refusal carries
abbrev pub placement_fields : Placement → ℕ → List Field
placement_fields (Ok _) total = field placed_at total ∷ []
placement_fields (Err (placement.Range index refusal)) total = field placed_at index ∷ field words_at refusal.words ∷ []
placement_fields (Err (placement.Exhausted index probes)) total = field placed_at index ∷ field probes_at probes ∷ []
placement_fields (Err (placement.Full index probes)) total = field placed_at index ∷ field probes_at probes ∷ []

-- what a call answers: the number of its refusal, 0 where there is none, and the answer block
pub record Reply : Type 0 where
  pub number : ℕ
  pub answer : List ℕ

abbrev pub reply : ℕ → List ℕ → Reply
reply number answer = record { number = number; answer = answer }

-- "at any refusal where the answer block itself has another length, the answer block stays as it was"
unfoldable pub saying : List ℕ → List Field → List ℕ
saying before fields = pick (eqb (length before) answer_length) (says fields) before
