-- Laws of the answer block. Assumes nothing.
use Rattle.std.specs.Prelude.{List, [], ◌∷◌, ◌≡◌, ℕ, length, replicate}
use Rattle.std.proofs.Math.Path.{sym}
use Rattle.std.proofs.Common.{◌∙◌, eq-eqb, ne_eqb}
use Rattle.std.proofs.lemmas.List.Edits.{sets}
use Rattle.words.specs.Bytes.{bytes_of}
use Rattle.funnel.specs.Calls.{search_report, insertion_report, placement_report}
use Rattle.funnel.specs.declared.table.Search.{Search}
use Rattle.funnel.specs.Insert.{Insertion, Placement}
use Rattle.gridder_answer.specs.Answer.{answer_length, Field, stored, says, search_fields, insertion_fields, placement_fields, reply, saying}

pub reply_is : (m n : ℕ) (a b : List ℕ) → m ≡ n → a ≡ b → reply m a ≡ reply n b
reply_is m n a b e f = rw (e, f)

-- a block of zeros says nothing
pub says_none : (n : ℕ) → n ≡ answer_length → replicate n 0 ≡ says []
unfolding says stored
says_none n e = rw e

-- a block is written where it has its length, else it stays
module _ (before : List ℕ) (fields : List Field) where
  pub saying_stays : (length before ≡ answer_length → ⊥) → before ≡ saying before fields
  unfolding saying
  saying_stays n = sym (rw (ne_eqb _ _ n))

  pub saying_says : length before ≡ answer_length → says fields ≡ saying before fields
  unfolding saying
  saying_says e = sym (rw (eq-eqb _ _ e))

-- a refusal of the gate, in a block that has its length
pub gate_says : (m n : ℕ) (before a : List ℕ) → length before ≡ answer_length → reply m a ≡ reply n (saying before []) → reply m a ≡ reply n (says [])
gate_says m n before a long e = e ∙ rw (sym (saying_says before [] long))

-- ---- a block that is written, number by number

-- a number, and then the others
module _ (a b : List ℕ) (f : Field) where
  pub stored_first : (d : List ℕ) (fields : List Field) → b ≡ sets a f.at (bytes_of 8 f.value) → d ≡ stored b fields → d ≡ stored a (f ∷ fields)
  unfolding stored
  stored_first d fields e g = g ∙ rw e

  -- the last number
  pub stored_last : b ≡ sets a f.at (bytes_of 8 f.value) → b ≡ stored a (f ∷ [])
  unfolding stored
  stored_last e = e

-- a block that was zeroed, and then written
module _ (n : ℕ) (zeros d : List ℕ) (fields : List Field) where
  pub said : n ≡ answer_length → zeros ≡ replicate n 0 → d ≡ stored zeros fields → d ≡ says fields
  unfolding says
  said long cleared g = g ∙ rw (cleared, long)

-- ---- what a search, an insertion and a placement say, by their answer

module _ (found : Search) (n : ℕ) (a : List ℕ) where
  pub search_says : (x : Search) → found ≡ x → n ≡ (search_report x).number → a ≡ says (search_fields x) → reply n a ≡ reply (search_report found).number (says (search_fields found))
  search_says x e p q = rw (e, p, q)

module _ (done : Insertion) (n : ℕ) (a : List ℕ) where
  pub insertion_says : (x : Insertion) → done ≡ x → n ≡ (insertion_report x).number → a ≡ says (insertion_fields x)
      → reply n a ≡ reply (insertion_report done).number (says (insertion_fields done))
  insertion_says x e p q = rw (e, p, q)

module _ (done : Placement) (total n : ℕ) (a : List ℕ) where
  pub placement_says : (x : Placement) → done ≡ x → n ≡ (placement_report x).number → a ≡ says (placement_fields x total)
      → reply n a ≡ reply (placement_report done).number (says (placement_fields done total))
  placement_says x e p q = rw (e, p, q)
