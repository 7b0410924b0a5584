-- Laws of what the calls on elastic tables say. Assumes nothing.
use Rattle.std.specs.Prelude.{List, [], ◌∷◌, ◌++◌, ◌≡◌, refl, ℕ, length, replicate, Ok, Err}
use Rattle.std.proofs.Common.{ap, ◌∙◌}
use Rattle.std.proofs.Math.Path.{sym}
use Rattle.std.proofs.lemmas.List.{length-replicate}
use Rattle.std.proofs.lemmas.List.Edits.{sets}
use Rattle.words.specs.Bytes.{bytes_of}
use Rattle.elastic_steps.specs.Insert.{InsertAnswer, refusal_report, insert_report}
use Rattle.elastic_query.specs.Query.{QueryAnswer, query_report}
use Rattle.elastic_steps.specs.declared.answer.Case.{Case}
use Rattle.elastic_steps.specs.declared.answer.Case.TheVariants.{Batch0, Case1, Case2, Case3}
use Rattle.elastic_steps.specs.declared.answer.Insertion.{Insertion}
use Rattle.elastic_steps.specs.declared.answer.InsertRefusal.{InsertRefusal}
use Rattle.elastic_query.specs.declared.query.Finding.{Finding}
use Rattle.gridder_answer.specs.Answer.{answer_length, Field, field, stored, says, reply}
use Rattle.gridder_elastic_answer.specs.Say.{fields_at, refused_at, insert_fields, query_fields, case_fields, five_fields, inserted_fields}

pub stored_append : (b : List ℕ) (xs ys : List Field) → stored b (xs ++ ys) ≡ stored (stored b xs) ys
unfolding stored
stored_append b [] ys = refl
stored_append b (x ∷ xs) ys = stored_append (sets b x.at (bytes_of 8 x.value)) xs ys

-- ---- no number, one, and five stored one after the other

pub stored_none : (b : List ℕ) → b ≡ stored b []
unfolding stored
stored_none b = refl

pub stored_one : (b a : List ℕ) (at x : ℕ) → a ≡ sets b at (bytes_of 8 x) → a ≡ stored b (field at x ∷ [])
unfolding stored
stored_one b a at x e = e

module _ (b : List ℕ) (o p q s t : ℕ) (u v w x y : ℕ) where
  pub stored_five : (b1 b2 b3 b4 b5 : List ℕ) → b1 ≡ sets b o (bytes_of 8 u) → b2 ≡ sets b1 p (bytes_of 8 v) → b3 ≡ sets b2 q (bytes_of 8 w) → b4 ≡ sets b3 s (bytes_of 8 x)
      → b5 ≡ sets b4 t (bytes_of 8 y) → b5 ≡ stored b (field o u ∷ field p v ∷ field q w ∷ field s x ∷ field t y ∷ [])
  unfolding stored
  stored_five b1 b2 b3 b4 b5 e1 e2 e3 e4 e5 = e5 ∙ rw (e4, e3, e2, e1)

-- ---- an insertion

module _ (b after : List ℕ) (c : Case) where
  pub case_first : (level : ℕ) → c ≡ Batch0 level → after ≡ stored b (five_fields 0 0 0 0 0) → after ≡ stored b (case_fields c)
  unfolding case_fields fields_at
  case_first level h e = e ∙ sym (rw h)

  pub case_one : (batch current next free free_next budget : ℕ) → c ≡ Case1 batch current next free free_next budget → after ≡ stored b (five_fields 1 batch free free_next budget)
      → after ≡ stored b (case_fields c)
  unfolding case_fields fields_at
  case_one batch current next free free_next budget h e = e ∙ sym (rw h)

  pub case_two : (batch current next free free_next : ℕ) → c ≡ Case2 batch current next free free_next → after ≡ stored b (five_fields 2 batch free free_next 0) → after ≡ stored b (case_fields c)
  unfolding case_fields fields_at
  case_two batch current next free free_next h e = e ∙ sym (rw h)

  pub case_three : (batch current next free free_next : ℕ) → c ≡ Case3 batch current next free free_next → after ≡ stored b (five_fields 3 batch free free_next 0) → after ≡ stored b (case_fields c)
  unfolding case_fields fields_at
  case_three batch current next free free_next h e = e ∙ sym (rw h)

pub inserted_stored : (b cased after : List ℕ) (i : Insertion) → cased ≡ stored b (case_fields i.case)
    → after
    ≡ stored cased
    (field 16 i.location.level ∷ field 32 i.location.slot_in_level.0 ∷ field 40 i.location.global_slot.0 ∷ field 0 i.paper_probe.0 ∷ field 72 i.phi ∷ [])
    → after ≡ stored b (inserted_fields i)
unfolding inserted_fields
inserted_stored b cased after i e f = f ∙ rw e (sym (stored_append b (case_fields i.case) _))

-- the parts are the values of the base's report
inserted_fields_lem : (i : Insertion) → inserted_fields i ≡ insert_fields (Ok i)
unfolding inserted_fields insert_fields insert_report case_fields fields_at
inserted_fields_lem i = go i.case refl
  where
    go : (c : Case) → i.case ≡ c → inserted_fields i ≡ insert_fields (Ok i)
    go (Batch0 level) h = rw h
    go (Case1 batch current next free free_next budget) h = rw h
    go (Case2 batch current next free free_next) h = rw h
    go (Case3 batch current next free free_next) h = rw h

module _ (said : InsertAnswer) (n : ℕ) (zeros a : List ℕ) (length_is : n ≡ answer_length) (cleared : zeros ≡ replicate n 0) where
  pub insert_says : (i : Insertion) → said ≡ Ok i → a ≡ stored zeros (inserted_fields i) → reply 0 a ≡ reply (insert_report said).number (says (insert_fields said))
  unfolding insert_report says
  insert_says i h e =
      let b : a ≡ stored (replicate answer_length 0) (insert_fields (Ok i)) = e ∙ rw (cleared, length_is, inserted_fields_lem i) in
      rw (h, b)

  pub insert_refuses : (r : InsertRefusal) (number : ℕ) → said ≡ Err r
      → reply number a ≡ reply (refusal_report r).number (says (fields_at (refused_at r) (refusal_report r).values)) → reply number a ≡ reply (insert_report said).number (says (insert_fields said))
  unfolding insert_report insert_fields
  insert_refuses r number h e = e ∙ sym (rw h)

pub zeros_are : (n : ℕ) (zeros : List ℕ) → n ≡ answer_length → zeros ≡ replicate n 0 → zeros ≡ replicate 128 0
zeros_are n zeros e z = z ∙ rw e

pub zeros_long : (b : List ℕ) → b ≡ replicate 128 0 → length b ≡ 128
zeros_long b z = ap length z ∙ length-replicate {A = ℕ} 128 0

-- a refusal, by its kind
module _ (f : InsertRefusal) (n : ℕ) (zeros : List ℕ) (cleared : zeros ≡ replicate 128 0) where
  -- one that carries nothing
  pub refusal_bare : (x : InsertRefusal) → f ≡ x → n ≡ (refusal_report x).number → fields_at (refused_at x) (refusal_report x).values ≡ []
      → reply n zeros ≡ reply (refusal_report f).number (says (fields_at (refused_at f) (refusal_report f).values))
  unfolding says stored
  refusal_bare x h p e = rw (h, e, p, cleared)

  -- one that carries a number
  pub refusal_one : (x : InsertRefusal) (at v : ℕ) (a : List ℕ) → f ≡ x → n ≡ (refusal_report x).number → fields_at (refused_at x) (refusal_report x).values ≡ field at v ∷ []
      → a ≡ sets zeros at (bytes_of 8 v) → reply n a ≡ reply (refusal_report f).number (says (fields_at (refused_at f) (refusal_report f).values))
  unfolding says stored
  refusal_one x at v a h p e s = rw (h, e, p, s, cleared)

-- ---- a query

module _ (said : QueryAnswer) (n : ℕ) (zeros a : List ℕ) (length_is : n ≡ answer_length) (cleared : zeros ≡ replicate n 0) where
  pub query_says : (x : QueryAnswer) (fields : List Field) (number : ℕ) → said ≡ x → number ≡ (query_report x).number → query_fields x ≡ fields → a ≡ stored zeros fields
      → reply number a ≡ reply (query_report said).number (says (query_fields said))
  unfolding says
  query_says x fields number h p e s = rw (h, e, p, s, cleared, length_is)

-- what each answer of a query says
pub query_found : (q : Finding)
    → query_fields (Ok q) ≡ field 72 q.position ∷ field 40 q.global_slot.0 ∷ field 80 q.mapped ∷ field 88 q.gap ∷ field 48 q.words ∷ []
unfolding query_fields query_report fields_at
query_found q = refl
