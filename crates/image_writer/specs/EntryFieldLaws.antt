-- Fields of entries, one after the other. Assumes nothing.
use Rattle.std.specs.Prelude.{◌≡◌, refl, List, [], ◌∷◌, ◌++◌, ℕ, suc, ◌+◌, ◌*◌, ◌-◌, ◌<◌, ◌≤◌, min, length, take, drop, ltb}
use Rattle.std.proofs.Common.{ap, ◌∙◌, append_assoc, arith, length-append, length-take, length-drop, drop_of_length-le, take_all, ltb-true, ltb-false}
use Rattle.std.proofs.Math.Path.{sym}
use Rattle.std.proofs.lemmas.List.Edits.{sets}
use Rattle.std.proofs.Math.Seq.{length-sets}
use Rattle.words.specs.Bytes.{bytes_of}
use Rattle.words.specs.BytesLaws.{sets_append, length_bytes}
use Rattle.image.specs.Format.{entry_size, field_entries, Entry, entry_bytes, body_of, field_of, entry_fields, fields_for}
use Rattle.image.specs.TestLaws.{cases}
use Rattle.image_writer.specs.Pieces.{entries_to, PutEntries, PutFields, chunk}
use Rattle.image_writer.specs.EntryLaws.{length_entry}

pub length_body : (es : List Entry) → length (body_of es) ≡ entry_size * length es
unfolding body_of
length_body [] = refl
length_body (x ∷ es) = length-append (entry_bytes x.slot x.identity) (body_of es) ∙ rw (length_entry, length_body es) (omega arith)

pub take_chunk : (es : List Entry) → take field_entries es ≡ take (chunk (length es)) es
take_chunk es =
    cases (ltb (length es) field_entries)
    (λ t. let l : length es < field_entries = ltb-true _ _ t in let c : length es ≤ field_entries = omega arith in let m : min field_entries (length es) ≡ length es = omega arith in let z : length es ≤ length es = omega arith in take_all field_entries es c ∙ rw (m, take_all (length es) es z))
    (λ f. let l : field_entries ≤ length es = ltb-false _ _ f in let m : min field_entries (length es) ≡ field_entries = omega arith in rw m)

pub drop_chunk : (es : List Entry) → drop field_entries es ≡ drop (chunk (length es)) es
drop_chunk es =
    cases (ltb (length es) field_entries)
    (λ t. let l : length es < field_entries = ltb-true _ _ t in let c : length es ≤ field_entries = omega arith in let m : min field_entries (length es) ≡ length es = omega arith in let z : length es ≤ length es = omega arith in drop_of_length-le es c ∙ rw (m, drop_of_length-le es z))
    (λ f. let l : field_entries ≤ length es = ltb-false _ _ f in let m : min field_entries (length es) ≡ field_entries = omega arith in rw m)

pub fields_suc : (k : ℕ) → 0 < k → fields_for k ≡ suc (fields_for (k - chunk k))
unfolding fields_for
fields_suc k h = omega arith

body_chunk : (es : List Entry) → length (body_of (take (chunk (length es)) es)) ≡ entry_size * chunk (length es)
body_chunk es = length_body (take (chunk (length es)) es) ∙ rw (length-take (chunk (length es)) es) (omega arith)

-- the first field of entries, and the others
pub fields_step : (es : List Entry) → 0 < length es
    → entry_fields (fields_for (length es)) es
    ≡ (5 ∷ bytes_of 2 (entry_size * chunk (length es))) ++ (body_of (take (chunk (length es)) es) ++ entry_fields (fields_for (length es - chunk (length es))) (drop (chunk (length es)) es))
unfolding entry_fields field_of
fields_step es h =
    let l : length (body_of (take (chunk (length es)) es)) ≡ entry_size * chunk (length es) = body_chunk es in
    ap (λ (k : ℕ). entry_fields k es) (fields_suc (length es) h) ∙ rw (take_chunk es, drop_chunk es, l)
    (ap (λ (t : List ℕ). 5 ∷ t) (append_assoc (bytes_of 2 (entry_size * chunk (length es))) (body_of (take (chunk (length es)) es)) (entry_fields (fields_for (length es - chunk (length es))) (drop (chunk (length es)) es))))

put_field : (l head after : List ℕ) (p : ℕ) (es rest : List Entry) → 0 < length es
    → head ≡ sets l p (5 ∷ bytes_of 2 (entry_size * chunk (length es)))
    → after ≡ sets head (p + 3) (body_of (take (chunk (length es)) es))
    → rest ≡ drop (chunk (length es)) es
    → sets l p (entry_fields (fields_for (length es)) es) ≡ sets after (p + 3 + entry_size * chunk (length es)) (entry_fields (fields_for (length es - chunk (length es))) rest)
put_field l head after p es rest h o v r =
    let e : length (5 ∷ bytes_of 2 (entry_size * chunk (length es))) ≡ 3 = ap suc (length_bytes 2 (entry_size * chunk (length es))) in
    ap (λ (t : List ℕ). sets l p t) (fields_step es h)
    ∙ sets_append l p (5 ∷ bytes_of 2 (entry_size * chunk (length es))) _
    ∙ rw (e, ← o) (sets_append head (p + 3) (body_of (take (chunk (length es)) es)) _ ∙ rw (body_chunk es, ← v, ← r))

-- fields still to be written
pub record Fields (words flags : List ℕ) (count : ℕ) (before : List ℕ) (at : ℕ) (now : List ℕ) (s k p : ℕ) : Type 0 where
  pub bytes : sets before at (entry_fields (fields_for count) (entries_to words flags 0)) ≡ sets now p (entry_fields (fields_for k) (entries_to words flags s))
  pub all : k ≡ length (entries_to words flags s)
  pub size : length now ≡ length before
  pub ends : p + entry_size * k + 3 * fields_for k ≡ at + entry_size * count + 3 * fields_for count
  pub room : p + entry_size * k + 3 * fields_for k ≤ length before
  pub within : s ≤ length flags

pub fields_none : (words flags : List ℕ) (count : ℕ) (before : List ℕ) (at : ℕ) → count ≡ length (entries_to words flags 0) → at + entry_size * count + 3 * fields_for count ≤ length before
    → Fields words flags count before at before 0 count at
fields_none words flags count before at h r = record { bytes = refl; all = h; size = refl; ends = refl; room = r; within = omega arith }

module _ {words flags : List ℕ} {count : ℕ} {before : List ℕ} {at : ℕ} {now : List ℕ} {s k p : ℕ} (w : Fields words flags count before at now s k p) where
  module _ (h : 0 < k) where
    pub fields_room : p + 3 + entry_size * chunk k ≤ length now
    fields_room = let f = fields_suc k h in let r = w.room in let z = w.size in omega arith

    pub fields_more : (head : List ℕ) → head ≡ sets now p (5 ∷ bytes_of 2 (entry_size * chunk k)) → (after : List ℕ) (next : ℕ) → PutEntries words flags s (chunk k) head (p + 3) after next
        → Fields words flags count before at after next (k - chunk k) (p + 3 + entry_size * chunk k)
    fields_more head o after next v =
        let f = fields_suc k h in
        let e = w.ends in
        let r = w.room in
        let a = w.all in
        let g : 0 < length (entries_to words flags s) = omega arith in
        let q : sets now p (entry_fields (fields_for k) (entries_to words flags s)) ≡ sets after (p + 3 + entry_size * chunk k) (entry_fields (fields_for (k - chunk k)) (entries_to words flags next)) =
        rw a (put_field now head after p (entries_to words flags s) (entries_to words flags next) g (rw a at o) (rw a at v.bytes) (rw a at v.rest)) in
        record {
          bytes = w.bytes ∙ q;
          all = rw (v.rest, length-drop) (omega arith);
          size = rw v.bytes (simp length-sets (rw o (simp length-sets w.size)));
          ends = omega arith;
          room = omega arith;
          within = v.within;
        }

  pub fields_end : k ≡ 0 → PutFields words flags count before at now p
  unfolding entry_fields fields_for
  fields_end e = record { bytes = sym (w.bytes ∙ rw e); next_is = (let d = w.ends in omega arith) }

pub head_then : (l : List ℕ) (p tag : ℕ) (body : List ℕ) → sets l p (field_of tag body) ≡ sets (sets l p (tag ∷ bytes_of 2 (length body))) (p + 3) body
unfolding field_of
head_then l p tag body =
    let e : length (tag ∷ bytes_of 2 (length body)) ≡ 3 = ap suc (length_bytes 2 (length body)) in
    sets_append l p (tag ∷ bytes_of 2 (length body)) body ∙ rw e

-- a field of a number of k bytes
pub number_then : (l : List ℕ) (p tag k x : ℕ) → sets l p (field_of tag (bytes_of k x)) ≡ sets (sets l p (tag ∷ bytes_of 2 k)) (p + 3) (bytes_of k x)
number_then l p tag k x = head_then l p tag (bytes_of k x) ∙ rw (length_bytes k x)
