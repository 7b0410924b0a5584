-- The parts of an image, one after the other. Assumes nothing.
use Rattle.std.specs.Prelude.{◌≡◌, refl, false, List, [], ◌∷◌, ◌++◌, ℕ, zero, suc, ◌+◌, ◌*◌, ◌-◌, ◌/◌, ◌%◌, ◌<◌, ◌≤◌, min, length, get_or, take, drop, set, eqb}
use Rattle.std.proofs.Common.{ap, sym, ◌∙◌, arith, length-append, length-take, length-drop, length-set, drop-cons, ne_eqb}
use Rattle.std.proofs.lemmas.List.Edits.{sets}
use Rattle.std.proofs.Math.Seq.{drop-length}
use Rattle.words.specs.Pick.{pick}
use Rattle.words.specs.Bytes.{bytes_of}
use Rattle.words.specs.BytesLaws.{sets_append, length_bytes}
use Rattle.image.specs.Format.{entry_size, field_entries, Entry, entries_of, body_of, field_of, label_field, entry_fields, fields_for, image_of}
use Rattle.image.specs.declared.head.Head.{Head}
use Rattle.image_writer.specs.Pieces.{entries_to, Put, size_of}
use Rattle.image_writer.specs.EntryFieldLaws.{length_body, head_then, number_then}

-- ---- bytes copied

pub record Copying (part before : List ℕ) (at : ℕ) (now : List ℕ) (i : ℕ) : Type 0 where
  pub left : sets before at part ≡ sets now (at + i) (drop i part)
  pub size : length now ≡ length before

pub copying_none : (part before : List ℕ) (at : ℕ) → Copying part before at before 0
copying_none part before at = let e : at + 0 ≡ at = omega arith in record { left = rw e; size = refl }

module _ {part before : List ℕ} {at : ℕ} {now : List ℕ} {i : ℕ} (c : Copying part before at now i) where
  pub copying_more : i < length part → Copying part before at (set now (at + i) (get_or part i 0)) (i + 1)
  copying_more h =
      let e : at + (i + 1) ≡ suc (at + i) = omega arith in
      let f : i + 1 ≡ suc i = omega arith in
      record { left = c.left ∙ rw (drop-cons part i 0 h, e, f); size = simp length-set c.size }

  pub copying_end : i ≡ length part → now ≡ sets before at part
  copying_end e = sym (c.left ∙ rw (e, drop-length))

-- ---- lengths

pub length_field : (tag : ℕ) (body : List ℕ) → length (field_of tag body) ≡ 3 + length body
unfolding field_of
length_field tag body =
    let m : length (bytes_of 2 (length body) ++ body) ≡ 2 + length body = length-append (bytes_of 2 (length body)) body ∙ rw (length_bytes 2 (length body)) in
    let q : suc (2 + length body) ≡ 3 + length body = omega arith in
    ap suc m ∙ q

pub length_label : (label : List ℕ) → length (label_field label) ≡ pick (eqb (length label) 0) 0 (3 + length label)
unfolding label_field
length_label [] = refl
length_label (x ∷ label) = let f : eqb (length (x ∷ label)) 0 ≡ false = (let nz : suc (length label) ≡ 0 → ⊥ = λ z. omega arith in ne_eqb _ _ nz) in length_field 4 (x ∷ label) ∙ rw f

pub length_fields : (k : ℕ) (es : List Entry) → fields_for (length es) ≡ k → length (entry_fields k es) ≡ entry_size * length es + 3 * k
unfolding entry_fields fields_for
length_fields zero es h = omega arith
length_fields (suc k) es h =
    let la : length (take field_entries es) ≡ min field_entries (length es) = length-take field_entries es in
    let lc : length (drop field_entries es) ≡ length es - field_entries = length-drop field_entries es in
    let kc : (length (drop field_entries es) + (field_entries - 1)) / field_entries ≡ k = omega arith in
    let i : length (entry_fields k (drop field_entries es)) ≡ entry_size * length (drop field_entries es) + 3 * k = length_fields k (drop field_entries es) kc in
    let j : length (field_of 5 (body_of (take field_entries es))) ≡ 3 + entry_size * length (take field_entries es) = length_field 5 (body_of (take field_entries es)) ∙ rw length_body in
    length-append (field_of 5 (body_of (take field_entries es))) (entry_fields k (drop field_entries es)) ∙ rw (j, i) (omega arith)

pub length_image : (hd : Head) (label : List ℕ) (es : List Entry) → length (image_of hd label es) ≡ size_of (length label) (length es)
unfolding image_of size_of
length_image hd label es =
    let f = length_fields (fields_for (length es)) es refl in
    let l = length_label label in
    simp (length-append, length_field, length_bytes) (omega arith)

pub entries_whole : (words flags : List ℕ) → entries_to words flags 0 ≡ entries_of words flags
unfolding entries_of
entries_whole words flags = let e : length flags - 0 ≡ length flags = omega arith in rw e

-- ---- the whole image

-- a part that was put, and what was put behind it
put_then : (part rest before now after : List ℕ) (at next : ℕ) → Put part before at now next → after ≡ sets now next rest → after ≡ sets before at (part ++ rest)
put_then part rest before now after at next p e = e ∙ rw (p.bytes, p.next_is) (sym (sets_append before at part rest))

-- the offset behind a number
pub behind_8 : (tag x at : ℕ) (before after : List ℕ) (next : ℕ) → Put (field_of tag (bytes_of 8 x)) before at after next → next ≡ at + 11
behind_8 tag x at before after next p = p.next_is ∙ rw (length_field tag (bytes_of 8 x), length_bytes 8 x)

pub behind_4 : (tag x at : ℕ) (before after : List ℕ) (next : ℕ) → Put (field_of tag (bytes_of 4 x)) before at after next → next ≡ at + 7
behind_4 tag x at before after next p = p.next_is ∙ rw (length_field tag (bytes_of 4 x), length_bytes 4 x)

-- the entries' fields, by their bytes and the offset behind them
fields_put : (es : List Entry) (before after : List ℕ) (at next : ℕ) → after ≡ sets before at (entry_fields (fields_for (length es)) es)
    → next ≡ at + entry_size * length es + 3 * fields_for (length es) → Put (entry_fields (fields_for (length es)) es) before at after next
fields_put es before after at next b n =
    let l = length_fields (fields_for (length es)) es refl in
    record { bytes = b; next_is = n ∙ rw l (omega arith) }

-- six parts, each behind the one before
pub put_image : (hd : Head) (label : List ℕ) (es : List Entry) (b0 b1 b2 b3 b4 b5 b6 : List ℕ) (p1 p2 p3 p q end : ℕ)
    → Put (field_of 1 (bytes_of 8 hd.n)) b0 0 b1 p1 → Put (field_of 2 (bytes_of 4 hd.e)) b1 p1 b2 p2 → Put (field_of 3 (bytes_of 8 hd.seed)) b2 p2 b3 p3
    → Put (label_field label) b3 p3 b4 p → b5 ≡ sets b4 p (entry_fields (fields_for (length es)) es) → q ≡ p + entry_size * length es + 3 * fields_for (length es)
    → Put (field_of 6 (bytes_of 8 (length es))) b5 q b6 end → b6 ≡ sets b0 0 (image_of hd label es)
unfolding image_of
put_image hd label es b0 b1 b2 b3 b4 b5 b6 p1 p2 p3 p q end h1 h2 h3 h4 h5 hq h6 =
    put_then _ _ b0 b1 b6 0 p1 h1
    (put_then _ _ b1 b2 b6 p1 p2 h2
    (put_then _ _ b2 b3 b6 p2 p3 h3
    (put_then _ _ b3 b4 b6 p3 p h4
    (put_then _ _ b4 b5 b6 p q (fields_put es b4 b5 p q h5 hq) h6.bytes))))

-- the lower bytes of a number
pub take_bytes : (k n x : ℕ) → k ≤ n → take k (bytes_of n x) ≡ bytes_of k x
unfolding bytes_of
take_bytes zero n x h = refl
take_bytes (suc k) zero x h = absurd (omega arith)
take_bytes (suc k) (suc n) x h = ap (λ (l : List ℕ). x % 256 ∷ l) (take_bytes k n (x / 256) (omega arith))

-- a field of a number, as it is put
pub put_number : (tag k x : ℕ) (before head after : List ℕ) (at : ℕ) → head ≡ sets before at (tag ∷ bytes_of 2 k) → after ≡ sets head (at + 3) (bytes_of k x)
    → Put (field_of tag (bytes_of k x)) before at after (at + (3 + k))
put_number tag k x before head after at h o =
    record { bytes = o ∙ rw h (sym (number_then before at tag k x)); next_is = rw (length_field tag (bytes_of k x), length_bytes k x) }

pub put_none : (label before : List ℕ) (at : ℕ) → length label ≡ 0 → Put (label_field label) before at before at
unfolding label_field
put_none [] before at h = record { bytes = refl; next_is = omega arith }
put_none (x ∷ label) before at h = absurd (omega arith)

pub put_label : (label before head after : List ℕ) (at : ℕ) → (length label ≡ 0 → ⊥) → head ≡ sets before at (4 ∷ bytes_of 2 (length label)) → after ≡ sets head (at + 3) label
    → Put (label_field label) before at after (at + 3 + length label)
unfolding label_field
put_label [] before head after at n h o = absurd (n refl)
put_label (x ∷ label) before head after at n h o =
    record { bytes = o ∙ rw h (sym (head_then before at 4 (x ∷ label))); next_is = rw length_field (omega arith) }

pub size_parts : (label : List ℕ) (c : ℕ) → (size_of (length label) c ≡ 40 + length (label_field label) + entry_size * c + 3 * fields_for c) × (length label ≤ length (label_field label))
unfolding size_of label_field
size_parts [] c = (omega arith, omega arith)
size_parts (x ∷ label) c =
    let l = length_label (x ∷ label) in
    let f = length_field 4 (x ∷ label) in
    (rw l, omega arith)
