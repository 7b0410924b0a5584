-- An image that is read as right is the image of what was read. Assumes nothing.
use Rattle.std.specs.Prelude.{◌≡◌, refl, Bool, true, false, get_or, take, eqb, ltb, leb}
use Rattle.std.proofs.Common.{ap, sym, ◌∙◌, length-append, length-drop, drop_of_length-le, take-append-drop, drop-cons, drop-drop, take_at, drop_at, length-take-le, take_all, eqb-true}
use mathlib.Core.List.{List, [], ◌∷◌, ◌++◌, append_assoc, append-nil}
use Prim.Native.Nat.{ℕ, zero, suc, ◌+◌, ◌*◌, ◌-◌, ◌/◌, ◌<◌, ◌≤◌}
use native.Mathlib.Omega.{arith}
use Rattle.std.proofs.Math.ListN.{length, drop}
use Rattle.std.proofs.lemmas.Bool.{eqb-false}
use Rattle.words.specs.Pick.{pick}
use Rattle.words.specs.Bytes.{bytes_of, num_at, Bytes}
use Rattle.words.specs.BytesLaws.{bytes_num, length_bytes}
use Rattle.image.specs.Format.{entry_size, field_entries, field_bytes, fields, Entry, body_of, field_of, label_field, entry_fields, fields_for, image_of}
use Rattle.image.specs.Head.{headed, unnamed}
use Rattle.image.specs.Reading.{rank_of, may_come, right_tag, kind_at, right_length, low_behind, low_after, entries_at, rising, floor_after, Seen, seen, told_head, told, right_content, good, read_from, read_of}
use Rattle.image.specs.CursorLaws.{floor_append, length_entries}
use Rattle.image.specs.FrameLaws.{Framing}
use Rattle.image.specs.KindLaws.{len_1, len_2, len_3, len_4, len_5, len_6}
use Rattle.image.specs.ReadingLaws.{Step, last, more, step_of, not_good}
use Rattle.image.specs.TestLaws.{cases, not_both}
use Rattle.image.specs.declared.head.Head.{Head}
use Rattle.image_writer.specs.EntryFieldLaws.{length_body}

-- ---- bytes of a field

module _ (b : List ℕ) (B : Bytes b) where
  num_drop : (k at : ℕ) → at + k ≤ length b → drop at b ≡ bytes_of k (num_at b at k) ++ drop (at + k) b
  num_drop k at h = rw (bytes_num b B k at h, ← drop-drop k at b) (sym (take-append-drop k (drop at b)))

  entries_drop : (k p : ℕ) → p + entry_size * k ≤ length b → drop p b ≡ body_of (entries_at b p k) ++ drop (p + entry_size * k) b
  unfolding entries_at body_of
  entries_drop zero p h = let e : p + entry_size * 0 ≡ p = omega arith in rw e
  entries_drop (suc k) p h =
      let e : p + 8 + 8 ≡ p + 16 = omega arith in
      let d : p + entry_size * suc k ≡ p + 16 + entry_size * k = omega arith in
      let i : drop (p + entry_size) b ≡ body_of (entries_at b (p + entry_size) k) ++ drop (p + 16 + entry_size * k) b = entries_drop k (p + entry_size) (omega arith) in
      let u : drop (p + 8) b ≡ bytes_of 8 (num_at b (p + 8) 8) ++ (body_of (entries_at b (p + entry_size) k) ++ drop (p + 16 + entry_size * k) b) = num_drop 8 (p + 8) (omega arith) ∙ rw (e, i) in
      num_drop 8 p (omega arith) ∙ rw (u, d) (simp append_assoc)

  module _ {low at tag len : ℕ} (f : Framing fields b low at tag len) where
    head_drop : drop at b ≡ tag ∷ (bytes_of 2 len ++ drop (at + 3) b)
    head_drop =
        let w = f.within in
        let l : at < length b = omega arith in
        let a : suc at ≡ at + 1 = omega arith in
        let c : at + 1 + 2 ≡ at + 3 = omega arith in
        drop-cons b at 0 l ∙ rw (f.tag_is, a, num_drop 2 (at + 1) (omega arith), f.len_is, c)

    -- a field whose body is known
    field_drop : (body : List ℕ) → length body ≡ len → drop (at + 3) b ≡ body ++ drop (at + 3 + len) b → drop at b ≡ field_of tag body ++ drop (at + 3 + len) b
    unfolding field_of
    field_drop body l d = head_drop ∙ rw (d, l) (ap (λ (t : List ℕ). tag ∷ t) (sym (append_assoc (bytes_of 2 len) body _)))

-- ---- tags that are right

-- where a field must stand, only its tag is right
must_1 : (tag : ℕ) → right_tag fields 0 tag ≡ true → tag ≡ 1
unfolding right_tag may_come fields
must_1 tag h = cases (eqb 1 tag) (λ e. sym (eqb-true _ _ e)) (λ e. not_both (sym (rw e at h)))

must_2 : (tag : ℕ) → right_tag fields 1 tag ≡ true → tag ≡ 2
unfolding right_tag may_come fields
must_2 tag h = cases (eqb 2 tag) (λ e. sym (eqb-true _ _ e)) (λ e. not_both (sym (rw e at h)))

must_3 : (tag : ℕ) → right_tag fields 2 tag ≡ true → tag ≡ 3
unfolding right_tag may_come fields
must_3 tag h = cases (eqb 3 tag) (λ e. sym (eqb-true _ _ e)) (λ e. not_both (sym (rw e at h)))

tag_6 : (tag : ℕ) → right_tag fields 5 tag ≡ true → tag ≡ 6
unfolding right_tag may_come fields
tag_6 tag h = cases (eqb 6 tag) (λ e. sym (eqb-true _ _ e)) (λ e. not_both (sym (rw e at h)))

tag_5 : (tag : ℕ) → right_tag fields 4 tag ≡ true → (tag ≡ 6 → ⊥) → tag ≡ 5
unfolding right_tag may_come fields
tag_5 tag h n = cases (eqb 5 tag) (λ e. sym (eqb-true _ _ e)) (λ e. absurd (n (tag_6 tag (rw e at h))))

tag_45 : (tag : ℕ) → right_tag fields 3 tag ≡ true → (tag ≡ 4 → ⊥) → (tag ≡ 6 → ⊥) → tag ≡ 5
unfolding right_tag may_come fields
tag_45 tag h m n = cases (eqb 4 tag) (λ e. absurd (m (sym (eqb-true _ _ e)))) (λ e. tag_5 tag (rw e at h) n)

-- ---- cutting entries into fields

cut_full : (a c : List Entry) → length a ≡ field_entries → entry_fields (fields_for (length (a ++ c))) (a ++ c) ≡ field_of 5 (body_of a) ++ entry_fields (fields_for (length c)) c
unfolding entry_fields fields_for
cut_full a c l =
    let k : (length (a ++ c) + (field_entries - 1)) / field_entries ≡ suc ((length c + (field_entries - 1)) / field_entries) = rw (length-append a c, l) (omega arith) in
    rw (k, take_at a c field_entries l, drop_at a c field_entries l)

cut_short : (a : List Entry) → 0 < length a → length a ≤ field_entries → entry_fields (fields_for (length a)) a ≡ field_of 5 (body_of a)
unfolding entry_fields fields_for
cut_short a h l =
    let k : (length a + (field_entries - 1)) / field_entries ≡ suc 0 = omega arith in
    rw (k, take_all field_entries a l, append-nil)

pub rising_append : (n f : ℕ) (a c : List Entry) → rising n f a ≡ true → rising n (floor_after f a) c ≡ true → rising n f (a ++ c) ≡ true
unfolding rising floor_after
rising_append n f [] c p q = q
rising_append n f (x ∷ a) c p q = go (leb f x.slot) (ltb x.slot n) p (λ r. rising_append n (x.slot + 1) a c r q)
  where
    go : (u v : Bool) → pick u (pick v (rising n (x.slot + 1) a) false) false ≡ true → (rising n (x.slot + 1) a ≡ true → rising n (x.slot + 1) (a ++ c) ≡ true)
        → pick u (pick v (rising n (x.slot + 1) (a ++ c)) false) false ≡ true
    go true true p i = i p
    go true false p i = let z : ◌≡◌ {A = ℕ} 0 1 = cc in absurd (omega arith)
    go false v p i = let z : ◌≡◌ {A = ℕ} 0 1 = cc in absurd (omega arith)

-- ---- field 6

unfoldable pub plus : Seen → List Entry → Seen
plus s es = seen s.head s.label_at s.label_len (s.entries ++ es)

pub plus_none : (s : Seen) → plus s [] ≡ s
unfolding plus
plus_none s = rw append-nil

count_drop : (b : List ℕ) → Bytes b → (s : Seen) (low at len : ℕ) → Framing fields b low at 6 len → right_content b s 6 (at + 3) len ≡ true → length b ≤ at + 3 + len
    → drop at b ≡ field_of 6 (bytes_of 8 (length s.entries))
unfolding right_content
count_drop b B s low at len r c z =
    let l : len ≡ 8 = len_6 6 len r.ok_len refl in
    let w = r.within in
    let n : num_at b (at + 3) 8 ≡ length s.entries = eqb-true _ _ c in
    let d : drop (at + 3) b ≡ bytes_of 8 (length s.entries) ++ drop (at + 3 + len) b = num_drop b B 8 (at + 3) (omega arith) ∙ rw (n, l) in
    let t : drop (at + 3 + len) b ≡ [] = drop_of_length-le b z in
    field_drop b B r (bytes_of 8 (length s.entries)) (length_bytes 8 (length s.entries) ∙ sym l) d ∙ rw (t, append-nil)

-- what is left of an image after its label
record Tail (b : List ℕ) (s : Seen) (at : ℕ) (g : Seen) : Type 0 where
  es : List Entry
  all : g ≡ plus s es
  bytes : drop at b ≡ entry_fields (fields_for (length es)) es ++ field_of 6 (bytes_of 8 (length (s.entries ++ es)))
  rise : rising s.head.n (floor_after 0 s.entries) es ≡ true

tail_last : (b : List ℕ) → Bytes b → (s g : Seen) (low at len : ℕ) → Framing fields b low at 6 len → right_content b s 6 (at + 3) len ≡ true → length b ≤ at + 3 + len → g ≡ s → Tail b s at g
unfolding entry_fields fields_for rising
tail_last b B s g low at len r c z e = record { es = []; all = e ∙ sym (plus_none s); bytes = count_drop b B s low at len r c z ∙ rw append-nil; rise = refl }

-- after a short field 5 comes field 6
tail_6 : (b : List ℕ) → Bytes b → (f : ℕ) (s g : Seen) (at : ℕ) → read_from b f s 5 at ≡ good g → (g ≡ s) × (drop at b ≡ field_of 6 (bytes_of 8 (length s.entries)))
unfolding read_from
tail_6 b B zero s g at h = not_good at g h
tail_6 b B (suc f) s g at h = go (step_of b f s 5 at g h)
  where
    go : Step b f s 5 at g → (g ≡ s) × (drop at b ≡ field_of 6 (bytes_of 8 (length s.entries)))
    go (last len r c z e) = (e, count_drop b B s 5 at len r c z)
    go (more tag len r c n h) = absurd (n (tag_6 tag r.ok_tag))

-- ---- fields 5

module _ (b : List ℕ) (B : Bytes b) (f : ℕ) (s g : Seen) (low at len : ℕ) (r : Framing fields b low at 5 len)
    (c : rising s.head.n (floor_after 0 s.entries) (entries_at b (at + 3) (len / entry_size)) ≡ true) where
  fresh_drop : drop at b ≡ field_of 5 (body_of (entries_at b (at + 3) (len / entry_size))) ++ drop (at + 3 + len) b
  fresh_drop =
      let q = len_5 5 len r.ok_len refl in
      let w = r.within in
      let l : length (body_of (entries_at b (at + 3) (len / entry_size))) ≡ len = length_body _ ∙ rw length_entries (sym q.0) in
      let e : at + 3 + entry_size * (len / entry_size) ≡ at + 3 + len = rw (← q.0) in
      field_drop b B r _ l (entries_drop b B (len / entry_size) (at + 3) (omega arith) ∙ rw e)

  -- a full field, and what comes after it
  tail_full : len ≡ field_bytes → Tail b (plus s (entries_at b (at + 3) (len / entry_size))) (at + 3 + len) g → Tail b s at g
  unfolding plus
  tail_full l t =
      let new : List Entry = entries_at b (at + 3) (len / entry_size) in
      let k : length new ≡ field_entries = length_entries b (at + 3) (len / entry_size) ∙ (let m : len / entry_size ≡ field_entries = omega arith in m) in
      record {
        es = new ++ t.es;
        all = t.all ∙ rw append_assoc;
        bytes = fresh_drop ∙ rw (t.bytes, cut_full new t.es k) (rw append_assoc (simp append_assoc));
        rise = rising_append s.head.n (floor_after 0 s.entries) new t.es c (rw floor_append at t.rise);
      }

  -- a short one, and field 6
  tail_short : (len ≡ field_bytes → ⊥) → g ≡ plus s (entries_at b (at + 3) (len / entry_size)) → drop (at + 3 + len) b ≡ field_of 6 (bytes_of 8 (length (s.entries ++ entries_at b (at + 3) (len / entry_size)))) → Tail b s at g
  tail_short l e d =
      let q = len_5 5 len r.ok_len refl in
      let new : List Entry = entries_at b (at + 3) (len / entry_size) in
      let k : length new ≡ len / entry_size = length_entries b (at + 3) (len / entry_size) in
      record {
        es = new;
        all = e;
        bytes = fresh_drop ∙ rw (d, cut_short new (omega arith) (omega arith));
        rise = c;
      }

tail_step : (b : List ℕ) → Bytes b → (f : ℕ) (s g : Seen) (low at : ℕ) → Step b f s low at g
    → ((tag : ℕ) → right_tag fields low tag ≡ true → get_or b at 0 ≡ tag → (tag ≡ 6 → ⊥) → tag ≡ 5)
    → ((t : Seen) (p : ℕ) → read_from b f t 4 p ≡ good g → Tail b t p g) → Tail b s at g
unfolding told told_head low_after low_behind right_content plus rank_of kind_at fields
tail_step b B f s g low at (last len r c z e) five ih = tail_last b B s g low at len r c z e
tail_step b B f s g low at (more tag len r c n h) five ih =
    let t : tag ≡ 5 = five tag r.ok_tag r.tag_is n in
    let r5 : Framing fields b low at 5 len = rw t at r in
    let c5 : right_content b s 5 (at + 3) len ≡ true = rw t at c in
    let h5 : read_from b f (told b s 5 (at + 3) len) (low_after fields 5 len) (at + 3 + len) ≡ good g = rw t at h in
    cases (eqb len field_bytes)
    (λ e. tail_full b B f s g low at len r5 c5 (eqb-true _ _ e) (ih (plus s (entries_at b (at + 3) (len / entry_size))) (at + 3 + len) (rw e at h5)))
    (λ e. let q = tail_6 b B f (plus s (entries_at b (at + 3) (len / entry_size))) g (at + 3 + len) (rw e at h5) in tail_short b B f s g low at len r5 c5 (eqb-false _ _ e) q.0 q.1)

tail_5 : (b : List ℕ) → Bytes b → (f : ℕ) (s g : Seen) (at : ℕ) → read_from b f s 4 at ≡ good g → Tail b s at g
unfolding read_from
tail_5 b B zero s g at h = not_good at g h
tail_5 b B (suc f) s g at h = tail_step b B f s g 4 at (step_of b f s 4 at g h) (λ tag t e n. tag_5 tag t n) (λ t p k. tail_5 b B f t g p k)

-- ---- the label

pub label_field_lem : (l : List ℕ) → 0 < length l → label_field l ≡ field_of 4 l
unfolding label_field
label_field_lem [] h = absurd (omega arith)
label_field_lem (x ∷ l) h = refl

-- what is left of an image after field 3
record Rest (b : List ℕ) (s : Seen) (at : ℕ) (g : Seen) : Type 0 where
  named : g.head ≡ s.head
  bytes : drop at b ≡ label_field (take g.label_len (drop g.label_at b)) ++ (entry_fields (fields_for (length g.entries)) g.entries ++ field_of 6 (bytes_of 8 (length g.entries)))
  rise : rising s.head.n 0 g.entries ≡ true
  short : g.label_len ≤ 64

rest : (b : List ℕ) → Bytes b → (f : ℕ) (hd : Head) (g : Seen) (at : ℕ) → read_from b f (seen hd 0 0 []) 3 at ≡ good g → Rest b (seen hd 0 0 []) at g
unfolding read_from plus label_field floor_after told told_head low_after low_behind rank_of kind_at fields
rest b B zero hd g at h = not_good at g h
rest b B (suc f) hd g at h = go (step_of b f (seen hd 0 0 []) 3 at g h)
  where
    plain : Tail b (seen hd 0 0 []) at g → Rest b (seen hd 0 0 []) at g
    plain t = rw t.all (record { named = refl; bytes = t.bytes; rise = t.rise; short = omega arith })

    label : (len : ℕ) → Framing fields b 3 at 4 len → Tail b (seen hd (at + 3) len []) (at + 3 + len) g → Rest b (seen hd 0 0 []) at g
    label len r t =
        let q = len_4 4 len r.ok_len refl in
        let w = r.within in
        let l : length (take len (drop (at + 3) b)) ≡ len = length-take-le len (drop (at + 3) b) (rw length-drop (omega arith)) in
        let k : drop (at + 3) b ≡ take len (drop (at + 3) b) ++ drop (at + 3 + len) b = rw (← drop-drop len (at + 3) b) (sym (take-append-drop len (drop (at + 3) b))) in
        rw t.all
        (record {
          named = refl;
          bytes = field_drop b B r (take len (drop (at + 3) b)) l k ∙ rw (t.bytes, label_field_lem (take len (drop (at + 3) b)) (omega arith));
          rise = t.rise;
          short = q.1;
        })

    go : Step b f (seen hd 0 0 []) 3 at g → Rest b (seen hd 0 0 []) at g
    go (last len r c z q) = plain (tail_last b B (seen hd 0 0 []) g 3 at len r c z q)
    go (more tag len r c m k) =
        cases (eqb tag 4)
        (λ x. let t : tag ≡ 4 = eqb-true _ _ x in label len (rw t at r) (tail_5 b B f (seen hd (at + 3) len []) g (at + 3 + len) (rw t at k)))
        (λ x. let u : tag ≡ 4 → ⊥ = eqb-false _ _ x in
        plain (tail_step b B f (seen hd 0 0 []) g 3 at (more tag len r c m k) (λ t y z v. tag_45 t y (λ p. u (sym r.tag_is ∙ z ∙ p)) v) (λ t p i. tail_5 b B f t g p i)))

-- ---- numbers

record On (b : List ℕ) (s : Seen) (low at tag k : ℕ) (g : Seen) : Type 0 where
  fuel : ℕ
  next : read_from b fuel s low (at + 3 + k) ≡ good g
  within : at + 3 + k ≤ length b
  bytes : drop at b ≡ field_of tag (bytes_of k (num_at b (at + 3) k)) ++ drop (at + 3 + k) b

stage : (b : List ℕ) → Bytes b → (low tag k : ℕ) → (tag ≡ 6 → ⊥) → ((t : ℕ) → right_tag fields low t ≡ true → t ≡ tag) → ((len : ℕ) → right_length fields tag len ≡ true → len ≡ k)
    → (f : ℕ) (s g : Seen) (at : ℕ) → read_from b f s low at ≡ good g → On b (told b s tag (at + 3) k) (low_after fields tag k) at tag k g
unfolding read_from
stage b B low tag k six one size zero s g at h = not_good at g h
stage b B low tag k six one size (suc f) s g at h = go (step_of b f s low at g h)
  where
    go : Step b f s low at g → On b (told b s tag (at + 3) k) (low_after fields tag k) at tag k g
    go (last len r c z e) = absurd (six (sym (one 6 r.ok_tag)))
    go (more t len r c n h) =
        let p : t ≡ tag = one t r.ok_tag in
        let r1 : Framing fields b low at tag len = rw p at r in
        let q : len ≡ k = size len r1.ok_len in
        let r2 : Framing fields b low at tag k = rw q at r1 in
        let h2 : read_from b f (told b s tag (at + 3) k) (low_after fields tag k) (at + 3 + k) ≡ good g = rw (p, q) at h in
        record { fuel = f; next = h2; within = r2.within; bytes = field_drop b B r2 (bytes_of k (num_at b (at + 3) k)) (length_bytes k _) (num_drop b B k (at + 3) r2.within) }

-- ---- the whole image

-- an image that is read as right is the image of what was read, and its slots rise below n
pub record Image (b : List ℕ) (g : Seen) : Type 0 where
  pub bytes : b ≡ image_of g.head (take g.label_len (drop g.label_at b)) g.entries
  pub rise : rising g.head.n 0 g.entries ≡ true
  pub short : g.label_len ≤ 64

pub write_after_read : (b : List ℕ) → Bytes b → (g : Seen) → read_of b ≡ good g → Image b g
unfolding read_of told told_head low_after low_behind image_of rank_of kind_at fields
write_after_read b B g h =
    let a = stage b B 0 1 8 (λ e. absurd (omega arith)) must_1 (λ len l. len_1 1 len l refl) (suc (length b)) (seen unnamed 0 0 []) g 0 h in
    let c = stage b B 1 2 4 (λ e. absurd (omega arith)) must_2 (λ len l. len_2 2 len l refl) a.fuel (seen (headed (num_at b 3 8) 0 0) 0 0 []) g 11 a.next in
    let d = stage b B 2 3 8 (λ e. absurd (omega arith)) must_3 (λ len l. len_3 3 len l refl) c.fuel (seen (headed (num_at b 3 8) (num_at b 14 4) 0) 0 0 []) g 18 c.next in
    let r = rest b B d.fuel (headed (num_at b 3 8) (num_at b 14 4) (num_at b 21 8)) g 29 d.next in
    record {
      bytes = a.bytes ∙ rw (r.named, c.bytes, d.bytes, r.bytes);
      rise = rw r.named r.rise;
      short = r.short;
    }
