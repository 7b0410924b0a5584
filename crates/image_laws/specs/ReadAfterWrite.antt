-- The image of a table is read as what was written. Assumes nothing.
use Rattle.std.specs.Prelude.{Ok, ◌≡◌, refl, Bool, true, false, get_or, take, drop, eqb, ltb, leb}
use Rattle.std.proofs.Math.Path.{ap}
use Rattle.std.proofs.Common.{sym, ◌∙◌, mod-eq_of_lt, length-take, length-drop, take-append-drop, drop-drop, drop_at, take_at, get_or-drop}
use mathlib.Core.List.{List, [], ◌∷◌, ◌++◌, append_assoc, append-nil}
use Prim.Native.Nat.{ℕ, zero, suc, ◌+◌, ◌*◌, ◌-◌, ◌/◌, ◌%◌, ◌^◌, ◌<◌, ◌≤◌, min}
use native.Mathlib.Omega.{arith}
use Rattle.std.proofs.Math.ListN.{length, length-append}
use borrow.Author.Tests.{le-ltb, eq-eqb, eqb-false}
use Rattle.words.specs.Pick.{pick}
use Rattle.words.specs.Bytes.{bytes_of, num_at}
use Rattle.words.specs.BytesLaws.{num_bytes, length_bytes}
use Rattle.image.specs.Format.{entry_size, field_entries, field_bytes, kind, fields, Entry, body_of, field_of, label_field, entry_fields, fields_for, image_of}
use Rattle.image.specs.Head.{headed, unnamed}
use Rattle.image.specs.KindLaws.{fits_is}
use Rattle.image.specs.Reading.{framed, rank_of, may_come, right_tag, kind_at, fits, right_length, low_behind, low_after, frame_of, entries_at, rising, floor_after, Seen, seen, told_head, told, right_content, good, end_of, field_then, read_from, read_of}
use Rattle.image.specs.FrameLaws.{frame_field}
use Rattle.image.specs.CursorLaws.{floor_append}
use Rattle.image.specs.TestLaws.{cases}
use Rattle.image_writer.specs.EntryFieldLaws.{length_body}
use Rattle.image_writer.specs.ImageLaws.{length_field}
use Rattle.image_laws.specs.WriteAfterRead.{plus, plus_none}
use Rattle.image.specs.declared.head.Head.{Head}

-- ---- what stands at an offset

num_shift : (b : List ℕ) (at k j : ℕ) → num_at (drop at b) j k ≡ num_at b (at + j) k
unfolding num_at
num_shift b at zero j = refl
num_shift b at (suc k) j =
    let e : at + suc j ≡ suc (at + j) = omega arith in
    let i : num_at (drop at b) (suc j) k ≡ num_at b (suc (at + j)) k = num_shift b at k (suc j) ∙ rw e in
    rw (get_or-drop at b j 0, i)

num_is : (b : List ℕ) (at k x : ℕ) (r : List ℕ) → drop at b ≡ bytes_of k x ++ r → x < 256 ^ k → num_at b at k ≡ x
num_is b at k x r d h =
    let e : at + 0 ≡ at = omega arith in
    let i : num_at (drop at b) 0 k ≡ num_at b at k = num_shift b at k 0 ∙ rw e in
    sym i ∙ rw d (num_bytes [] k x r ∙ mod-eq_of_lt h)

drop_past : (b : List ℕ) (at n : ℕ) (p q : List ℕ) → length p ≡ n → drop at b ≡ p ++ q → drop (at + n) b ≡ q
drop_past b at n p q l d = rw (← drop-drop n at b, d, drop_at p q n l)

past_within : (b : List ℕ) (at n : ℕ) (p q : List ℕ) → length p ≡ n → 0 < n → drop at b ≡ p ++ q → at + n ≤ length b
past_within b at n p q l h d =
    let e : length b - at ≡ length p + length q = sym (length-drop at b) ∙ ap length d ∙ length-append p q in
    omega arith

-- ---- a field

module _ (b : List ℕ) (at tag : ℕ) (body r : List ℕ) (d : drop at b ≡ field_of tag body ++ r) where
  split : drop at b ≡ tag ∷ (bytes_of 2 (length body) ++ (body ++ r))
  unfolding field_of
  split = d ∙ ap (λ (t : List ℕ). tag ∷ t) (append_assoc (bytes_of 2 (length body)) body r)

  after_tag : drop (at + 1) b ≡ bytes_of 2 (length body) ++ (body ++ r)
  after_tag = drop_past b at 1 (tag ∷ []) _ refl split

  body_is : drop (at + 3) b ≡ body ++ r
  body_is =
      let e : at + 1 + 2 ≡ at + 3 = omega arith in
      rw e at (drop_past b (at + 1) 2 (bytes_of 2 (length body)) _ (length_bytes 2 (length body)) after_tag)

  next_is : drop (at + 3 + length body) b ≡ r
  next_is = drop_past b (at + 3) (length body) body r refl body_is

  field_within : at + 3 + length body ≤ length b
  unfolding field_of
  field_within =
      let m : length (bytes_of 2 (length body) ++ body) ≡ 2 + length body = length-append (bytes_of 2 (length body)) body ∙ rw (length_bytes 2 (length body)) in
      let q : suc (2 + length body) ≡ 3 + length body = omega arith in
      let l : length (field_of tag body) ≡ 3 + length body = ap suc m ∙ q in
      let w = past_within b at (3 + length body) (field_of tag body) r l (omega arith) d in
      omega arith

  frame_is : (low : ℕ) → right_tag fields low tag ≡ true → right_length fields tag (length body) ≡ true → length body < 65536 → frame_of fields b low at ≡ Ok (framed tag (length body))
  frame_is low t l s =
      let z : at + 0 ≡ at = omega arith in
      let g : get_or b at 0 ≡ tag = sym (get_or-drop at b 0 0 ∙ rw z) ∙ ap (λ (x : List ℕ). get_or x 0 0) split in
      let n : num_at b (at + 1) 2 ≡ length body = num_is b (at + 1) 2 (length body) _ after_tag s in
      let w = field_within in
      let h : at + 3 ≤ length b = omega arith in
      sym (frame_field fields b low at h (rw g t) (rw (g, n) l) (rw n w)) ∙ rw (g, n)

module _ (b : List ℕ) (s : Seen) (low at tag len : ℕ) (w : frame_of fields b low at ≡ Ok (framed tag len)) (c : right_content b s tag (at + 3) len ≡ true) where
  read_more : (f : ℕ) → eqb tag 6 ≡ false → read_from b (suc f) s low at ≡ read_from b f (told b s tag (at + 3) len) (low_after fields tag len) (at + 3 + len)
  unfolding read_from field_then
  read_more f n = rw (w, c, n)

  read_last : (f : ℕ) → eqb tag 6 ≡ true → length b ≤ at + 3 + len → read_from b (suc f) s low at ≡ good s
  unfolding read_from field_then end_of
  read_last f t z = rw (w, c, t, le-ltb _ _ z)

-- ---- entries

pub data Fit : List Entry → Type 0 where
  none : Fit []
  one : {x : Entry} {es : List Entry} → x.slot < 256 ^ 8 → x.identity < 256 ^ 8 → Fit es → Fit (x ∷ es)

entries_is : (b : List ℕ) (p : ℕ) (es : List Entry) (r : List ℕ) → Fit es → drop p b ≡ body_of es ++ r → entries_at b p (length es) ≡ es
unfolding entries_at body_of
entries_is b p [] r none d = refl
entries_is b p (x ∷ es) r (one a i f) d =
    let u : drop p b ≡ bytes_of 8 x.slot ++ (bytes_of 8 x.identity ++ (body_of es ++ r)) = d ∙ simp append_assoc in
    let v : drop (p + 8) b ≡ bytes_of 8 x.identity ++ (body_of es ++ r) = drop_past b p 8 (bytes_of 8 x.slot) _ (length_bytes 8 x.slot) u in
    let e : p + 8 + 8 ≡ p + 16 = omega arith in
    let y : drop (p + entry_size) b ≡ body_of es ++ r = rw e at (drop_past b (p + 8) 8 (bytes_of 8 x.identity) _ (length_bytes 8 x.identity) v) in
    rw (num_is b p 8 x.slot _ u a, num_is b (p + 8) 8 x.identity _ v i, entries_is b (p + entry_size) es r f y)

pub fit_take : (k : ℕ) (es : List Entry) → Fit es → Fit (take k es)
fit_take zero es f = none
fit_take (suc k) [] f = none
fit_take (suc k) (x ∷ es) (one a i f) = one a i (fit_take k es f)

pub fit_drop : (k : ℕ) (es : List Entry) → Fit es → Fit (drop k es)
fit_drop zero es f = f
fit_drop (suc k) [] f = none
fit_drop (suc k) (x ∷ es) (one a i f) = fit_drop k es f

-- both parts of rising entries rise
rising_parts : (n f : ℕ) (a c : List Entry) → rising n f (a ++ c) ≡ true → (rising n f a ≡ true) × (rising n (floor_after f a) c ≡ true)
unfolding rising floor_after
rising_parts n f [] c p = (refl, p)
rising_parts n f (x ∷ a) c p = go (leb f x.slot) (ltb x.slot n) p (λ q. rising_parts n (x.slot + 1) a c q)
  where
    go : (u v : Bool) → pick u (pick v (rising n (x.slot + 1) (a ++ c)) false) false ≡ true
        → (rising n (x.slot + 1) (a ++ c) ≡ true → (rising n (x.slot + 1) a ≡ true) × (rising n (floor_after (x.slot + 1) a) c ≡ true))
        → (pick u (pick v (rising n (x.slot + 1) a) false) false ≡ true) × (rising n (floor_after (x.slot + 1) a) c ≡ true)
    go true true p i = i p
    go true false p i = let z : ◌≡◌ {A = ℕ} 0 1 = cc in absurd (omega arith)
    go false v p i = let z : ◌≡◌ {A = ℕ} 0 1 = cc in absurd (omega arith)

right_len_5 : (k : ℕ) → 0 < k → k ≤ field_entries → right_length fields 5 (entry_size * k) ≡ true
unfolding right_length kind_at rank_of fields
right_len_5 k h l =
    let m : entry_size * k % entry_size ≡ 0 = omega arith in
    fits_is (kind 5 false entry_size field_bytes entry_size true) (entry_size * k) m (omega arith) (omega arith)

-- field 6
last_reads : (b : List ℕ) (f low at : ℕ) (s : Seen) → right_tag fields low 6 ≡ true → length s.entries < 256 ^ 8 → drop at b ≡ field_of 6 (bytes_of 8 (length s.entries)) → read_from b (suc f) s low at ≡ good s
unfolding right_content right_length kind_at rank_of fits fields
last_reads b f low at s six few d =
    let N : ℕ = length s.entries in
    let l : length (bytes_of 8 (length s.entries)) ≡ 8 = length_bytes 8 (length s.entries) in
    let d0 : drop at b ≡ field_of 6 (bytes_of 8 (length s.entries)) ++ [] = d ∙ sym (append-nil _) in
    let w : frame_of fields b low at ≡ Ok (framed 6 8) = rw l at (frame_is b at 6 (bytes_of 8 (length s.entries)) [] d0 low six (rw l) (omega arith)) in
    let n : num_at b (at + 3) 8 ≡ length s.entries = num_is b (at + 3) 8 (length s.entries) [] (body_is b at 6 (bytes_of 8 (length s.entries)) [] d0) few in
    let z : drop (at + 3 + 8) b ≡ [] = rw l at (next_is b at 6 (bytes_of 8 (length s.entries)) [] d0) in
    let y : length b - (at + 3 + 8) ≡ 0 = sym (length-drop (at + 3 + 8) b) ∙ ap length z in
    read_last b s low at 6 8 w (eq-eqb _ _ n) f refl (omega arith)

none_left : (es : List Entry) → fields_for (length es) ≡ 0 → es ≡ []
unfolding fields_for
none_left [] h = refl
none_left (x ∷ es) h = absurd (omega arith)

plus_plus : (s : Seen) (a c es : List Entry) → a ++ c ≡ es → plus (plus s a) c ≡ plus s es
unfolding plus
plus_plus s a c es e = rw (append_assoc, e)

-- after a field of m entries
low_next : (m : ℕ) → (right_tag fields (low_after fields 5 (entry_size * m)) 6 ≡ true) × (m ≡ field_entries → right_tag fields (low_after fields 5 (entry_size * m)) 5 ≡ true)
unfolding low_after low_behind rank_of kind_at right_tag may_come fields
low_next m =
    cases (eqb (entry_size * m) field_bytes)
    (λ e. rw e (refl, λ q. refl))
    (λ e. rw e (refl, λ q. let x : entry_size * m ≡ field_bytes → ⊥ = eqb-false _ _ e in absurd (x (omega arith))))

tail_reads : (b : List ℕ) (k f low at : ℕ) (s : Seen) (es : List Entry) → fields_for (length es) ≡ k → k < f → right_tag fields low 6 ≡ true → (0 < k → right_tag fields low 5 ≡ true)
    → Fit es → rising s.head.n (floor_after 0 s.entries) es ≡ true → length (s.entries ++ es) < 256 ^ 8
    → drop at b ≡ entry_fields k es ++ field_of 6 (bytes_of 8 (length (s.entries ++ es)))
    → read_from b f s low at ≡ good (plus s es)
unfolding entry_fields fields_for right_content told told_head plus
tail_reads b k zero low at s es e kf six five fit rise few d = absurd (omega arith)
tail_reads b zero (suc f) low at s es e kf six five fit rise few d =
    let z : es ≡ [] = none_left es e in
    rw z (rw (plus_none s) (last_reads b f low at s six (rw (z, append-nil) at few) (rw (z, append-nil) at d)))
tail_reads b (suc k) (suc f) low at s es e kf six five fit rise few d =
    let a : List Entry = take field_entries es in
    let c : List Entry = drop field_entries es in
    let E : take field_entries es ++ drop field_entries es ≡ es = take-append-drop field_entries es in
    let la : length (take field_entries es) ≡ min field_entries (length es) = length-take field_entries es in
    let lc : length (drop field_entries es) ≡ length es - field_entries = length-drop field_entries es in
    let kc : (length (drop field_entries es) + (field_entries - 1)) / field_entries ≡ k = omega arith in
    let pos : 0 < length (take field_entries es) = omega arith in
    let most : length (take field_entries es) ≤ field_entries = omega arith in
    let d1 : drop at b ≡ field_of 5 (body_of (take field_entries es)) ++ (entry_fields k (drop field_entries es) ++ field_of 6 (bytes_of 8 (length (s.entries ++ es)))) = d ∙ append_assoc (field_of 5 (body_of (take field_entries es))) (entry_fields k (drop field_entries es)) (field_of 6 (bytes_of 8 (length (s.entries ++ es)))) in
    let lb : length (body_of (take field_entries es)) ≡ entry_size * length (take field_entries es) = length_body (take field_entries es) in
    let w : frame_of fields b low at ≡ Ok (framed 5 (entry_size * length (take field_entries es))) =
    rw lb at (frame_is b at 5 (body_of (take field_entries es)) _ d1 low (five (omega arith)) (rw lb (right_len_5 (length (take field_entries es)) pos most)) (omega arith)) in
    let q : entry_size * length (take field_entries es) / entry_size ≡ length (take field_entries es) = omega arith in
    let ea : entries_at b (at + 3) (length (take field_entries es)) ≡ take field_entries es = entries_is b (at + 3) (take field_entries es) _ (fit_take field_entries es fit) (body_is b at 5 (body_of (take field_entries es)) _ d1) in
    let parts = rising_parts s.head.n (floor_after 0 s.entries) (take field_entries es) (drop field_entries es) (rw E rise) in
    let ok : right_content b s 5 (at + 3) (entry_size * length (take field_entries es)) ≡ true = rw (q, ea) parts.0 in
    let nx : drop (at + 3 + entry_size * length (take field_entries es)) b ≡ entry_fields k (drop field_entries es) ++ field_of 6 (bytes_of 8 (length (s.entries ++ es))) = rw lb at (next_is b at 5 (body_of (take field_entries es)) _ d1) in
    let al : (s.entries ++ take field_entries es) ++ drop field_entries es ≡ s.entries ++ es = append_assoc s.entries (take field_entries es) (drop field_entries es) ∙ rw E in
    let lw = low_next (length (take field_entries es)) in
    let ih = tail_reads b k f (low_after fields 5 (entry_size * length (take field_entries es))) (at + 3 + entry_size * length (take field_entries es)) (plus s (take field_entries es)) (drop field_entries es) kc (omega arith) lw.0
    (λ x. lw.1 (omega arith)) (fit_drop field_entries es fit) (rw floor_append parts.1) (rw al few) (rw al nx) in
    read_more b s low at 5 (entry_size * length (take field_entries es)) w ok f refl ∙ rw (q, ea) (ih ∙ ap good (plus_plus s (take field_entries es) (drop field_entries es) es E))

-- ---- numbers

module _ (b : List ℕ) (f : ℕ) (s : Seen) (tag k x at : ℕ) (r : List ℕ) (d : drop at b ≡ field_of tag (bytes_of k x) ++ r) where
  stage_num : x < 256 ^ k → num_at b (at + 3) k ≡ x
  stage_num h = num_is b (at + 3) k x r (body_is b at tag (bytes_of k x) r d) h

  stage_next : drop (at + 3 + k) b ≡ r
  stage_next = rw length_bytes at (next_is b at tag (bytes_of k x) r d)

  stage_reads : (low : ℕ) → right_tag fields low tag ≡ true → right_length fields tag k ≡ true → k < 65536 → eqb tag 5 ≡ false → eqb tag 6 ≡ false
      → read_from b (suc f) s low at ≡ read_from b f (told b s tag (at + 3) k) (low_after fields tag k) (at + 3 + k)
  unfolding right_content
  stage_reads low t l m n5 n6 =
      let e : length (bytes_of k x) ≡ k = length_bytes k x in
      let w : frame_of fields b low at ≡ Ok (framed tag k) = rw e at (frame_is b at tag (bytes_of k x) r d low t (rw e l) (rw e m)) in
      read_more b s low at tag k w (rw (n5, n6)) f n6

-- ---- the whole image

fields_least : (k : ℕ) (es : List Entry) → k ≤ length (entry_fields k es)
unfolding entry_fields
fields_least zero es = omega arith
fields_least (suc k) es =
    let i = fields_least k (drop field_entries es) in
    rw (length-append, length_field) (omega arith)

-- what an image can say
pub record Valid (hd : Head) (label : List ℕ) (es : List Entry) : Type 0 where
  pub n_fits : hd.n < 256 ^ 8
  pub e_fits : hd.e < 256 ^ 4
  pub seed_fits : hd.seed < 256 ^ 8
  pub short : length label ≤ 64
  pub rise : rising hd.n 0 es ≡ true
  pub fit : Fit es
  pub few : length es < 256 ^ 8

abbrev pub label_place : List ℕ → ℕ
label_place [] = 0
label_place (x ∷ label) = 32

-- from the label on
rest_reads : (b : List ℕ) (f : ℕ) (hd : Head) (label : List ℕ) (es : List Entry) → Valid hd label es → fields_for (length es) + 1 < f
    → drop 29 b ≡ label_field label ++ (entry_fields (fields_for (length es)) es ++ field_of 6 (bytes_of 8 (length es)))
    → read_from b f (seen hd 0 0 []) 3 29 ≡ good (seen hd (label_place label) (length label) es)
unfolding label_field plus floor_after told told_head low_after low_behind right_content right_tag may_come right_length kind_at rank_of fits fields
rest_reads b f hd [] es v h d =
    tail_reads b (fields_for (length es)) f 3 29 (seen hd 0 0 []) es refl (omega arith) refl (λ x. refl) v.fit v.rise v.few d
rest_reads b zero hd (x ∷ label) es v h d = absurd (omega arith)
rest_reads b (suc f) hd (x ∷ label) es v h d =
    let l = v.short in
    let a : 1 ≤ length (x ∷ label) = omega arith in
    let m : length (x ∷ label) % 1 ≡ 0 = omega arith in
    let w : frame_of fields b 3 29 ≡ Ok (framed 4 (length (x ∷ label))) = frame_is b 29 4 (x ∷ label) _ d 3 refl (fits_is (kind 4 false 1 64 1 false) (length (x ∷ label)) m a l) (omega arith) in
    read_more b (seen hd 0 0 []) 3 29 4 (length (x ∷ label)) w refl f refl
    ∙ tail_reads b (fields_for (length es)) f 4 (32 + length (x ∷ label)) (seen hd 32 (length (x ∷ label)) []) es refl (omega arith) refl (λ y. refl) v.fit v.rise v.few
    (next_is b 29 4 (x ∷ label) _ d)

-- where a label stands
image_rest : (hd : Head) (label : List ℕ) (es : List Entry)
    → drop 29 (image_of hd label es) ≡ label_field label ++ (entry_fields (fields_for (length es)) es ++ field_of 6 (bytes_of 8 (length es)))
unfolding image_of
image_rest hd label es =
    let d1 = stage_next (image_of hd label es) 0 (seen unnamed 0 0 []) 1 8 hd.n 0 _ refl in
    let d2 = stage_next (image_of hd label es) 0 (seen unnamed 0 0 []) 2 4 hd.e 11 _ d1 in
    stage_next (image_of hd label es) 0 (seen unnamed 0 0 []) 3 8 hd.seed 18 _ d2

pub label_stands : (hd : Head) (label : List ℕ) (es : List Entry) → take (length label) (drop (label_place label) (image_of hd label es)) ≡ label
unfolding label_field
label_stands hd [] es = refl
label_stands hd (x ∷ label) es =
    let d = body_is (image_of hd (x ∷ label) es) 29 4 (x ∷ label) _ (image_rest hd (x ∷ label) es) in
    ap (take (length (x ∷ label))) d ∙ take_at (x ∷ label) _ (length (x ∷ label)) refl

pub read_after_write : (hd : Head) (label : List ℕ) (es : List Entry) → Valid hd label es
    → read_of (image_of hd label es) ≡ good (seen hd (label_place label) (length label) es)
unfolding read_of told told_head low_after low_behind right_tag may_come right_length kind_at fits image_of rank_of fields
read_after_write hd label es v =
    let R : List ℕ = label_field label ++ (entry_fields (fields_for (length es)) es ++ field_of 6 (bytes_of 8 (length es))) in
    let size : length (image_of hd label es) ≡ 40 + (length (label_field label) + length (entry_fields (fields_for (length es)) es)) = simp (length-append, length_field, length_bytes) (omega arith) in
    let least = fields_least (fields_for (length es)) es in
    let fuel : length (image_of hd label es) ≡ suc (suc (length (image_of hd label es) - 2)) = omega arith in
    let d1 : drop 11 (image_of hd label es) ≡ field_of 2 (bytes_of 4 hd.e) ++ (field_of 3 (bytes_of 8 hd.seed) ++ R) = stage_next (image_of hd label es) 0 (seen unnamed 0 0 []) 1 8 hd.n 0 _ refl in
    let d2 : drop 18 (image_of hd label es) ≡ field_of 3 (bytes_of 8 hd.seed) ++ R = stage_next (image_of hd label es) 0 (seen unnamed 0 0 []) 2 4 hd.e 11 _ d1 in
    let d3 : drop 29 (image_of hd label es) ≡ R = image_rest hd label es in
    let n1 : num_at (image_of hd label es) 3 8 ≡ hd.n = stage_num (image_of hd label es) 0 (seen unnamed 0 0 []) 1 8 hd.n 0 _ refl v.n_fits in
    let n2 : num_at (image_of hd label es) 14 4 ≡ hd.e = stage_num (image_of hd label es) 0 (seen unnamed 0 0 []) 2 4 hd.e 11 _ d1 v.e_fits in
    let n3 : num_at (image_of hd label es) 21 8 ≡ hd.seed = stage_num (image_of hd label es) 0 (seen unnamed 0 0 []) 3 8 hd.seed 18 _ d2 v.seed_fits in
    stage_reads (image_of hd label es) (length (image_of hd label es)) (seen unnamed 0 0 []) 1 8 hd.n 0 _ refl 0 refl refl (omega arith) refl refl
    ∙ ap (λ (t : ℕ). read_from (image_of hd label es) t (seen (headed (num_at (image_of hd label es) 3 8) 0 0) 0 0 []) 1 11) fuel
    ∙ stage_reads (image_of hd label es) (suc (length (image_of hd label es) - 2)) (seen (headed (num_at (image_of hd label es) 3 8) 0 0) 0 0 []) 2 4 hd.e 11 _ d1 1 refl refl (omega arith) refl refl
    ∙ stage_reads (image_of hd label es) (length (image_of hd label es) - 2) (seen (headed (num_at (image_of hd label es) 3 8) (num_at (image_of hd label es) 14 4) 0) 0 0 []) 3 8 hd.seed 18 _ d2 2 refl refl (omega arith) refl refl
    ∙ rw (n1, n2, n3) (rest_reads (image_of hd label es) (length (image_of hd label es) - 2) hd label es v (omega arith) d3)
