-- Loading: the second pass over a right image, and the outcomes. Assumes nothing.
use Rattle.std.proofs.Math.Path.{◌≡◌}
use Rattle.std.specs.Prelude.{Ok, Err, Bool, not, ◌&&◌, refl, List, [], ℕ, suc, ◌+◌, ◌-◌, ◌/◌, ◌≤◌, length, replicate, eqb}
use Rattle.std.proofs.Common.{ap, sym, ◌∙◌}
use Rattle.std.proofs.Math.Bool.{true, false}
use native.Mathlib.Omega.{arith}
use borrow.Author.Tests.{eqb-true}
use Rattle.words.specs.Pick.{pick}
use Rattle.image.specs.Cursor.{outline_of, outcome_of}
use Rattle.image_calls.specs.Fill.{fill_words, fill_flags, entries_in, slots_in, is_good, Fills, Fits}
use Rattle.image_calls.specs.FillLaws.{fill_words_append, fill_flags_append, length_fill_words, length_fill_flags}
use Rattle.image.specs.Format.{entry_size, fields}
use Rattle.image.specs.FrameLaws.{Framing, framing}
use Rattle.image.specs.Head.{unnamed, same_head}
use Rattle.image.specs.KindLaws.{low_past}
use Rattle.image_calls.specs.Loading.{filled, loads, load_good, load_after, load_of}
use Rattle.image.specs.Reading.{low_after, framed, frame_of, entries_at, floor_after, Seen, seen, told, right_content, Reading, bad, good, read_from, read_of}
use Rattle.image.specs.ReadingLaws.{good_wrong, good_content, good_next, good_last, good_n, told_n, told_five, told_other}
use Rattle.image.specs.TestLaws.{cases, not_both}
use Rattle.image_calls.specs.declared.loader.LoadRefusal.TheVariants as refusal
use Rattle.image.specs.declared.head.Head.{Head}
use Rattle.image.specs.declared.reader.Outline.{Outline}

-- what a reading with this head is
record GoodAs (h : Outline) (r : Reading) : Type 0 where
  s : Seen
  is : r ≡ good s
  outline : outline_of s ≡ h

-- on the way through a right image
pub record Onward (b words₀ flags₀ : List ℕ) (low at : ℕ) (words flags : List ℕ) : Type 0 where
  pub g : Seen
  pub s : Seen
  pub fuel : ℕ
  pub whole : read_of b ≡ good g
  pub left : read_from b fuel s low at ≡ good g
  pub within : at ≤ length b
  pub words_are : words ≡ fill_words words₀ s.entries
  pub flags_are : flags ≡ fill_flags flags₀ s.entries
  pub in_words : g.head.n ≤ length words₀
  pub in_flags : g.head.n ≤ length flags₀

pub onward_none : (b words flags : List ℕ) → is_good (read_of b) ≡ true → slots_in (read_of b) ≤ length words → slots_in (read_of b) ≤ length flags → Onward b words flags 0 0 words flags
unfolding fill_words fill_flags read_of
onward_none b words flags h w f = go (read_of b) refl h w f
  where
    go : (r : Reading) → read_of b ≡ r → is_good r ≡ true → slots_in r ≤ length words → slots_in r ≤ length flags → Onward b words flags 0 0 words flags
    go (bad p) e h w f = let z : ◌≡◌ {A = ℕ} 0 1 = cc in absurd (omega arith)
    go (good g) e h w f =
        record { g = g; s = seen unnamed 0 0 []; fuel = suc (length b); whole = e; left = e; within = omega arith; words_are = refl; flags_are = refl; in_words = w; in_flags = f }

module _ {b words₀ flags₀ : List ℕ} {low at : ℕ} {words flags : List ℕ} (l : Onward b words₀ flags₀ low at words flags) where
  pub onward_wrong : {P : Type 0} (p : ℕ) → frame_of fields b low at ≡ Err p → P
  onward_wrong p w = good_wrong b l.s l.g low at l.fuel p l.left w

  pub onward_sizes : (length words ≡ length words₀) × (length flags ≡ length flags₀)
  onward_sizes = (rw l.words_are (length_fill_words words₀ l.s.entries), rw l.flags_are (length_fill_flags flags₀ l.s.entries))

  module _ (tag len : ℕ) (w : frame_of fields b low at ≡ Ok (framed tag len)) where
    pub onward_framing : Framing fields b low at tag len
    onward_framing = framing fields b low at tag len w

    pub onward_last : tag ≡ 6 → Fills words₀ flags₀ (entries_in (read_of b)) words flags
    onward_last t =
        let e : l.g ≡ l.s = (good_last b l.s l.g low at tag len w l.fuel l.left t).0 in
        rw (l.whole, e) (record { words_are_lem = l.words_are; flags_are_lem = l.flags_are })

    module _ (n : tag ≡ 6 → ⊥) where
      next : read_from b (l.fuel - 1) (told b l.s tag (at + 3) len) (low_after fields tag len) (at + 3 + len) ≡ good l.g
      next = good_next b l.s l.g low at tag len w l.fuel l.left n

      onto_next : (words' flags' : List ℕ) → words' ≡ fill_words words₀ (told b l.s tag (at + 3) len).entries → flags' ≡ fill_flags flags₀ (told b l.s tag (at + 3) len).entries
          → Onward b words₀ flags₀ (low_after fields tag len) (at + 3 + len) words' flags'
      onto_next words' flags' p q =
          record {
            g = l.g;
            s = told b l.s tag (at + 3) len;
            fuel = l.fuel - 1;
            whole = l.whole;
            left = next;
            within = onward_framing.within;
            words_are = p;
            flags_are = q;
            in_words = l.in_words;
            in_flags = l.in_flags;
          }

      -- the slots of field 5 are below the image's n, so they are in both buffers
      pub onward_fits : tag ≡ 5 → Fits (entries_at b (at + 3) (len / entry_size)) (length words) (length flags)
      unfolding right_content
      onward_fits t =
          let z = onward_sizes in
          let c : right_content b l.s 5 (at + 3) len ≡ true = rw t at (good_content b l.s l.g low at tag len w l.fuel l.left) in
          let i = l.in_words in
          let j = l.in_flags in
          let m : tag ≡ 1 → ⊥ = λ e. omega arith in
          let e : l.g.head.n ≡ l.s.head.n =
          good_n b (l.fuel - 1) (told b l.s tag (at + 3) len) l.g (low_after fields tag len) (at + 3 + len) (low_past tag len m) next ∙ told_n b l.s tag (at + 3) len m in
          record { n = l.s.head.n; floor = floor_after 0 l.s.entries; rise = c; in_words = omega arith; in_flags = omega arith }

      pub onward_five : tag ≡ 5 → (words' flags' : List ℕ) → Fills words flags (entries_at b (at + 3) (len / entry_size)) words' flags' → Onward b words₀ flags₀ (low_after fields tag len) (at + 3 + len) words' flags'
      onward_five t words' flags' f =
          let e = told_five b l.s tag (at + 3) len t in
          onto_next words' flags' (f.words_are_lem ∙ rw (l.words_are, e, fill_words_append)) (f.flags_are_lem ∙ rw (l.flags_are, e, fill_flags_append))

      pub onward_other : (tag ≡ 5 → ⊥) → Onward b words₀ flags₀ (low_after fields tag len) (at + 3 + len) words flags
      onward_other m =
          let e = told_other b l.s tag (at + 3) len m in
          onto_next words flags (rw e l.words_are) (rw e l.flags_are)

-- ---- two heads held against one another

same_is : (a b : Head) → same_head a b ≡ (eqb a.n b.n && (eqb a.e b.e && eqb a.seed b.seed))
unfolding same_head
same_is a b = go (eqb a.n b.n) (eqb a.e b.e) (eqb a.seed b.seed)
  where
    go : (x y z : Bool) → pick x (pick y z false) false ≡ (x && (y && z))
    go true true z = refl
    go true false z = refl
    go false y z = refl

pub head_differs : (a b : Head) (r : Bool) → r ≡ not (eqb a.n b.n && (eqb a.e b.e && eqb a.seed b.seed)) → r ≡ true → same_head a b ≡ false
head_differs a b r e t = same_is a b ∙ go (eqb a.n b.n && (eqb a.e b.e && eqb a.seed b.seed)) (sym e ∙ t)
  where
    go : (x : Bool) → not x ≡ true → x ≡ false
    go true h = not_both (sym h)
    go false h = refl

pub head_equal : (a b : Head) (r : Bool) → r ≡ not (eqb a.n b.n && (eqb a.e b.e && eqb a.seed b.seed)) → r ≡ false → same_head a b ≡ true
head_equal a b r e t = same_is a b ∙ go (eqb a.n b.n && (eqb a.e b.e && eqb a.seed b.seed)) (sym e ∙ t)
  where
    go : (x : Bool) → not x ≡ false → x ≡ true
    go true h = refl
    go false h = not_both h

-- ---- the outcomes

-- a right image with this head
module _ (image : List ℕ) (h : Outline) (r : outcome_of (read_of image) ≡ Ok h) where
  what_good : GoodAs h (read_of image)
  what_good = go (read_of image) r
    where
      go : (x : Reading) → outcome_of x ≡ Ok h → GoodAs h x
      go (bad p) k = let z : ◌≡◌ {A = ℕ} 0 1 = cc in absurd (omega arith)
      go (good s) k = record { s = s; is = refl; outline = (let q : outline_of s ≡ h = cc in q) }

  pub good_is : is_good (read_of image) ≡ true
  good_is = rw what_good.is

  pub slots_are : (hd : Head) → same_head h.head hd ≡ true → slots_in (read_of image) ≡ hd.n
  unfolding same_head
  slots_are hd o =
      let g = what_good in
      rw g.is
      (ap (λ (x : Outline). x.head.n) g.outline
      ∙ cases (eqb h.head.n hd.n) (λ t. eqb-true _ _ t) (λ f. let z : false ≡ true = rw f at o in not_both (sym z)))

module _ (hd : Head) (words flags image : List ℕ) where
  pub loads_bad : (place : ℕ) → outcome_of (read_of image) ≡ Err place → loads (Err (refusal.Image place)) words flags ≡ load_of hd words flags image
  unfolding load_of load_after
  loads_bad place h = go (read_of image) h
    where
      go : (r : Reading) → outcome_of r ≡ Err place → loads (Err (refusal.Image place)) words flags ≡ load_after hd words flags r
      go (bad p) h = let q : p ≡ place = cc in rw q
      go (good s) h = let z : ◌≡◌ {A = ℕ} 0 1 = cc in absurd (omega arith)

  module _ (h : Outline) (r : outcome_of (read_of image) ≡ Ok h) where
    pub loads_foreign : same_head h.head hd ≡ false → loads (Err refusal.Foreign) words flags ≡ load_of hd words flags image
    unfolding load_of load_after
    loads_foreign f = let g = what_good image h r in let k = rw (← g.outline) at f in rw (g.is, k)

    pub loads_done : same_head h.head hd ≡ true → (words' flags' : List ℕ)
        → Fills (replicate (length words) 0) (replicate (length flags) 0) (entries_in (read_of image)) words' flags'
        → loads (Ok (filled h.count h.label_at h.label_len)) words' flags' ≡ load_of hd words flags image
    unfolding load_of load_after load_good
    loads_done o words' flags' f = go (read_of image) r f
      where
        go : (x : Reading) → outcome_of x ≡ Ok h → Fills (replicate (length words) 0) (replicate (length flags) 0) (entries_in x) words' flags'
            → loads (Ok (filled h.count h.label_at h.label_len)) words' flags' ≡ load_after hd words flags x
        go (bad p) k f = let z : ◌≡◌ {A = ℕ} 0 1 = cc in absurd (omega arith)
        go (good s) k f = let q : outline_of s ≡ h = cc in let d = rw (← q) at o in rw (f.words_are_lem, f.flags_are_lem, ← q, d)
