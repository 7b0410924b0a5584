-- A right image, field by field: each is right, and what is read after it is right. Assumes nothing.
use Rattle.std.specs.Prelude.{Ok, Err, ◌≡◌, refl, true, List, ◌++◌, length, eqb, ltb}
use Rattle.std.proofs.Common.{ap, sym, ◌∙◌}
use Prim.Native.Nat.{ℕ, zero, suc, ◌+◌, ◌-◌, ◌/◌, ◌≤◌}
use native.Mathlib.Omega.{arith}
use borrow.Author.Tests.{eqb-true, eqb-false, eq-eqb, ne_eqb, ltb-false}
use Rattle.words.specs.Pick.{pick}
use Rattle.image.specs.Format.{entry_size, fields}
use Rattle.image.specs.FrameLaws.{Framing, framing}
use Rattle.image.specs.KindLaws.{not_first, low_past}
use Rattle.image.specs.Reading.{low_after, framed, Framed, frame_of, entries_at, Seen, told_head, told, right_content, bad, good, end_of, field_then, read_from}
use Rattle.image.specs.TestLaws.{cases}

pub not_good : {P : Type 0} (p : ℕ) (g : Seen) → bad p ≡ good g → P
not_good p g h = let z : ◌≡◌ {A = ℕ} 0 1 = cc in absurd (omega arith)

module _ (b : List ℕ) (s g : Seen) (low at : ℕ) where
  pub good_wrong : {P : Type 0} (f p : ℕ) → read_from b f s low at ≡ good g → frame_of fields b low at ≡ Err p → P
  unfolding read_from field_then
  good_wrong zero p h w = not_good at g h
  good_wrong (suc f) p h w = not_good p g (rw w at h)

  module _ (tag len : ℕ) (w : frame_of fields b low at ≡ Ok (framed tag len)) where
    pub good_content : (f : ℕ) → read_from b f s low at ≡ good g → right_content b s tag (at + 3) len ≡ true
    unfolding read_from field_then
    good_content zero h = not_good at g h
    good_content (suc f) h = cases (right_content b s tag (at + 3) len) (λ t. t) (λ e. not_good at g (rw (w, e) at h))

    pub good_next : (f : ℕ) → read_from b f s low at ≡ good g → (tag ≡ 6 → ⊥) → read_from b (f - 1) (told b s tag (at + 3) len) (low_after fields tag len) (at + 3 + len) ≡ good g
    unfolding read_from field_then
    good_next zero h n = not_good at g h
    good_next (suc f) h n = let e : suc f - 1 ≡ f = omega arith in let c = good_content (suc f) h in rw e (rw (w, c, ne_eqb _ _ n) at h)

    pub good_last : (f : ℕ) → read_from b f s low at ≡ good g → tag ≡ 6 → (g ≡ s) × (length b ≤ at + 3 + len)
    unfolding read_from field_then end_of
    good_last zero h t = not_good at g h
    good_last (suc f) h t =
        let c = good_content (suc f) h in
        let k : pick (ltb (at + 3 + len) (length b)) (bad (at + 3 + len)) (good s) ≡ good g = rw (w, c, eq-eqb _ _ t) at h in
        cases (ltb (at + 3 + len) (length b)) (λ e. not_good (at + 3 + len) g (rw e at k))
        (λ e. let q : good s ≡ good g = rw e at k in let r : s ≡ g = cc in (sym r, ltb-false _ _ e))

-- the two ways in which a right image goes on
pub data Step (b : List ℕ) (f : ℕ) (s : Seen) (low at : ℕ) (g : Seen) : Type 0 where
  last : (len : ℕ) → Framing fields b low at 6 len → right_content b s 6 (at + 3) len ≡ true → length b ≤ at + 3 + len → g ≡ s → Step b f s low at g
  more : (tag len : ℕ) → Framing fields b low at tag len → right_content b s tag (at + 3) len ≡ true → (tag ≡ 6 → ⊥)
      → read_from b f (told b s tag (at + 3) len) (low_after fields tag len) (at + 3 + len) ≡ good g → Step b f s low at g

pub step_of : (b : List ℕ) (f : ℕ) (s : Seen) (low at : ℕ) (g : Seen) → read_from b (suc f) s low at ≡ good g → Step b f s low at g
step_of b f s low at g h = go (frame_of fields b low at) refl
  where
    field : (tag len : ℕ) → frame_of fields b low at ≡ Ok (framed tag len) → Step b f s low at g
    field tag len w =
        let r = framing fields b low at tag len w in
        let c = good_content b s g low at tag len w (suc f) h in
        cases (eqb tag 6)
        (λ e. let t : tag ≡ 6 = eqb-true _ _ e in let q = good_last b s g low at tag len w (suc f) h t in last len (rw t at r) (rw t at c) q.1 q.0)
        (λ e. let n : tag ≡ 6 → ⊥ = eqb-false _ _ e in let m : suc f - 1 ≡ f = omega arith in more tag len r c n (rw m at (good_next b s g low at tag len w (suc f) h n)))

    go : (r : Framed) → frame_of fields b low at ≡ r → Step b f s low at g
    go (Err p) w = good_wrong b s g low at (suc f) p h w
    go (Ok f) w = field f.tag f.len w

-- after field 1 nothing says another n
pub told_n : (b : List ℕ) (s : Seen) (tag at len : ℕ) → (tag ≡ 1 → ⊥) → (told b s tag at len).head.n ≡ s.head.n
unfolding told told_head
told_n b s tag at len h =
    rw (ne_eqb tag 1 h) (cases (eqb tag 2) (λ e. rw e) (λ m. cases (eqb tag 3) (λ e. rw (m, e)) (λ n. rw (m, n))))

-- only field 5 says entries
pub told_five : (b : List ℕ) (s : Seen) (tag at len : ℕ) → tag ≡ 5 → (told b s tag at len).entries ≡ s.entries ++ entries_at b at (len / entry_size)
unfolding told
told_five b s tag at len t = rw t

pub told_other : (b : List ℕ) (s : Seen) (tag at len : ℕ) → (tag ≡ 5 → ⊥) → (told b s tag at len).entries ≡ s.entries
unfolding told
told_other b s tag at len h = rw (ne_eqb _ _ h)

pub good_n : (b : List ℕ) (f : ℕ) (s g : Seen) (low at : ℕ) → 1 ≤ low → read_from b f s low at ≡ good g → g.head.n ≡ s.head.n
unfolding read_from
good_n b zero s g low at l h = not_good at g h
good_n b (suc f) s g low at l h = go (step_of b f s low at g h) (λ t m p. good_n b f t g m p)
  where
    go : Step b f s low at g → ((t : Seen) (m p : ℕ) → 1 ≤ m → read_from b f t m p ≡ good g → g.head.n ≡ t.head.n) → g.head.n ≡ s.head.n
    go (last len r c z e) ih = ap (λ (x : Seen). x.head.n) e
    go (more tag len r c n k) ih =
        let m = not_first low tag l r.ok_tag in
        ih (told b s tag (at + 3) len) (low_after fields tag len) (at + 3 + len) (low_past tag len m) k ∙ told_n b s tag (at + 3) len m
