-- The outcomes of a field's tag, length and body. Assumes nothing.
use Rattle.std.specs.Prelude.{Ok, Err, ◌≡◌, refl, Bool, true, false, not, List, ℕ, ◌+◌, ◌<◌, ◌≤◌, ltb, leb, get_or}
use Rattle.std.proofs.Common.{ap}
use native.Mathlib.Omega.{arith}
use Rattle.std.proofs.Math.ListN.{length}
use borrow.Author.Tests.{lt-ltb, le-ltb, le-leb, lt-leb, ltb-false}
use Rattle.words.specs.Bytes.{num_at}
use Rattle.words.specs.Pick.{pick}
use Rattle.image.specs.Reading.{right_tag, right_length, framed, frame_of}
use Rattle.image.specs.declared.field.Field.{Field}
use Rattle.image.specs.declared.field.Kind.{Kind}

module _ (ks : List Kind) (b : List ℕ) (low at : ℕ) where
  pub frame_end : (length b ≤ at) → Err (length b) ≡ frame_of ks b low at
  unfolding frame_of
  frame_end h = rw (le-leb _ _ h)

  pub frame_tag : at < length b → right_tag ks low (get_or b at 0) ≡ false → Err at ≡ frame_of ks b low at
  unfolding frame_of
  frame_tag h t = rw (lt-leb _ _ h, t)

  pub frame_short : at < length b → right_tag ks low (get_or b at 0) ≡ true → length b < at + 3 → Err (length b) ≡ frame_of ks b low at
  unfolding frame_of
  frame_short h t s = rw (lt-leb _ _ h, t, lt-ltb _ _ s)

  module _ (h : at + 3 ≤ length b) (t : right_tag ks low (get_or b at 0) ≡ true) where
    pub frame_length : right_length ks (get_or b at 0) (num_at b (at + 1) 2) ≡ false → Err at ≡ frame_of ks b low at
    unfolding frame_of
    frame_length l = let g : at < length b = omega arith in rw (lt-leb _ _ g, t, le-ltb _ _ h, l)

    module _ (l : right_length ks (get_or b at 0) (num_at b (at + 1) 2) ≡ true) where
      pub frame_cut : length b < at + 3 + num_at b (at + 1) 2 → Err (length b) ≡ frame_of ks b low at
      unfolding frame_of
      frame_cut s = let g : at < length b = omega arith in rw (lt-leb _ _ g, t, le-ltb _ _ h, l, lt-ltb _ _ s)

      pub frame_field : at + 3 + num_at b (at + 1) 2 ≤ length b → Ok (framed (get_or b at 0) (num_at b (at + 1) 2)) ≡ frame_of ks b low at
      unfolding frame_of
      frame_field s = let g : at < length b = omega arith in rw (lt-leb _ _ g, t, le-ltb _ _ h, l, le-ltb _ _ s)

-- ---- what a framed field is

pub record Framing (ks : List Kind) (b : List ℕ) (low at tag len : ℕ) : Type 0 where
  pub tag_is : get_or b at 0 ≡ tag
  pub len_is : num_at b (at + 1) 2 ≡ len
  pub ok_tag : right_tag ks low tag ≡ true
  pub ok_len : right_length ks tag len ≡ true
  pub within : at + 3 + len ≤ length b

pub framing : (ks : List Kind) (b : List ℕ) (low at tag len : ℕ) → frame_of ks b low at ≡ Ok (framed tag len) → Framing ks b low at tag len
unfolding frame_of
framing ks b low at tag len h =
    go (leb (length b) at) (right_tag ks low (get_or b at 0)) refl (ltb (length b) (at + 3)) (right_length ks (get_or b at 0) (num_at b (at + 1) 2)) refl (ltb (length b) (at + 3 + num_at b (at + 1) 2)) refl h
  where
    go : (x : Bool) (y : Bool) → right_tag ks low (get_or b at 0) ≡ y → (z : Bool) (u : Bool) → right_length ks (get_or b at 0) (num_at b (at + 1) 2) ≡ u
        → (v : Bool) → ltb (length b) (at + 3 + num_at b (at + 1) 2) ≡ v
        → pick x (Err (length b)) (pick (not y) (Err at) (pick z (Err (length b)) (pick (not u) (Err at) (pick v (Err (length b)) (Ok (framed (get_or b at 0) (num_at b (at + 1) 2))))))) ≡ Ok (framed tag len)
        → Framing ks b low at tag len
    go false true ey false true eu false ev e =
        let q : framed (get_or b at 0) (num_at b (at + 1) 2) ≡ framed tag len = cc in
        let t : get_or b at 0 ≡ tag = ap (λ (x : Field). x.tag) q in
        let l : num_at b (at + 1) 2 ≡ len = ap (λ (x : Field). x.len) q in
        record { tag_is = t; len_is = l; ok_tag = rw t at ey; ok_len = rw (t, l) at eu; within = (let w : at + 3 + num_at b (at + 1) 2 ≤ length b = ltb-false _ _ ev in rw l at w) }
    go true y ey z u eu v ev e = let z : ◌≡◌ {A = ℕ} 0 1 = cc in absurd (omega arith)
    go false false ey z u eu v ev e = let z : ◌≡◌ {A = ℕ} 0 1 = cc in absurd (omega arith)
    go false true ey true u eu v ev e = let z : ◌≡◌ {A = ℕ} 0 1 = cc in absurd (omega arith)
    go false true ey false false eu v ev e = let z : ◌≡◌ {A = ℕ} 0 1 = cc in absurd (omega arith)
    go false true ey false true eu true ev e = let z : ◌≡◌ {A = ℕ} 0 1 = cc in absurd (omega arith)
