-- What a right tag and a right length are: the format's kinds, one by one. Assumes nothing.
use Rattle.std.specs.Prelude.{◌≡◌, refl, Bool, true, false, List, eqb, length, drop}
use Rattle.std.proofs.Math.Path.{sym}
use Rattle.std.proofs.Common.{◌∙◌, drop_of_length-le, drop-cons}
use Prim.Native.Nat.{ℕ, zero, suc, ◌+◌, ◌*◌, ◌/◌, ◌%◌, ◌<◌, ◌≤◌}
use native.Mathlib.Omega.{arith}
use borrow.Author.Tests.{eq-eqb, ne_eqb, eqb-true, le-leb, lt-leb}
use Rattle.words.specs.Pick.{pick}
use Rattle.image.specs.Format.{entry_size, field_bytes, label_most, fields, none}
use Rattle.image.specs.Reading.{between, rank_of, may_come, right_tag, kind_at, fits, right_length, low_behind, low_after}
use Rattle.image.specs.TestLaws.{cases, not_both, between_facts}
use Rattle.image.specs.declared.field.Kind.{Kind}

-- ---- the table

pub kind_past : (rank : ℕ) → 6 ≤ rank → none ≡ kind_at fields rank
unfolding kind_at fields
kind_past zero h = absurd (omega arith)
kind_past (suc zero) h = absurd (omega arith)
kind_past (suc (suc zero)) h = absurd (omega arith)
kind_past (suc (suc (suc zero))) h = absurd (omega arith)
kind_past (suc (suc (suc (suc zero)))) h = absurd (omega arith)
kind_past (suc (suc (suc (suc (suc zero))))) h = absurd (omega arith)
kind_past (suc (suc (suc (suc (suc (suc rank)))))) h = refl

pub unit_some : (rank : ℕ) → 0 < (kind_at fields rank).unit
unfolding kind_at fields
unit_some zero = omega arith
unit_some (suc zero) = omega arith
unit_some (suc (suc zero)) = omega arith
unit_some (suc (suc (suc zero))) = omega arith
unit_some (suc (suc (suc (suc zero)))) = omega arith
unit_some (suc (suc (suc (suc (suc zero))))) = omega arith
unit_some (suc (suc (suc (suc (suc (suc rank)))))) = omega arith

-- a byte that is no tag
module _ (tag : ℕ) (n1 : tag ≡ 1 → ⊥) (n2 : tag ≡ 2 → ⊥) (n3 : tag ≡ 3 → ⊥) (n4 : tag ≡ 4 → ⊥) (n5 : tag ≡ 5 → ⊥) (n6 : tag ≡ 6 → ⊥) where
  pub rank_none : 6 ≡ rank_of fields tag
  unfolding rank_of fields
  rank_none =
      rw (ne_eqb 1 tag (λ e. n1 (sym e)), ne_eqb 2 tag (λ e. n2 (sym e)), ne_eqb 3 tag (λ e. n3 (sym e)), ne_eqb 4 tag (λ e. n4 (sym e)), ne_eqb 5 tag (λ e. n5 (sym e)), ne_eqb 6 tag (λ e. n6 (sym e)))

pub rank_most : (tag : ℕ) → rank_of fields tag ≤ 6
unfolding rank_of fields
rank_most tag = go (eqb 1 tag) (eqb 2 tag) (eqb 3 tag) (eqb 4 tag) (eqb 5 tag) (eqb 6 tag)
  where
    go : (a b c d e f : Bool) → pick a 0 (suc (pick b 0 (suc (pick c 0 (suc (pick d 0 (suc (pick e 0 (suc (pick f 0 (suc 0))))))))))) ≤ 6
    go true b c d e f = omega arith
    go false true c d e f = omega arith
    go false false true d e f = omega arith
    go false false false true e f = omega arith
    go false false false false true f = omega arith
    go false false false false false true = omega arith
    go false false false false false false = omega arith

-- ---- which tags may come, kind by kind

-- whether a tag may come is whether it may from rank i on
pub record Coming (ks : List Kind) (low tag i : ℕ) : Type 0 where
  pub left : right_tag ks low tag ≡ may_come (drop i ks) tag

pub coming_none : (ks : List Kind) (low tag : ℕ) → Coming ks low tag low
unfolding right_tag
coming_none ks low tag = record { left = refl }

module _ {ks : List Kind} {low tag i : ℕ} (l : Coming ks low tag i) where
  module _ (h : i < length ks) where
    step : right_tag ks low tag ≡ pick (eqb (kind_at ks i).tag tag) true (pick (kind_at ks i).must false (may_come (drop (i + 1) ks) tag))
    unfolding may_come kind_at
    step = let e : i + 1 ≡ suc i = omega arith in l.left ∙ rw (drop-cons ks i none h, e)

    pub coming_here : (kind_at ks i).tag ≡ tag → true ≡ right_tag ks low tag
    coming_here e = sym (step ∙ rw (eq-eqb _ _ e))

    module _ (n : (kind_at ks i).tag ≡ tag → ⊥) where
      pub coming_must : (kind_at ks i).must ≡ true → false ≡ right_tag ks low tag
      coming_must m = sym (step ∙ rw (ne_eqb _ _ n, m))

      pub coming_more : (kind_at ks i).must ≡ false → Coming ks low tag (i + 1)
      coming_more m = record { left = step ∙ rw (ne_eqb _ _ n, m) }

  pub coming_end : length ks ≤ i → false ≡ right_tag ks low tag
  unfolding may_come
  coming_end h = sym (l.left ∙ rw (drop_of_length-le ks h))

-- field 1 comes first alone
pub first_alone : (low : ℕ) → 1 ≤ low → right_tag fields low 1 ≡ false
unfolding right_tag may_come fields
first_alone zero h = absurd (omega arith)
first_alone (suc zero) h = refl
first_alone (suc (suc zero)) h = refl
first_alone (suc (suc (suc zero))) h = refl
first_alone (suc (suc (suc (suc zero)))) h = refl
first_alone (suc (suc (suc (suc (suc zero))))) h = refl
first_alone (suc (suc (suc (suc (suc (suc low)))))) h = sym (coming_end (coming_none fields (suc (suc (suc (suc (suc (suc low)))))) 1) (omega arith))

pub not_first : (low tag : ℕ) → 1 ≤ low → right_tag fields low tag ≡ true → tag ≡ 1 → ⊥
not_first low tag h r e = let z : true ≡ false = sym r ∙ rw e (first_alone low h) in not_both z

-- and is left behind by any other
rank_past : (tag : ℕ) → (tag ≡ 1 → ⊥) → 1 ≤ rank_of fields tag
unfolding rank_of fields
rank_past tag n = rw (ne_eqb 1 tag (λ e. n (sym e))) (omega arith)

pub behind_least : (k : Kind) (rank len : ℕ) → rank ≤ low_behind k rank len
unfolding low_behind
behind_least k rank len =
    cases k.again (λ a. rw a (cases (eqb len k.most) (λ e. rw e (omega arith)) (λ e. rw e (omega arith)))) (λ a. rw a (omega arith))

pub low_past : (tag len : ℕ) → (tag ≡ 1 → ⊥) → 1 ≤ low_after fields tag len
unfolding low_after
low_past tag len n =
    let r = rank_past tag n in
    let b = behind_least (kind_at fields (rank_of fields tag)) (rank_of fields tag) len in
    omega arith

-- ---- lengths that are right

pub record Fitting (k : Kind) (len : ℕ) : Type 0 where
  pub whole : len % k.unit ≡ 0
  pub least : k.least ≤ len
  pub most : len ≤ k.most

pub fits_facts : (k : Kind) (len : ℕ) → fits k len ≡ true → Fitting k len
unfolding fits
fits_facts k len h = go (eqb (len % k.unit) 0) refl h
  where
    go : (x : Bool) → eqb (len % k.unit) 0 ≡ x → pick x (between k.least len k.most) false ≡ true → Fitting k len
    go true e h = let q = between_facts k.least len k.most h in record { whole = eqb-true _ _ e; least = q.0; most = q.1 }
    go false e h = not_both (sym h)

module _ (k : Kind) (len : ℕ) where
  pub fits_is : len % k.unit ≡ 0 → k.least ≤ len → len ≤ k.most → fits k len ≡ true
  unfolding fits
  fits_is w l m = rw (eq-eqb _ _ w, le-leb _ _ l, le-leb _ _ m)

  pub fits_broken : (len % k.unit ≡ 0 → ⊥) → false ≡ fits k len
  unfolding fits
  fits_broken w = rw (ne_eqb _ _ w)

  pub fits_short : len % k.unit ≡ 0 → len < k.least → false ≡ fits k len
  unfolding fits
  fits_short w l = rw (eq-eqb _ _ w, lt-leb _ _ l)

module _ (tag len : ℕ) (r : right_length fields tag len ≡ true) where
  facts : Fitting (kind_at fields (rank_of fields tag)) len
  unfolding right_length
  facts = fits_facts (kind_at fields (rank_of fields tag)) len r

  pub len_1 : tag ≡ 1 → len ≡ 8
  unfolding kind_at rank_of fields
  len_1 t = let f = rw t at facts in omega (arith, f.least, f.most)

  pub len_2 : tag ≡ 2 → len ≡ 4
  unfolding kind_at rank_of fields
  len_2 t = let f = rw t at facts in omega (arith, f.least, f.most)

  pub len_3 : tag ≡ 3 → len ≡ 8
  unfolding kind_at rank_of fields
  len_3 t = let f = rw t at facts in omega (arith, f.least, f.most)

  pub len_4 : tag ≡ 4 → (1 ≤ len) × (len ≤ label_most)
  unfolding kind_at rank_of fields
  len_4 t = let f = rw t at facts in (f.least, f.most)

  pub len_5 : tag ≡ 5 → (len ≡ entry_size * (len / entry_size)) × (entry_size ≤ len) × (len ≤ field_bytes)
  unfolding kind_at rank_of fields
  len_5 t = let f = rw t at facts in (omega (arith, f.whole), f.least, f.most)

  pub len_6 : tag ≡ 6 → len ≡ 8
  unfolding kind_at rank_of fields
  len_6 t = let f = rw t at facts in omega (arith, f.least, f.most)
