-- What a cursor carries follows what the fields say. Assumes nothing.
use Rattle.std.proofs.Math.Path.{◌≡◌, refl, sym}
use Rattle.std.proofs.Common.{ap, ◌∙◌, arith}
use Rattle.std.specs.Prelude.{Some, None, Bool, List, [], ◌∷◌, ◌++◌, ℕ, zero, suc, ◌+◌, ◌*◌, ◌/◌, ◌≤◌, length, eqb}
use Rattle.std.proofs.Math.Bool.{true, false}
use Rattle.std.proofs.Math.ListN.{length-append}
use Rattle.words.specs.Bytes.{num_at}
use Rattle.words.specs.Pick.{pick}
use Rattle.image.specs.Format.{Entry, entry_size, fields}
use Rattle.image.specs.Reading.{low_after, entries_at, rising, floor_after, Seen, told, right_content}
use Rattle.image.specs.Cursor.{cursor_of, rise_of, content_of, took_of}
use Rattle.image.specs.TestLaws.{cases}
use Rattle.image.specs.declared.reader.Cursor.{Cursor}

-- ---- content

pub floor_append : (f : ℕ) (a c : List Entry) → floor_after f (a ++ c) ≡ floor_after (floor_after f a) c
unfolding floor_after
floor_append f [] c = refl
floor_append f (x ∷ a) c = floor_append (x.slot + 1) a c

pub length_entries : (b : List ℕ) (at k : ℕ) → length (entries_at b at k) ≡ k
unfolding entries_at
length_entries b at zero = refl
length_entries b at (suc k) = ap suc (length_entries b (at + entry_size) k)

module _ (b : List ℕ) (s : Seen) (low at tag p len : ℕ) where
  pub content_off : content_of b (cursor_of s low at) tag p len ≡ None → right_content b s tag p len ≡ false
  unfolding content_of right_content rise_of
  content_off h = go (eqb tag 5) (eqb tag 6) (rising s.head.n (floor_after 0 s.entries) (entries_at b p (len / entry_size))) (eqb (num_at b p 8) (length s.entries)) h
    where
      go : (x y u v : Bool) → pick x (pick u (Some (floor_after (floor_after 0 s.entries) (entries_at b p (len / entry_size)))) None) (pick y (pick v (Some (floor_after 0 s.entries)) None) (Some (floor_after 0 s.entries))) ≡ None
          → pick x u (pick y v true) ≡ false
      go true y false v e = refl
      go true y true v e = let z : ◌≡◌ {A = ℕ} 0 1 = cc in absurd (omega arith)
      go false true u false e = refl
      go false true u true e = let z : ◌≡◌ {A = ℕ} 0 1 = cc in absurd (omega arith)
      go false false u v e = let z : ◌≡◌ {A = ℕ} 0 1 = cc in absurd (omega arith)

  pub content_ok : (floor : ℕ) → content_of b (cursor_of s low at) tag p len ≡ Some floor → right_content b s tag p len ≡ true
  unfolding content_of right_content rise_of
  content_ok floor h = go (eqb tag 5) (eqb tag 6) (rising s.head.n (floor_after 0 s.entries) (entries_at b p (len / entry_size))) (eqb (num_at b p 8) (length s.entries)) h
    where
      go : (x y u v : Bool) → pick x (pick u (Some (floor_after (floor_after 0 s.entries) (entries_at b p (len / entry_size)))) None) (pick y (pick v (Some (floor_after 0 s.entries)) None) (Some (floor_after 0 s.entries))) ≡ Some floor
          → pick x u (pick y v true) ≡ true
      go true y true v e = refl
      go true y false v e = let z : ◌≡◌ {A = ℕ} 0 1 = cc in absurd (omega arith)
      go false true u true e = refl
      go false true u false e = let z : ◌≡◌ {A = ℕ} 0 1 = cc in absurd (omega arith)
      go false false u v e = refl

  -- after entries the floor is that of all the entries
  pub content_floor : (floor : ℕ) → content_of b (cursor_of s low at) tag p len ≡ Some floor → eqb tag 5 ≡ true → floor ≡ floor_after 0 (s.entries ++ entries_at b p (len / entry_size))
  unfolding content_of rise_of
  content_floor floor h t = go (rising s.head.n (floor_after 0 s.entries) (entries_at b p (len / entry_size))) (rw t at h)
    where
      go : (u : Bool) → pick u (Some (floor_after (floor_after 0 s.entries) (entries_at b p (len / entry_size)))) None ≡ Some floor → floor ≡ floor_after 0 (s.entries ++ entries_at b p (len / entry_size))
      go true e = let q : floor_after (floor_after 0 s.entries) (entries_at b p (len / entry_size)) ≡ floor = cc in sym q ∙ sym (floor_append 0 s.entries (entries_at b p (len / entry_size)))
      go false e = let z : ◌≡◌ {A = ℕ} 0 1 = cc in absurd (omega arith)

  -- the cursor follows what is told
  pub took_told : (floor : ℕ) → (eqb tag 5 ≡ true → floor ≡ floor_after 0 (s.entries ++ entries_at b p (len / entry_size)))
      → took_of b (cursor_of s low at) tag p len floor ≡ cursor_of (told b s tag p len) (low_after fields tag len) (p + len)
  unfolding took_of told
  took_told floor h = cases (eqb tag 5) (λ e. rw (e, h e, length-append, length_entries)) (λ n. rw n)

pub took_small : (b : List ℕ) (s : Seen) (tag p len : ℕ) → length s.entries * entry_size ≤ p → length (told b s tag p len).entries * entry_size ≤ p + len
unfolding told
took_small b s tag p len h =
    cases (eqb tag 5) (λ e. rw (e, length-append, length_entries) (omega arith)) (λ n. rw n (omega arith))

pub took_at : (b : List ℕ) (c : Cursor) (tag p len floor : ℕ) → (took_of b c tag p len floor).at ≡ p + len
unfolding took_of
took_at b c tag p len floor = refl
