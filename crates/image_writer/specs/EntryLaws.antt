-- Entries, slot by slot. Assumes nothing.
use Rattle.std.specs.Prelude.{◌≡◌, refl, List, [], ◌∷◌, get_or, take, drop, ltb}
use Rattle.std.proofs.Common.{ap, ◌∙◌, length-append}
use Rattle.std.proofs.Math.Path.{sym}
use Prim.Native.Nat.{ℕ, suc, ◌+◌, ◌*◌, ◌-◌, ◌<◌, ◌≤◌}
use native.Mathlib.Omega.{arith}
use Rattle.std.proofs.Math.ListN.{length}
use Rattle.std.proofs.lemmas.List.Edits.{sets}
use Rattle.std.proofs.Math.Seq.{length-sets}
use borrow.Author.Tests.{eq-eqb, ne_eqb, ltb-true, ltb-false}
use Rattle.words.specs.Bytes.{bytes_of}
use Rattle.words.specs.BytesLaws.{sets_append, length_bytes}
use Rattle.image.specs.Format.{entry_size, Entry, entry, entries_from, entry_bytes, body_of}
use Rattle.image_writer.specs.Pieces.{entries_to, PutEntries}
use Rattle.image.specs.TestLaws.{cases}

module _ (words flags : List ℕ) where
  pub entries_vacant : (s : ℕ) → s < length flags → get_or flags s 0 ≡ 0 → entries_to words flags s ≡ entries_to words flags (s + 1)
  unfolding entries_from
  entries_vacant s h e =
      let k : length flags - s ≡ suc (length flags - (s + 1)) = omega arith in
      let a : suc s ≡ s + 1 = omega arith in
      rw (k, eq-eqb _ _ e, a)

  pub entries_taken : (s : ℕ) → s < length flags → (get_or flags s 0 ≡ 0 → ⊥) → entries_to words flags s ≡ entry s (get_or words s 0) ∷ entries_to words flags (s + 1)
  unfolding entries_from
  entries_taken s h e =
      let k : length flags - s ≡ suc (length flags - (s + 1)) = omega arith in
      let a : suc s ≡ s + 1 = omega arith in
      rw (k, ne_eqb _ _ e, a)

  pub entries_none : (s : ℕ) → length flags ≤ s → entries_to words flags s ≡ []
  unfolding entries_from
  entries_none s h = let k : length flags - s ≡ 0 = omega arith in rw k

pub length_entry : (s x : ℕ) → length (entry_bytes s x) ≡ 16
length_entry s x = simp (length-append, length_bytes)

pub entry_then : (l : List ℕ) (p s x : ℕ) → sets l p (entry_bytes s x) ≡ sets (sets l p (bytes_of 8 s)) (p + 8) (bytes_of 8 x)
entry_then l p s x = sets_append l p (bytes_of 8 s) (bytes_of 8 x) ∙ rw (length_bytes 8 s)

-- one entry
put_step : (l : List ℕ) (p s x j : ℕ) (es : List Entry) → sets l p (body_of (take (suc j) (entry s x ∷ es))) ≡ sets (sets l p (entry_bytes s x)) (p + entry_size) (body_of (take j es))
unfolding body_of
put_step l p s x j es = sets_append l p (entry_bytes s x) (body_of (take j es)) ∙ rw length_entry

-- what is left to write, from slot s on at p, is what was to be written
pub record Writing (words flags : List ℕ) (from m : ℕ) (before : List ℕ) (at : ℕ) (now : List ℕ) (s k p : ℕ) : Type 0 where
  pub bytes : sets before at (body_of (take m (entries_to words flags from))) ≡ sets now p (body_of (take k (entries_to words flags s)))
  pub rest : drop m (entries_to words flags from) ≡ drop k (entries_to words flags s)
  pub enough : k ≤ length (entries_to words flags s)
  pub size : length now ≡ length before
  pub room : p + entry_size * k ≤ length before
  pub within : s ≤ length flags

pub writing_none : (words flags : List ℕ) (from m : ℕ) (before : List ℕ) (at : ℕ) → m ≤ length (entries_to words flags from) → at + entry_size * m ≤ length before → from ≤ length flags
    → Writing words flags from m before at before from m at
writing_none words flags from m before at h r w = record { bytes = refl; rest = refl; enough = h; size = refl; room = r; within = w }

module _ {words flags : List ℕ} {from m : ℕ} {before : List ℕ} {at : ℕ} {now : List ℕ} {s k p : ℕ} (w : Writing words flags from m before at now s k p) where
  -- entries are left, so slots are
  pub writing_slot : 0 < k → s < length flags
  writing_slot h =
      cases (ltb s (length flags)) (λ t. ltb-true _ _ t)
      (λ f. let z : length flags ≤ s = ltb-false _ _ f in let q : k ≤ 0 = rw (entries_none words flags s z) at w.enough in absurd (omega arith))

  pub writing_skip : 0 < k → get_or flags s 0 ≡ 0 → Writing words flags from m before at now (s + 1) k p
  writing_skip h e =
      let l : s < length flags = writing_slot h in
      let q = entries_vacant words flags s l e in
      record { bytes = rw q at w.bytes; rest = rw q at w.rest; enough = rw q at w.enough; size = w.size; room = w.room; within = omega arith }

  pub writing_put : 0 < k → (get_or flags s 0 ≡ 0 → ⊥) → (after : List ℕ) → after ≡ sets now p (entry_bytes s (get_or words s 0))
      → Writing words flags from m before at after (s + 1) (k - 1) (p + entry_size)
  writing_put h e after o =
      let l : s < length flags = writing_slot h in
      let q = entries_taken words flags s l e in
      let j : k ≡ suc (k - 1) = omega arith in
      let n : length (entries_to words flags s) ≡ suc (length (entries_to words flags (s + 1))) = ap length q in
      let d = w.enough in
      let r = w.room in
      record {
        bytes = w.bytes ∙ ap (λ (t : ℕ). sets now p (body_of (take t (entries_to words flags s)))) j ∙ rw (q, o) (put_step now p s (get_or words s 0) (k - 1) (entries_to words flags (s + 1)));
        rest = w.rest ∙ ap (λ (t : ℕ). drop t (entries_to words flags s)) j ∙ rw q;
        enough = omega arith;
        size = rw o (simp length-sets w.size);
        room = omega arith;
        within = omega arith;
      }

  pub writing_end : k ≡ 0 → PutEntries words flags from m before at now s
  unfolding body_of
  writing_end e = record { bytes = sym (w.bytes ∙ rw e); rest = sym (w.rest ∙ rw e); within = w.within }
