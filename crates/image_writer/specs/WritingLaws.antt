-- The writer's outcomes, one for each way it ends. Assumes nothing.
use Rattle.std.specs.Prelude.{Ok, Err, ◌≡◌, List, ℕ, ◌+◌, ◌<◌, ◌≤◌}
use Rattle.std.proofs.Common.{ap, sym, ◌∙◌}
use native.Mathlib.Omega.{arith}
use Rattle.std.proofs.Math.ListN.{length}
use Rattle.std.proofs.lemmas.List.Edits.{sets}
use Rattle.std.proofs.Math.Seq.{sets-eq}
use borrow.Author.Tests.{lt-ltb, le-ltb}
use Rattle.image.specs.declared.head.Head.{Head}
use Rattle.image_writer.specs.Dirty.{scan_of}
use Rattle.image_writer.specs.DirtyLaws.{count_is}
use Rattle.image.specs.Format.{entries_of, image_of}
use Rattle.image_writer.specs.ImageLaws.{length_image}
use Rattle.image_writer.specs.Pieces.{size_of}
use Rattle.image_writer.specs.Writing.{writes, onto, write_after, write_of}
use Rattle.image_writer.specs.declared.writer.WriteRefusal.TheVariants as write_refusal

module _ (hd : Head) (label words flags out : List ℕ) where
  pub writes_dirty : (s : ℕ) → scan_of words flags ≡ Err s → writes (Err (write_refusal.Dirty (record { 0 = s }))) out ≡ write_of hd label words flags out
  unfolding write_of write_after
  writes_dirty s h = rw h

  module _ (c : ℕ) (h : scan_of words flags ≡ Ok c) where
    size_is : size_of (length label) c ≡ length (image_of hd label (entries_of words flags))
    size_is = ap (λ (x : ℕ). size_of (length label) x) (count_is words flags c h) ∙ sym (length_image hd label (entries_of words flags))

    pub writes_room : length out < size_of (length label) c → writes (Err (write_refusal.Room (size_of (length label) c))) out ≡ write_of hd label words flags out
    unfolding write_of write_after
    writes_room r = let z : length out < length (image_of hd label (entries_of words flags)) = rw size_is at r in rw (h, size_is, lt-ltb _ _ z)

    pub writes_done : size_of (length label) c ≤ length out → (after : List ℕ) → after ≡ sets out 0 (image_of hd label (entries_of words flags))
        → writes (Ok (size_of (length label) c)) after ≡ write_of hd label words flags out
    unfolding write_of write_after
    writes_done r after o =
        let z : length (image_of hd label (entries_of words flags)) ≤ length out = rw size_is at r in
        let w : 0 + length (image_of hd label (entries_of words flags)) ≤ length out = omega arith in
        let y : 0 + length (image_of hd label (entries_of words flags)) ≡ length (image_of hd label (entries_of words flags)) = omega arith in
        let a : after ≡ onto (image_of hd label (entries_of words flags)) out = o ∙ sets-eq (image_of hd label (entries_of words flags)) out 0 w ∙ rw y in
        rw (h, le-ltb _ _ z, size_is, a)
