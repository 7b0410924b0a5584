-- The reader's loop: the reading from a cursor on is the reading of the whole. Assumes nothing.
use Rattle.std.specs.Prelude.{Ok, Err, Some, None, ◌≡◌, refl, List, [], ℕ, suc, ◌+◌, ◌*◌, ◌-◌, ◌<◌, ◌≤◌, length}
use Rattle.std.proofs.Math.Path.{ap}
use Rattle.std.proofs.Common.{◌∙◌, arith}
use borrow.Author.Tests.{lt-ltb, le-ltb, eq-eqb, ne_eqb}
use Rattle.image.specs.Format.{entry_size, fields}
use Rattle.image.specs.Head.{unnamed}
use Rattle.image.specs.Reading.{low_after, framed, frame_of, floor_after, Seen, seen, told, bad, end_of, field_then, read_from, read_of}
use Rattle.image.specs.Cursor.{cursor, cursor_of, outline_in, content_of, took_of, outcome_of}
use Rattle.image.specs.FrameLaws.{Framing, framing}
use Rattle.image.specs.CursorLaws.{content_off, content_ok, content_floor, took_told, took_small}
use Rattle.image.specs.declared.reader.Cursor.{Cursor}

-- a cursor on its way: what was seen, and that the reading from here is the reading of the whole
pub record Along (b : List ℕ) (c : Cursor) : Type 0 where
  pub saw : Seen
  pub lo : ℕ
  pub pos : ℕ
  pub fuel : ℕ
  pub same : c ≡ cursor_of saw lo pos
  pub enough : length b < fuel + pos
  pub within : pos ≤ length b
  pub small : length saw.entries * entry_size ≤ pos
  pub left : read_of b ≡ read_from b fuel saw lo pos

pub along_none : (b : List ℕ) → Along b (cursor 0 0 unnamed 0 0 0 0)
unfolding read_of floor_after
along_none b = record { saw = seen unnamed 0 0 []; lo = 0; pos = 0; fuel = suc (length b); same = refl; enough = omega arith; within = omega arith; small = omega arith; left = refl }

module _ {b : List ℕ} {c : Cursor} (a : Along b c) where
  pub along_at : c.at ≡ a.pos
  along_at = ap (λ (x : Cursor). x.at) a.same

  pub along_count : c.count ≡ length a.saw.entries
  along_count = ap (λ (x : Cursor). x.count) a.same

  more : a.fuel ≡ suc (a.fuel - 1)
  more = let e = a.enough in let w = a.within in omega arith

  pub along_wrong : (p : ℕ) → frame_of fields b c.low c.at ≡ Err p → read_of b ≡ bad p
  unfolding read_from field_then
  along_wrong p h = let g : frame_of fields b a.lo a.pos ≡ Err p = rw a.same at h in a.left ∙ rw (more, g)

  module _ (tag len : ℕ) (h : frame_of fields b c.low c.at ≡ Ok (framed tag len)) where
    here : frame_of fields b a.lo a.pos ≡ Ok (framed tag len)
    here = rw a.same at h

    pub along_framing : Framing fields b c.low c.at tag len
    along_framing = framing fields b c.low c.at tag len h

    pub along_off : content_of b c tag (c.at + 3) len ≡ None → read_of b ≡ bad c.at
    unfolding read_from field_then
    along_off k =
        let g : content_of b (cursor_of a.saw a.lo a.pos) tag (a.pos + 3) len ≡ None = rw a.same at k in
        rw along_at (a.left ∙ rw (more, here, content_off b a.saw a.lo a.pos tag (a.pos + 3) len g))

    module _ (floor : ℕ) (k : content_of b c tag (c.at + 3) len ≡ Some floor) where
      fine : content_of b (cursor_of a.saw a.lo a.pos) tag (a.pos + 3) len ≡ Some floor
      fine = rw a.same at k

      -- field 6
      pub along_last : tag ≡ 6 → read_of b ≡ end_of b a.saw (c.at + 3 + len)
      unfolding read_from field_then
      along_last t = rw along_at (a.left ∙ rw (more, here, content_ok b a.saw a.lo a.pos tag (a.pos + 3) len floor fine, eq-eqb _ _ t))

      -- a byte after field 6
      pub along_after : tag ≡ 6 → c.at + 3 + len < length b → read_of b ≡ bad (c.at + 3 + len)
      unfolding end_of
      along_after t l = along_last t ∙ rw (lt-ltb _ _ l)

      -- none
      pub along_good : tag ≡ 6 → length b ≤ c.at + 3 + len
          → Ok (outline_in c) ≡ outcome_of (read_of b)
      unfolding end_of
      along_good t l = rw (along_last t, le-ltb _ _ l, a.same)

      -- any other field
      pub along_more : (tag ≡ 6 → ⊥) → Along b (took_of b c tag (c.at + 3) len floor)
      unfolding read_from field_then
      along_more n =
          let w = (framing fields b a.lo a.pos tag len here).within in
          let e = a.enough in
          record {
            saw = told b a.saw tag (a.pos + 3) len;
            lo = low_after fields tag len;
            pos = a.pos + 3 + len;
            fuel = a.fuel - 1;
            same = rw a.same (took_told b a.saw a.lo a.pos tag (a.pos + 3) len floor (content_floor b a.saw a.lo a.pos tag (a.pos + 3) len floor fine));
            enough = (let m = more in omega arith);
            within = w;
            small = took_small b a.saw tag (a.pos + 3) len (let q = a.small in omega arith);
            left = a.left ∙ ap (λ (f : ℕ). read_from b f a.saw a.lo a.pos) more ∙ rw (here, content_ok b a.saw a.lo a.pos tag (a.pos + 3) len floor fine, ne_eqb _ _ n);
          }
