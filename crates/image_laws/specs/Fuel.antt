-- The bound on the number of fields plays no part in a reading. Assumes nothing.
use Rattle.std.specs.Prelude.{Ok, Err, ◌≡◌, refl, List, ℕ, zero, suc, ◌+◌, ◌<◌, ◌≤◌, length}
use Rattle.std.proofs.Common.{arith}
use Rattle.image.specs.Format.{fields}
use Rattle.image.specs.Reading.{Framed, frame_of, Seen, told, low_after, field_then, read_from}
use Rattle.image.specs.FrameLaws.{framing}

-- any two bounds above the number of bytes left give the same reading
pub read_fuel : (b : List ℕ) (f g : ℕ) (s : Seen) (low at : ℕ) → at ≤ length b → length b < f + at → length b < g + at → read_from b f s low at ≡ read_from b g s low at
unfolding read_from field_then
read_fuel b zero g s low at w h k = absurd (omega arith)
read_fuel b (suc f) zero s low at w h k = absurd (omega arith)
read_fuel b (suc f) (suc g) s low at w h k = go (frame_of fields b low at) refl (λ t l p x y z. read_fuel b f g t l p x y z)
  where
    go : (r : Framed) → frame_of fields b low at ≡ r
        → ((t : Seen) (l p : ℕ) → p ≤ length b → length b < f + p → length b < g + p → read_from b f t l p ≡ read_from b g t l p)
        → field_then b s at r (λ t l a. read_from b f t l a) ≡ field_then b s at r (λ t l a. read_from b g t l a)
    go (Err p) e ih = refl
    go (Ok x) e ih =
        let q = (framing fields b low at x.tag x.len e).within in
        rw (ih (told b s x.tag (at + 3) x.len) (low_after fields x.tag x.len) (at + 3 + x.len) q (omega arith) (omega arith))
