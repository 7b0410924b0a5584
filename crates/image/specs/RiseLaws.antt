-- The slots of a field, entry by entry. Assumes nothing.
use Rattle.std.specs.Prelude.{Some, None, ◌≡◌, refl, List, ◌∷◌, ℕ, zero, suc, ◌+◌, ◌-◌, ◌<◌, ◌≤◌}
use Rattle.std.proofs.Math.Path.{sym}
use Rattle.std.proofs.Common.{◌∙◌, arith}
use borrow.Author.Tests.{lt-ltb, le-ltb, le-leb, lt-leb}
use Rattle.words.specs.Bytes.{num_at}
use Rattle.image.specs.Format.{entry, entry_size}
use Rattle.image.specs.Reading.{entries_at, rising, floor_after}
use Rattle.image.specs.Cursor.{rise_of}

pub entries_more : (b : List ℕ) (p k : ℕ) → 0 < k → entries_at b p k ≡ entry (num_at b p 8) (num_at b (p + 8) 8) ∷ entries_at b (p + entry_size) (k - 1)
unfolding entries_at
entries_more b p zero h = absurd (omega arith)
entries_more b p (suc k) h = let e : suc k - 1 ≡ k = omega arith in rw e

-- what is left from `p` on gives what the whole gives
pub record Rises (b : List ℕ) (n floor at count low p k : ℕ) : Type 0 where
  pub left : rise_of n floor (entries_at b at count) ≡ rise_of n low (entries_at b p k)

pub rises_none : (b : List ℕ) (n floor at count : ℕ) → Rises b n floor at count floor at count
rises_none b n floor at count = record { left = refl }

module _ {b : List ℕ} {n floor at count low p k : ℕ} (l : Rises b n floor at count low p k) where
  module _ (h : 0 < k) where
    pub rises_low : num_at b p 8 < low → None ≡ rise_of n floor (entries_at b at count)
    unfolding rise_of rising floor_after
    rises_low s = sym (l.left ∙ rw (entries_more b p k h, lt-leb _ _ s))

    pub rises_high : low ≤ num_at b p 8 → n ≤ num_at b p 8 → None ≡ rise_of n floor (entries_at b at count)
    unfolding rise_of rising floor_after
    rises_high s t = sym (l.left ∙ rw (entries_more b p k h, le-leb _ _ s, le-ltb _ _ t))

    pub rises_more : low ≤ num_at b p 8 → num_at b p 8 < n → Rises b n floor at count (num_at b p 8 + 1) (p + entry_size) (k - 1)
    unfolding rise_of rising floor_after
    rises_more s t = record { left = l.left ∙ rw (entries_more b p k h, le-leb _ _ s, lt-ltb _ _ t) }

  pub rises_end : k ≡ 0 → Some low ≡ rise_of n floor (entries_at b at count)
  unfolding rise_of rising floor_after entries_at
  rises_end e = sym (l.left ∙ rw e)
