-- `image::field::right_length` meets its contract. Assumes nothing.
use Rattle.image.specs.Reading.{fits, right_length}
use Rattle.image.specs.KindLaws.{unit_some, fits_broken, fits_short}
use Rattle.std.proofs.Common.{⊎_elim}
use borrow.Author.Tests.{le-leb, lt-leb, eq-eqb, ne_eqb}
use Rattle.image.proofs.field.right_length.Goals as goal
use Rattle.image.proofs.field.right_length.Goals.{then-len-k-eq0, else-len-k-eq0}

pub nonzero_rem-len : goal.nonzero_rem-len
nonzero_rem-len c = rw c.kind_at-k.ensures (unit_some _)

pub returns-then-k-len : goal.returns-then-k-len
unfolding right_length fits
returns-then-k-len c = rw (← c.rank.ensures, ← c.kind_at-k.ensures, eq-eqb _ _ c.if-k-len.true.0, le-leb _ _ c.if-k-len.true.1)

pub returns-else-k-len : goal.returns-else-k-len
unfolding right_length
returns-else-k-len c =
    elim c.if-len-k-eq0.branch [
      | then-len-k-eq0 w ↦
          ⊎_elim (λ h. rw (w.t-6-is, lt-leb _ _ h.1, ← c.rank.ensures, ← c.kind_at-k.ensures) (fits_short c.kind_at-k.result c.args.len h.0 h.1))
          (λ n. absurd (n w.if-len-k-eq0.true)) c.if-k-len.either
      | else-len-k-eq0 w ↦
          rw (w.t-6-is, ne_eqb _ _ w.if-len-k-eq0.false, ← c.rank.ensures, ← c.kind_at-k.ensures) (fits_broken c.kind_at-k.result c.args.len w.if-len-k-eq0.false)
    ]
