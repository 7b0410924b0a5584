-- What names a table: n, e and seed. Assumes nothing.
use Rattle.std.specs.Prelude.{Bool, false, ℕ, eqb}
use Rattle.words.specs.Pick.{pick}
use Rattle.image.specs.declared.head.Head.{Head}

abbrev pub headed : ℕ → ℕ → ℕ → Head
headed n e seed = record { n = n; e = e; seed = seed }

-- before the first field
abbrev pub unnamed : Head
unnamed = headed 0 0 0

-- FOREIGN: "image's n, e or seed not the table's"
unfoldable pub same_head : Head → Head → Bool
same_head a b = pick (eqb a.n b.n) (pick (eqb a.e b.e) (eqb a.seed b.seed) false) false
