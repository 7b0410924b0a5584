-- DIRTY: what no insertion leaves in a slot. Assumes nothing.
use Rattle.std.specs.Prelude.{Bool, true, false, List, ℕ, get_or, eqb, ltb}
use Rattle.words.specs.Pick.{pick}

-- "flag above 1, or vacant slot with nonzero word"
unfoldable pub dirty_at : (words flags : List ℕ) → ℕ → Bool
dirty_at words flags slot = pick (eqb (get_or flags slot 0) 0) (pick (eqb (get_or words slot 0) 0) false true) (ltb 1 (get_or flags slot 0))
