-- The scan for DIRTY: "smallest such slot". Assumes nothing.
use Rattle.std.specs.Prelude.{Result, Ok, Err, List, ℕ, zero, suc, ◌+◌, length, get_or, eqb}
use Rattle.words.specs.Pick.{pick}
use Rattle.funnel.specs.Dirty.{dirty_at}

-- the smallest dirty one of k slots from slot s on; if there is none, `count` and the number of occupied ones
unfoldable pub scan_from : List ℕ → List ℕ → ℕ → ℕ → ℕ → Result ℕ ℕ
scan_from words flags s zero count = Ok count
scan_from words flags s (suc k) count =
    pick (dirty_at words flags s) (Err s)
    (scan_from words flags (suc s) k (pick (eqb (get_or flags s 0) 0) count (count + 1)))

-- of a whole table
unfoldable pub scan_of : List ℕ → List ℕ → Result ℕ ℕ
scan_of words flags = scan_from words flags 0 (length flags) 0
