-- The order in which the check takes the members of an image: the smallest slot that is ready, again and again. Assumes nothing.
use Rattle.std.specs.Prelude.{Bool, false, List, ℕ, zero, suc, ◌+◌, get_or, set, eqb, Option, Some, None, Ok, Err}
use Rattle.words.specs.Pick.{pick}
use Rattle.funnel.specs.declared.table.FunnelTable.{FunnelTable}
use Rattle.funnel.specs.declared.table.Search.{Search}
use Rattle.funnel.specs.declared.table.Search.TheVariants as search
use Rattle.funnel.specs.Path.{slot_of}
use Rattle.funnel.specs.Insert.{Insertion, with_count, insert_of}

-- a slot, where there is one
abbrev pub First : Type 0
First = Option ℕ

-- the smallest of k slots from one on that passes a test
unfoldable pub first_from : (ℕ → Bool) → (slot k : ℕ) → First
first_from test slot zero = None
first_from test slot (suc k) = pick (test slot) (Some slot) (first_from test (suc slot) k)

-- an "unplaced occupied slot": its flag is set and its mark is not
unfoldable pub unplaced : (flags marks : List ℕ) → ℕ → Bool
unplaced flags marks slot = pick (eqb (get_or flags slot 0) 0) false (eqb (get_or marks slot 0) 0)

-- "answered as inserted at that very slot"
abbrev pub inserted_at : ℕ → Insertion → Bool
inserted_at slot (Ok put) = eqb (slot_of put.place) slot
inserted_at slot (Err refusal) = false

-- the answer to an insertion into the placed part: this is a table with the image's words, the marks for flags, and the number
-- placed for its count ("the placed part's counts are those of its own slots")
abbrev pub into_placed : FunnelTable → (counts words marks : List ℕ) (placed identity : ℕ) → Insertion
into_placed table counts words marks placed identity = (insert_of (with_count table placed) counts words marks identity).answer

-- an "unplaced occupied slot whose identity's insertion into the placed part is answered as inserted at that very slot"
unfoldable pub ready : FunnelTable → (counts words flags marks : List ℕ) (placed slot : ℕ) → Bool
ready table counts words flags marks placed slot =
    pick (unplaced flags marks slot) (inserted_at slot (into_placed table counts words marks placed (get_or words slot 0))) false

-- whether a search ended vacant at a slot: with room for one more, this is readiness
abbrev pub vacant_at : ℕ → Search → Bool
vacant_at slot (search.Hit probes place) = false
vacant_at slot (search.Vacant probes place) = eqb (slot_of place) slot
vacant_at slot (search.Full probes) = false
vacant_at slot (search.Range refusal) = false

-- what has been taken: the marks, the order so far, and how many
pub record Taken : Type 0 where
  pub marks : List ℕ
  pub order : List ℕ
  pub placed : ℕ

abbrev pub taken : (marks order : List ℕ) (placed : ℕ) → Taken
taken marks order placed = record { marks = marks; order = order; placed = placed }

abbrev pub by_first : First → Taken → (ℕ → Taken) → Taken
by_first None stop next = stop
by_first (Some slot) stop next = next slot

-- "it takes, again and again, the smallest": at most `turns` times, among the first n slots
unfoldable pub greedy_of : FunnelTable → (counts words flags : List ℕ) (n turns : ℕ) (marks order : List ℕ) (placed : ℕ) → Taken
greedy_of table counts words flags n zero marks order placed = taken marks order placed
greedy_of table counts words flags n (suc turns) marks order placed =
    by_first (first_from (ready table counts words flags marks placed) 0 n) (taken marks order placed)
    (λ slot. greedy_of table counts words flags n turns (set marks slot 1) (set order placed slot) (placed + 1))
