-- A table over time: a fresh one, the one after some insertions, and what it is that a table is sound. Assumes nothing.
use Rattle.std.specs.Prelude.{List, [], ◌∷◌, ◌≡◌, ℕ, ◌+◌, ◌≤◌, eqb, get_or, replicate, Ok, Err}
use Rattle.words.specs.Pick.{pick}
use Rattle.geometry.specs.declared.funnel.FunnelPlan.{FunnelPlan}
use Rattle.funnel.specs.declared.table.FunnelTable.{FunnelTable}
use Rattle.funnel.specs.Insert.{Insertion, insert_of}
use Rattle.funnel.specs.Valid.{Valid}

-- a state with its two buffers
pub record State : Type 0 where
  pub table : FunnelTable
  pub words : List ℕ
  pub flags : List ℕ

-- "Opening zeroes both; that is a fresh table"
abbrev pub fresh : (n e seed cap : ℕ) → FunnelPlan → State
fresh n e seed cap plan =
    record
    { table = record { n = n; e = e; seed = seed; word_cap = cap; count = 0; plan = plan }; words = replicate n 0; flags = replicate n 0 }

-- the answer to an insertion, and the state after it
abbrev pub answer_of : List ℕ → State → ℕ → Insertion
answer_of counts state identity = (insert_of state.table counts state.words state.flags identity).answer

abbrev pub next : List ℕ → State → ℕ → State
next counts state identity =
    record {
      table = (insert_of state.table counts state.words state.flags identity).table;
      words = (insert_of state.table counts state.words state.flags identity).words;
      flags = (insert_of state.table counts state.words state.flags identity).flags;
    }

-- the state after the insertions of a list, one after the other
unfoldable pub after : List ℕ → State → List ℕ → State
after counts state [] = state
after counts state (identity ∷ identities) = after counts (next counts state identity) identities

-- how many of them are answered as inserted
abbrev pub counted : Insertion → ℕ → ℕ
counted (Ok put) n = n + 1
counted (Err refusal) n = n

unfoldable pub inserted_of : List ℕ → State → List ℕ → ℕ
inserted_of counts state [] = 0
inserted_of counts state (identity ∷ identities) = counted (answer_of counts state identity) (inserted_of counts (next counts state identity) identities)

-- how many flags are set
unfoldable pub occupied : List ℕ → ℕ
occupied [] = 0
occupied (flag ∷ flags) = pick (eqb flag 0) 0 1 + occupied flags

pub record Sound (counts : List ℕ) (state : State) : Type 0 where
  pub valid : Valid state.table counts state.words state.flags
  -- the count is the number of occupied flags
  pub counts_occupied : state.table.count ≡ occupied state.flags
  -- all flags are 0 or 1
  pub flags_small : (i : ℕ) → get_or state.flags i 0 ≤ 1
  -- vacant words are 0
  pub vacant_zero : (i : ℕ) → get_or state.flags i 0 ≡ 0 → get_or state.words i 0 ≡ 0
