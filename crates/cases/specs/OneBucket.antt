-- The funnel table of 144 slots and reserve 1/8, in which every level is one bucket: its ordinary places, what it holds after
-- some insertions, and what 01 says of it. Assumes nothing.
use Rattle.std.specs.Prelude.{List, [], ◌∷◌, ◌++◌, ◌≡◌, ℕ, zero, suc, ◌+◌, ◌-◌, ◌/◌, ◌%◌, ◌≤◌, ◌<◌, length, get_or, replicate, Ok, Err}
use Rattle.words.specs.declared.place.Place.{Place}
use Rattle.words.specs.declared.place.Place.TheVariants as place
use Rattle.refusal.specs.Table.{Report, answered, refused}
use Rattle.refusal.specs.declared.Name.TheVariants as name
use Rattle.funnel.specs.declared.table.FunnelTable.{FunnelTable}
use Rattle.funnel.specs.Calls.{InsertAnswer, Insertions, insert_answer_of, inserted_report, place_values}
use Rattle.funnel.specs.Fresh.{State, fresh}
use Rattle.funnel.specs.OneBucket.{plan, counts, table}
use Rattle.audit_calls.specs.Check.{Ended, report_of}

-- vacant slots: their words, or their flags
abbrev pub zeros : ℕ → List ℕ
zeros n = replicate n 0

-- the place of an ordinary slot
abbrev pub ordinary : ℕ → Place
ordinary k = place.Ordinary (k / 6) 0 (k % 6) (record { 0 = k })

-- some of them, from one on
unfoldable pub ordinaries : (from k : ℕ) → List Place
ordinaries from zero = []
ordinaries from (suc k) = ordinary from ∷ ordinaries (suc from) k

-- ---- the public insertion, again and again

-- the table after a call
abbrev pub table_after : FunnelTable → InsertAnswer → FunnelTable
table_after t (Err g) = t
table_after t (Ok step) = step.table

abbrev pub called : State → ℕ → Insertions
called s identity = insert_answer_of s.table counts s.words s.flags identity

abbrev pub state_after : FunnelTable → Insertions → State
state_after t i = record { table = table_after t i.answer; words = i.words; flags = i.flags }

-- the state after the calls with the identities of a list
unfoldable pub calls_of : State → List ℕ → State
calls_of s [] = s
calls_of s (identity ∷ identities) = calls_of (state_after s.table (called s identity)) identities

abbrev pub opened : (seed cap : ℕ) → State
opened seed cap = fresh 144 3 seed cap plan

-- what such a call reports
abbrev pub report_at : State → ℕ → Report
report_at s identity = inserted_report (called s identity).answer

-- ---- case J

pub record Distinct (identities : List ℕ) : Type 0 where
  pub apart : (i j : ℕ) → i < j → j < length identities → get_or identities i 0 ≡ get_or identities j 0 → ⊥

pub record Other (identities : List ℕ) (identity : ℕ) : Type 0 where
  pub none : (i : ℕ) → i < length identities → get_or identities i 0 ≡ identity → ⊥

-- some identities in slots 0, 1, .. in turn, and nothing else
abbrev pub held : (seed cap : ℕ) → List ℕ → State
held seed cap identities =
    record {
      table = table seed cap (length identities);
      words = identities ++ zeros (144 - length identities);
      flags = replicate (length identities) 1 ++ zeros (144 - length identities);
    }

-- what is answered after some distinct identities, at most 126 of them
pub record Fills (seed cap : ℕ) (identities : List ℕ) : Type 0 where
  -- "distinct identities fill slots 0 to 125 in turn"
  pub holds : calls_of (opened seed cap) identities ≡ held seed cap identities
  -- ".. with probes 1 to 126": one more is answered as inserted at the next slot, the probes first
  pub next : (identity : ℕ) → Other identities identity → length identities < 126
      → report_at (calls_of (opened seed cap) identities) identity ≡ answered ((length identities + 1) ∷ place_values (ordinary (length identities)))
  -- "the next is EXHAUSTED", after the probes of its search
  pub spent : (identity : ℕ) → Other identities identity → length identities ≡ 126
      → report_at (calls_of (opened seed cap) identities) identity ≡ refused name.Exhausted (127 ∷ [])
  -- "a member DUPLICATE", with its probes and its place
  pub member : (i : ℕ) → i < length identities
      → report_at (calls_of (opened seed cap) identities) (get_or identities i 0) ≡ refused name.Duplicate ((i + 1) ∷ place_values (ordinary i))

-- ---- cases K to M

-- what the tests 6 and 7 ask of a check of this table, beside its plan and two buffers of 144
pub record Given (cap count : ℕ) (marks order : List ℕ) : Type 0 where
  -- "Funnel word cap 1 to 256"
  pub cap_least : 1 ≤ cap
  pub cap_most : cap ≤ 256
  pub counted : count ≤ 144
  pub marks_n : length marks ≡ 144
  pub order_n : length order ≡ 144

-- what a check reports, and what it leaves in marks and order
abbrev pub Ends : Ended → Report → (marks order : List ℕ) → Type 0
Ends e report marks order = (report_of e.answer ≡ report) × (e.marks ≡ marks) × (e.order ≡ order)
