-- The query: a walk along the positions 1, 2, .. up to the position cap. Assumes nothing.
use Rattle.std.specs.Prelude.{Bool, true, false, List, [], ◌∷◌, ℕ, zero, suc, ◌+◌, ◌-◌, eqb, leb, length, Result, Ok, Err}
use Rattle.refusal.specs.Table.{name_of, Report, answered, refused}
use Rattle.refusal.specs.declared.Name.TheVariants as name
use Rattle.words.specs.Pick.{pick}
use Rattle.geometry.specs.Config.{Gated}
use Rattle.elastic_probe.specs.Phi.{Coords, gap, at, coords_of}
use Rattle.probe.specs.Word.{elastic_key_of}
use Rattle.elastic.specs.declared.state.State.{State}
use Rattle.elastic_query.specs.declared.query.Finding.{Finding}
use Rattle.elastic_query.specs.declared.query.QueryRefusal.{QueryRefusal}
use Rattle.elastic_query.specs.declared.query.QueryRefusal.TheVariants as refusal
use Rattle.elastic.specs.State.{gate_of}
use Rattle.elastic.specs.Reading.{Routed, reading_of, holds_at}

-- what a query answers
abbrev pub QueryAnswer : Type 0
QueryAnswer = Result Finding QueryRefusal

-- "a gap, or a level the table lacks": the coordinates of a position, where the table has that level
abbrev pub within : (levels : ℕ) → Coords → Coords
within levels gap = gap
within levels (at i j) = pick (leb i levels) (at i j) gap

-- ".. re-reads level 0 probe 0": the level and the probe that a position reads
abbrev pub level_of : Coords → ℕ
level_of gap = 0
level_of (at i j) = i - 1

abbrev pub probe_of : Coords → ℕ
probe_of gap = 0
probe_of (at i j) = j - 1

abbrev pub is_origin : Coords → Bool
is_origin c = eqb (level_of c + probe_of c) 0

-- what was counted, and whether level 0 probe 0 was read
pub record Tally : Type 0 where
  pub mapped : ℕ
  pub gaps : ℕ
  pub words : ℕ
  pub seen : Bool

abbrev pub nothing : Tally
nothing = record { mapped = 0; gaps = 0; words = 0; seen = false }

abbrev pub count_mapped : Coords → ℕ → ℕ
count_mapped gap n = n
count_mapped (at i j) n = n + 1

abbrev pub count_gap : Coords → ℕ → ℕ
count_gap gap n = n + 1
count_gap (at i j) n = n

-- ".. whose words count once"
abbrev pub counted : Coords → (words : ℕ) → Tally → Tally
counted c words s =
    record {
      mapped = count_mapped c s.mapped;
      gaps = count_gap c s.gaps;
      words = s.words + pick (is_origin c) (pick s.seen 0 words) words;
      seen = pick (is_origin c) true s.seen;
    }

-- a query's answer, as case I has it: position, global slot, mapped, gap, words
abbrev pub found_at : (position slot : ℕ) → Tally → QueryAnswer
found_at position slot t =
    Ok (record { position = position; global_slot = record { 0 = slot }; mapped = t.mapped; gap = t.gaps; words = t.words })

-- one position, by what its reading says: refused, at the identity, or on to the later ones
abbrev pub walk_by : (holds : ℕ → Bool) (position : ℕ) → Coords → Tally → Routed → (Tally → QueryAnswer) → QueryAnswer
walk_by holds position c s (Err range) later = Err (refusal.Range range)
walk_by holds position c s (Ok reading) later =
    pick (holds reading.slot) (found_at position reading.slot (counted c reading.words s)) (later (counted c reading.words s))

module _ (route : ℕ → ℕ → Routed) (holds : ℕ → Bool) (levels : ℕ) where
  -- "Query tries positions 1, 2, ..": so many from one on; ABSENT: "elastic query reached its position cap"
  unfoldable pub walk_of : (tries position : ℕ) → Tally → QueryAnswer
  walk_of zero position s = Err refusal.Absent
  walk_of (suc tries) position s =
      walk_by holds position (within levels (coords_of position)) s
      (route (level_of (within levels (coords_of position))) (probe_of (within levels (coords_of position))))
      (walk_of tries (position + 1))

  unfoldable pub positions_of : (cap : ℕ) → QueryAnswer
  positions_of cap = walk_of cap 1 nothing

-- the walk of an identity over all positions up to the cap
abbrev pub look_of : State → (ws fs : List ℕ) → (id : ℕ) → QueryAnswer
look_of st ws fs id =
    positions_of (reading_of st.n (elastic_key_of st.seed id) st.limits.range_word_cap) (holds_at ws fs id) st.plan.levels st.limits.hit_query_position_cap

abbrev pub query_by : Gated → State → List ℕ → List ℕ → (id : ℕ) → QueryAnswer
query_by (Err g) st ws fs id = Err (refusal.Gate g)
query_by (Ok _) st ws fs id = look_of st ws fs id

-- "Elastic query: RANGE as met, else 21", after 1 to 7
unfoldable pub query_of : State → List ℕ → List ℕ → List ℕ → (id : ℕ) → QueryAnswer
query_of st cs ws fs id = query_by (gate_of st cs (length ws) (length fs)) st ws fs id

-- number and values of an answer
unfoldable pub query_report : QueryAnswer → Report
query_report (Ok q) = answered (q.position ∷ q.global_slot.0 ∷ q.mapped ∷ q.gap ∷ q.words ∷ [])
query_report (Err (refusal.Range r)) = refused name.Range (r.words ∷ [])
query_report (Err refusal.Absent) = refused name.Absent []
query_report (Err (refusal.Gate g)) = refused (name_of g) []
