-- The layout of an elastic table: the lengths of its levels and the quotas of its batches. Assumes nothing.
use Rattle.std.specs.Prelude.{Result, Ok, Err, List, [], ◌∷◌, ℕ, zero, suc, ◌+◌, ◌-◌, ◌/◌, ◌^◌, ◌≤◌, ◌<◌, min, get_or, take, eqb, ltb, Bool, true, false}
use Rattle.words.specs.Log.{ceil_log2}
use Rattle.words.specs.Pick.{pick}
use Rattle.refusal.specs.Table.{name_of, Report, answered, refused}
use Rattle.geometry.specs.declared.elastic.ElasticPlan.{ElasticPlan}
use Rattle.refusal.specs.declared.Gate.{Gate}
use Rattle.geometry.specs.Config.{Gated, config_gate, maximum}

-- "each takes half of what remains, rounded up; the last takes the rest": the length of a level with `after` levels after it
unfoldable pub level_length : (after rest : ℕ) → ℕ
level_length zero rest = rest
level_length (suc after) rest = rest - rest / 2

-- the lengths of so many levels over the slots that remain
unfoldable pub split : (levels rest : ℕ) → List ℕ
split zero rest = []
split (suc after) rest = level_length after rest ∷ split after (rest - level_length after rest)

-- the length of the next level, and none where no level is left
unfoldable pub next_length : (left rest : ℕ) → ℕ
next_length zero rest = 0
next_length (suc after) rest = level_length after rest

-- "ceil(log2 n) levels"
abbrev pub levels_of : ℕ → ℕ
levels_of n = ceil_log2 n

unfoldable pub lengths_of : ℕ → List ℕ
lengths_of n = split (levels_of n) n

-- "C(L) = L - floor(L/4)"
abbrev pub ceil_three_quarters : ℕ → ℕ
ceil_three_quarters l = l - l / 4

-- "quota k is L - floor(L/2^(e+1)) - C(L) + C(L'), L the level before, L' the new one"
abbrev pub later_quota : (e before new : ℕ) → ℕ
later_quota e before new = before - before / 2 ^ (e + 1) - ceil_three_quarters before + ceil_three_quarters new

unfoldable pub later_quotas : (e before : ℕ) → List ℕ → List ℕ
later_quotas e before [] = []
later_quotas e before (new ∷ ls) = later_quota e before new ∷ later_quotas e new ls

-- the next quota of at most `spare`, and none where no level is left
unfoldable pub next_quota : (left e before new spare : ℕ) → ℕ
next_quota zero e before new spare = 0
next_quota (suc after) e before new spare = min (later_quota e before new) spare

-- "Quota 0 is C(L0)"
unfoldable pub uncut_quotas : ℕ → List ℕ → List ℕ
uncut_quotas e [] = []
uncut_quotas e (first ∷ ls) = ceil_three_quarters first ∷ later_quotas e first ls

-- "each cut to what is left of the maximum"
unfoldable pub cut : (left : ℕ) → List ℕ → List ℕ
cut left [] = []
cut left (q ∷ qs) = min q left ∷ cut (left - min q left) qs

unfoldable pub quotas_of : (n e : ℕ) → List ℕ
quotas_of n e = cut (maximum n e) (uncut_quotas e (lengths_of n))

-- the sum of a list
unfoldable pub total : List ℕ → ℕ
total [] = 0
total (x ∷ xs) = x + total xs

-- "the batch is the first whose quota prefix exceeds the count": the batches from batch b on, with so many of the count left to them
unfoldable pub batch_from : (b count : ℕ) → List ℕ → ℕ
batch_from b count [] = b
batch_from b count (q ∷ qs) = pick (ltb count q) b (batch_from (b + 1) (count - q) qs)

unfoldable pub batch_of : (n e count : ℕ) → ℕ
batch_of n e count = batch_from 0 count (quotas_of n e)

-- the same as a property
pub record IsBatch (qs : List ℕ) (count b : ℕ) : Type 0 where
  pub exceeds : count < total (take (suc b) qs)
  pub first : (j : ℕ) → j < b → total (take (suc j) qs) ≤ count

-- a list in an array of k entries, zeros behind it
unfoldable pub padded : ℕ → List ℕ → List ℕ
padded zero xs = []
padded (suc k) [] = 0 ∷ padded k []
padded (suc k) (x ∷ xs) = x ∷ padded k xs

abbrev pub both : Bool → Bool → Bool
both true b = b
both false b = false

-- the length of a level and the first slot of it
abbrev pub length_at : (n level : ℕ) → ℕ
length_at n level = get_or (lengths_of n) level 0

abbrev pub offset_at : (n level : ℕ) → ℕ
offset_at n level = total (take level (lengths_of n))

-- what a call leaves: its answer, and both arrays
pub record Laid : Type 0 where
  pub answer : Result ElasticPlan Gate
  pub lengths : List ℕ
  pub quotas : List ℕ

abbrev pub laid : Result ElasticPlan Gate → List ℕ → List ℕ → Laid
laid answer lengths quotas = record { answer = answer; lengths = lengths; quotas = quotas }

-- the plan of n and e
abbrev pub plan_of : (n e : ℕ) → ElasticPlan
plan_of n e = record { levels = levels_of n; maximum = maximum n e }

-- refusals 1 to 3 leave the arrays as they were; a plan fills both, with zeros past the last level
unfoldable pub lay_by : Gated → (n e : ℕ) → List ℕ → List ℕ → Laid
lay_by (Err gate) n e ls qs = laid (Err gate) ls qs
lay_by (Ok _) n e ls qs = laid (Ok (plan_of n e)) (padded 32 (lengths_of n)) (padded 32 (quotas_of n e))

unfoldable pub elastic_plan_of : (n e : ℕ) → List ℕ → List ℕ → Laid
elastic_plan_of n e ls qs = lay_by (config_gate n e) n e ls qs

-- number and values of an answer
unfoldable pub planned_report : Result ElasticPlan Gate → Report
planned_report (Ok p) = answered (p.levels ∷ p.maximum ∷ [])
planned_report (Err gate) = refused (name_of gate) []

-- "plan not that of n and e": whether every number of a plan is that of n and e
unfoldable pub is_plan_of : (n e : ℕ) → ElasticPlan → Bool
is_plan_of n e p = both (eqb p.levels (levels_of n)) (eqb p.maximum (maximum n e))
