-- The insertion: the choice of a slot, and what is written. Assumes nothing.
use Rattle.std.specs.Prelude.{Bool, true, false, List, [], ◌∷◌, ◌++◌, ℕ, zero, suc, ◌+◌, ◌-◌, ◌/◌, ◌^◌, ◌≤◌, ◌<◌, ltb, leb, length, get_or, set, Some, None, Result, Ok, Err}
use Rattle.refusal.specs.Table.{name_of, Report, answered, refused}
use Rattle.refusal.specs.declared.Name.TheVariants as name
use Rattle.words.specs.Pick.{pick}
use Rattle.words.specs.declared.place.LogicalProbe.{LogicalProbe}
use Rattle.geometry.specs.Elastic.{length_at, offset_at, batch_of}
use Rattle.elastic_probe.specs.Budget.{probes_of}
use Rattle.elastic_probe.specs.Phi.{phi}
use Rattle.probe.specs.Word.{elastic_key_of}
use Rattle.elastic.specs.declared.state.State.{State}
use Rattle.elastic_steps.specs.declared.answer.Case.{Case}
use Rattle.elastic_steps.specs.declared.answer.Case.TheVariants.{Batch0, Case1, Case2, Case3}
use Rattle.elastic_steps.specs.declared.answer.Insertion.{Insertion}
use Rattle.elastic_steps.specs.declared.answer.InsertRefusal.{InsertRefusal}
use Rattle.elastic_steps.specs.declared.answer.InsertRefusal.TheVariants as refusal
use Rattle.elastic_steps.specs.declared.answer.Choice.{Choice}
use Rattle.elastic.specs.State.{gate_of}
use Rattle.elastic.specs.Reading.{Sought, Located, seek_of, first_of}
use Rattle.geometry.specs.Config.{Gated}

-- what an insertion answers
abbrev pub InsertAnswer : Type 0
InsertAnswer = Result Insertion InsertRefusal

-- ---- the choice of a slot

-- the slot that the steps choose, before its position is held against the cap
abbrev pub choice : Case → (level slot : ℕ) → LogicalProbe → Choice
choice case level slot probe = record { case = case; level = level; slot = slot; probe = probe }

abbrev pub Chosen : Type 0
Chosen = Result Choice InsertRefusal

-- a uniform search of a level takes its vacancy; SEARCH: "uniform-search cap used up"
abbrev pub uniform_by : Case → (level : ℕ) → Sought → Chosen
uniform_by case level (Ok (Some vacant)) = Ok (choice case level vacant.slot vacant.probe)
uniform_by case level (Ok None) = Err refusal.Search
uniform_by case level (Err r) = Err (refusal.Range r)

unfoldable pub uniform_of : (n key cap : ℕ) → List ℕ → (tries : ℕ) → Case → (level : ℕ) → Chosen
uniform_of n key cap fs tries case level = uniform_by case level (seek_of n key cap fs level tries)

-- "budget probes in current, then next uniformly"
abbrev pub budgeted_by : Case → (level : ℕ) → Sought → Chosen → Chosen
budgeted_by case level (Ok (Some vacant)) later = Ok (choice case level vacant.slot vacant.probe)
budgeted_by case level (Ok None) later = later
budgeted_by case level (Err r) later = Err (refusal.Range r)

unfoldable pub budgeted_of : (n key cap : ℕ) → List ℕ → (tries budget : ℕ) → Case → (current next : ℕ) → Chosen
budgeted_of n key cap fs tries budget case current next =
    budgeted_by case current (seek_of n key cap fs current budget) (uniform_of n key cap fs tries case next)

-- the slots of a level that are not counted as taken
abbrev pub free_at : (n : ℕ) → List ℕ → (level : ℕ) → ℕ
free_at n cs level = length_at n level - get_or cs level 0

-- "low means free <= floor(L/2^(e+1)), and free <= floor(L/4)"
abbrev pub current_low : (e length free : ℕ) → Bool
current_low e length free = leb free (length / 2 ^ (e + 1))

abbrev pub next_low : (length free : ℕ) → Bool
next_low length free = leb free (length / 4)

-- SCHEDULE: "both active elastic levels low"; "Current low: next. Next low: current. Else budget probes in current, then next uniformly"
unfoldable pub pair_by : (low_current low_next : Bool) → (both only_current only_next neither : Chosen) → Chosen
pair_by true true both only_current only_next neither = both
pair_by true false both only_current only_next neither = only_current
pair_by false true both only_current only_next neither = only_next
pair_by false false both only_current only_next neither = neither

-- "Batch b has current b-1, next b"
unfoldable pub pair_of : State → (key : ℕ) → List ℕ → List ℕ → (current : ℕ) → Chosen
pair_of st key cs fs current =
    let n = st.n in
    let cap = st.limits.range_word_cap in
    let tries = st.limits.uniform_search_probe_cap in
    let free = free_at n cs current in
    let free_next = free_at n cs (current + 1) in
    let budget = probes_of free (length_at n current) st.e st.limits.probe_budget_c in
    pair_by (current_low st.e (length_at n current) free) (next_low (length_at n (current + 1)) free_next)
    (Err refusal.Schedule)
    (uniform_of n key cap fs tries (Case2 (current + 1) current (current + 1) free free_next) (current + 1))
    (uniform_of n key cap fs tries (Case3 (current + 1) current (current + 1) free free_next) current)
    (budgeted_of n key cap fs tries budget (Case1 (current + 1) current (current + 1) free free_next budget) current (current + 1))

-- "Batch 0 searches level 0 uniformly"
unfoldable pub steps_of : State → (key : ℕ) → List ℕ → List ℕ → (batch : ℕ) → Chosen
steps_of st key cs fs zero = uniform_of st.n key st.limits.range_word_cap fs st.limits.uniform_search_probe_cap (Batch0 0) 0
steps_of st key cs fs (suc current) = pair_of st key cs fs current

-- EXHAUSTED: "count at least n minus floor(n/2^e)"; "the batch is the first whose quota prefix exceeds the count"
abbrev pub choose_by : State → (id : ℕ) → List ℕ → List ℕ → Located → Chosen
choose_by st id cs fs (Some slot) = Err (refusal.Duplicate (record { 0 = slot }))
choose_by st id cs fs None =
    pick (leb st.plan.maximum st.count) (Err refusal.Exhausted)
    (steps_of st (elastic_key_of st.seed id) cs fs (batch_of st.n st.e st.count))

-- "Elastic insert: 15, 16, 17, then RANGE or SEARCH as the steps meet them"
unfoldable pub choose_of : State → List ℕ → List ℕ → List ℕ → (id : ℕ) → Chosen
choose_of st cs ws fs id = choose_by st id cs fs (first_of ws fs id)

-- ---- what is written

-- what an insertion leaves: its answer, the state, and the three lent lists
pub record Done : Type 0 where
  pub answer : InsertAnswer
  pub st : State
  pub counts : List ℕ
  pub words : List ℕ
  pub flags : List ℕ

abbrev pub done : InsertAnswer → State → List ℕ → List ℕ → List ℕ → Done
done answer st cs ws fs = record { answer = answer; st = st; counts = cs; words = ws; flags = fs }

-- one member more
abbrev pub counted : State → State
counted st = record { n = st.n; e = st.e; seed = st.seed; limits = st.limits; plan = st.plan; count = st.count + 1 }

-- one member more in a level
abbrev pub added_to : List ℕ → (level : ℕ) → List ℕ
added_to cs level = set cs level (get_or cs level 0 + 1)

-- a level whose count can be stepped
pub record Storable (cs : List ℕ) (level : ℕ) : Type 0 where
  pub few : level < 32
  pub low : get_or cs level 0 ≤ 4294967296

-- a slot of a level that starts at `offset`; paper probes count from 1
abbrev pub taken_at : Case → (level slot offset : ℕ) → LogicalProbe → (position : ℕ) → Insertion
taken_at case level slot offset probe position =
    record {
      case = case;
      location = record { level = level; slot_in_level = record { 0 = slot - offset }; global_slot = record { 0 = slot } };
      paper_probe = record { 0 = probe.0 + 1 };
      phi = position;
    }

-- levels count from 1 in phi
abbrev pub insertion_of : (n : ℕ) → Case → (level slot : ℕ) → LogicalProbe → Insertion
insertion_of n case level slot probe = taken_at case level slot (offset_at n level) probe (phi (level + 1) (probe.0 + 1))

-- "then 19", POSITION: "chosen phi above the position cap"; "an insertion writes 1"
unfoldable pub place_by : State → List ℕ → List ℕ → List ℕ → (id : ℕ) → Chosen → Done
place_by st cs ws fs id (Err r) = done (Err r) st cs ws fs
place_by st cs ws fs id (Ok chosen) =
    pick (ltb st.limits.hit_query_position_cap (phi (chosen.level + 1) (chosen.probe.0 + 1)))
    (done (Err refusal.Position) st cs ws fs)
    (done (Ok (insertion_of st.n chosen.case chosen.level chosen.slot chosen.probe)) (counted st) (added_to cs chosen.level) (set ws chosen.slot id) (set fs chosen.slot 1))

abbrev pub insert_by : Gated → State → List ℕ → List ℕ → List ℕ → (id : ℕ) → Done
insert_by (Err g) st cs ws fs id = done (Err (refusal.Gate g)) st cs ws fs
insert_by (Ok _) st cs ws fs id = place_by st cs ws fs id (choose_of st cs ws fs id)

unfoldable pub insert_of : State → List ℕ → List ℕ → List ℕ → (id : ℕ) → Done
insert_of st cs ws fs id = insert_by (gate_of st cs (length ws) (length fs)) st cs ws fs id

-- ---- number and values of an answer

abbrev pub case_values : Case → List ℕ
case_values (Batch0 level) = 0 ∷ 0 ∷ 0 ∷ 0 ∷ 0 ∷ []
case_values (Case1 batch current next free free_next budget) = 1 ∷ batch ∷ free ∷ free_next ∷ budget ∷ []
case_values (Case2 batch current next free free_next) = 2 ∷ batch ∷ free ∷ free_next ∷ 0 ∷ []
case_values (Case3 batch current next free free_next) = 3 ∷ batch ∷ free ∷ free_next ∷ 0 ∷ []

unfoldable pub refusal_report : InsertRefusal → Report
refusal_report (refusal.Gate g) = refused (name_of g) []
refusal_report (refusal.Duplicate slot) = refused name.Duplicate (slot.0 ∷ [])
refusal_report refusal.Exhausted = refused name.Exhausted []
refusal_report refusal.Schedule = refused name.Schedule []
refusal_report (refusal.Range r) = refused name.Range (r.words ∷ [])
refusal_report refusal.Search = refused name.Search []
refusal_report refusal.Position = refused name.Position []

-- an insertion by its case, level, slot in level, global slot, paper probe and phi
unfoldable pub insert_report : InsertAnswer → Report
insert_report (Ok i) =
    answered
    (case_values i.case
    ++ (i.location.level ∷ i.location.slot_in_level.0 ∷ i.location.global_slot.0 ∷ i.paper_probe.0 ∷ i.phi ∷ []))
insert_report (Err r) = refusal_report r
