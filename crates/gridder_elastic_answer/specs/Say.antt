-- What the calls on elastic tables say in the answer block: the values of the base's report, each at its offset. Assumes nothing.
use Rattle.std.specs.Prelude.{List, [], ◌∷◌, ◌++◌, ℕ, Ok, Err}
use Rattle.elastic_steps.specs.Insert.{InsertAnswer, case_values, insert_report}
use Rattle.elastic_query.specs.Query.{QueryAnswer, query_report}
use Rattle.elastic_query.specs.declared.query.QueryRefusal.TheVariants as querying
use Rattle.elastic_steps.specs.declared.answer.Case.{Case}
use Rattle.elastic_steps.specs.declared.answer.Insertion.{Insertion}
use Rattle.elastic_steps.specs.declared.answer.InsertRefusal.{InsertRefusal}
use Rattle.elastic_steps.specs.declared.answer.InsertRefusal.TheVariants as refusal
use Rattle.gridder_answer.specs.Answer.{Field, field, probes_at, kind_at, level_at, bucket_at, within_at, slot_at, words_at}

-- ---- the offsets, beside those of funnel tables

-- the paper probe stands where funnels have their probes, the case where they have the kind of a place, the batch where they have
-- the bucket
abbrev pub position_at : ℕ
position_at = 72

abbrev pub mapped_at : ℕ
mapped_at = 80

abbrev pub gap_at : ℕ
gap_at = 88

-- the free slots of the current and of the next level, and the budget, as an insertion saw them
abbrev pub free_at : ℕ
free_at = 96

abbrev pub free_next_at : ℕ
free_next_at = 104

abbrev pub budget_at : ℕ
budget_at = 112

-- ---- values at offsets

unfoldable pub fields_at : (offsets values : List ℕ) → List Field
fields_at [] values = []
fields_at (o ∷ offsets) [] = []
fields_at (o ∷ offsets) (x ∷ values) = field o x ∷ fields_at offsets values

-- the rule that placed an identity: case, batch, free slots of both levels, budget
abbrev pub case_at : List ℕ
case_at = kind_at ∷ bucket_at ∷ free_at ∷ free_next_at ∷ budget_at ∷ []

-- level, slot in level, global slot, paper probe and phi
abbrev pub place_at : List ℕ
place_at = level_at ∷ within_at ∷ slot_at ∷ probes_at ∷ position_at ∷ []

abbrev pub refused_at : InsertRefusal → List ℕ
refused_at (refusal.Gate g) = []
refused_at (refusal.Duplicate slot) = slot_at ∷ []
refused_at refusal.Exhausted = []
refused_at refusal.Schedule = []
refused_at (refusal.Range r) = words_at ∷ []
refused_at refusal.Search = []
refused_at refusal.Position = []

abbrev pub insert_places : InsertAnswer → List ℕ
insert_places (Ok i) = case_at ++ place_at
insert_places (Err r) = refused_at r

unfoldable pub insert_fields : InsertAnswer → List Field
insert_fields a = fields_at (insert_places a) (insert_report a).values

-- position, global slot, mapped, gap and words
abbrev pub query_places : QueryAnswer → List ℕ
query_places (Ok q) = position_at ∷ slot_at ∷ mapped_at ∷ gap_at ∷ words_at ∷ []
query_places (Err (querying.Range r)) = words_at ∷ []
query_places (Err querying.Absent) = []
query_places (Err (querying.Gate g)) = []

unfoldable pub query_fields : QueryAnswer → List Field
query_fields a = fields_at (query_places a) (query_report a).values

-- ---- the parts of an insertion's answer

abbrev pub five_fields : (case batch free free_next budget : ℕ) → List Field
five_fields case batch free free_next budget =
    field kind_at case ∷ field bucket_at batch ∷ field free_at free ∷ field free_next_at free_next ∷ field budget_at budget ∷ []

unfoldable pub case_fields : Case → List Field
case_fields case = fields_at case_at (case_values case)

unfoldable pub inserted_fields : Insertion → List Field
inserted_fields i =
    case_fields i.case
    ++ (field level_at i.location.level ∷ field within_at i.location.slot_in_level.0 ∷ field slot_at i.location.global_slot.0
    ∷ field probes_at i.paper_probe.0 ∷ field position_at i.phi ∷ [])
