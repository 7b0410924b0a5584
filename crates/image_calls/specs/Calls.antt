-- The public calls: the writer's gate, what each call answers and leaves, and what it reports. Assumes nothing.
use Rattle.std.specs.Prelude.{Result, Ok, Err, not, List, [], ◌∷◌, ℕ, ltb, length}
use Rattle.refusal.specs.Table.{name_of, Report, answered, refused}
use Rattle.refusal.specs.declared.Gate.TheVariants as gate
use Rattle.refusal.specs.declared.Name.TheVariants as name
use Rattle.geometry.specs.Config.{Gated, refuse_if}
use Rattle.geometry.specs.FunnelGate.{funnel_gate, is_plan}
use Rattle.funnel.specs.Calls.{gate_then, limits_then, lengths_then, table_gate}
use Rattle.funnel.specs.Insert.{with_count}
use Rattle.funnel.specs.declared.table.FunnelTable.{FunnelTable}
use Rattle.image.specs.Format.{label_most}
use Rattle.image_calls.specs.Loading.{LoadAnswer, Loads, load_of}
use Rattle.image_writer.specs.Writing.{Written, Writes, writes, head_of, write_of}
use Rattle.image_calls.specs.declared.calls.Loaded.{Loaded}
use Rattle.image_calls.specs.declared.calls.LoadImageRefusal.{LoadImageRefusal}
use Rattle.image_calls.specs.declared.calls.LoadImageRefusal.TheVariants as loading
use Rattle.image_calls.specs.declared.loader.LoadRefusal.TheVariants as refusal
use Rattle.image_writer.specs.declared.writer.WriteRefusal.TheVariants as write_refusal

-- ---- the writer

-- the tests 1 to 7 of a table, with LIMITS (6): ".. or label over 64 bytes"
unfoldable pub write_gate : FunnelTable → List ℕ → (words flags label : ℕ) → Gated
write_gate table counts words flags label =
    gate_then (funnel_gate table.n table.e)
    (limits_then table.word_cap
    (refuse_if (ltb label_most label) gate.Limits
    (lengths_then table.n words flags
    (refuse_if (ltb table.n table.count) gate.State
    (refuse_if (not (is_plan table.n table.e table.plan counts)) gate.State (Ok tt))))))

-- a refusal leaves the output as on entry
abbrev pub write_by : Gated → List ℕ → Writes → Writes
write_by (Err g) out w = writes (Err (write_refusal.Gate g)) out
write_by (Ok _) out w = w

unfoldable pub write_image_of : FunnelTable → (counts words flags label out : List ℕ) → Writes
write_image_of table counts words flags label out =
    write_by (write_gate table counts (length words) (length flags) (length label)) out (write_of (head_of table) label words flags out)

-- ---- the loader

-- what is loaded
abbrev pub loaded : FunnelTable → (label_at label_len : ℕ) → Loaded
loaded table label_at label_len = record { table = table; label_at = label_at; label_len = label_len }

-- that, or why nothing is
abbrev pub LoadImageAnswer : Type 0
LoadImageAnswer = Result Loaded LoadImageRefusal

-- an answer, with words and flags as the call leaves them
pub record Loadings : Type 0 where
  pub answer : LoadImageAnswer
  pub words : List ℕ
  pub flags : List ℕ

abbrev pub loadings : LoadImageAnswer → (words flags : List ℕ) → Loadings
loadings answer words flags = record { answer = answer; words = words; flags = flags }

-- "sets the count from 6, and answers the offset and length of the label's body"
unfoldable pub loaded_of : FunnelTable → LoadAnswer → LoadImageAnswer
loaded_of table (Err r) = Err (loading.Load r)
loaded_of table (Ok f) = Ok (loaded (with_count table f.count) f.label_at f.label_len)

-- a refusal leaves the table, words and flags as on entry
abbrev pub load_by : Gated → FunnelTable → (words flags : List ℕ) → Loads → Loadings
load_by (Err g) table words flags l = loadings (Err (loading.Gate g)) words flags
load_by (Ok _) table words flags l = loadings (loaded_of table l.answer) l.words l.flags

unfoldable pub load_image_of : FunnelTable → (counts words flags image : List ℕ) → Loadings
load_image_of table counts words flags image =
    load_by (table_gate table counts (length words) (length flags)) table words flags (load_of (head_of table) words flags image)

-- ---- what they report: this paper's number, 0 where there is none, and the values

abbrev pub written_report : Written → Report
written_report (Err (write_refusal.Gate g)) = refused (name_of g) []
written_report (Err (write_refusal.Dirty slot)) = refused name.Dirty (slot.0 ∷ [])
written_report (Err (write_refusal.Room need)) = refused name.Room []
written_report (Ok len) = answered (len ∷ [])

abbrev pub loaded_report : LoadImageAnswer → Report
loaded_report (Err (loading.Gate g)) = refused (name_of g) []
loaded_report (Err (loading.Load (refusal.Image place))) = refused name.Image (place ∷ [])
loaded_report (Err (loading.Load refusal.Foreign)) = refused name.Foreign []
loaded_report (Ok l) = answered (l.label_at ∷ l.label_len ∷ [])
