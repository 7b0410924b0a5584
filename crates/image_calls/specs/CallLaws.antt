-- Laws of the public calls: the writer's gate, and what each call comes to behind its gate. Assumes nothing.
use Rattle.std.specs.Prelude.{Ok, Err, Bool, true, false, List, ◌≡◌, refl, ℕ, ◌<◌, ◌≤◌, eqb, ltb, length}
use Rattle.std.proofs.Common.{sym, ◌∙◌, arith, lt-ltb, le-ltb, ltb-true, ltb-false}
use Rattle.refusal.specs.declared.Gate.{Gate}
use Rattle.refusal.specs.declared.Gate.TheVariants as gate
use Rattle.geometry.specs.Config.{Gated, refuse_if}
use Rattle.geometry.specs.FunnelGate.{funnel_gate}
use Rattle.funnel.specs.CallLaws.{gate_valid}
use Rattle.funnel.specs.Calls.{gate_then, limits_then, table_gate}
use Rattle.funnel.specs.Valid.{Valid}
use Rattle.funnel.specs.declared.table.FunnelTable.{FunnelTable}
use Rattle.image_calls.specs.Calls.{write_gate, write_image_of, LoadImageAnswer, loadings, loaded_of, load_image_of}
use Rattle.image.specs.Format.{label_most}
use Rattle.image_calls.specs.Loading.{LoadAnswer, loads, load_of}
use Rattle.image.specs.TestLaws.{cases}
use Rattle.image_writer.specs.Writing.{Writes, writes, head_of, write_of}
use Rattle.image_calls.specs.declared.calls.LoadImageRefusal.TheVariants as loading
use Rattle.image_writer.specs.declared.writer.WriteRefusal.TheVariants as write_refusal

-- ---- the writer's gate

-- where the later tests refuse by LIMITS, so do the caps and they together
limits_limits : (cap : ℕ) → limits_then cap (Err gate.Limits) ≡ Err gate.Limits
unfolding limits_then
limits_limits cap = go (eqb cap 0) (ltb 256 cap)
  where
    go : (x y : Bool) → refuse_if x gate.Limits (refuse_if y gate.Limits (Err gate.Limits)) ≡ Err gate.Limits
    go true y = refl
    go false true = refl
    go false false = refl

module _ (table : FunnelTable) (counts : List ℕ) (words flags label : ℕ) where
  -- a label that is short enough plays no part
  pub gate_short : label ≤ label_most → table_gate table counts words flags ≡ write_gate table counts words flags label
  unfolding table_gate write_gate
  gate_short l = rw (le-ltb _ _ l)

  -- one that is too long is told after 1 to 5 and before 7
  gate_long : label_most < label → write_gate table counts words flags label ≡ gate_then (funnel_gate table.n table.e) (Err gate.Limits)
  unfolding write_gate
  gate_long l = rw (lt-ltb _ _ l, limits_limits)

  pub gate_long_refused : label_most < label → (g : Gate) → funnel_gate table.n table.e ≡ Err g → Err g ≡ write_gate table counts words flags label
  gate_long_refused l g h = sym (gate_long l ∙ rw h)

  pub gate_long_passed : label_most < label → funnel_gate table.n table.e ≡ Ok tt → Err gate.Limits ≡ write_gate table counts words flags label
  gate_long_passed l h = sym (gate_long l ∙ rw h)

-- so it never passes
never_passed : (g : Gated) → gate_then g (Err gate.Limits) ≡ Ok tt → ⊥
never_passed (Ok _) h = let o : ◌≡◌ {A = ℕ} 0 1 = cc in omega arith
never_passed (Err x) h = let o : ◌≡◌ {A = ℕ} 0 1 = cc in omega arith

-- a table and a label that pass
pub record Writable (table : FunnelTable) (counts words flags label : List ℕ) : Type 0 where
  pub valid : Valid table counts words flags
  pub short : length label ≤ label_most

pub gate_writable : (table : FunnelTable) (counts words flags label : List ℕ) → write_gate table counts (length words) (length flags) (length label) ≡ Ok tt → Writable table counts words flags label
gate_writable table counts words flags label h =
    cases (ltb label_most (length label))
    (λ t. let l : label_most < length label = ltb-true _ _ t in
    absurd (never_passed (funnel_gate table.n table.e) (sym (gate_long table counts (length words) (length flags) (length label) l) ∙ h)))
    (λ f. let l : length label ≤ label_most = ltb-false _ _ f in
    record { valid = gate_valid table counts words flags (gate_short table counts (length words) (length flags) (length label) l ∙ h); short = l })

-- ---- what the calls come to

module _ (table : FunnelTable) (counts words flags label out : List ℕ) where
  pub write_refused : (g : Gate) → write_gate table counts (length words) (length flags) (length label) ≡ Err g → writes (Err (write_refusal.Gate g)) out ≡ write_image_of table counts words flags label out
  unfolding write_image_of
  write_refused g h = rw h

  pub write_passed : write_gate table counts (length words) (length flags) (length label) ≡ Ok tt
      → (w : Writes) → w ≡ write_of (head_of table) label words flags out → w ≡ write_image_of table counts words flags label out
  unfolding write_image_of
  write_passed h w e = e ∙ rw h

module _ (table : FunnelTable) (counts words flags image : List ℕ) where
  pub load_refused : (g : Gate) → table_gate table counts (length words) (length flags) ≡ Err g → loadings (Err (loading.Gate g)) words flags ≡ load_image_of table counts words flags image
  unfolding load_image_of
  load_refused g h = rw h

  pub load_passed : table_gate table counts (length words) (length flags) ≡ Ok tt
      → (r : LoadImageAnswer) (f : LoadAnswer) (words' flags' : List ℕ) → r ≡ loaded_of table f → loads f words' flags' ≡ load_of (head_of table) words flags image
      → loadings r words' flags' ≡ load_image_of table counts words flags image
  unfolding load_image_of
  load_passed h r f words' flags' a e = rw (h, ← e, a)
