-- A count above n is STATE, behind the tests 1 to 6, whatever the lengths of the buffers. Assumes nothing.
use Rattle.std.specs.Prelude.{true, List, ℕ, ◌<◌, ◌≡◌, Ok, Err}
use Rattle.std.proofs.Common.{◌∙◌, sym}
use borrow.Author.Tests.{lt-ltb}
use Rattle.refusal.specs.declared.Gate.TheVariants as gate
use Rattle.geometry.specs.Config.{Gated}
use Rattle.geometry.specs.FunnelGate.{is_plan}
use Rattle.funnel.specs.declared.table.FunnelTable.{FunnelTable}
use Rattle.funnel.specs.Calls.{limits_then, table_gate}
use Rattle.funnel.specs.CallLaws.{gate_right, lengths_state}

module _ (table : FunnelTable) (counts : List ℕ) (words flags : ℕ) (p : is_plan table.n table.e table.plan counts ≡ true) where
  pub gate_counted : (later : Gated) → table.n < table.count → later ≡ limits_then table.word_cap (Err gate.State) → later ≡ table_gate table counts words flags
  gate_counted later c l = l ∙ sym (gate_right table counts words flags p ∙ rw (lt-ltb _ _ c, lengths_state table.n words flags))
