-- Laws of the check: its tests, and its endings. Assumes nothing.
use Rattle.std.specs.Prelude.{Bool, not, List, ℕ, length, replicate, Some, None, Ok, Err}
use Rattle.std.proofs.Math.Bool.{true, false}
use Rattle.std.proofs.Math.Path.{◌≡◌, refl, sym}
use Rattle.std.proofs.Common.{◌∙◌, arith}
use Rattle.std.proofs.Math.Dec.{eqb}
use borrow.Author.Tests.{eqb-true}
use Rattle.refusal.specs.declared.Gate.{Gate}
use Rattle.refusal.specs.declared.Gate.TheVariants as gate
use Rattle.geometry.specs.Config.{Gated, refuse_if}
use Rattle.funnel.specs.declared.table.FunnelTable.{FunnelTable}
use Rattle.funnel.specs.Calls.{gate_then, lengths_then, table_gate}
use Rattle.funnel.specs.CallLaws.{lengths_words, lengths_flags, lengths_pass, gate_valid, valid_gate}
use Rattle.audit_calls.specs.declared.check.CheckRefusal.TheVariants as checked
use Rattle.audit.specs.Greedy.{First, first_from, unplaced, taken, greedy_of}
use Rattle.funnel.specs.Dirty.{dirty_at}
use Rattle.audit_calls.specs.Check.{Ended, ended, answer_of, end_of, take_all, audit_of, check_gate, check_of, Lent}

-- ---- the endings

module _ (table : FunnelTable) (counts words flags order : List ℕ) where
  -- as the code finds the first slot that is left
  pub take_ends : (marks' order' : List ℕ) (placed : ℕ) (f r : First)
      → taken marks' order' placed ≡ greedy_of table counts words flags table.n table.n (replicate table.n 0) order 0
      → f ≡ first_from (unplaced flags marks') 0 table.n → f ≡ r → ended (answer_of r placed) marks' order' ≡ take_all table counts words flags order
  unfolding take_all end_of
  take_ends marks' order' placed f r e u q = rw (← e, ← u, q)

  module _ (marks : List ℕ) (f : First) (d : f ≡ first_from (dirty_at words flags) 0 table.n) where
    pub audit_dirty : (s : ℕ) → f ≡ Some s → ended (Err (checked.Dirty s)) marks order ≡ audit_of table counts words flags marks order
    unfolding audit_of
    audit_dirty s e = rw (← d, e)

    pub audit_clean : f ≡ None → take_all table counts words flags order ≡ audit_of table counts words flags marks order
    unfolding audit_of
    audit_clean e = rw (← d, e)

-- ---- the gate of the check

module _ (table : FunnelTable) (counts : List ℕ) (words flags marks order : ℕ) (r : Gated) (is : r ≡ table_gate table counts words flags) where
  pub check_gate_refused : (g : Gate) → r ≡ Err g → Err g ≡ check_gate table counts words flags marks order
  unfolding check_gate
  check_gate_refused g h = let f : table_gate table counts words flags ≡ Err g = sym is ∙ h in sym (rw f)

  module _ (h : r ≡ Ok tt) where
    passes : table_gate table counts words flags ≡ Ok tt
    passes = sym is ∙ h

    pub check_gate_marks : (marks ≡ table.n → ⊥) → Err gate.State ≡ check_gate table counts words flags marks order
    unfolding check_gate
    check_gate_marks m = rw passes (lengths_words table.n marks order (Ok tt) m)

    pub check_gate_order : marks ≡ table.n → (order ≡ table.n → ⊥) → Err gate.State ≡ check_gate table counts words flags marks order
    unfolding check_gate
    check_gate_order m o = rw passes (lengths_flags table.n marks order (Ok tt) m o)

    pub check_gate_pass : marks ≡ table.n → order ≡ table.n → Ok tt ≡ check_gate table counts words flags marks order
    unfolding check_gate
    check_gate_pass m o = rw passes (lengths_pass table.n marks order (Ok tt) m o)

-- what passes is valid, and what is valid passes
module _ (table : FunnelTable) (counts words flags marks order : List ℕ) where
  pub gate_lent : check_gate table counts (length words) (length flags) (length marks) (length order) ≡ Ok tt → Lent table counts words flags marks order
  unfolding check_gate lengths_then
  gate_lent h = go (table_gate table counts (length words) (length flags)) refl (eqb (length marks) table.n) refl (eqb (length order) table.n) refl h
    where
      go : (a : Gated) → table_gate table counts (length words) (length flags) ≡ a → (x : Bool) → eqb (length marks) table.n ≡ x → (y : Bool) → eqb (length order) table.n ≡ y
          → gate_then a (refuse_if (not x) gate.State (refuse_if (not y) gate.State (Ok tt))) ≡ Ok tt → Lent table counts words flags marks order
      go (Err g) p x q y r h = let z : ◌≡◌ {A = ℕ} 0 1 = cc in absurd (omega arith)
      go (Ok _) p false q y r h = let z : ◌≡◌ {A = ℕ} 0 1 = cc in absurd (omega arith)
      go (Ok _) p true q false r h = let z : ◌≡◌ {A = ℕ} 0 1 = cc in absurd (omega arith)
      go (Ok _) p true q true r h = record { valid = gate_valid table counts words flags p; marks_n = eqb-true _ _ q; order_n = eqb-true _ _ r }

  pub lent_gate : Lent table counts words flags marks order → check_gate table counts (length words) (length flags) (length marks) (length order) ≡ Ok tt
  lent_gate l = sym (check_gate_pass table counts (length words) (length flags) (length marks) (length order) _ refl (valid_gate l.valid) l.marks_n l.order_n)

  -- the check by what its gate said
  module _ (r : Gated) (is : r ≡ check_gate table counts (length words) (length flags) (length marks) (length order)) where
    pub passed_lent : r ≡ Ok tt → Lent table counts words flags marks order
    passed_lent h = gate_lent (sym is ∙ h)

    pub check_refused : (g : Gate) → r ≡ Err g → ended (Err (checked.Gate g)) marks order ≡ check_of table counts words flags marks order
    unfolding check_of
    check_refused g h = let f : check_gate table counts (length words) (length flags) (length marks) (length order) ≡ Err g = sym is ∙ h in sym (rw f)

    pub check_passed : (e : Ended) → r ≡ Ok tt → e ≡ audit_of table counts words flags marks order → e ≡ check_of table counts words flags marks order
    unfolding check_of
    check_passed e h q = let f : check_gate table counts (length words) (length flags) (length marks) (length order) ≡ Ok tt = sym is ∙ h in rw f q

  -- past the gate the check is the audit
  pub check_audit : Lent table counts words flags marks order → check_of table counts words flags marks order ≡ audit_of table counts words flags marks order
  unfolding check_of
  check_audit l = rw (lent_gate l)
