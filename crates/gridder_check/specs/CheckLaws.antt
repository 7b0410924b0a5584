-- Laws of the exported check, by what its gate said. Assumes nothing.
use Rattle.std.proofs.Math.Bool.{true}
use Rattle.std.specs.Prelude.{Ok, Err, false, ◌≡◌, ℕ, ◌*◌, replicate}
use mathlib.Core.List.{List, []}
use Rattle.std.proofs.Math.Path.{ap}
use Rattle.std.proofs.Common.{sym, ◌∙◌, arith}
use Rattle.std.proofs.Math.ListN.{length, length-replicate}
use Rattle.refusal.specs.Table.{number_of, name_of}
use Rattle.refusal.specs.declared.Gate.{Gate}
use Rattle.refusal.specs.declared.Name.TheVariants as name
use Rattle.geometry.specs.Config.{Gated}
use Rattle.funnel.specs.CallLaws.{valid_gate}
use Rattle.funnel.specs.Calls.{table_gate}
use Rattle.funnel.specs.Valid.{Valid}
use Rattle.funnel.specs.declared.table.FunnelTable.{FunnelTable}
use Rattle.audit_calls.specs.Check.{Checked, ended, audit_of, report_of, Lent}
use Rattle.audit_calls.specs.CheckLaws.{gate_lent}
use Rattle.lent.specs.Lent.{words_of, whole_of, word_count}
use Rattle.lent.specs.LentLaws.{count_some, length_whole}
use Rattle.lent.specs.StoreLaws.{whole_words}
use Rattle.funnel.specs.EdgeLaws.{lent_in, valid_in}
use Rattle.gridder_answer.specs.GateLaws.{block_facts}
use Rattle.gridder_answer.specs.Answer.{answer_length, says, saying, Reply, reply}
use Rattle.gridder_calls.specs.CallLaws.{lent_valid}
use Rattle.gridder_state.specs.State.{holds_funnel, table_in, counts_in}
use Rattle.gridder_check.specs.Check.{check_call_gate, checked_fields, check_left, check_by, check_call}

-- what a check says, by its answer
module _ (done : Checked) (n : ℕ) (a : List ℕ) where
  pub checked_says : (x : Checked) → done ≡ x → n ≡ (report_of x).number → a ≡ says (checked_fields x)
      → reply n a ≡ reply (report_of done).number (says (checked_fields done))
  checked_says x e p q = rw (e, p, q)

-- what it says that a check's gate passed: the words and the order are whole, and the engine can be lent them
pub record CheckReady (table : FunnelTable) (counts words flags marks order answer : List ℕ) : Type 0 where
  pub valid : Valid table counts (whole_of words) flags
  pub marks_n : length marks ≡ table.n
  pub order_n : length (whole_of order) ≡ table.n
  pub words_whole : length words ≡ table.n * 8
  pub order_whole : length order ≡ table.n * 8
  pub room : length answer ≡ answer_length

module _ (table : FunnelTable) (counts words flags marks order : List ℕ) where
  check_ready : (answer : List ℕ) → check_call_gate table counts (word_count (length words)) (length flags) (length marks) (word_count (length order)) (length answer) ≡ Ok tt
      → CheckReady table counts words flags marks order answer
  unfolding check_call_gate
  check_ready answer h =
      let f = block_facts _ _ _ h in
      let w : length (replicate {A = ℕ} (word_count (length words)) 0) ≡ word_count (length words) = length-replicate (word_count (length words)) 0 in
      let o : length (replicate {A = ℕ} (word_count (length order)) 0) ≡ word_count (length order) = length-replicate (word_count (length order)) 0 in
      let l : Lent table counts (replicate (word_count (length words)) 0) flags marks (replicate (word_count (length order)) 0) =
      gate_lent table counts (replicate (word_count (length words)) 0) flags marks (replicate (word_count (length order)) 0) (rw (w, o) f.0) in
      let t : table_gate table counts (word_count (length words)) (length flags) ≡ Ok tt = rw w at (valid_gate l.valid) in
      let two = l.valid.planned.configured.least in
      let v = lent_valid table counts words flags t in
      let e : length order ≡ table.n * 8 = count_some (length order) table.n (omega arith) (sym o ∙ l.order_n) in
      record {
        valid = valid_in v;
        marks_n = l.marks_n;
        order_n = ap length (lent_in order (omega arith)) ∙ length_whole order table.n e;
        words_whole = v.whole;
        order_whole = e;
        room = f.1;
      }

-- ---- the call on a block that holds a state

module _ (state words flags marks order answer : List ℕ) (table : FunnelTable) (counts : List ℕ) (entries places : ℕ)
    (t : table ≡ table_in state) (k : counts ≡ counts_in state) (w : entries ≡ word_count (length words)) (o : places ≡ word_count (length order))
    (g : Gated) (is : g ≡ check_call_gate table counts entries (length flags) (length marks) places (length answer)) where
  pub checking_ready : g ≡ Ok tt → CheckReady table counts words flags marks order answer
  checking_ready p =
      check_ready table counts words flags marks order answer
      (let h : check_call_gate table counts entries (length flags) (length marks) places (length answer) ≡ Ok tt = sym is ∙ p in rw (← w, ← o) h)

  gate_of_lem : g ≡ check_call_gate (table_in state) (counts_in state) (word_count (length words)) (length flags) (length marks) (word_count (length order)) (length answer)
  gate_of_lem = is ∙ rw (t, k, w, o)

  module _ (held : holds_funnel state ≡ true) (number : ℕ) (answer' : List ℕ) where
    pub checking_refused : (x : Gate) → g ≡ Err x → reply number answer' ≡ reply (number_of (name_of x)) (saying answer [])
        → check_left number answer' marks (words_of order) ≡ check_call state words flags marks order answer
    unfolding check_call check_by
    checking_refused x p e =
        let n : number ≡ number_of (name_of x) = ap (λ (r : Reply). r.number) e in
        let a : answer' ≡ saying answer [] = ap (λ (r : Reply). r.answer) e in
        rw (n, a) (sym (rw (held, ← gate_of_lem, p)))

    -- what the engine leaves, with the numbers it was not lent
    pub checking_passed : (d : Checked) (marks' order' : List ℕ) → g ≡ Ok tt → length order' ≡ length order
        → ended d marks' (whole_of order') ≡ audit_of table counts (whole_of words) flags marks (whole_of order)
        → reply number answer' ≡ reply (report_of d).number (says (checked_fields d))
        → check_left number answer' marks' (words_of order') ≡ check_call state words flags marks order answer
    unfolding check_call check_by
    checking_passed d marks' order' p l i e =
        let n : number ≡ (report_of d).number = ap (λ (r : Reply). r.number) e in
        let a : answer' ≡ says (checked_fields d) = ap (λ (r : Reply). r.answer) e in
        let r = checking_ready p in
        let whole = r.words_whole in
        let ordered = r.order_whole in
        let x : whole_of words ≡ words_of words = lent_in words (omega arith) in
        let y : whole_of order ≡ words_of order = lent_in order (omega arith) in
        let z : whole_of order' ≡ words_of order' = whole_words order' (omega arith) in
        let j : ended d marks' (words_of order') ≡ audit_of table counts (words_of words) flags marks (words_of order) = rw (x, y, z) at i in
        rw (n, a) (sym (rw (held, ← gate_of_lem, p, ← t, ← k, ← j)))

-- a block that holds no state
pub checking_unheld : (state words flags marks order answer : List ℕ) (number : ℕ) → holds_funnel state ≡ false → number ≡ number_of name.State
    → check_left number answer marks (words_of order) ≡ check_call state words flags marks order answer
unfolding check_call
checking_unheld state words flags marks order answer number h e = sym (rw (h, e))
