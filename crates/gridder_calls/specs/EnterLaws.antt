-- Laws of how a call on a funnel table begins. Assumes nothing.
use Rattle.std.specs.Prelude.{Result, Ok, Err, Option, Some, None, true, false, List, ◌≡◌, ℕ, ◌*◌, ◌≤◌, length, replicate}
use Rattle.std.proofs.Common.{sym, ◌∙◌, arith}
use Rattle.std.proofs.lemmas.List.{length-replicate}
use Rattle.refusal.specs.declared.Gate.{Gate}
use Rattle.geometry.specs.Config.{Gated}
use Rattle.funnel.specs.CallLaws.{gate_valid}
use Rattle.funnel.specs.Calls.{table_gate}
use Rattle.funnel.specs.Valid.{Valid}
use Rattle.funnel.specs.ValidLent.{ValidLent}
use Rattle.funnel.specs.declared.table.FunnelTable.{FunnelTable}
use Rattle.lent.specs.Lent.{words_of, word_count, whole_of}
use Rattle.lent.specs.LentLaws.{length_whole, count_some}
use Rattle.lent.specs.StoreLaws.{whole_words}
use Rattle.gridder_answer.specs.Answer.{answer_length}
use Rattle.gridder_answer.specs.GateLaws.{block_facts}
use Rattle.gridder_calls.specs.Calls.{call_gate, state_gate}
use Rattle.gridder_calls.specs.Enter.{Entry, Enters}
use Rattle.gridder_calls.specs.declared.enter.EnterRefusal.{EnterRefusal}
use Rattle.gridder_calls.specs.declared.enter.EnterRefusal.TheVariants as entered
use Rattle.gridder_state.specs.State.{holds_funnel, table_in, counts_in, Reads}
use Rattle.gridder_state.specs.StateLaws.{reads_none, reads_some}

-- ---- the gate

-- a table that passes by the number of its words is valid with these words
pub lent_valid : (table : FunnelTable) (counts words flags : List ℕ) → table_gate table counts (word_count (length words)) (length flags) ≡ Ok tt → ValidLent table counts words flags
lent_valid table counts words flags h =
    let l : length (replicate {A = ℕ} (word_count (length words)) 0) ≡ word_count (length words) = length-replicate (word_count (length words)) 0 in
    let v : Valid table counts (replicate (word_count (length words)) 0) flags = gate_valid table counts (replicate (word_count (length words)) 0) flags (rw l h) in
    let n : word_count (length words) ≡ table.n = sym l ∙ v.words_length in
    let two = v.planned.configured.least in
    let w : length words ≡ table.n * 8 = count_some (length words) table.n (omega arith) n in
    record {
      valid =
          record {
            planned = v.planned;
            cap_least = v.cap_least;
            cap_most = v.cap_most;
            words_length = length_whole words table.n w;
            flags_length = v.flags_length;
            counted = v.counted;
          };
      whole = w;
    }

-- what it says that a call's gate passed
pub record Ready (table : FunnelTable) (counts words flags answer : List ℕ) : Type 0 where
  pub lent : ValidLent table counts words flags
  pub room : length answer ≡ answer_length

pub ready : (table : FunnelTable) (counts words flags answer : List ℕ) → call_gate table counts (word_count (length words)) (length flags) (length answer) ≡ Ok tt
    → Ready table counts words flags answer
unfolding call_gate
ready table counts words flags answer h =
    let f = block_facts _ _ _ h in
    record { lent = lent_valid table counts words flags f.0; room = f.1 }

pub ready_count : {table : FunnelTable} {counts words flags answer : List ℕ} → Ready table counts words flags answer → (table.count ≤ table.n) × (table.n ≤ 4294967296)
ready_count r = (r.lent.valid.counted, r.lent.valid.planned.configured.most)

-- the words that the bytes are, for the engine
module _ {table : FunnelTable} {counts words flags answer : List ℕ} (r : Ready table counts words flags answer) where
  -- before and after a call, which keeps lengths
  pub words_are_lem : (words' : List ℕ) → length words' ≡ length words → whole_of words' ≡ words_of words'
  words_are_lem words' l = let w = r.lent.whole in whole_words words' (omega arith)

  pub valid_in : Valid table counts (whole_of words) flags
  valid_in = let w = r.lent.whole in let e = whole_words words (omega arith) in rw e r.lent.valid

-- ---- what the code read and tested

module _ (state before : List ℕ) (words flags answer : ℕ) (read : Option FunnelTable) (counts : List ℕ) (reads : Reads state before read counts) where
  pub enters_unheld : read ≡ None → Enters state words flags answer (Err entered.Unheld) counts
  unfolding Enters
  enters_unheld n = reads_none state before counts read reads n

  module _ (table : FunnelTable) (is_read : read ≡ Some table) (entries : ℕ) (g : Gated) (w : entries ≡ word_count words) (is : g ≡ call_gate table counts entries flags answer) where
    read_is : (holds_funnel state ≡ true) × (table ≡ table_in state) × (counts ≡ counts_in state)
    read_is = reads_some state before counts read reads table is_read

    said : call_gate (table_in state) (counts_in state) (word_count words) flags answer ≡ g
    said = sym (is ∙ rw (read_is.1, read_is.2, w))

    pub enters_refused : (x : Gate) → g ≡ Err x → Enters state words flags answer (Err (entered.Refused x)) counts
    unfolding Enters
    enters_refused x p = (read_is.0, said ∙ p)

    pub enters_open : g ≡ Ok tt → Enters state words flags answer (Ok table) counts
    unfolding Enters
    enters_open p = record { held = read_is.0; passed = said ∙ p; table_is = read_is.1; counts_are = read_is.2 }

-- ---- what a call knows of it

module _ (state words flags answer : List ℕ) (r : Result FunnelTable EnterRefusal) (counts : List ℕ) (e : Enters state (length words) (length flags) (length answer) r counts) where
  pub entry_unheld : r ≡ Err entered.Unheld → holds_funnel state ≡ false
  unfolding Enters
  entry_unheld h = rw h at e

  pub entry_refused : (g : Gate) → r ≡ Err (entered.Refused g) → (holds_funnel state ≡ true) × (state_gate state words flags answer ≡ Err g)
  unfolding Enters
  entry_refused g h = rw h at e

  module _ (table : FunnelTable) (h : r ≡ Ok table) where
    pub entry_open : Entry state (length words) (length flags) (length answer) table counts
    unfolding Enters
    entry_open = rw h at e

    pub entry_ready : Ready table counts words flags answer
    entry_ready =
        let y = entry_open in
        ready table counts words flags answer (rw (y.table_is, y.counts_are) y.passed)
