-- Laws of how a call on an elastic table begins. Assumes nothing.
use Rattle.std.specs.Prelude.{true, false, Result, Ok, Err, Option, Some, None, List, ◌≡◌, ℕ, ◌*◌, ◌%◌, length}
use Rattle.std.proofs.Math.Path.{sym}
use Rattle.std.proofs.Common.{◌∙◌, arith}
use Rattle.refusal.specs.declared.Gate.{Gate}
use Rattle.geometry.specs.Config.{Gated}
use Rattle.elastic.specs.State.{Valid, gate_of}
use Rattle.elastic.specs.StateLaws.{gate_valid}
use Rattle.elastic.specs.declared.state.State.{State}
use Rattle.lent.specs.Lent.{words_of, word_count, whole_of}
use Rattle.lent.specs.LentLaws.{length_whole, count_some}
use Rattle.lent.specs.StoreLaws.{whole_words}
use Rattle.gridder_answer.specs.Answer.{answer_length}
use Rattle.gridder_answer.specs.Gate.{block_gate}
use Rattle.gridder_answer.specs.GateLaws.{block_facts}
use Rattle.gridder_calls.specs.declared.enter.EnterRefusal.{EnterRefusal}
use Rattle.gridder_calls.specs.declared.enter.EnterRefusal.TheVariants as entered
use Rattle.gridder_elastic.specs.Calls.{call_gate, state_gate}
use Rattle.gridder_elastic.specs.Enter.{Entry, Enters}
use Rattle.gridder_elastic_state.specs.State.{holds_elastic, state_in, counts_in, Reads}

-- ---- what the code read and tested

module _ (state before : List ℕ) (words flags answer : ℕ) (read : Option State) (counts : List ℕ) (reads : Reads state before read counts) where
  pub enters_unheld : read ≡ None → Enters state words flags answer (Err entered.Unheld) counts
  unfolding Enters Reads
  enters_unheld n = (rw n at reads).0

  module _ (st : State) (is_read : read ≡ Some st) (entries : ℕ) (tested g : Gated) (w : entries ≡ word_count words)
      (is : tested ≡ gate_of st counts entries flags) (b : g ≡ block_gate tested answer answer_length) where
    read_is : (holds_elastic state ≡ true) × (st ≡ state_in state) × (counts ≡ counts_in state)
    unfolding Reads
    read_is = rw is_read at reads

    said : call_gate (state_in state) (counts_in state) (word_count words) flags answer ≡ g
    unfolding call_gate
    said = sym (b ∙ rw (is, read_is.1, read_is.2, w))

    pub enters_refused : (x : Gate) → g ≡ Err x → Enters state words flags answer (Err (entered.Refused x)) counts
    unfolding Enters
    enters_refused x p = (read_is.0, said ∙ p)

    pub enters_open : g ≡ Ok tt → Enters state words flags answer (Ok st) counts
    unfolding Enters
    enters_open p = record { held = read_is.0; passed = said ∙ p; st_is = read_is.1; counts_are = read_is.2 }

-- a table that was entered, with the words that its bytes are
pub record Ready (st : State) (counts words flags answer : List ℕ) : Type 0 where
  pub valid : Valid st counts (length (whole_of words)) (length flags)
  pub passed : gate_of st counts (length (words_of words)) (length flags) ≡ Ok tt
  pub whole : length words % 8 ≡ 0
  pub room : length answer ≡ answer_length

ready : (state words flags answer : List ℕ) (st : State) (counts : List ℕ) → Entry state (length words) (length flags) (length answer) st counts
    → Ready st counts words flags answer
unfolding call_gate
ready state words flags answer st counts y =
    let h : call_gate st counts (word_count (length words)) (length flags) (length answer) ≡ Ok tt = rw (y.st_is, y.counts_are) y.passed in
    let f = block_facts _ _ _ h in
    let v = gate_valid st counts (word_count (length words)) (length flags) f.0 in
    let two = v.config.least in
    let w : length words ≡ st.n * 8 = count_some (length words) st.n (omega arith) v.words_size in
    let l : length (words_of words) ≡ st.n = length_whole words st.n w in
    let e : word_count (length words) ≡ length (words_of words) = v.words_size ∙ sym l in
    let whole : length words % 8 ≡ 0 = omega arith in
    record {
      valid = rw (whole_words words whole, ← e) v;
      passed = rw e at f.0;
      whole = whole;
      room = f.1;
    }

-- ---- what a call knows of it

module _ (state words flags answer : List ℕ) (r : Result State EnterRefusal) (counts : List ℕ) (e : Enters state (length words) (length flags) (length answer) r counts) where
  pub entry_unheld : r ≡ Err entered.Unheld → holds_elastic state ≡ false
  unfolding Enters
  entry_unheld h = rw h at e

  pub entry_refused : (g : Gate) → r ≡ Err (entered.Refused g) → (holds_elastic state ≡ true) × (state_gate state words flags answer ≡ Err g)
  unfolding Enters
  entry_refused g h = rw h at e

  module _ (st : State) (h : r ≡ Ok st) where
    pub entry_open : Entry state (length words) (length flags) (length answer) st counts
    unfolding Enters
    entry_open = rw h at e

    pub call_ready : Ready st counts words flags answer
    call_ready = ready state words flags answer st counts entry_open
