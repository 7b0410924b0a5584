-- Laws of the exported calls, by what their gate said. Assumes nothing.
use Rattle.std.specs.Prelude.{Result, Ok, Err, true, false, ◌≡◌, refl, ℕ, ◌+◌, length}
use mathlib.Core.List.{List}
use Rattle.std.proofs.Math.Path.{ap, sym}
use Rattle.std.proofs.Common.{◌∙◌, arith}
use Rattle.std.specs.Result.{is_ok}
use Rattle.refusal.specs.Table.{number_of}
use Rattle.refusal.specs.declared.Name.TheVariants as name
use Rattle.geometry.specs.Config.{Gated}
use Rattle.funnel.specs.Calls.{search_report, insertion_report}
use Rattle.funnel.specs.Insert.{Insertion, done, stepped, insert_of}
use Rattle.funnel.specs.Search.{find_of}
use Rattle.funnel.specs.declared.table.FunnelTable.{FunnelTable}
use Rattle.funnel.specs.declared.table.Search.{Search}
use Rattle.gridder_answer.specs.Answer.{says, search_fields, insertion_fields, Reply, reply}
use Rattle.gridder_calls.specs.Calls.{call_gate, search_reply, search_call, left, counted_in, insert_left, insert_call}
use Rattle.gridder_calls.specs.Enter.{Entry, Enters, refusal_reply}
use Rattle.gridder_calls.specs.EnterLaws.{Ready, ready, words_are_lem, entry_unheld, entry_refused, entry_open, entry_ready}
use Rattle.gridder_calls.specs.declared.enter.EnterRefusal.{EnterRefusal}
use Rattle.gridder_calls.specs.declared.enter.EnterRefusal.TheVariants as entered
use Rattle.lent.specs.Lent.{words_of, word_count, whole_of}
use Rattle.gridder_state.specs.State.{holds_funnel, table_in, counts_in, with_count_in}
pub use Rattle.gridder_calls.specs.EnterLaws.{lent_valid}

-- ---- the gate as the calls on images test it

module _ (state words flags answer : List ℕ) (table : FunnelTable) (counts : List ℕ) (entries : ℕ)
    (t : table ≡ table_in state) (k : counts ≡ counts_in state) (w : entries ≡ word_count (length words))
    (g : Gated) (is : g ≡ call_gate table counts entries (length flags) (length answer)) where
  pub gate_ready : g ≡ Ok tt → Ready table counts words flags answer
  gate_ready p = ready table counts words flags answer (let h : call_gate table counts entries (length flags) (length answer) ≡ Ok tt = sym is ∙ p in rw (← w) h)

-- the count after an answer is the count of the table after it
counted_stepped : (state : List ℕ) (d : Insertion) (table : FunnelTable) → counted_in state d (stepped d table).count ≡ counted_in state d (table.count + 1)
unfolding counted_in
counted_stepped state (Ok put) table = refl
counted_stepped state (Err refusal) table = refl

-- ---- the calls by how they were entered

module _ (state words flags answer : List ℕ) (r : Result FunnelTable EnterRefusal) (counts : List ℕ) (e : Enters state (length words) (length flags) (length answer) r counts)
    (identity number : ℕ) (answer' : List ℕ) where
  pub search_refused : (x : EnterRefusal) → r ≡ Err x → reply number answer' ≡ refusal_reply answer x
      → reply number answer' ≡ search_call state words flags identity answer
  unfolding search_call search_reply
  search_refused entered.Unheld p s = s ∙ sym (rw (entry_unheld state words flags answer r counts e p))
  search_refused (entered.Refused x) p s = let f = entry_refused state words flags answer r counts e x p in s ∙ sym (rw (f.0, f.1))

  pub insert_refused : (x : EnterRefusal) → r ≡ Err x → reply number answer' ≡ refusal_reply answer x
      → left number answer' state (words_of words) flags ≡ insert_call state words flags identity answer
  unfolding insert_call insert_left
  insert_refused x p s = ap (λ (r : Reply). left r.number r.answer state (words_of words) flags) s ∙ go x p
    where
      go : (x : EnterRefusal) → r ≡ Err x
          → left (refusal_reply answer x).number (refusal_reply answer x).answer state (words_of words) flags ≡ insert_call state words flags identity answer
      go entered.Unheld p = sym (rw (entry_unheld state words flags answer r counts e p))
      go (entered.Refused x) p = let f = entry_refused state words flags answer r counts e x p in sym (rw (f.0, f.1))

  module _ (table : FunnelTable) (p : r ≡ Ok table) where
    entry : Entry state (length words) (length flags) (length answer) table counts
    entry = entry_open state words flags answer r counts e table p

    same_words : (words' : List ℕ) → length words' ≡ length words → whole_of words' ≡ words_of words'
    same_words words' l = words_are_lem (entry_ready state words flags answer r counts e table p) words' l

    pub search_open : (found : Search) → found ≡ find_of table counts (whole_of words) flags identity
        → reply number answer' ≡ reply (search_report found).number (says (search_fields found)) → reply number answer' ≡ search_call state words flags identity answer
    unfolding search_call search_reply
    search_open found f s =
        let g : found ≡ find_of table counts (words_of words) flags identity = rw (same_words words refl) at f in
        s ∙ sym (rw (entry.held, entry.passed, ← entry.table_is, ← entry.counts_are, ← g))

    pub insert_open : (d : Insertion) (state' words' flags' : List ℕ) → length words' ≡ length words
        → done d (stepped d table) (whole_of words') flags' ≡ insert_of table counts (whole_of words) flags identity
        → state' ≡ counted_in state d (table.count + 1) → reply number answer' ≡ reply (insertion_report d).number (says (insertion_fields d))
        → left number answer' state' (words_of words') flags' ≡ insert_call state words flags identity answer
    unfolding insert_call insert_left
    insert_open d state' words' flags' l i h s =
        let n : number ≡ (insertion_report d).number = ap (λ (r : Reply). r.number) s in
        let a : answer' ≡ says (insertion_fields d) = ap (λ (r : Reply). r.answer) s in
        let j : done d (stepped d table) (words_of words') flags' ≡ insert_of table counts (words_of words) flags identity = rw (same_words words' l, same_words words refl) at i in
        rw (n, a, h, ← counted_stepped state d table) (sym (rw (entry.held, entry.passed, ← entry.table_is, ← entry.counts_are, ← j)))

-- a block that holds no state
pub search_unheld : (state words flags answer : List ℕ) (identity number : ℕ) → holds_funnel state ≡ false → number ≡ number_of name.State
    → reply number answer ≡ search_call state words flags identity answer
unfolding search_call
search_unheld state words flags answer identity number h e = sym (rw (h, e))

pub insert_unheld : (state words flags answer : List ℕ) (identity number : ℕ) → holds_funnel state ≡ false → number ≡ number_of name.State
    → left number answer state (words_of words) flags ≡ insert_call state words flags identity answer
unfolding insert_call
insert_unheld state words flags answer identity number h e = sym (rw (h, e))

-- an insertion steps the count of a block, and a refusal leaves it
pub counted_inserted : (state state' : List ℕ) (r : Insertion) (count : ℕ) → is_ok r ≡ true → state' ≡ with_count_in state count → state' ≡ counted_in state r count
unfolding counted_in
counted_inserted state state' (Ok put) count h e = e
counted_inserted state state' (Err refusal) count h e = let z : ◌≡◌ {A = ℕ} 0 1 = cc in absurd (omega arith)

pub uncounted : (state : List ℕ) (r : Insertion) (count : ℕ) → is_ok r ≡ false → state ≡ counted_in state r count
unfolding counted_in
uncounted state (Ok put) count h = let z : ◌≡◌ {A = ℕ} 0 1 = cc in absurd (omega arith)
uncounted state (Err refusal) count h = refl
