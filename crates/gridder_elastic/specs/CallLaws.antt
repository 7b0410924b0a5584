-- Laws of the exported calls on elastic tables, by what their gate said. Assumes nothing.
use Rattle.std.specs.Prelude.{true, false, Result, Ok, Err, ◌≡◌, refl, ℕ, length}
use mathlib.Core.List.{List}
use Rattle.std.proofs.Math.Path.{ap, sym}
use Rattle.std.proofs.Common.{◌∙◌, arith}
use Rattle.std.specs.Result.{is_ok}
use Rattle.refusal.specs.Table.{number_of}
use Rattle.refusal.specs.declared.Name.TheVariants as name
use Rattle.elastic_steps.specs.Insert.{InsertAnswer, done, place_by, choose_of, insert_of, insert_report}
use Rattle.elastic_steps.specs.InsertLaws.{insert_place}
use Rattle.elastic_query.specs.Query.{QueryAnswer, look_of, query_of, query_report}
use Rattle.elastic_query.specs.QueryLaws.{query_look}
use Rattle.elastic.specs.declared.state.State.{State}
use Rattle.lent.specs.Lent.{words_of, whole_of}
use Rattle.lent.specs.StoreLaws.{whole_words}
use Rattle.gridder_answer.specs.Answer.{says, Reply, reply}
use Rattle.gridder_calls.specs.Calls.{left}
use Rattle.gridder_calls.specs.Enter.{refusal_reply}
use Rattle.gridder_calls.specs.declared.enter.EnterRefusal.{EnterRefusal}
use Rattle.gridder_calls.specs.declared.enter.EnterRefusal.TheVariants as entered
use Rattle.gridder_elastic.specs.Calls.{query_reply, query_call, counted_in, insert_left, insert_call}
use Rattle.gridder_elastic_answer.specs.Say.{insert_fields, query_fields}
use Rattle.gridder_elastic.specs.Enter.{Entry, Enters}
use Rattle.gridder_elastic.specs.EnterLaws.{Ready, entry_unheld, entry_refused, entry_open, call_ready}
use Rattle.gridder_elastic_state.specs.State.{holds_elastic, with_counts_in}

-- the count of a block, by the answer
module _ (state : List ℕ) (said : InsertAnswer) (count : ℕ) (counts : List ℕ) where
  pub counted_refused : is_ok said ≡ false → state ≡ counted_in state said count counts
  unfolding counted_in
  counted_refused h = go said h
    where
      go : (a : InsertAnswer) → is_ok a ≡ false → state ≡ counted_in state a count counts
      go (Ok i) h = let z : ◌≡◌ {A = ℕ} 0 1 = cc in absurd (omega arith)
      go (Err r) h = refl

  pub counted_inserted : (state' : List ℕ) → is_ok said ≡ true → state' ≡ with_counts_in state count counts → state' ≡ counted_in state said count counts
  unfolding counted_in
  counted_inserted state' h e = go said h
    where
      go : (a : InsertAnswer) → is_ok a ≡ true → state' ≡ counted_in state a count counts
      go (Ok i) h = e
      go (Err r) h = let z : ◌≡◌ {A = ℕ} 0 1 = cc in absurd (omega arith)

-- ---- the calls by how they were entered

module _ (state words flags answer : List ℕ) (r : Result State EnterRefusal) (counts : List ℕ) (e : Enters state (length words) (length flags) (length answer) r counts)
    (identity number : ℕ) (answer' : List ℕ) where
  pub query_refused : (x : EnterRefusal) → r ≡ Err x → reply number answer' ≡ refusal_reply answer x
      → reply number answer' ≡ query_call state words flags identity answer
  unfolding query_call query_reply
  query_refused entered.Unheld p s = s ∙ sym (rw (entry_unheld state words flags answer r counts e p))
  query_refused (entered.Refused x) p s = let f = entry_refused state words flags answer r counts e x p in s ∙ sym (rw (f.0, f.1))

  pub insert_refused : (x : EnterRefusal) → r ≡ Err x → reply number answer' ≡ refusal_reply answer x
      → left number answer' state (words_of words) flags ≡ insert_call state words flags identity answer
  unfolding insert_call insert_left
  insert_refused x p s = ap (λ (r : Reply). left r.number r.answer state (words_of words) flags) s ∙ go x p
    where
      go : (x : EnterRefusal) → r ≡ Err x
          → left (refusal_reply answer x).number (refusal_reply answer x).answer state (words_of words) flags ≡ insert_call state words flags identity answer
      go entered.Unheld p = sym (rw (entry_unheld state words flags answer r counts e p))
      go (entered.Refused x) p = let f = entry_refused state words flags answer r counts e x p in sym (rw (f.0, f.1))

  module _ (st : State) (p : r ≡ Ok st) where
    entry : Entry state (length words) (length flags) (length answer) st counts
    entry = entry_open state words flags answer r counts e st p

    is_ready : Ready st counts words flags answer
    is_ready = call_ready state words flags answer r counts e st p

    words_are_lem : (words' : List ℕ) → length words' ≡ length words → whole_of words' ≡ words_of words'
    words_are_lem words' l = let w = is_ready.whole in whole_words words' (omega arith)

    pub query_open : (said : QueryAnswer) → said ≡ look_of st (whole_of words) flags identity
        → reply number answer' ≡ reply (query_report said).number (says (query_fields said)) → reply number answer' ≡ query_call state words flags identity answer
    unfolding query_call query_reply
    query_open said f s =
        let g : said ≡ look_of st (words_of words) flags identity = rw (words_are_lem words refl) at f in
        let q : said ≡ query_of st counts (words_of words) flags identity = query_look st counts (words_of words) flags identity said is_ready.passed g in
        s ∙ sym (rw (entry.held, entry.passed, ← entry.st_is, ← entry.counts_are, ← q))

    pub insert_open : (said : InsertAnswer) (after : State) (counts' state' words' flags' : List ℕ) → length words' ≡ length words
        → done said after counts' (whole_of words') flags'
        ≡ place_by st counts (whole_of words) flags identity (choose_of st counts (whole_of words) flags identity)
        → state' ≡ counted_in state said after.count counts' → reply number answer' ≡ reply (insert_report said).number (says (insert_fields said))
        → left number answer' state' (words_of words') flags' ≡ insert_call state words flags identity answer
    unfolding insert_call insert_left
    insert_open said after counts' state' words' flags' l i h s =
        let n : number ≡ (insert_report said).number = ap (λ (r : Reply). r.number) s in
        let a : answer' ≡ says (insert_fields said) = ap (λ (r : Reply). r.answer) s in
        let j : done said after counts' (words_of words') flags' ≡ place_by st counts (words_of words) flags identity (choose_of st counts (words_of words) flags identity) =
        rw (words_are_lem words' l, words_are_lem words refl) at i in
        let d : done said after counts' (words_of words') flags' ≡ insert_of st counts (words_of words) flags identity = insert_place st counts (words_of words) flags identity _ is_ready.passed j in
        rw (n, a, h) (sym (rw (entry.held, entry.passed, ← entry.st_is, ← entry.counts_are, ← d)))

-- a block that holds no state
pub query_unheld : (state words flags answer : List ℕ) (identity number : ℕ) → holds_elastic state ≡ false → number ≡ number_of name.State
    → reply number answer ≡ query_call state words flags identity answer
unfolding query_call
query_unheld state words flags answer identity number h e = sym (rw (h, e))

pub insert_unheld : (state words flags answer : List ℕ) (identity number : ℕ) → holds_elastic state ≡ false → number ≡ number_of name.State
    → left number answer state (words_of words) flags ≡ insert_call state words flags identity answer
unfolding insert_call
insert_unheld state words flags answer identity number h e = sym (rw (h, e))
