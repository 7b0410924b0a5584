-- Laws of the exported calls on images, by what their gate said. Assumes nothing.
use Rattle.std.specs.Prelude.{Result, Ok, Err, refl, true, false, ◌≡◌, ℕ, ◌*◌, ◌^◌, ◌≤◌, length, replicate}
use mathlib.Core.List.{List, []}
use Rattle.std.proofs.Math.Path.{ap, sym}
use Rattle.std.proofs.Common.{◌∙◌, arith}
use Rattle.std.proofs.lemmas.List.{length-replicate}
use Rattle.refusal.specs.Table.{number_of, name_of}
use Rattle.refusal.specs.declared.Gate.{Gate}
use Rattle.refusal.specs.declared.Name.TheVariants as name
use Rattle.geometry.specs.Config.{Gated}
use Rattle.funnel.specs.declared.table.FunnelTable.{FunnelTable}
use Rattle.image_calls.specs.CallLaws.{Writable, gate_writable}
use Rattle.image_calls.specs.Calls.{write_gate, written_report}
use Rattle.image.specs.Format.{label_most}
use Rattle.image_calls.specs.Loading.{LoadAnswer, loads, load_of}
use Rattle.image_calls.specs.declared.loader.Filled.{Filled}
use Rattle.image_calls.specs.declared.loader.LoadRefusal.{LoadRefusal}
use Rattle.image_writer.specs.Writing.{Written, writes, head_of, write_of}
use Rattle.lent.specs.Lent.{words_of, word_count, whole_of}
use Rattle.lent.specs.LentLaws.{count_some}
use Rattle.gridder_answer.specs.GateLaws.{block_facts}
use Rattle.gridder_answer.specs.Answer.{answer_length, says, saying, Reply, reply}
use Rattle.gridder_calls.specs.Calls.{left}
use Rattle.gridder_calls.specs.Enter.{Entry, Enters, refusal_reply}
use Rattle.gridder_calls.specs.EnterLaws.{words_are_lem, entry_unheld, entry_refused, entry_open, entry_ready}
use Rattle.gridder_calls.specs.declared.enter.EnterRefusal.{EnterRefusal}
use Rattle.gridder_calls.specs.declared.enter.EnterRefusal.TheVariants as entered
use Rattle.gridder_state.specs.State.{holds_funnel, table_in, counts_in, with_count_in}
use Rattle.gridder_images.specs.Calls.{filled_in, load_left, load_call, sent, write_call_gate, write_state_gate, write_left, write_call}
use Rattle.gridder_images.specs.Say.{filled_fields, filled_number, written_fields}
use Rattle.gridder_images.specs.SayLaws.{loaded_number}

-- ---- loading

-- the count of a block, by the answer
module _ (state : List ℕ) (f : LoadAnswer) where
  pub filled_refused : (r : LoadRefusal) → f ≡ Err r → state ≡ filled_in state f
  unfolding filled_in
  filled_refused r h = sym (rw h)

  pub filled_done : (filled : Filled) (state' : List ℕ) → f ≡ Ok filled → state' ≡ with_count_in state filled.count → state' ≡ filled_in state f
  unfolding filled_in
  filled_done filled state' h e = e ∙ sym (rw h)

-- the call by how the table was entered
module _ (state words flags answer : List ℕ) (r : Result FunnelTable EnterRefusal) (counts : List ℕ) (e : Enters state (length words) (length flags) (length answer) r counts)
    (image : List ℕ) (number : ℕ) (answer' : List ℕ) where
  pub load_refused : (x : EnterRefusal) → r ≡ Err x → reply number answer' ≡ refusal_reply answer x
      → left number answer' state (words_of words) flags ≡ load_call state words flags image answer
  unfolding load_call load_left
  load_refused x p s = ap (λ (r : Reply). left r.number r.answer state (words_of words) flags) s ∙ go x p
    where
      go : (x : EnterRefusal) → r ≡ Err x
          → left (refusal_reply answer x).number (refusal_reply answer x).answer state (words_of words) flags ≡ load_call state words flags image answer
      go entered.Unheld p = sym (rw (entry_unheld state words flags answer r counts e p))
      go (entered.Refused x) p = let f = entry_refused state words flags answer r counts e x p in sym (rw (f.0, f.1))

  module _ (table : FunnelTable) (p : r ≡ Ok table) where
    entry : Entry state (length words) (length flags) (length answer) table counts
    entry = entry_open state words flags answer r counts e table p

    same_words : (words' : List ℕ) → length words' ≡ length words → whole_of words' ≡ words_of words'
    same_words words' l = words_are_lem (entry_ready state words flags answer r counts e table p) words' l

    pub load_passed : (f : LoadAnswer) (state' words' flags' : List ℕ) → length words' ≡ length words
        → loads f (whole_of words') flags' ≡ load_of (head_of table) (whole_of words) flags image
        → state' ≡ filled_in state f → reply number answer' ≡ reply (filled_number f) (says (filled_fields f))
        → left number answer' state' (words_of words') flags' ≡ load_call state words flags image answer
    unfolding load_call load_left
    load_passed f state' words' flags' l i h s =
        let n : number ≡ filled_number f = ap (λ (r : Reply). r.number) s in
        let a : answer' ≡ says (filled_fields f) = ap (λ (r : Reply). r.answer) s in
        let j : loads f (words_of words') flags' ≡ load_of (head_of table) (words_of words) flags image = rw (same_words words' l, same_words words refl) at i in
        rw (n, a, h, loaded_number table f) (sym (rw (entry.held, entry.passed, ← entry.table_is, ← j)))

-- a block that holds no state
pub load_unheld : (state words flags image answer : List ℕ) (number : ℕ) → holds_funnel state ≡ false → number ≡ number_of name.State
    → left number answer state (words_of words) flags ≡ load_call state words flags image answer
unfolding load_call
load_unheld state words flags image answer number h e = sym (rw (h, e))

-- ---- the writer's gate

-- what it says that the writer's gate passed
pub record WriteReady (words flags label answer : List ℕ) : Type 0 where
  pub whole : length words ≡ length flags * 8
  pub few : length flags ≤ 2 ^ 32
  pub short : length label ≤ label_most
  pub room : length answer ≡ answer_length

writable_ready : (table : FunnelTable) (counts words flags label answer : List ℕ) → write_gate table counts (word_count (length words)) (length flags) (length label) ≡ Ok tt
    → length answer ≡ answer_length → WriteReady words flags label answer
writable_ready table counts words flags label answer h a =
    let l : length (replicate {A = ℕ} (word_count (length words)) 0) ≡ word_count (length words) = length-replicate (word_count (length words)) 0 in
    let v : Writable table counts (replicate (word_count (length words)) 0) flags label = gate_writable table counts (replicate (word_count (length words)) 0) flags label (rw l h) in
    let n : word_count (length words) ≡ table.n = sym l ∙ v.valid.words_length in
    let c = v.valid.planned.configured in
    let two = c.least in
    let most = c.most in
    let w : length words ≡ table.n * 8 = count_some (length words) table.n (omega arith) n in
    let f = v.valid.flags_length in
    record { whole = omega arith; few = omega arith; short = v.short; room = a }

module _ (state words flags label image answer : List ℕ) (table : FunnelTable) (counts : List ℕ) (entries : ℕ)
    (t : table ≡ table_in state) (k : counts ≡ counts_in state) (w : entries ≡ word_count (length words))
    (g : Gated) (is : g ≡ write_call_gate table counts entries (length flags) (length label) (length answer)) where
  pub write_ready : g ≡ Ok tt → WriteReady words flags label answer
  unfolding write_call_gate
  write_ready p =
      let h : write_call_gate table counts entries (length flags) (length label) (length answer) ≡ Ok tt = sym is ∙ p in
      let f = block_facts _ _ _ (rw w at h) in
      writable_ready table counts words flags label answer f.0 f.1

  -- ---- writing
  write_gate_of : g ≡ write_state_gate state words flags label answer
  write_gate_of = is ∙ rw (t, k, w)

  module _ (held : holds_funnel state ≡ true) (number : ℕ) (answer' : List ℕ) where
    pub write_refused : (x : Gate) → g ≡ Err x → reply number answer' ≡ reply (number_of (name_of x)) (saying answer [])
        → sent number answer' image ≡ write_call state words flags label image answer
    unfolding write_call write_left
    write_refused x p e =
        let n : number ≡ number_of (name_of x) = ap (λ (r : Reply). r.number) e in
        let a : answer' ≡ saying answer [] = ap (λ (r : Reply). r.answer) e in
        rw (n, a) (sym (rw (held, ← write_gate_of, p)))

    pub write_passed : (x : Written) (image' : List ℕ) → g ≡ Ok tt
        → writes x image' ≡ write_of (head_of table) label (words_of words) flags image
        → reply number answer' ≡ reply (written_report x).number (says (written_fields x))
        → sent number answer' image' ≡ write_call state words flags label image answer
    unfolding write_call write_left
    write_passed x image' p i e =
        let n : number ≡ (written_report x).number = ap (λ (r : Reply). r.number) e in
        let a : answer' ≡ says (written_fields x) = ap (λ (r : Reply). r.answer) e in
        rw (n, a) (sym (rw (held, ← write_gate_of, p, ← t, ← i)))

pub write_unheld : (state words flags label image answer : List ℕ) (number : ℕ) → holds_funnel state ≡ false → number ≡ number_of name.State
    → sent number answer image ≡ write_call state words flags label image answer
unfolding write_call
write_unheld state words flags label image answer number h e = sym (rw (h, e))
