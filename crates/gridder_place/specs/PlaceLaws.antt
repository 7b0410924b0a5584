-- Laws of the exported placement, by what its gate said. Assumes nothing.
use Rattle.std.specs.Prelude.{Result, Ok, Err, Bool, true, false, ◌≡◌, ℕ, ◌/◌, ◌%◌, ◌≤◌, eqb, leb, length}
use mathlib.Core.List.{List, []}
use Rattle.std.proofs.Math.Path.{refl, ap, sym}
use Rattle.std.proofs.Common.{◌∙◌, arith}
use borrow.Author.Tests.{eq-eqb, ne_eqb, eqb-true, leb-true}
use Rattle.words.specs.Pick.{pick}
use Rattle.refusal.specs.Table.{number_of, name_of}
use Rattle.refusal.specs.declared.Gate.{Gate}
use Rattle.refusal.specs.declared.Gate.TheVariants as gate
use Rattle.refusal.specs.declared.Name.TheVariants as name
use Rattle.geometry.specs.Config.{Gated}
use Rattle.funnel.specs.Calls.{placement_report}
use Rattle.funnel.specs.Insert.{Placement, placed, place_all_of}
use Rattle.funnel.specs.declared.table.FunnelTable.{FunnelTable}
use Rattle.lent.specs.Lent.{words_of, word_count, whole_of}
use Rattle.lent.specs.LentLaws.{length_words}
use Rattle.lent.specs.StoreLaws.{whole_words}
use Rattle.funnel.specs.ValidLent.{LentRoom}
use Rattle.gridder_answer.specs.Answer.{says, saying, placement_fields, Reply, reply}
use Rattle.gridder_calls.specs.Enter.{Entry, Enters, refusal_reply}
use Rattle.gridder_calls.specs.EnterLaws.{words_are_lem, entry_unheld, entry_refused, entry_open, entry_ready}
use Rattle.gridder_calls.specs.declared.enter.EnterRefusal.{EnterRefusal}
use Rattle.gridder_calls.specs.declared.enter.EnterRefusal.TheVariants as entered
use Rattle.gridder_place.specs.Place.{room_for, place_call_gate, all_left, place_left, place_call}
use Rattle.gridder_state.specs.State.{holds_funnel, table_in, counts_in, with_count_in}

-- ---- room for the slots

module _ (identities slots : ℕ) where
  pub room_broken : (identities % 8 ≡ 0 → ⊥) → false ≡ room_for identities slots
  unfolding room_for
  room_broken n = sym (rw (ne_eqb _ _ n))

  module _ (w : identities % 8 ≡ 0) where
    pub room_broken_slots : (slots % 8 ≡ 0 → ⊥) → false ≡ room_for identities slots
    unfolding room_for
    room_broken_slots n = sym (rw (eq-eqb _ _ w, ne_eqb _ _ n))

    pub room_whole : slots % 8 ≡ 0 → leb identities slots ≡ room_for identities slots
    unfolding room_for
    room_whole s = sym (rw (eq-eqb _ _ w, eq-eqb _ _ s))

pub room_facts : (identities slots : List ℕ) → room_for (length identities) (length slots) ≡ true → LentRoom identities slots
unfolding room_for
room_facts identities slots h =
    go (eqb (length identities % 8) 0) (eqb (length slots % 8) 0) (leb (length identities) (length slots)) refl refl refl h
  where
    no : false ≡ true → ⊥
    no e = let z : ◌≡◌ {A = ℕ} 0 1 = cc in omega arith

    go : (x y z : Bool) → eqb (length identities % 8) 0 ≡ x → eqb (length slots % 8) 0 ≡ y → leb (length identities) (length slots) ≡ z → pick x (pick y z false) false ≡ true
        → LentRoom identities slots
    go false y z p q r h = absurd (no h)
    go true false z p q r h = absurd (no h)
    go true true z p q r h = record { whole = eqb-true _ _ p; whole_slots = eqb-true _ _ q; room = leb-true _ _ (r ∙ h) }

-- identities and slots as the words that the bytes are, for the engine
module _ {identities slots : List ℕ} (r : LentRoom identities slots) where
  identities_in : whole_of identities ≡ words_of identities
  identities_in = whole_words identities r.whole

  -- before and after a call, which keeps lengths
  slots_are : (slots' : List ℕ) → length slots' ≡ length slots → whole_of slots' ≡ words_of slots'
  slots_are slots' l = let w = r.whole_slots in whole_words slots' (omega arith)

  pub room_in : length (whole_of identities) ≤ length (whole_of slots)
  room_in =
      let a = ap length identities_in ∙ length_words identities in
      let b = ap length (slots_are slots refl) ∙ length_words slots in
      let h = r.room in
      omega arith

-- ---- the call by how it was entered

module _ (state words flags identities slots answer : List ℕ) (r : Result FunnelTable EnterRefusal) (counts : List ℕ)
    (e : Enters state (length words) (length flags) (length answer) r counts) (number : ℕ) (answer' : List ℕ) where
  abbrev gate_of_lem : Gated
  gate_of_lem = place_call_gate (table_in state) (counts_in state) (word_count (length words)) (length flags) (length identities) (length slots) (length answer)

  -- what is left where a gate refused
  left_refused : (x : Gate) → holds_funnel state ≡ true → gate_of_lem ≡ Err x → reply number answer' ≡ reply (number_of (name_of x)) (saying answer [])
      → all_left number answer' state (words_of words) flags (words_of slots) ≡ place_call state words flags identities slots answer
  unfolding place_call place_left
  left_refused x held g s =
      let n : number ≡ number_of (name_of x) = ap (λ (r : Reply). r.number) s in
      let a : answer' ≡ saying answer [] = ap (λ (r : Reply). r.answer) s in
      rw (n, a) (sym (rw (held, g)))

  pub placement_refused : (x : EnterRefusal) → r ≡ Err x → reply number answer' ≡ refusal_reply answer x
      → all_left number answer' state (words_of words) flags (words_of slots) ≡ place_call state words flags identities slots answer
  unfolding place_call place_call_gate
  placement_refused entered.Unheld p s =
      ap (λ (r : Reply). all_left r.number r.answer state (words_of words) flags (words_of slots)) s ∙ sym (rw (entry_unheld state words flags answer r counts e p))
  placement_refused (entered.Refused x) p s = let f = entry_refused state words flags answer r counts e x p in left_refused x f.0 (rw f.1) s

  module _ (table : FunnelTable) (p : r ≡ Ok table) (b : Bool) (fits : b ≡ room_for (length identities) (length slots)) where
    entry : Entry state (length words) (length flags) (length answer) table counts
    entry = entry_open state words flags answer r counts e table p

    pub placement_narrow : b ≡ false → reply number answer' ≡ reply (number_of (name_of gate.State)) (saying answer [])
        → all_left number answer' state (words_of words) flags (words_of slots) ≡ place_call state words flags identities slots answer
    unfolding place_call_gate
    placement_narrow n s = left_refused gate.State entry.held (rw (entry.passed, ← fits, n)) s

    module _ (y : b ≡ true) where
      placement_room : LentRoom identities slots
      placement_room = room_facts identities slots (sym fits ∙ y)

      passed : gate_of_lem ≡ Ok tt
      unfolding place_call_gate
      passed = rw (entry.passed, ← fits, y)

      pub placement_open : (d : Placement) (after : FunnelTable) (state' words' flags' slots' : List ℕ)
          → length words' ≡ length words → length slots' ≡ length slots
          → placed d after (whole_of words') flags' (whole_of slots')
          ≡ place_all_of table counts (whole_of words) flags (whole_of identities) (whole_of slots)
          → state' ≡ with_count_in state after.count
          → reply number answer' ≡ reply (placement_report d).number (says (placement_fields d (length identities / 8)))
          → all_left number answer' state' (words_of words') flags' (words_of slots') ≡ place_call state words flags identities slots answer
      unfolding place_call place_left
      placement_open d after state' words' flags' slots' l m i h s =
          let n : number ≡ (placement_report d).number = ap (λ (r : Reply). r.number) s in
          let a : answer' ≡ says (placement_fields d (length identities / 8)) = ap (λ (r : Reply). r.answer) s in
          let v = entry_ready state words flags answer r counts e table p in
          let j : placed d after (words_of words') flags' (words_of slots') ≡ place_all_of table counts (words_of words) flags (words_of identities) (words_of slots) =
          rw (
            words_are_lem v words' l,
            words_are_lem v words refl,
            identities_in placement_room,
            slots_are placement_room slots' m,
            slots_are placement_room slots refl,
          )
          at i in
          rw (n, a, h) (sym (rw (entry.held, passed, ← entry.table_is, ← entry.counts_are, ← j)))

-- a block that holds no state
pub placement_unheld : (state words flags identities slots answer : List ℕ) (number : ℕ) → holds_funnel state ≡ false → number ≡ number_of name.State
    → all_left number answer state (words_of words) flags (words_of slots) ≡ place_call state words flags identities slots answer
unfolding place_call
placement_unheld state words flags identities slots answer number h e = sym (rw (h, e))
