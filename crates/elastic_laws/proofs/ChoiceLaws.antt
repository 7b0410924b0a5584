-- Laws of an insertion's choice of a slot. Assumes nothing.
use Rattle.std.specs.Prelude.{Bool, List, Ok, Err, Some, None}
use Rattle.std.proofs.Math.Bool.{true, false}
use Rattle.std.proofs.Math.Path.{◌≡◌, refl}
use Rattle.std.proofs.Common.{ap, sym, arith}
use Prim.Native.Nat.{ℕ, zero, suc, ◌+◌}
use Rattle.std.proofs.Math.Dec.{leb}
use borrow.Author.Tests.{leb-true, leb-false}
use Rattle.words.specs.declared.place.GlobalSlot.{GlobalSlot}
use Rattle.words.specs.declared.place.LogicalProbe.{LogicalProbe}
use Rattle.words.specs.Pick.{pick}
use Rattle.geometry.specs.Elastic.{length_at}
use Rattle.probe.specs.Word.{elastic_key_of}
use Rattle.elastic.specs.declared.state.State.{State}
use Rattle.elastic.specs.Reading.{Sought, Located, seek_of, first_of}
use Rattle.elastic_steps.specs.declared.answer.Case.{Case}
use Rattle.elastic_steps.specs.declared.answer.InsertRefusal.TheVariants as refusal
use Rattle.elastic_steps.specs.Insert.{Chosen, choice, uniform_by, uniform_of, budgeted_by, budgeted_of, free_at, current_low, next_low, pair_by, pair_of, steps_of, choose_by, choose_of}
use Rattle.elastic_insert.specs.TableLaws.{never}
use Rattle.elastic_laws.specs.Schedule.{batch_now, Takes, alone, current, next}
use Rattle.elastic_laws.specs.Choice.{Searched, Chose, BothLow, Stepped}
use Rattle.elastic_steps.specs.declared.answer.Choice.{Choice}

-- ---- searches

module _ (st : State) (key : ℕ) (fs : List ℕ) where
  -- the slot of a uniform search is of the level that was searched
  uniform_chose : {A : Type 0} (case case' : Case) (tries level level' slot : ℕ) (probe : LogicalProbe)
      → uniform_of st.n key st.limits.range_word_cap fs tries case level ≡ Ok (choice case' level' slot probe)
      → (level ≡ level' → Searched st key fs level' slot probe → A) → A
  unfolding uniform_of
  uniform_chose {A} case case' tries level level' slot probe h k = go (seek_of st.n key st.limits.range_word_cap fs level tries) refl h
    where
      go : (r : Sought) → seek_of st.n key st.limits.range_word_cap fs level tries ≡ r → uniform_by case level r ≡ Ok (choice case' level' slot probe) → A
      go (Ok (Some v)) e g =
          let same : choice case level v.slot v.probe ≡ choice case' level' slot probe = cc in
          let a : level ≡ level' = ap (λ (x : Choice). x.level) same in
          let b : v.slot ≡ slot = ap (λ (x : Choice). x.slot) same in
          let d : ◌≡◌ {A = LogicalProbe} v.probe probe = ap (λ (x : Choice). x.probe) same in
          k a (record { tries = tries; is = rw (← a, ← b, ← d) e })
      go (Ok None) e g = never (cc)
      go (Err r) e g = never (cc)

  -- that of a budgeted one, of either level
  budgeted_chose : {A : Type 0} (case case' : Case) (tries budget here there level' slot : ℕ) (probe : LogicalProbe)
      → budgeted_of st.n key st.limits.range_word_cap fs tries budget case here there ≡ Ok (choice case' level' slot probe)
      → (here ≡ level' → Searched st key fs level' slot probe → A) → (there ≡ level' → Searched st key fs level' slot probe → A) → A
  unfolding budgeted_of
  budgeted_chose {A} case case' tries budget here there level' slot probe h k l = go (seek_of st.n key st.limits.range_word_cap fs here budget) refl h
    where
      go : (r : Sought) → seek_of st.n key st.limits.range_word_cap fs here budget ≡ r
          → budgeted_by case here r (uniform_of st.n key st.limits.range_word_cap fs tries case there) ≡ Ok (choice case' level' slot probe) → A
      go (Ok (Some v)) e g =
          let same : choice case here v.slot v.probe ≡ choice case' level' slot probe = cc in
          let a : here ≡ level' = ap (λ (x : Choice). x.level) same in
          let b : v.slot ≡ slot = ap (λ (x : Choice). x.slot) same in
          let d : ◌≡◌ {A = LogicalProbe} v.probe probe = ap (λ (x : Choice). x.probe) same in
          k a (record { tries = budget; is = rw (← a, ← b, ← d) e })
      go (Ok None) e g = uniform_chose case case' tries there level' slot probe g l
      go (Err r) e g = never (cc)

  -- no search answers SCHEDULE
  uniform_never : {A : Type 0} (case : Case) (tries level : ℕ) → uniform_of st.n key st.limits.range_word_cap fs tries case level ≡ Err refusal.Schedule → A
  unfolding uniform_of
  uniform_never {A} case tries level h = go (seek_of st.n key st.limits.range_word_cap fs level tries) h
    where
      go : (r : Sought) → uniform_by case level r ≡ Err refusal.Schedule → A
      go (Ok (Some v)) g = never (cc)
      go (Ok None) g = never (cc)
      go (Err r) g = never (cc)

  budgeted_never : {A : Type 0} (case : Case) (tries budget here there : ℕ)
      → budgeted_of st.n key st.limits.range_word_cap fs tries budget case here there ≡ Err refusal.Schedule → A
  unfolding budgeted_of
  budgeted_never {A} case tries budget here there h = go (seek_of st.n key st.limits.range_word_cap fs here budget) h
    where
      go : (r : Sought) → budgeted_by case here r (uniform_of st.n key st.limits.range_word_cap fs tries case there) ≡ Err refusal.Schedule → A
      go (Ok (Some v)) g = never (cc)
      go (Ok None) g = uniform_never case tries there g
      go (Err r) g = never (cc)

-- ---- a batch

-- two levels, by which of them are low
pair_cases : {A : Type 0} (x y : Bool) (both here there neither r : Chosen) → pair_by x y both here there neither ≡ r
    → (x ≡ true → y ≡ true → both ≡ r → A) → (y ≡ false → here ≡ r → A) → (x ≡ false → there ≡ r → A) → (x ≡ false → y ≡ false → neither ≡ r → A) → A
unfolding pair_by
pair_cases true true both here there neither r h a b c d = a refl refl h
pair_cases true false both here there neither r h a b c d = b refl h
pair_cases false true both here there neither r h a b c d = c refl h
pair_cases false false both here there neither r h a b c d = d refl refl h

module _ (st : State) (key : ℕ) (cs fs : List ℕ) where
  takes_current : (at level : ℕ) → at ≡ level → current_low st.e (length_at st.n at) (free_at st.n cs at) ≡ false → Takes st.n st.e (suc at) cs level
  takes_current at level q e = rw (← q) (current (omega arith) (omega (arith, leb-false)))

  takes_next : (at level : ℕ) → at + 1 ≡ level → next_low (length_at st.n (at + 1)) (free_at st.n cs (at + 1)) ≡ false → Takes st.n st.e (suc at) cs level
  takes_next at level q e = rw (← q) (next (omega arith) (omega (arith, leb-false)))

  pair_chose : (at : ℕ) (case' : Case) (level slot : ℕ) (probe : LogicalProbe) → pair_of st key cs fs at ≡ Ok (choice case' level slot probe) → Chose st key (suc at) cs fs level slot probe
  unfolding pair_of
  pair_chose at case' level slot probe h =
      pair_cases _ _ _ _ _ _ _ h
      (λ a b g. never (cc))
      (λ b g. uniform_chose st key fs _ case' _ _ level slot probe g (λ q s. record { takes = takes_next at level q b; searched = s }))
      (λ a g. uniform_chose st key fs _ case' _ _ level slot probe g (λ q s. record { takes = takes_current at level q a; searched = s }))
      (λ a b g. budgeted_chose st key fs _ case' _ _ _ _ level slot probe g
      (λ q s. record { takes = takes_current at level q a; searched = s })
      (λ q s. record { takes = takes_next at level q b; searched = s }))

  pair_schedule : (at : ℕ) → pair_of st key cs fs at ≡ Err refusal.Schedule → BothLow st (suc at) cs
  unfolding pair_of
  pair_schedule at h =
      pair_cases _ _ _ _ _ _ _ h
      (λ a b g. record { at = at; batch = omega arith; current = leb-true _ _ a; next = leb-true _ _ b })
      (λ b g. uniform_never st key fs _ _ _ g)
      (λ a g. uniform_never st key fs _ _ _ g)
      (λ a b g. budgeted_never st key fs _ _ _ _ _ g)

  -- The slot that a batch chooses is in level 0 in batch 0, in a later batch in a level that is not low, and a search of that level found it.
  pub steps_chose : (b : ℕ) (case' : Case) (level slot : ℕ) (probe : LogicalProbe) → steps_of st key cs fs b ≡ Ok (choice case' level slot probe)
      → Chose st key b cs fs level slot probe
  unfolding steps_of
  steps_chose zero case' level slot probe h = uniform_chose st key fs _ case' _ _ level slot probe h (λ q s. record { takes = alone refl (sym q); searched = s })
  steps_chose (suc at) case' level slot probe h = pair_chose at case' level slot probe h

  -- A batch answers SCHEDULE only where both of its levels are low.
  pub steps_schedule : (b : ℕ) → steps_of st key cs fs b ≡ Err refusal.Schedule → BothLow st b cs
  unfolding steps_of
  steps_schedule zero h = uniform_never st key fs _ _ _ h
  steps_schedule (suc at) h = pair_schedule at h

-- ---- the choice

module _ (st : State) (cs ws fs : List ℕ) (id : ℕ) where
  -- a choice that is neither DUPLICATE nor EXHAUSTED is the batch's
  stepped : (x : Chosen) → ((slot : GlobalSlot) → Err (refusal.Duplicate slot) ≡ x → ⊥) → (Err refusal.Exhausted ≡ x → ⊥) → choose_of st cs ws fs id ≡ x → Stepped st cs ws fs id x
  unfolding choose_of
  stepped x no-dup no_end h = go (first_of ws fs id) refl h
    where
      by : first_of ws fs id ≡ None → (y : Bool) → leb st.plan.maximum st.count ≡ y
          → pick y (Err refusal.Exhausted) (steps_of st (elastic_key_of st.seed id) cs fs (batch_now st)) ≡ x → Stepped st cs ws fs id x
      by a true e g = absurd (no_end g)
      by a false e g = record { absent = a; room = leb-false _ _ e; steps = g }

      go : (r : Located) → first_of ws fs id ≡ r → choose_by st id cs fs r ≡ x → Stepped st cs ws fs id x
      go (Some u) e g = absurd (no-dup _ g)
      go None e g = by e (leb st.plan.maximum st.count) refl g

  pub slot_stepped : (case : Case) (level slot : ℕ) (probe : LogicalProbe) → choose_of st cs ws fs id ≡ Ok (choice case level slot probe) → Stepped st cs ws fs id (Ok (choice case level slot probe))
  slot_stepped case level slot probe h = stepped _ (λ s q. never (cc)) (λ q. never (cc)) h

  pub schedule_stepped : choose_of st cs ws fs id ≡ Err refusal.Schedule → Stepped st cs ws fs id (Err refusal.Schedule)
  schedule_stepped h = stepped _ (λ s q. never (cc)) (λ q. never (cc)) h
