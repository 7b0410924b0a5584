-- Laws of the public calls: the gate test by test, what it says once passed, and that an opening has one outcome. Assumes nothing.
use Rattle.std.specs.Prelude.{Result, Ok, Err, Bool, not, List, ℕ, ◌≤◌, ◌<◌, eqb}
use Rattle.std.proofs.Math.Bool.{true, false}
use Rattle.std.proofs.Math.Path.{◌≡◌, refl, ap, sym}
use Rattle.std.proofs.Common.{◌∙◌}
use native.Mathlib.Omega.{arith}
use Rattle.std.proofs.Math.Dec.{ltb}
use Rattle.std.proofs.Math.ListN.{length, replicate}
use borrow.Author.Tests.{eq-eqb, ne_eqb, lt-ltb, le-ltb, eqb-true, eqb-false, ltb-false}
use Rattle.refusal.specs.declared.Gate.{Gate}
use Rattle.refusal.specs.declared.Gate.TheVariants as gate
use Rattle.geometry.specs.Config.{Gated, refuse_if}
use Rattle.geometry.specs.Funnel.{IsPlan}
use Rattle.geometry.specs.FunnelGate.{funnel_gate, is_plan, Planned}
use Rattle.geometry.specs.FunnelGateLaws.{plan_answers, plan_of_true, plan_passes}
use Rattle.geometry.specs.FunnelLaws.{plan_unique}
use Rattle.geometry.specs.declared.funnel.FunnelPlan.{FunnelPlan}
use Rattle.funnel.specs.declared.table.FunnelTable.{FunnelTable}
use Rattle.funnel.specs.declared.table.Search.{Search}
use Rattle.funnel.specs.declared.table.Step.{Step}
use Rattle.funnel.specs.declared.table.PlacedAll.{PlacedAll}
use Rattle.funnel.specs.Calls.{OpenAnswer, gate_then, limits_then, lengths_then, table_gate, open_gate, place_gate, Opens, search_answer_of, insertions, insert_answer_of, placements, place_answer_of}
use Rattle.funnel.specs.Search.{find_of}
use Rattle.funnel.specs.Insert.{done, insert_of, placed, place_all_of}
use Rattle.funnel.specs.Valid.{Valid}

-- ---- the parts of a gate

module _ (cap : ℕ) (later : Gated) where
  pub limits_zero : cap ≡ 0 → Err gate.Limits ≡ limits_then cap later
  unfolding limits_then
  limits_zero e = sym (rw (eq-eqb cap 0 e))

  pub limits_many : (cap ≡ 0 → ⊥) → 256 < cap → Err gate.Limits ≡ limits_then cap later
  unfolding limits_then
  limits_many n l = sym (rw (ne_eqb cap 0 n, lt-ltb 256 cap l))

  pub limits_pass : (cap ≡ 0 → ⊥) → cap ≤ 256 → later ≡ limits_then cap later
  unfolding limits_then
  limits_pass n l = sym (rw (ne_eqb cap 0 n, le-ltb 256 cap l))

module _ (n words flags : ℕ) (later : Gated) where
  pub lengths_words : (words ≡ n → ⊥) → Err gate.State ≡ lengths_then n words flags later
  unfolding lengths_then
  lengths_words w = sym (rw (ne_eqb words n w))

  pub lengths_flags : words ≡ n → (flags ≡ n → ⊥) → Err gate.State ≡ lengths_then n words flags later
  unfolding lengths_then
  lengths_flags w f = sym (rw (eq-eqb words n w, ne_eqb flags n f))

  pub lengths_pass : words ≡ n → flags ≡ n → later ≡ lengths_then n words flags later
  unfolding lengths_then
  lengths_pass w f = sym (rw (eq-eqb words n w, eq-eqb flags n f))

-- what the tests of the cap, and those of the lengths, say alone says what they say with later tests
module _ (cap : ℕ) (r : Gated) (is : r ≡ limits_then cap (Ok tt)) (later : Gated) where
  limits_later : limits_then cap later ≡ gate_then (limits_then cap (Ok tt)) later
  unfolding limits_then
  limits_later = go (eqb cap 0) (ltb 256 cap)
    where
      go : (x y : Bool) → refuse_if x gate.Limits (refuse_if y gate.Limits later) ≡ gate_then (refuse_if x gate.Limits (refuse_if y gate.Limits (Ok tt))) later
      go true y = refl
      go false true = refl
      go false false = refl

  pub limits_refused : (g : Gate) → r ≡ Err g → Err g ≡ limits_then cap later
  limits_refused g h = let f : limits_then cap (Ok tt) ≡ Err g = sym is ∙ h in sym (limits_later ∙ ap (λ (x : Gated). gate_then x later) f)

  pub limits_passed : r ≡ Ok tt → later ≡ limits_then cap later
  limits_passed h = let f : limits_then cap (Ok tt) ≡ Ok tt = sym is ∙ h in sym (limits_later ∙ ap (λ (x : Gated). gate_then x later) f)

module _ (n words flags : ℕ) (r : Gated) (is : r ≡ lengths_then n words flags (Ok tt)) (later : Gated) where
  lengths_later : lengths_then n words flags later ≡ gate_then (lengths_then n words flags (Ok tt)) later
  unfolding lengths_then
  lengths_later = go (eqb words n) (eqb flags n)
    where
      go : (x y : Bool) → refuse_if (not x) gate.State (refuse_if (not y) gate.State later) ≡ gate_then (refuse_if (not x) gate.State (refuse_if (not y) gate.State (Ok tt))) later
      go false y = refl
      go true false = refl
      go true true = refl

  pub lengths_refused : (g : Gate) → r ≡ Err g → Err g ≡ lengths_then n words flags later
  lengths_refused g h = let f : lengths_then n words flags (Ok tt) ≡ Err g = sym is ∙ h in sym (lengths_later ∙ ap (λ (x : Gated). gate_then x later) f)

  pub lengths_passed : r ≡ Ok tt → later ≡ lengths_then n words flags later
  lengths_passed h = let f : lengths_then n words flags (Ok tt) ≡ Ok tt = sym is ∙ h in sym (lengths_later ∙ ap (λ (x : Gated). gate_then x later) f)

-- where the later tests refuse by STATE, so do the lengths and they together
pub lengths_state : (n words flags : ℕ) → lengths_then n words flags (Err gate.State) ≡ Err gate.State
unfolding lengths_then
lengths_state n words flags = go (eqb words n) (eqb flags n)
  where
    go : (x y : Bool) → refuse_if (not x) gate.State (refuse_if (not y) gate.State (Err gate.State)) ≡ Err gate.State
    go true true = refl
    go true false = refl
    go false y = refl

pub refuse_state : (b : Bool) → refuse_if b gate.State (Err gate.State) ≡ Err gate.State
refuse_state true = refl
refuse_state false = refl

-- the tests of an opening and of a placement
pub open_gate_refused : (n e cap words flags : ℕ) (r : Gated) (g : Gate) → r ≡ funnel_gate n e → r ≡ Err g → Err g ≡ open_gate n e cap words flags
unfolding open_gate
open_gate_refused n e cap words flags r g i h = let f : funnel_gate n e ≡ Err g = sym i ∙ h in sym (rw f)

pub open_gate_later : (n e cap words flags : ℕ) (r later lengths : Gated) → r ≡ funnel_gate n e → r ≡ Ok tt → lengths ≡ lengths_then n words flags (Ok tt)
    → later ≡ limits_then cap lengths → later ≡ open_gate n e cap words flags
unfolding open_gate
open_gate_later n e cap words flags r later lengths i h l m = let f : funnel_gate n e ≡ Ok tt = sym i ∙ h in m ∙ sym (rw (f, l))

module _ (table : FunnelTable) (counts : List ℕ) (words flags identities slots : ℕ) (r : Gated) (is : r ≡ table_gate table counts words flags) where
  pub place_gate_refused : (g : Gate) → r ≡ Err g → Err g ≡ place_gate table counts words flags identities slots
  unfolding place_gate
  place_gate_refused g h = let f : table_gate table counts words flags ≡ Err g = sym is ∙ h in sym (rw f)

  pub place_gate_short : r ≡ Ok tt → slots < identities → Err gate.State ≡ place_gate table counts words flags identities slots
  unfolding place_gate
  place_gate_short h l = let f : table_gate table counts words flags ≡ Ok tt = sym is ∙ h in sym (rw (f, lt-ltb slots identities l))

  pub place_gate_pass : r ≡ Ok tt → identities ≤ slots → Ok tt ≡ place_gate table counts words flags identities slots
  unfolding place_gate
  place_gate_pass h l = let f : table_gate table counts words flags ≡ Ok tt = sym is ∙ h in sym (rw (f, le-ltb slots identities l))

-- ---- the gate of a table

module _ (table : FunnelTable) (counts : List ℕ) (words flags : ℕ) where
  pub gate_refused : (r : Gated) (g : Gate) → r ≡ funnel_gate table.n table.e → r ≡ Err g → Err g ≡ table_gate table counts words flags
  unfolding table_gate
  gate_refused r g e h = let f : funnel_gate table.n table.e ≡ Err g = sym e ∙ h in sym (rw f)

  pub gate_unplanned : (r later : Gated) → is_plan table.n table.e table.plan counts ≡ false → r ≡ funnel_gate table.n table.e → r ≡ Ok tt
      → later ≡ limits_then table.word_cap (Err gate.State) → later ≡ table_gate table counts words flags
  unfolding table_gate
  gate_unplanned r later p e h l =
      let f : funnel_gate table.n table.e ≡ Ok tt = sym e ∙ h in
      l ∙ sym (rw (f, p, refuse_state (ltb table.n table.count), lengths_state table.n words flags))

  module _ (p : is_plan table.n table.e table.plan counts ≡ true) where
    passes : funnel_gate table.n table.e ≡ Ok tt
    passes = plan_passes (plan_of_true table.n table.e table.plan counts p)

    -- where the plan is right, n and e have a layout, and the later tests are left
    pub gate_right : table_gate table counts words flags ≡ limits_then table.word_cap (lengths_then table.n words flags (refuse_if (ltb table.n table.count) gate.State (Ok tt)))
    unfolding table_gate
    gate_right = rw (passes, p)

    module _ (limits : Gated) (l : limits ≡ limits_then table.word_cap (Ok tt)) (cap : limits ≡ Ok tt) where
      pub gate_tested : {later : Gated} → later ≡ lengths_then table.n words flags (refuse_if (ltb table.n table.count) gate.State (Ok tt))
          → later ≡ table_gate table counts words flags
      gate_tested e = e ∙ limits_passed table.word_cap limits l _ cap ∙ sym gate_right

      module _ (lengths : Gated) (m : lengths ≡ lengths_then table.n words flags (Ok tt)) (same : lengths ≡ Ok tt) where
        pub gate_counted : table.n < table.count → Err gate.State ≡ table_gate table counts words flags
        gate_counted c = gate_tested (rw (lt-ltb _ _ c) (lengths_passed table.n words flags lengths m (Err gate.State) same))

        pub gate_uncounted : table.count ≤ table.n → Ok tt ≡ table_gate table counts words flags
        gate_uncounted c = gate_tested (rw (le-ltb _ _ c) (lengths_passed table.n words flags lengths m (Ok tt) same))

    pub gate_planned : (later lengths : Gated) → table.count ≤ table.n → lengths ≡ lengths_then table.n words flags (Ok tt)
        → later ≡ limits_then table.word_cap lengths → later ≡ table_gate table counts words flags
    unfolding table_gate
    gate_planned later lengths c m l = l ∙ sym (rw (passes, p, le-ltb _ _ c, m))

-- a table that passes is valid
pub gate_valid : (table : FunnelTable) (counts words flags : List ℕ) → table_gate table counts (length words) (length flags) ≡ Ok tt → Valid table counts words flags
unfolding table_gate limits_then lengths_then
gate_valid table counts words flags h =
    go (funnel_gate table.n table.e) (eqb table.word_cap 0) (ltb 256 table.word_cap) (eqb (length words) table.n) (eqb (length flags) table.n)
    (ltb table.n table.count) (is_plan table.n table.e table.plan counts) refl refl refl refl refl refl h
  where
    no : {g : Gate} → ◌≡◌ {A = Gated} (Err g) (Ok tt) → ⊥
    no k = let z : ◌≡◌ {A = ℕ} 0 1 = cc in omega arith

    go : (a : Gated) (none many words_right flags_right above right : Bool)
        → eqb table.word_cap 0 ≡ none → ltb 256 table.word_cap ≡ many → eqb (length words) table.n ≡ words_right → eqb (length flags) table.n ≡ flags_right
        → ltb table.n table.count ≡ above → is_plan table.n table.e table.plan counts ≡ right
        → gate_then a
        (refuse_if none gate.Limits (refuse_if many gate.Limits (refuse_if (not words_right) gate.State
        (refuse_if (not flags_right) gate.State (refuse_if above gate.State (refuse_if (not right) gate.State (Ok tt)))))))
        ≡ Ok tt
        → Valid table counts words flags
    go (Err g) b d e f i j p q r s t u h = absurd (no h)
    go (Ok _) true d e f i j p q r s t u h = absurd (no h)
    go (Ok _) false true e f i j p q r s t u h = absurd (no h)
    go (Ok _) false false false f i j p q r s t u h = absurd (no h)
    go (Ok _) false false true false i j p q r s t u h = absurd (no h)
    go (Ok _) false false true true true j p q r s t u h = absurd (no h)
    go (Ok _) false false true true false false p q r s t u h = absurd (no h)
    go (Ok _) false false true true false true p q r s t u h =
        let x = eqb-false table.word_cap 0 p in
        record {
          planned = plan_of_true table.n table.e table.plan counts u;
          cap_least = omega arith;
          cap_most = ltb-false 256 table.word_cap q;
          words_length = eqb-true (length words) table.n r;
          flags_length = eqb-true (length flags) table.n s;
          counted = ltb-false table.n table.count t;
        }

-- and a valid table passes
pub valid_gate : {table : FunnelTable} {counts words flags : List ℕ} → Valid table counts words flags → table_gate table counts (length words) (length flags) ≡ Ok tt
unfolding table_gate
valid_gate {table} {counts} {words} {flags} v =
    let p : is_plan table.n table.e table.plan counts ≡ true = sym (plan_answers table.n table.e table.plan counts true v.planned) in
    let z : table.word_cap ≡ 0 → ⊥ = λ e. let l = v.cap_least in omega arith in
    sym
    (gate_planned table counts (length words) (length flags) p (Ok tt) (Ok tt) v.counted (lengths_pass table.n (length words) (length flags) (Ok tt) v.words_length v.flags_length)
    (limits_pass table.word_cap (Ok tt) z v.cap_most))

-- ---- the calls by what their gate said

module _ (table : FunnelTable) (counts words flags : List ℕ) (r : Gated) (is : r ≡ table_gate table counts (length words) (length flags)) where
  pub passed_valid : r ≡ Ok tt → Valid table counts words flags
  passed_valid h = gate_valid table counts words flags (sym is ∙ h)

  module _ (identity : ℕ) where
    pub search_refused : (g : Gate) → r ≡ Err g → Err g ≡ search_answer_of table counts words flags identity
    unfolding search_answer_of
    search_refused g h = let f : table_gate table counts (length words) (length flags) ≡ Err g = sym is ∙ h in sym (rw f)

    pub search_passed : (found : Search) → r ≡ Ok tt → found ≡ find_of table counts words flags identity → Ok found ≡ search_answer_of table counts words flags identity
    unfolding search_answer_of
    search_passed found h e = let f : table_gate table counts (length words) (length flags) ≡ Ok tt = sym is ∙ h in sym (rw (f, ← e))

    pub insert_refused : (g : Gate) → r ≡ Err g → insertions (Err g) words flags ≡ insert_answer_of table counts words flags identity
    unfolding insert_answer_of
    insert_refused g h = let f : table_gate table counts (length words) (length flags) ≡ Err g = sym is ∙ h in sym (rw f)

    pub insert_passed : (step : Step) (w v : List ℕ) → r ≡ Ok tt → done step.answer step.table w v ≡ insert_of table counts words flags identity
        → insertions (Ok step) w v ≡ insert_answer_of table counts words flags identity
    unfolding insert_answer_of
    insert_passed step w v h e = let f : table_gate table counts (length words) (length flags) ≡ Ok tt = sym is ∙ h in sym (rw (f, ← e))

module _ (table : FunnelTable) (counts words flags identities slots : List ℕ) (r : Gated)
    (is : r ≡ place_gate table counts (length words) (length flags) (length identities) (length slots)) where
  pub place_passed_valid : r ≡ Ok tt → Valid table counts words flags × (length identities ≤ length slots)
  unfolding place_gate
  place_passed_valid h = go (table_gate table counts (length words) (length flags)) (ltb (length slots) (length identities)) refl refl (sym is ∙ h)
    where
      go : (a : Gated) (b : Bool) → table_gate table counts (length words) (length flags) ≡ a → ltb (length slots) (length identities) ≡ b
          → gate_then a (refuse_if b gate.State (Ok tt)) ≡ Ok tt → Valid table counts words flags × (length identities ≤ length slots)
      go (Err g) b p q h = let z : ◌≡◌ {A = ℕ} 0 1 = cc in absurd (omega arith)
      go (Ok _) true p q h = let z : ◌≡◌ {A = ℕ} 0 1 = cc in absurd (omega arith)
      go (Ok _) false p q h = (gate_valid table counts words flags p, ltb-false (length slots) (length identities) q)

  pub place_refused : (g : Gate) → r ≡ Err g → placements (Err g) words flags slots ≡ place_answer_of table counts words flags identities slots
  unfolding place_answer_of
  place_refused g h = let f : place_gate table counts (length words) (length flags) (length identities) (length slots) ≡ Err g = sym is ∙ h in sym (rw f)

  pub place_passed : (all : PlacedAll) (w v s : List ℕ) → r ≡ Ok tt → placed all.answer all.table w v s ≡ place_all_of table counts words flags identities slots
      → placements (Ok all) w v s ≡ place_answer_of table counts words flags identities slots
  unfolding place_answer_of
  place_passed all w v s h e = let f : place_gate table counts (length words) (length flags) (length identities) (length slots) ≡ Ok tt = sym is ∙ h in sym (rw (f, ← e))

-- ---- opening

-- what a passed opening's gate says
pub open_facts : (n e cap words flags : ℕ) → open_gate n e cap words flags ≡ Ok tt → (funnel_gate n e ≡ Ok tt) × (1 ≤ cap) × (cap ≤ 256) × (words ≡ n) × (flags ≡ n)
unfolding open_gate limits_then lengths_then
open_facts n e cap words flags h = go (funnel_gate n e) (eqb cap 0) (ltb 256 cap) (eqb words n) (eqb flags n) refl refl refl refl refl h
  where
    no : {g : Gate} → ◌≡◌ {A = Gated} (Err g) (Ok tt) → ⊥
    no k = let z : ◌≡◌ {A = ℕ} 0 1 = cc in omega arith

    go : (a : Gated) (none many words_right flags_right : Bool) → funnel_gate n e ≡ a → eqb cap 0 ≡ none → ltb 256 cap ≡ many → eqb words n ≡ words_right → eqb flags n ≡ flags_right
        → gate_then a (refuse_if none gate.Limits (refuse_if many gate.Limits (refuse_if (not words_right) gate.State (refuse_if (not flags_right) gate.State (Ok tt))))) ≡ Ok tt
        → (funnel_gate n e ≡ Ok tt) × (1 ≤ cap) × (cap ≤ 256) × (words ≡ n) × (flags ≡ n)
    go (Err g) b d i j o p q r s h = absurd (no h)
    go (Ok _) true d i j o p q r s h = absurd (no h)
    go (Ok _) false true i j o p q r s h = absurd (no h)
    go (Ok _) false false false j o p q r s h = absurd (no h)
    go (Ok _) false false true false o p q r s h = absurd (no h)
    go (Ok _) false false true true o p q r s h =
        let x = eqb-false cap 0 p in
        (o, omega arith, ltb-false 256 cap q, eqb-true words n r, eqb-true flags n s)

module _ (n e seed cap : ℕ) (counts words flags : List ℕ) (r : Gated) (is : r ≡ open_gate n e cap (length words) (length flags)) where
  pub opens_refused : (g : Gate) → r ≡ Err g → Opens n e seed cap counts words flags (Err g) counts words flags
  unfolding Opens
  opens_refused g h = (sym is ∙ h, refl, refl, refl)

  module _ (h : r ≡ Ok tt) (p : Result FunnelPlan Gate) (counts' : List ℕ) (plans : Planned n e counts p counts') where
    -- where the gate passes there is a plan
    pub opens_planned : (g : Gate) → p ≡ Err g → ⊥
    unfolding Planned
    opens_planned g f =
        let a = open_facts n e cap (length words) (length flags) (sym is ∙ h) in
        let b : funnel_gate n e ≡ Err g = (rw f at plans).0 in
        let z : ◌≡◌ {A = ℕ} 0 1 = cc a.0 in
        omega arith

    pub opens_table : (plan : FunnelPlan) (w f : List ℕ) → p ≡ Ok plan → w ≡ replicate (length words) 0 → f ≡ replicate (length flags) 0
        → Opens n e seed cap counts words flags (Ok (record { n = n; e = e; seed = seed; word_cap = cap; count = 0; plan = plan })) counts' w f
    unfolding Opens Planned
    opens_table plan w f g x y =
        let a = open_facts n e cap (length words) (length flags) (sym is ∙ h) in
        let b : IsPlan n e plan counts' = rw g at plans in
        (sym is ∙ h, b, x ∙ ap (λ (k : ℕ). replicate k 0) a.3, y ∙ ap (λ (k : ℕ). replicate k 0) a.4, refl)

-- an opening has one outcome
pub opens_unique : (n e seed cap : ℕ) (counts words flags : List ℕ) (r s : OpenAnswer) (c w f d v g : List ℕ)
    → Opens n e seed cap counts words flags r c w f → Opens n e seed cap counts words flags s d v g → (r ≡ s) × (c ≡ d) × (w ≡ v) × (f ≡ g)
unfolding Opens
opens_unique n e seed cap counts words flags (Err x) (Err y) c w f d v g a b =
    let h : x ≡ y = cc (a.0, b.0) in
    (rw h, a.1 ∙ sym b.1, a.2 ∙ sym b.2, a.3 ∙ sym b.3)
opens_unique n e seed cap counts words flags (Err x) (Ok t) c w f d v g a b = let z : ◌≡◌ {A = ℕ} 0 1 = cc (a.0, b.0) in absurd (omega arith)
opens_unique n e seed cap counts words flags (Ok t) (Err y) c w f d v g a b = let z : ◌≡◌ {A = ℕ} 0 1 = cc (a.0, b.0) in absurd (omega arith)
opens_unique n e seed cap counts words flags (Ok t) (Ok u) c w f d v g a b =
    let p = plan_unique a.1 b.1 in
    (cc (a.4, b.4, p.0), p.1, a.2 ∙ sym b.2, a.3 ∙ sym b.3)
