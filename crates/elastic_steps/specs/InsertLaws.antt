-- Laws of the insertion. Assumes nothing.
use Rattle.std.specs.Prelude.{Bool, true, false, List, ℕ, zero, suc, ◌+◌, ◌-◌, ◌*◌, ◌/◌, ◌^◌, ◌≤◌, ◌<◌, leb, length, get_or, set, Some, None, Result, Ok, Err}
use Rattle.std.proofs.Math.Path.{◌≡◌, refl, sym}
use Rattle.std.proofs.Common.{ap, ◌∙◌, mul-le-mul, arith}
use borrow.Author.Tests.{ne_eqb, lt-ltb, le-ltb, le-leb, lt-leb, leb-false}
use Rattle.refusal.specs.declared.RangeRefusal.{RangeRefusal}
use Rattle.refusal.specs.declared.Gate.{Gate}
use Rattle.words.specs.declared.place.LogicalProbe.{LogicalProbe}
use Rattle.words.specs.Pick.{pick}
use Rattle.geometry.specs.Config.{maximum}
use Rattle.geometry.specs.Elastic.{levels_of, level_length, lengths_of, length_at, offset_at, batch_from, batch_of, quotas_of, cut, later_quotas, split}
use Rattle.geometry.specs.ElasticLaws.{levels_facts, uncut_later, batch_is}
use Rattle.elastic_probe.specs.Budget.{probes_of, budget_of}
use Rattle.elastic_probe.specs.BudgetLaws.{probes_most, budget_in_table}
use Rattle.elastic_probe.specs.declared.budget.BudgetRefusal.{BudgetRefusal}
use Rattle.elastic_probe.specs.declared.phi.PhiRefusal.{PhiRefusal}
use Rattle.elastic_probe.specs.Phi.{phi}
use Rattle.elastic_probe.specs.PhiLaws.{phi_bound}
use Rattle.elastic_probe.specs.Position.{bounded_of}
use Rattle.probe.specs.Word.{elastic_key_of}
use Rattle.elastic.specs.declared.state.State.{State}
use Rattle.elastic_steps.specs.declared.answer.Case.{Case}
use Rattle.elastic_steps.specs.declared.answer.Case.TheVariants.{Batch0, Case1, Case2, Case3}
use Rattle.elastic_steps.specs.declared.answer.InsertRefusal.{InsertRefusal}
use Rattle.elastic_steps.specs.declared.answer.InsertRefusal.TheVariants as refusal
use Rattle.elastic_steps.specs.declared.answer.Choice.{Choice}
use Rattle.elastic.specs.State.{gate_of, Valid, Searching, Pairing, Affordable}
use Rattle.elastic.specs.Reading.{vacant, Sought, Located, seek_of, first_of, Probed, Seekable}
use Rattle.elastic.specs.ReadingLaws.{probed_offset, probed_few, probed_length, probed_within, seek_vacant}
use Rattle.elastic_steps.specs.Insert.{InsertAnswer, Chosen, choice, uniform_by, uniform_of, budgeted_by, budgeted_of, free_at, pair_by, pair_of, steps_of, choose_by, choose_of, Done, done, counted, added_to, Storable, taken_at, place_by, insert_of}

-- ---- what is asked of the searches

module _ {st : State} {level flags : ℕ} (s : Searching st level flags) where
  pub searching_probed : (last : ℕ) → last ≡ st.plan.levels - 1 → Probed st.n last st.limits.range_word_cap level
  searching_probed last e =
      record {
        least = s.config.least;
        most = s.config.most;
        last_is = omega (arith, s.levels_is, (levels_facts st.n st.e s.config).some);
        has = omega (arith, s.levels_is, s.has);
        few = s.limits.words_most;
      }

  pub searching_seekable : (last tries : ℕ) → last ≡ st.plan.levels - 1 → tries ≤ 8192 → Seekable st.n last st.limits.range_word_cap level tries flags
  searching_seekable last tries e h = record { probed = searching_probed last e; tries_most = h; size = s.flags_size }

  pub searching_few : level < 32
  searching_few = probed_few (searching_probed (st.plan.levels - 1) refl)

  -- the length that the code has
  pub searching_length : (l : ℕ) → l ≡ level_length (st.plan.levels - 1 - level) (st.n / 2 ^ level) → (l ≡ length_at st.n level) × (l ≤ 4294967296)
  searching_length l e =
      let q = searching_probed (st.plan.levels - 1) refl in
      let x = probed_length q l e in
      (x, omega (arith, x, probed_within q, s.config.most))

  -- a level before it can be searched too
  pub searching_before : (k : ℕ) → k ≤ level → Searching st k flags
  searching_before k h = record { config = s.config; limits = s.limits; flags_size = s.flags_size; levels_is = s.levels_is; has = omega (arith, s.has) }

pub valid_searching : {st : State} {cs : List ℕ} {words flags : ℕ} → Valid st cs words flags → (level : ℕ) → level < levels_of st.n → Searching st level flags
valid_searching v level h = record { config = v.config; limits = v.limits; flags_size = v.flags_size; levels_is = v.levels_is; has = h }

module _ {st : State} {cs : List ℕ} {current flags : ℕ} (p : Pairing st cs current flags) where
  -- what is asked of the room of either level
  pub pairing_room : (k : ℕ) → k ≤ current + 1 → Searching st k st.n × (get_or cs k 0 ≤ length_at st.n k)
  pairing_room k h =
      let s = p.search in
      (record { config = s.config; limits = s.limits; flags_size = refl; levels_is = s.levels_is; has = omega (arith, s.has) }, p.within k)

  pub pairing_affordable : (l free : ℕ) → l ≤ 4294967296 → 0 < free → free ≤ l → Affordable free l st.e st.limits.probe_budget_c
  pairing_affordable l free h a b = record { some = a; most = b; small = h; factor_some = p.search.limits.factor_some; factor_most = p.search.limits.factor_most }

-- ---- numbers that no table refuses

module _ (free size e c : ℕ) (a : Affordable free size e c) (b : Result ℕ BudgetRefusal) (is : b ≡ budget_of free size e c) where
  pub budget_given : b ≡ Ok (probes_of free size e c)
  budget_given = is ∙ sym (budget_in_table free size e c a.some a.most a.small a.factor_some a.factor_most)

  pub budget_probes : (p : ℕ) → b ≡ Ok p → (p ≡ probes_of free size e c) × (p ≤ 8192)
  budget_probes p h =
      let g = budget_given in
      let same : p ≡ probes_of free size e c = cc in
      (same, rw same (probes_most free size e c a.some a.most a.small a.factor_some a.factor_most))

  pub budget_never : {A : Type 0} → (r : BudgetRefusal) → b ≡ Err r → A
  budget_never r h = let g = budget_given in let z : ◌≡◌ {A = ℕ} 0 1 = cc in absurd (omega arith)

phi_word : (level probe : ℕ) → level < 32 → probe < 8192 → phi (level + 1) (probe + 1) < 2 ^ 64
phi_word level probe h k =
    let a : (probe + 1) * (probe + 1) ≤ 8192 * 8192 = mul-le-mul {n₂ = 8192} {m₂ = 8192} (omega arith) (omega arith) in
    let b : 16 * (level + 1) * ((probe + 1) * (probe + 1)) ≤ 512 * (8192 * 8192) = mul-le-mul {n₂ = 512} {m₂ = 8192 * 8192} (omega arith) a in
    let d = phi_bound (level + 1) (probe + 1) (omega arith) (omega arith) in
    below (phi (level + 1) (probe + 1)) _ d b
  where
    below : (x y : ℕ) → x < y → y ≤ 512 * (8192 * 8192) → x < 2 ^ 64
    below x y u v = omega arith

module _ (level probe : ℕ) (h : level < 32) (k : probe < 8192) (b : Result ℕ PhiRefusal) (is : b ≡ bounded_of (level + 1) (probe + 1)) where
  pub position_given : b ≡ Ok (phi (level + 1) (probe + 1))
  unfolding bounded_of
  position_given =
      is ∙ rw (ne_eqb (level + 1) 0 (λ z. omega arith), ne_eqb (probe + 1) 0 (λ z. omega arith), le-ltb 65535 (probe + 1) (omega arith), lt-ltb (phi (level + 1) (probe + 1)) (2 ^ 64) (phi_word level probe h k))

  pub position_is : (p : ℕ) → b ≡ Ok p → p ≡ phi (level + 1) (probe + 1)
  position_is p e = let g = position_given in cc

  pub position_never : {A : Type 0} → (r : PhiRefusal) → b ≡ Err r → A
  position_never r e = let g = position_given in let z : ◌≡◌ {A = ℕ} 0 1 = cc in absurd (omega arith)

-- ---- the uniform search

module _ (n key cap : ℕ) (fs : List ℕ) (tries : ℕ) (case : Case) (level : ℕ) (r : Sought) (e : r ≡ seek_of n key cap fs level tries) where
  pub uniform_vacant : (slot : ℕ) (probe : LogicalProbe) → r ≡ Ok (Some (vacant slot probe)) → Ok (choice case level slot probe) ≡ uniform_of n key cap fs tries case level
  unfolding uniform_of
  uniform_vacant slot probe h = sym (rw (← e, h))

  pub uniform_passed : r ≡ Ok None → Err refusal.Search ≡ uniform_of n key cap fs tries case level
  unfolding uniform_of
  uniform_passed h = sym (rw (← e, h))

  pub uniform_refused : (x : RangeRefusal) → r ≡ Err x → Err (refusal.Range x) ≡ uniform_of n key cap fs tries case level
  unfolding uniform_of
  uniform_refused x h = sym (rw (← e, h))

-- ---- the budgeted search

module _ (n key cap : ℕ) (fs : List ℕ) (tries budget : ℕ) (case : Case) (current next : ℕ) (r : Sought) (e : r ≡ seek_of n key cap fs current budget) where
  pub budgeted_vacant : (slot : ℕ) (probe : LogicalProbe) → r ≡ Ok (Some (vacant slot probe)) → Ok (choice case current slot probe) ≡ budgeted_of n key cap fs tries budget case current next
  unfolding budgeted_of
  budgeted_vacant slot probe h = sym (rw (← e, h))

  pub budgeted_passed : (x : Chosen) → r ≡ Ok None → x ≡ uniform_of n key cap fs tries case next → x ≡ budgeted_of n key cap fs tries budget case current next
  unfolding budgeted_of
  budgeted_passed x h q = q ∙ sym (rw (← e, h))

  pub budgeted_refused : (x : RangeRefusal) → r ≡ Err x → Err (refusal.Range x) ≡ budgeted_of n key cap fs tries budget case current next
  unfolding budgeted_of
  budgeted_refused x h = sym (rw (← e, h))

-- ---- two levels

module _ (st : State) (key : ℕ) (cs fs : List ℕ) (current l m f g q : ℕ) (a : l ≡ length_at st.n current) (b : m ≡ length_at st.n (current + 1))
    (x : f ≡ free_at st.n cs current) (y : g ≡ free_at st.n cs (current + 1)) (d : q ≡ l / 2 ^ (st.e + 1)) where
  pub pair_schedule : f ≤ q → g ≤ m / 4 → Err refusal.Schedule ≡ pair_of st key cs fs current
  unfolding pair_of pair_by
  pair_schedule h k = sym (rw (← x, ← y, ← a, ← b, ← d, le-leb f q h, le-leb g (m / 4) k))

  pub pair_next : (r : Chosen) → f ≤ q → m / 4 < g
      → r ≡ uniform_of st.n key st.limits.range_word_cap fs st.limits.uniform_search_probe_cap (Case2 (current + 1) current (current + 1) f g) (current + 1)
      → r ≡ pair_of st key cs fs current
  unfolding pair_of pair_by
  pair_next r h k w = w ∙ sym (rw (← x, ← y, ← a, ← b, ← d, le-leb f q h, lt-leb g (m / 4) k))

  pub pair_current : (r : Chosen) → q < f → g ≤ m / 4
      → r ≡ uniform_of st.n key st.limits.range_word_cap fs st.limits.uniform_search_probe_cap (Case3 (current + 1) current (current + 1) f g) current
      → r ≡ pair_of st key cs fs current
  unfolding pair_of pair_by
  pair_current r h k w = w ∙ sym (rw (← x, ← y, ← a, ← b, ← d, lt-leb f q h, le-leb g (m / 4) k))

  pub pair_neither : (r : Chosen) → q < f → m / 4 < g
      → r ≡ budgeted_of st.n key st.limits.range_word_cap fs st.limits.uniform_search_probe_cap (probes_of f l st.e st.limits.probe_budget_c)
      (Case1 (current + 1) current (current + 1) f g (probes_of f l st.e st.limits.probe_budget_c)) current (current + 1)
      → r ≡ pair_of st key cs fs current
  unfolding pair_of pair_by
  pair_neither r h k w = w ∙ sym (rw (← x, ← y, ← a, ← b, ← d, lt-leb f q h, lt-leb g (m / 4) k))

-- ---- the batch

pub steps_first : (st : State) (key : ℕ) (cs fs : List ℕ) (batch : ℕ) (x : Chosen) → batch ≡ 0
    → x ≡ uniform_of st.n key st.limits.range_word_cap fs st.limits.uniform_search_probe_cap (Batch0 0) 0 → x ≡ steps_of st key cs fs batch
unfolding steps_of
steps_first st key cs fs batch x h w = w ∙ sym (rw h)

pub steps_later : (st : State) (key : ℕ) (cs fs : List ℕ) (batch : ℕ) (x : Chosen) → (batch ≡ 0 → ⊥) → x ≡ pair_of st key cs fs (batch - 1) → x ≡ steps_of st key cs fs batch
unfolding steps_of
steps_later st key cs fs zero x h w = absurd (h refl)
steps_later st key cs fs (suc b) x h w = let s : suc b - 1 ≡ b = omega arith in w ∙ ap (pair_of st key cs fs) s

-- the code's batch is that of the quotas
pub batch_code : (n e levels most count b : ℕ) → levels ≡ levels_of n → most ≡ maximum n e → b ≡ batch_from 0 count (cut most (later_quotas e 0 (split levels n))) → b ≡ batch_of n e count
unfolding batch_of quotas_of lengths_of
batch_code n e levels most count b a d h = h ∙ rw (a, d, ← uncut_later e (split (levels_of n) n))

module _ (st : State) (cs ws fs : List ℕ) (id : ℕ) (r : Located) (e : r ≡ first_of ws fs id) where
  pub choose_duplicate : (slot : ℕ) → r ≡ Some slot → Err (refusal.Duplicate (record { 0 = slot })) ≡ choose_of st cs ws fs id
  unfolding choose_of
  choose_duplicate slot h = sym (rw (← e, h))

  pub choose_exhausted : r ≡ None → st.plan.maximum ≤ st.count → Err refusal.Exhausted ≡ choose_of st cs ws fs id
  unfolding choose_of
  choose_exhausted h l = sym (rw (← e, h, le-leb st.plan.maximum st.count l))

  pub choose_steps : (x : Chosen) (key batch : ℕ) → r ≡ None → st.count < st.plan.maximum → key ≡ elastic_key_of st.seed id → batch ≡ batch_of st.n st.e st.count
      → x ≡ steps_of st key cs fs batch → x ≡ choose_of st cs ws fs id
  unfolding choose_of
  choose_steps x key batch h l a b w = w ∙ sym (rw (← e, h, lt-leb st.plan.maximum st.count l, ← a, ← b))

-- ---- the slot that is chosen

-- a vacant slot of its level, at a probe within the packing
pub record Taken (st : State) (fs : List ℕ) (level slot : ℕ) (probe : LogicalProbe) : Type 0 where
  pub has : level < levels_of st.n
  pub few : level < 32
  pub from : offset_at st.n level ≤ slot
  pub to : slot < offset_at st.n level + length_at st.n level
  pub below : slot < st.n
  pub vacant : get_or fs slot 0 ≡ 0
  pub in_time : probe.0 < 8192

-- what is asked where it is taken
module _ {st : State} {cs fs : List ℕ} {words flags level slot : ℕ} {probe : LogicalProbe} (v : Valid st cs words flags) (t : Taken st fs level slot probe) where
  taken_probed : Probed st.n (st.plan.levels - 1) st.limits.range_word_cap level
  taken_probed = searching_probed (valid_searching v level t.has) (st.plan.levels - 1) refl

  pub taken_storable : Storable cs level
  taken_storable = record { few = t.few; low = omega (arith, v.within level, probed_within taken_probed, v.config.most) }

  pub taken_offset : st.n - st.n / 2 ^ level ≡ offset_at st.n level
  taken_offset = probed_offset taken_probed (st.n - st.n / 2 ^ level) refl

  pub taken_asked : (st.n - st.n / 2 ^ level ≤ slot) × (probe.0 < 8192) × (st.count ≤ 4294967296)
  taken_asked = (omega (arith, taken_offset, t.from), t.in_time, omega (arith, v.count_most, v.config.most))

-- a pair of levels, by the one that is searched
pair_cases : {A : Type 0} (x y : Bool) (both here there neither r : Chosen) → pair_by x y both here there neither ≡ r
    → (both ≡ r → A) → (here ≡ r → A) → (there ≡ r → A) → (x ≡ false → neither ≡ r → A) → A
unfolding pair_by
pair_cases true true both here there neither r h a b c d = a h
pair_cases true false both here there neither r h a b c d = b h
pair_cases false true both here there neither r h a b c d = c h
pair_cases false false both here there neither r h a b c d = d refl h

module _ {st : State} {fs : List ℕ} (key : ℕ) where
  taken_seek : {level : ℕ} → Searching st level (length fs) → (tries slot : ℕ) (probe : LogicalProbe) → tries ≤ 8192 → seek_of st.n key st.limits.range_word_cap fs level tries ≡ Ok (Some (vacant slot probe))
      → Taken st fs level slot probe
  taken_seek s tries slot probe h e =
      let q = searching_probed s (st.plan.levels - 1) refl in
      let v = seek_vacant q key fs tries slot probe e in
      record { has = s.has; few = probed_few q; from = v.from; to = v.to; below = v.below; vacant = v.vacant; in_time = omega (arith, v.in_time) }

  -- by what a search answers
  pub uniform_taken : {level : ℕ} → Searching st level (length fs) → (case case' : Case) (level' slot : ℕ) (probe : LogicalProbe)
      → uniform_of st.n key st.limits.range_word_cap fs st.limits.uniform_search_probe_cap case level ≡ Ok (choice case' level' slot probe) → Taken st fs level' slot probe
  unfolding uniform_of
  uniform_taken {level} s case case' level' slot probe h =
      go (seek_of st.n key st.limits.range_word_cap fs level st.limits.uniform_search_probe_cap) refl h
    where
      go : (r : Sought) → seek_of st.n key st.limits.range_word_cap fs level st.limits.uniform_search_probe_cap ≡ r → uniform_by case level r ≡ Ok (choice case' level' slot probe) → Taken st fs level' slot probe
      go (Ok (Some v)) e g =
          let same : choice case level v.slot v.probe ≡ choice case' level' slot probe = cc in
          let a : level ≡ level' = ap (λ (x : Choice). x.level) same in
          let b : v.slot ≡ slot = ap (λ (x : Choice). x.slot) same in
          let d : ◌≡◌ {A = LogicalProbe} v.probe probe = ap (λ (x : Choice). x.probe) same in
          rw (← a, ← b, ← d) (taken_seek s _ v.slot v.probe s.limits.search_most e)
      go (Ok None) e g = let z : ◌≡◌ {A = ℕ} 0 1 = cc in absurd (omega arith)
      go (Err r) e g = let z : ◌≡◌ {A = ℕ} 0 1 = cc in absurd (omega arith)

  budgeted_taken : {current next : ℕ} → Searching st current (length fs) → Searching st next (length fs) → (budget : ℕ) → budget ≤ 8192 → (case case' : Case) (level' slot : ℕ) (probe : LogicalProbe)
      → budgeted_of st.n key st.limits.range_word_cap fs st.limits.uniform_search_probe_cap budget case current next ≡ Ok (choice case' level' slot probe) → Taken st fs level' slot probe
  unfolding budgeted_of
  budgeted_taken {current} {next} s t budget few case case' level' slot probe h =
      go (seek_of st.n key st.limits.range_word_cap fs current budget) refl h
    where
      go : (r : Sought) → seek_of st.n key st.limits.range_word_cap fs current budget ≡ r
          → budgeted_by case current r (uniform_of st.n key st.limits.range_word_cap fs st.limits.uniform_search_probe_cap case next) ≡ Ok (choice case' level' slot probe) → Taken st fs level' slot probe
      go (Ok (Some v)) e g =
          let same : choice case current v.slot v.probe ≡ choice case' level' slot probe = cc in
          let a : current ≡ level' = ap (λ (x : Choice). x.level) same in
          let b : v.slot ≡ slot = ap (λ (x : Choice). x.slot) same in
          let d : ◌≡◌ {A = LogicalProbe} v.probe probe = ap (λ (x : Choice). x.probe) same in
          rw (← a, ← b, ← d) (taken_seek s budget v.slot v.probe few e)
      go (Ok None) e g = uniform_taken t case case' level' slot probe g
      go (Err r) e g = let z : ◌≡◌ {A = ℕ} 0 1 = cc in absurd (omega arith)

  pair_taken : {cs : List ℕ} {current : ℕ} → Pairing st cs current (length fs) → (case' : Case) (level' slot : ℕ) (probe : LogicalProbe)
      → pair_of st key cs fs current ≡ Ok (choice case' level' slot probe) → Taken st fs level' slot probe
  unfolding pair_of
  pair_taken {cs} {current} p case' level' slot probe h =
      pair_cases _ _ _ _ _ _ _ h
      (λ g. let z : ◌≡◌ {A = ℕ} 0 1 = cc in absurd (omega arith))
      (λ g. uniform_taken p.search _ case' level' slot probe g)
      (λ g. uniform_taken here _ case' level' slot probe g)
      (λ e g. budgeted_taken here p.search _ (budget_most e) _ case' level' slot probe g)
    where
      here : Searching st current (length fs)
      here = searching_before p.search current (omega arith)

      budget_most : leb (free_at st.n cs current) (length_at st.n current / 2 ^ (st.e + 1)) ≡ false
          → probes_of (free_at st.n cs current) (length_at st.n current) st.e st.limits.probe_budget_c ≤ 8192
      budget_most e =
          let q = searching_probed here (st.plan.levels - 1) refl in
          let small : length_at st.n current ≤ 4294967296 = omega (arith, probed_within q, p.search.config.most) in
          let l : length_at st.n current / 2 ^ (st.e + 1) < free_at st.n cs current = leb-false _ _ e in
          let a = pairing_affordable p (length_at st.n current) (free_at st.n cs current) small (omega arith) (omega arith) in
          probes_most _ _ _ _ a.some a.most a.small a.factor_some a.factor_most

pub valid_pairing : {st : State} {cs : List ℕ} {words flags : ℕ} → Valid st cs words flags → (current : ℕ) → current + 1 < levels_of st.n → Pairing st cs current flags
valid_pairing v current h = record { search = valid_searching v (current + 1) h; within = v.within }

steps_taken : {st : State} {cs fs : List ℕ} {words : ℕ} → Valid st cs words (length fs) → (key batch : ℕ) → batch < levels_of st.n → (case' : Case) (level' slot : ℕ) (probe : LogicalProbe)
    → steps_of st key cs fs batch ≡ Ok (choice case' level' slot probe) → Taken st fs level' slot probe
unfolding steps_of
steps_taken v key zero l case' level' slot probe h = uniform_taken key (valid_searching v 0 l) _ case' level' slot probe h
steps_taken v key (suc b) l case' level' slot probe h = pair_taken key (valid_pairing v b (omega arith)) case' level' slot probe h

-- with fewer members than the maximum there is a batch
pub valid_batch : {st : State} {cs : List ℕ} {words flags : ℕ} → Valid st cs words flags → st.count < st.plan.maximum → batch_of st.n st.e st.count < levels_of st.n
valid_batch {st} v h = (batch_is st.n st.e v.config st.count (omega (arith, v.maximum_is))).1

pub choose_taken : (st : State) (cs ws fs : List ℕ) → Valid st cs (length ws) (length fs) → (id : ℕ) (case' : Case) (level' slot : ℕ) (probe : LogicalProbe)
    → choose_of st cs ws fs id ≡ Ok (choice case' level' slot probe) → Taken st fs level' slot probe
unfolding choose_of
choose_taken st cs ws fs v id case' level' slot probe h = go (first_of ws fs id) h
  where
    by : (x : Bool) → leb st.plan.maximum st.count ≡ x → pick x (Err refusal.Exhausted) (steps_of st (elastic_key_of st.seed id) cs fs (batch_of st.n st.e st.count)) ≡ Ok (choice case' level' slot probe)
        → Taken st fs level' slot probe
    by true e g = let z : ◌≡◌ {A = ℕ} 0 1 = cc in absurd (omega arith)
    by false e g = steps_taken v (elastic_key_of st.seed id) (batch_of st.n st.e st.count) (valid_batch v (leb-false _ _ e)) case' level' slot probe g

    go : (r : Located) → choose_by st id cs fs r ≡ Ok (choice case' level' slot probe) → Taken st fs level' slot probe
    go (Some u) g = let z : ◌≡◌ {A = ℕ} 0 1 = cc in absurd (omega arith)
    go None g = by (leb st.plan.maximum st.count) refl g

-- ---- what is written

module _ (st : State) (cs ws fs : List ℕ) (id : ℕ) (x : Chosen) (e : x ≡ choose_of st cs ws fs id) where
  pub place_refused : (r : InsertRefusal) → x ≡ Err r → done (Err r) st cs ws fs ≡ place_by st cs ws fs id (choose_of st cs ws fs id)
  unfolding place_by
  place_refused r h = sym (rw (← e, h))

  module _ (case : Case) (level slot : ℕ) (probe : LogicalProbe) (p : ℕ) (h : x ≡ Ok (choice case level slot probe)) (is : p ≡ phi (level + 1) (probe.0 + 1)) where
    pub place_position : st.limits.hit_query_position_cap < p → done (Err refusal.Position) st cs ws fs ≡ place_by st cs ws fs id (choose_of st cs ws fs id)
    unfolding place_by
    place_position l = sym (rw (← e, h, ← is, lt-ltb st.limits.hit_query_position_cap p l))

    pub place_inserted : (o : ℕ) → p ≤ st.limits.hit_query_position_cap → o ≡ offset_at st.n level
        → {a : InsertAnswer} {st' : State} {cs' ws' fs' : List ℕ} → a ≡ Ok (taken_at case level slot o probe p) → st' ≡ counted st
        → cs' ≡ added_to cs level → ws' ≡ set ws slot id → fs' ≡ set fs slot 1 → done a st' cs' ws' fs' ≡ place_by st cs ws fs id (choose_of st cs ws fs id)
    unfolding place_by
    place_inserted o l d ea es ec ew ef = rw (ea, es, ec, ew, ef) (sym (rw (← e, h, ← is, le-ltb st.limits.hit_query_position_cap p l, ← d)))

module _ (st : State) (cs ws fs : List ℕ) (id : ℕ) where
  pub insert_gate : (g : Gate) → gate_of st cs (length ws) (length fs) ≡ Err g → done (Err (refusal.Gate g)) st cs ws fs ≡ insert_of st cs ws fs id
  unfolding insert_of
  insert_gate g h = sym (rw h)

  pub insert_place : (d : Done) → gate_of st cs (length ws) (length fs) ≡ Ok tt → d ≡ place_by st cs ws fs id (choose_of st cs ws fs id) → d ≡ insert_of st cs ws fs id
  unfolding insert_of
  insert_place d h w = w ∙ sym (rw h)
