-- Where the greedy order ends in a valid state, and what the check's answer says of it. Assumes nothing.
use Rattle.std.specs.Prelude.{Ok, Err, Some, None, Bool, true, false, List, ℕ, ◌≤◌, ◌<◌, length, get_or, replicate, eqb, ltb, leb}
use Rattle.std.proofs.Math.Path.{◌≡◌, refl, ap}
use Rattle.std.proofs.Common.{sym, ◌∙◌, arith, ext_get_or, eqb-true, eq-eqb, ltb-true, ltb-false, leb-true, leb-false}
use Rattle.std.proofs.Math.Decide.{ℕ_discrete}
use Rattle.std.proofs.lemmas.List.{length-replicate}
use Rattle.std.proofs.Math.ListN.{get_or-eq_default}
use Rattle.words.specs.BytesLaws.{get_d_zeros}
use Rattle.funnel.specs.declared.table.FunnelTable.{FunnelTable}
use Rattle.funnel.specs.PathLaws.{path_below}
use Rattle.funnel.specs.Search.{table_path}
use Rattle.audit_calls.specs.declared.check.CheckRefusal.TheVariants as checked
use Rattle.audit.specs.Greedy.{First}
use Rattle.audit.specs.Greedy.{first_from, unplaced, ready, Taken, greedy_of}
use Rattle.funnel.specs.Dirty.{dirty_at}
use Rattle.audit_calls.specs.Check.{Lent, Ended, ended, answer_of, end_of, take_all, unless_dirty, audit_of, check_of}
use Rattle.funnel.specs.DirtyLaws.{clean_vacant, clean_flag}
use Rattle.audit_calls.specs.CheckLaws.{check_audit}
use Rattle.audit.specs.FirstLaws.{first_none, first_all}
use Rattle.audit.specs.Marked.{marks_of}
use Rattle.audit.specs.MarkedLaws.{listed_whole}
use Rattle.audit.specs.ReadyLaws.{unplaced_vacant, unplaced_marked, unplaced_yes}
use Rattle.funnel.proofs.FreshLaws.{occupied_none}
use Rattle.demand.specs.Made.{Clean, Occupied, members, Made, PartOf}
use Rattle.demand.specs.MadeLaws.{members_part, members_whole}
use Rattle.demand.specs.WalkLaws.{Below}
use Rattle.demand.specs.FillLaws.{Sized, Filled, fills_of, fills_members, fills_clean, inside}
use Rattle.demand.specs.TakeLaws.{Taking, greedy_taking, greedy_ends}

-- ---- a clean image

-- past its end a list is 0
beyond : (l : List ℕ) (n t : ℕ) → length l ≡ n → n ≤ t → get_or l t 0 ≡ 0
beyond l n t e h = get_or-eq_default l 0 (omega arith)

-- no slot is dirty
pub clean_image : (words flags : List ℕ) (n : ℕ) → length words ≡ n → length flags ≡ n → first_from (dirty_at words flags) 0 n ≡ None → Clean words flags
unfolding dirty_at
clean_image words flags n w f e = record { bits = bits; vacant_words = vacant }
  where
    at : (t : ℕ) → t < n → dirty_at words flags t ≡ false
    at t h = first_none (dirty_at words flags) 0 n e t (omega arith) (omega arith)

    bits : (t : ℕ) → get_or flags t 0 ≤ 1
    bits t = go (ltb t n) refl (eqb (get_or flags t 0) 0) refl
      where
        go : (x : Bool) → ltb t n ≡ x → (y : Bool) → eqb (get_or flags t 0) 0 ≡ y → get_or flags t 0 ≤ 1
        go false q y p = let z = beyond flags n t f (ltb-false _ _ q) in omega arith
        go true q true p = let z : get_or flags t 0 ≡ 0 = eqb-true _ _ p in omega arith
        go true q false p = ltb-false 1 (get_or flags t 0) (rw p at (at t (ltb-true _ _ q)))

    vacant : (t : ℕ) → get_or flags t 0 ≡ 0 → get_or words t 0 ≡ 0
    vacant t v = go (ltb t n) refl (eqb (get_or words t 0) 0) refl
      where
        go : (x : Bool) → ltb t n ≡ x → (y : Bool) → eqb (get_or words t 0) 0 ≡ y → get_or words t 0 ≡ 0
        go false q y p = beyond words n t w (ltb-false _ _ q)
        go true q true p = eqb-true _ _ p
        go true q false p =
            let d : true ≡ false = rw (eq-eqb _ _ v, p) at (at t (ltb-true _ _ q)) in
            let z : ◌≡◌ {A = ℕ} 0 1 = cc in
            absurd (omega arith)

-- and the other way round
pub image_clean : (words flags : List ℕ) (n : ℕ) → Clean words flags → first_from (dirty_at words flags) 0 n ≡ None
image_clean words flags n c = first_all (dirty_at words flags) 0 n (λ t a b. go t (ℕ_discrete (get_or flags t 0) 0))
  where
    go : (t : ℕ) → Dec (get_or flags t 0 ≡ 0) → dirty_at words flags t ≡ false
    go t (yes e) = clean_vacant words flags t e (c.vacant_words t e)
    go t (no n) = clean_flag words flags t n (c.bits t)

-- ---- the end of the greedy order

module _ {table : FunnelTable} {counts words flags marks order : List ℕ} (l : Lent table counts words flags marks order) where
  pub below : (identity : ℕ) → Below table.n (table_path table counts identity).places
  below identity = path_below l.valid.planned table.seed table.word_cap identity

  abbrev pub end : Taken
  end = greedy_of table counts words flags table.n table.n (replicate table.n 0) order 0

  abbrev pub Turns : (marks' order' : List ℕ) (placed : ℕ) → Type 0
  Turns marks' order' placed = Taking table counts below words flags l.valid.words_length order marks' order' placed

  pub end_taking : Turns end.marks end.order end.placed
  end_taking = greedy_taking table counts below words flags l.valid.words_length order l.order_n

  end_listed : end.marks ≡ marks_of table.n end.order end.placed
  end_listed = (listed_whole table counts words flags table.n (replicate table.n 0) order end refl l.order_n refl).marks_are

  end_stuck : (s : ℕ) → s < table.n → ready table counts words flags end.marks end.placed s ≡ false
  end_stuck s h =
      greedy_ends table counts words flags table.n table.n (replicate table.n 0) order 0 (length-replicate table.n 0) (omega (arith, occupied_none table.n)) s h

  -- ---- parts that some order leaves

  fresh_sized : Sized table.n (replicate table.n 0) (replicate table.n 0)
  fresh_sized = record { words_n = length-replicate table.n 0; flags_n = length-replicate table.n 0 }

  filled : {words' flags' : List ℕ} → Made table counts words' flags' → Filled table counts 0 (replicate table.n 0) (replicate table.n 0) words' flags'
  filled m = fills_of {table = table} {counts = counts} 0 refl m.1.1.inserts

  pub made_clean : {words' flags' : List ℕ} → Made table counts words' flags' → Clean words' flags'
  made_clean m =
      fills_clean table counts below (filled m).fills fresh_sized
      (record { bits = λ t. (let z = get_d_zeros table.n t in omega arith); vacant_words = λ t v. get_d_zeros table.n t })

  pub made_members : {words' flags' : List ℕ} → Made table counts words' flags' → members flags' ≤ table.plan.maximum
  made_members m = fills_members table counts below (filled m).fills fresh_sized (occupied_none table.n) (omega arith)

  -- with no more members than the maximum, the placed part contains every part that some order leaves
  pub end_contains : members flags ≤ table.plan.maximum → (words' flags' : List ℕ) → PartOf words' flags' words flags → Made table counts words' flags'
      → (t : ℕ) → Occupied flags' t → Occupied end.marks t
  end_contains few words' flags' p m t o = go (leb table.plan.maximum end.placed) refl
    where
      go : (b : Bool) → leb table.plan.maximum end.placed ≡ b → Occupied end.marks t
      go true q = members_whole end.marks flags end_taking.part (let k = end_taking.number in let h : table.plan.maximum ≤ end.placed = leb-true _ _ q in omega arith) t (p.occupied t o)
      go false q =
          (inside table counts below words flags end.marks end.placed (leb-false _ _ q) end_stuck (filled m).fills fresh_sized p
          (record { marked = λ s u. absurd (u (get_d_zeros table.n s)); same = λ s u. absurd (u (get_d_zeros table.n s)) })
          ).marked t o

  -- ---- what the answer says

  -- how the check ended, past DIRTY
  pub record Finished (r : First) (placed : ℕ) (marks' order' : List ℕ) : Type 0 where
    pub clean : Clean words flags
    pub first : first_from (unplaced flags marks') 0 table.n ≡ r
    pub turns : Turns marks' order' placed
    pub marks_are : marks' ≡ end.marks
    pub listed : marks' ≡ marks_of table.n order' placed

  finish : (r : First) (placed : ℕ) (marks' order' : List ℕ) → first_from (dirty_at words flags) 0 table.n ≡ None
      → first_from (unplaced flags end.marks) 0 table.n ≡ r → end.placed ≡ placed → end.marks ≡ marks' → end.order ≡ order' → Finished r placed marks' order'
  finish r placed marks' order' d f p m o =
      record {
        clean = clean_image words flags table.n l.valid.words_length l.valid.flags_length d;
        first = rw (← m) f;
        turns = rw (← m, ← o, ← p) end_taking;
        marks_are = sym m;
        listed = rw (← m, ← o, ← p) end_listed;
      }

  pub accepted_end : (placed : ℕ) (marks' order' : List ℕ) → check_of table counts words flags marks order ≡ ended (Ok placed) marks' order' → Finished None placed marks' order'
  unfolding audit_of take_all end_of
  accepted_end placed marks' order' e =
      go (first_from (dirty_at words flags) 0 table.n) refl (first_from (unplaced flags end.marks) 0 table.n) refl (sym (check_audit table counts words flags marks order l) ∙ e)
    where
      go : (d : First) → first_from (dirty_at words flags) 0 table.n ≡ d → (r : First) → first_from (unplaced flags end.marks) 0 table.n ≡ r
          → unless_dirty d marks order (ended (answer_of r end.placed) end.marks end.order) ≡ ended (Ok placed) marks' order' → Finished None placed marks' order'
      go (Some s) d r u h = let a = ap (λ (x : Ended). x.answer) h in let z : ◌≡◌ {A = ℕ} 0 1 = cc in absurd (omega arith)
      go None d (Some s) u h = let a = ap (λ (x : Ended). x.answer) h in let z : ◌≡◌ {A = ℕ} 0 1 = cc in absurd (omega arith)
      go None d None u h =
          let a = ap (λ (x : Ended). x.answer) h in
          let p : end.placed ≡ placed = cc in
          finish None placed marks' order' d u p (ap (λ (x : Ended). x.marks) h) (ap (λ (x : Ended). x.order) h)

  pub disorder_end : (placed slot : ℕ) (marks' order' : List ℕ) → check_of table counts words flags marks order ≡ ended (Err (checked.Disorder placed slot)) marks' order' → Finished (Some slot) placed marks' order'
  unfolding audit_of take_all end_of
  disorder_end placed slot marks' order' e =
      go (first_from (dirty_at words flags) 0 table.n) refl (first_from (unplaced flags end.marks) 0 table.n) refl (sym (check_audit table counts words flags marks order l) ∙ e)
    where
      go : (d : First) → first_from (dirty_at words flags) 0 table.n ≡ d → (r : First) → first_from (unplaced flags end.marks) 0 table.n ≡ r
          → unless_dirty d marks order (ended (answer_of r end.placed) end.marks end.order) ≡ ended (Err (checked.Disorder placed slot)) marks' order' → Finished (Some slot) placed marks' order'
      go (Some s) d r u h = let a = ap (λ (x : Ended). x.answer) h in let z : ◌≡◌ {A = ℕ} 0 1 = cc in absurd (omega arith)
      go None d None u h = let a = ap (λ (x : Ended). x.answer) h in let z : ◌≡◌ {A = ℕ} 0 1 = cc in absurd (omega arith)
      go None d (Some s) u h =
          let a = ap (λ (x : Ended). x.answer) h in
          let p : end.placed ≡ placed = cc in
          let q : s ≡ slot = cc in
          finish (Some slot) placed marks' order' d (u ∙ ap Some q) p (ap (λ (x : Ended). x.marks) h) (ap (λ (x : Ended). x.order) h)

  pub dirty_end : (slot : ℕ) (marks' order' : List ℕ) → check_of table counts words flags marks order ≡ ended (Err (checked.Dirty slot)) marks' order' → first_from (dirty_at words flags) 0 table.n ≡ Some slot
  unfolding audit_of take_all end_of
  dirty_end slot marks' order' e =
      go (first_from (dirty_at words flags) 0 table.n) (first_from (unplaced flags end.marks) 0 table.n) (sym (check_audit table counts words flags marks order l) ∙ e)
    where
      go : (d r : First) → unless_dirty d marks order (ended (answer_of r end.placed) end.marks end.order) ≡ ended (Err (checked.Dirty slot)) marks' order' → d ≡ Some slot
      go (Some s) r h = let a = ap (λ (x : Ended). x.answer) h in let q : s ≡ slot = cc in ap Some q
      go None None h = let a = ap (λ (x : Ended). x.answer) h in let z : ◌≡◌ {A = ℕ} 0 1 = cc in absurd (omega arith)
      go None (Some s) h = let a = ap (λ (x : Ended). x.answer) h in let z : ◌≡◌ {A = ℕ} 0 1 = cc in absurd (omega arith)

  -- a made image is accepted, with all its members placed
  pub made_answer : Made table counts words flags → (check_of table counts words flags marks order).answer ≡ Ok (members flags)
  unfolding audit_of take_all end_of
  made_answer m =
      ap (λ (x : Ended). x.answer) (check_audit table counts words flags marks order l)
      ∙ rw (image_clean words flags table.n (made_clean m), all) (ap Ok (sym end_taking.number ∙ count))
    where
      whole : PartOf words flags words flags
      whole = record { occupied = λ s o. o; same = λ s o. refl }

      contains : (t : ℕ) → Occupied flags t → Occupied end.marks t
      contains t o = end_contains (made_members m) words flags whole m t o

      all : first_from (unplaced flags end.marks) 0 table.n ≡ None
      all = first_all (unplaced flags end.marks) 0 table.n (λ t a b. go t (ℕ_discrete (get_or flags t 0) 0))
        where
          go : (t : ℕ) → Dec (get_or flags t 0 ≡ 0) → unplaced flags end.marks t ≡ false
          go t (yes e) = unplaced_vacant flags end.marks t e
          go t (no n) = unplaced_marked flags end.marks t (contains t n)

      count : members end.marks ≡ members flags
      count = let a = members_part end.marks flags end_taking.part in let b = members_part flags end.marks contains in omega arith

  -- where no slot is left, the marks are the flags
  pub accepted_marks : (placed : ℕ) (marks' order' : List ℕ) → Finished None placed marks' order' → marks' ≡ flags
  accepted_marks placed marks' order' f = ext_get_or 0 marks' flags (f.turns.marks_n ∙ sym l.valid.flags_length) (λ t h. go t (ℕ_discrete (get_or flags t 0) 0) (ℕ_discrete (get_or marks' t 0) 0) (let q = f.turns.marks_n in omega arith))
    where
      go : (t : ℕ) → Dec (get_or flags t 0 ≡ 0) → Dec (get_or marks' t 0 ≡ 0) → t < table.n → get_or marks' t 0 ≡ get_or flags t 0
      go t (yes e) (yes q) h = q ∙ sym e
      go t (yes e) (no n) h = absurd (f.turns.part t n e)
      go t (no o) (no n) h = let a = f.turns.bits t in let b = f.clean.bits t in omega arith
      go t (no o) (yes q) h =
          let a : unplaced flags marks' t ≡ false = first_none _ 0 table.n f.first t (omega arith) (omega arith) in
          let b = unplaced_yes flags marks' t o q in
          let z : ◌≡◌ {A = ℕ} 0 1 = cc in
          absurd (omega arith)
