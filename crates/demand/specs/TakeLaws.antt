-- Laws of the greedy order: what it keeps at each turn, what it has built, and that where it ends nothing is ready. Assumes nothing.
use Rattle.std.specs.Prelude.{Ok, Some, None, Bool, true, false, List, [], ◌∷◌, ◌++◌, ◌≡◌, refl, ℕ, zero, suc, ◌+◌, ◌≤◌, ◌<◌, length, get_or, set, take, drop, replicate, eqb}
use Rattle.std.proofs.Common.{ap, sym, ◌∙◌, add-one, arith, length-set, take-suc-set, drop-set-lt, drop-drop}
use Rattle.std.proofs.Math.ListN.{length-replicate}
use Rattle.std.proofs.lemmas.Bool.{eqb-false}
use Rattle.words.specs.BytesLaws.{get_d_zeros}
use Rattle.words.specs.Pick.{pick}
use Rattle.words.specs.declared.place.Place.{Place}
use Rattle.funnel.specs.declared.table.FunnelTable.{FunnelTable}
use Rattle.funnel.specs.declared.table.Search.TheVariants.{Vacant}
use Rattle.funnel.specs.Path.{slot_of}
use Rattle.funnel.specs.Search.{table_path, find_of}
use Rattle.funnel.specs.Insert.{reached, done, with_count, insert_of}
use Rattle.audit.specs.Greedy.{First}
use Rattle.funnel.proofs.InsertLaws.{insert_inserted}
use Rattle.audit.specs.Greedy.{first_from, ready, taken, by_first, greedy_of}
use Rattle.audit.specs.FirstLaws.{first_found, first_none}
use Rattle.audit.specs.ReadyLaws.{Ready, ready_facts, ready_marked}
use Rattle.funnel.specs.Fresh.{occupied}
use Rattle.funnel.proofs.FreshLaws.{occupied_none, occupied_set}
use Rattle.demand.specs.Made.{Occupied, members, Inserts, none, one, identities_at, placed_words}
use Rattle.demand.specs.MadeLaws.{get_d_set_cases, members_most, placed_none, placed_set, placed_same}
use Rattle.demand.specs.WalkLaws.{find_same, Below}

-- ---- what holds at each turn holds at the end

pub greedy_keeps : (table : FunnelTable) (counts words flags : List ℕ) (n turns : ℕ) (P : List ℕ → List ℕ → ℕ → Type 0)
    → ((marks order : List ℕ) (placed s : ℕ) → P marks order placed → s < n → ready table counts words flags marks placed s ≡ true → P (set marks s 1) (set order placed s) (placed + 1))
    → (marks order : List ℕ) (placed : ℕ) → P marks order placed
    → P (greedy_of table counts words flags n turns marks order placed).marks (greedy_of table counts words flags n turns marks order placed).order (greedy_of table counts words flags n turns marks order placed).placed
unfolding greedy_of
greedy_keeps table counts words flags n zero P step marks order placed p = p
greedy_keeps table counts words flags n (suc turns) P step marks order placed p =
    go (first_from (ready table counts words flags marks placed) 0 n) refl (λ s. greedy_keeps table counts words flags n turns P step (set marks s 1) (set order placed s) (placed + 1))
  where
    go : (x : First) → first_from (ready table counts words flags marks placed) 0 n ≡ x
        → ((s : ℕ) → P (set marks s 1) (set order placed s) (placed + 1)
        → P (greedy_of table counts words flags n turns (set marks s 1) (set order placed s) (placed + 1)).marks (greedy_of table counts words flags n turns (set marks s 1) (set order placed s) (placed + 1)).order (greedy_of table counts words flags n turns (set marks s 1) (set order placed s) (placed + 1)).placed)
        → P (by_first x (taken marks order placed) (λ s. greedy_of table counts words flags n turns (set marks s 1) (set order placed s) (placed + 1))).marks
        (by_first x (taken marks order placed) (λ s. greedy_of table counts words flags n turns (set marks s 1) (set order placed s) (placed + 1))).order
        (by_first x (taken marks order placed) (λ s. greedy_of table counts words flags n turns (set marks s 1) (set order placed s) (placed + 1))).placed
    go None q ih = p
    go (Some s) q ih = let f = first_found _ 0 n s q in ih s (step marks order placed s p (omega (arith, f.below)) f.holds)

-- ---- one insertion more

pub inserts_snoc : {counts : List ℕ} {table table' table'' : FunnelTable} {words flags words' flags' words'' flags'' identities slots : List ℕ} (identity slot probes : ℕ) (place : Place)
    → Inserts counts table words flags identities slots table' words' flags'
    → insert_of table' counts words' flags' identity ≡ done (Ok (reached probes place)) table'' words'' flags'' → slot_of place ≡ slot
    → Inserts counts table words flags (identities ++ (identity ∷ [])) (slots ++ (slot ∷ [])) table'' words'' flags''
inserts_snoc identity slot probes place none h at = one probes place h at none
inserts_snoc identity slot probes place (one k p e a r) h at = one k p e a (inserts_snoc identity slot probes place r h at)

identities_snoc : (words slots : List ℕ) (s : ℕ) → identities_at words (slots ++ (s ∷ [])) ≡ identities_at words slots ++ (get_or words s 0 ∷ [])
unfolding identities_at
identities_snoc words [] s = refl
identities_snoc words (x ∷ slots) s = ap (λ (l : List ℕ). get_or words x 0 ∷ l) (identities_snoc words slots s)

-- ---- the turns

module _ (table : FunnelTable) (counts : List ℕ) (below : (identity : ℕ) → Below table.n (table_path table counts identity).places) (words flags : List ℕ) (sized : length words ≡ table.n) where
  abbrev Built : List ℕ → List ℕ → ℕ → Type 0
  Built marks order placed =
      Inserts counts (with_count table 0) (replicate table.n 0) (replicate table.n 0) (identities_at words (take placed order)) (take placed order) (with_count table placed)
      (placed_words words marks) marks

  -- what holds of marks, order and number at each turn, from the order that was lent on
  pub record Taking (order₀ marks order : List ℕ) (placed : ℕ) : Type 0 where
    pub marks_n : length marks ≡ table.n
    pub order_n : length order ≡ length order₀
    pub bits : (t : ℕ) → get_or marks t 0 ≤ 1
    pub part : (t : ℕ) → Occupied marks t → Occupied flags t
    pub number : members marks ≡ placed
    pub tail : drop placed order ≡ drop placed order₀
    pub built : Built marks order placed

  taking_none : (order : List ℕ) → Taking order (replicate table.n 0) order 0
  unfolding identities_at
  taking_none order =
      record {
        marks_n = length-replicate table.n 0;
        order_n = refl;
        bits = λ t. (let z = get_d_zeros table.n t in omega arith);
        part = λ t o. absurd (o (get_d_zeros table.n t));
        number = occupied_none table.n;
        tail = refl;
        built = rw (placed_none words table.n sized) none;
      }

  -- the insertion of a ready slot into the placed part as an image
  ready_inserts : (marks : List ℕ) (placed s : ℕ) → length marks ≡ table.n → s < table.n → (r : Ready table counts words flags marks placed s)
      → insert_of (with_count table placed) counts (placed_words words marks) marks (get_or words s 0)
      ≡ done (Ok (reached r.probes r.place)) (with_count table (placed + 1)) (placed_words words (set marks s 1)) (set marks s 1)
  ready_inserts marks placed s l h r =
      let m : length words ≡ length marks = sized ∙ sym l in
      let f : find_of table counts (placed_words words marks) marks (get_or words s 0) ≡ Vacant r.probes r.place =
      find_same words (placed_words words marks) marks (get_or words s 0) (λ t o. placed_same words marks t m o) table counts ∙ r.found in
      sym (insert_inserted table placed counts (placed_words words marks) marks (get_or words s 0) r.room r.probes r.place s f (sym r.at))
      ∙ rw (placed_set words marks s (omega arith) m)

  taking_step : (order₀ : List ℕ) → length order₀ ≡ table.n → (marks order : List ℕ) (placed s : ℕ) → Taking order₀ marks order placed → s < table.n → ready table counts words flags marks placed s ≡ true
      → Taking order₀ (set marks s 1) (set order placed s) (placed + 1)
  taking_step order₀ o marks order placed s t h e =
      let r = ready_facts table counts words flags marks placed s e in
      let l : s < length marks = omega (arith, t.marks_n) in
      let more = occupied_set marks s l r.unmarked in
      let most = members_most (set marks s 1) in
      let sz : length (set marks s 1) ≡ table.n = simp length-set t.marks_n in
      let room : placed < length order = omega (arith, t.order_n, t.number) in
      let one_more : take (placed + 1) (set order placed s) ≡ take placed order ++ (s ∷ []) = rw (add-one, take-suc-set order placed s room) in
      record {
        marks_n = sz;
        order_n = simp length-set t.order_n;
        bits = λ u. get_d_set_cases marks s 1 u (λ (x : ℕ). x ≤ 1) l (λ q. omega arith) (λ q. t.bits u);
        part = λ u. get_d_set_cases marks s 1 u (λ (x : ℕ). (x ≡ 0 → ⊥) → Occupied flags u) l (λ q w. rw q r.occupied) (λ q. t.part u);
        number = more ∙ ap (λ (x : ℕ). x + 1) t.number;
        tail = drop-set-lt (placed + 1) order placed s (omega arith) ∙ sym (drop-drop 1 placed order) ∙ ap (λ (x : List ℕ). drop 1 x) t.tail ∙ drop-drop 1 placed order₀;
        built = rw (one_more, identities_snoc words (take placed order) s)
            (inserts_snoc (get_or words s 0) s r.probes r.place t.built (ready_inserts marks placed s t.marks_n h r) r.at);
      }

  pub greedy_taking : (order : List ℕ) → length order ≡ table.n
      → (let g = greedy_of table counts words flags table.n table.n (replicate table.n 0) order 0 in Taking order g.marks g.order g.placed)
  greedy_taking order o =
      greedy_keeps table counts words flags table.n table.n (Taking order) (taking_step order o) (replicate table.n 0) order 0 (taking_none order)

-- ---- the end

members_full : (l : List ℕ) → length l ≤ members l → (t : ℕ) → t < length l → Occupied l t
unfolding occupied
members_full [] h t b = absurd (omega arith)
members_full (x ∷ l) h zero b = go (eqb x 0) refl h (members_most l)
  where
    go : (u : Bool) → eqb x 0 ≡ u → suc (length l) ≤ pick u 0 1 + members l → members l ≤ length l → Occupied (x ∷ l) 0
    go true q h m = absurd (omega arith)
    go false q h m = eqb-false _ _ q
members_full (x ∷ l) h (suc t) b = members_full l (go (eqb x 0) h) t (omega arith)
  where
    go : (u : Bool) → suc (length l) ≤ pick u 0 1 + members l → length l ≤ members l
    go true h = omega arith
    go false h = omega arith

-- where the turns end, nothing is ready
pub greedy_ends : (table : FunnelTable) (counts words flags : List ℕ) (n turns : ℕ) (marks order : List ℕ) (placed : ℕ) → length marks ≡ n → n ≤ members marks + turns
    → (s : ℕ) → s < n → (let g = greedy_of table counts words flags n turns marks order placed in ready table counts words flags g.marks g.placed s ≡ false)
unfolding greedy_of
greedy_ends table counts words flags n zero marks order placed l m s h = ready_marked table counts words flags marks placed s (members_full marks (omega arith) s (omega arith))
greedy_ends table counts words flags n (suc turns) marks order placed l m s h =
    go (first_from (ready table counts words flags marks placed) 0 n) refl (λ t ms. greedy_ends table counts words flags n turns ms (set order placed t) (placed + 1))
  where
    go : (x : First) → first_from (ready table counts words flags marks placed) 0 n ≡ x
        → ((t : ℕ) (ms : List ℕ) → length ms ≡ n → n ≤ members ms + turns → (s : ℕ) → s < n
        → ready table counts words flags (greedy_of table counts words flags n turns ms (set order placed t) (placed + 1)).marks (greedy_of table counts words flags n turns ms (set order placed t) (placed + 1)).placed s ≡ false)
        → ready table counts words flags (by_first x (taken marks order placed) (λ t. greedy_of table counts words flags n turns (set marks t 1) (set order placed t) (placed + 1))).marks
        (by_first x (taken marks order placed) (λ t. greedy_of table counts words flags n turns (set marks t 1) (set order placed t) (placed + 1))).placed s ≡ false
    go None q ih = first_none _ 0 n q s (omega arith) (omega arith)
    go (Some t) q ih =
        let d = first_found _ 0 n t q in
        let r = ready_facts table counts words flags marks placed t d.holds in
        let b : t < length marks = omega (arith, d.below) in
        let e = occupied_set marks t b r.unmarked in
        ih t (set marks t 1) (simp length-set l) (omega arith) s h
