-- Laws of the turns in the special part: what waits on what holds on, and the smallest candidate that waits on itself is the slot that the
-- greedy order takes. Assumes nothing.
use Rattle.std.specs.Prelude.{Bool, List, ◌⊎◌, ◌≡◌, ℕ, ◌+◌, ◌*◌, ◌-◌, ◌≤◌, ◌<◌, length, set, eqb, leb, Option, Some, None}
use Rattle.std.proofs.Math.Bool.{true, false}
use Rattle.std.proofs.Common.{inl, inr, ⊎_elim, sym, ◌∙◌, arith, length-set, get_or-set_same, eq-eqb, ne_eqb, eqb-true, le-leb}
use Rattle.std.proofs.Math.Path.{refl, ap}
use Rattle.std.proofs.Math.ListN.{get_or}
use Rattle.std.proofs.Math.Seq.{get_or-set_other}
use Rattle.std.proofs.lemmas.Bool.{eqb-false, lt-leb}
use Rattle.words.specs.Pick.{pick}
use Rattle.geometry.specs.Funnel.{IsPlan}
use Rattle.funnel.specs.declared.table.FunnelTable.{FunnelTable}
use Rattle.funnel.specs.declared.table.Search.{Search}
use Rattle.funnel.specs.declared.table.Search.TheVariants as search
use Rattle.funnel.specs.Path.{slot_of, primary_start}
use Rattle.funnel.specs.Search.{search_of}
use Rattle.queue.specs.Queue.{holds, Queue, Changed, first_in, Found}
use Rattle.queue.specs.FirstLaws.{first_found, first_none}
use Rattle.waiting.specs.Links.{space, candidate, Fits, idle, Filed}
use Rattle.waiting.specs.LinksLaws.{link_alike, candidate_alike, queue_alike, idle_less, idle_most}
use Rattle.waiting.specs.Waiting.{Unique, Waiting, Chained, Woken}
use Rattle.waiting.specs.WaitingLaws.{waiting_quiet, waiting_dropped, waiting_filed, waiting_placed}
use Rattle.audit.specs.Greedy.{First, first_from, ready, Taken, taken, vacant_at}
use Rattle.audit.specs.FirstLaws.{first_at, first_all}
use Rattle.audit.specs.GreedyLaws.{going_special, going_stop, going_end}
use Rattle.audit.specs.Special.{special_path, live, ready_past}
use Rattle.audit.specs.SpecialLaws.{live_alike, special_alike, special_vacant, search_marked, ready_live}
use Rattle.audit.specs.VerdictLaws.{Room}
use Rattle.audit.specs.Waits.{special_end, vacancy_of, waits_of, pending_of, Doing, Ended, Choice, Chosen, Turned}

-- ---- waiting

pub waits_unique : (table : FunnelTable) (words marks : List ℕ) (start : ℕ) → Unique (waits_of table words marks start)
unfolding waits_of
waits_unique table words marks start x u v a b = go (special_end table words marks start (start + x)) a b
  where
    go : (r : Search) → vacant_at (start + u) r ≡ true → vacant_at (start + v) r ≡ true → u ≡ v
    go (search.Hit k p) a b = let z : ◌≡◌ {A = ℕ} 0 1 = cc in absurd (omega arith)
    go (search.Vacant k p) a b = let e : slot_of p ≡ start + u = eqb-true _ _ a in let f : slot_of p ≡ start + v = eqb-true _ _ b in omega arith
    go (search.Full k) a b = let z : ◌≡◌ {A = ℕ} 0 1 = cc in absurd (omega arith)
    go (search.Range refusal) a b = let z : ◌≡◌ {A = ℕ} 0 1 = cc in absurd (omega arith)

-- what is marked changes nothing for those that do not wait on it
pub waits_stable : (table : FunnelTable) (words marks : List ℕ) (start c slot : ℕ) → slot ≡ start + c → (x : ℕ) → waits_of table words marks start x c ≡ false → (u : ℕ)
    → waits_of table words (set marks slot 1) start x u ≡ waits_of table words marks start x u
unfolding waits_of
waits_stable table words marks start c slot e x h u =
    rw e (ap (vacant_at (start + u)) (search_marked words marks (get_or words (start + x) 0) (start + c) (special_path table start (get_or words (start + x) 0)) 0 h))

module _ (table : FunnelTable) {counts : List ℕ} (is : IsPlan table.n table.e table.plan counts) (words : List ℕ) (start : ℕ) (at : start ≡ primary_start table.plan counts) where
  pub waits_alike : (marks others : List ℕ) → ((i : ℕ) → start ≤ i → get_or marks i 0 ≡ get_or others i 0) → (x u : ℕ)
      → waits_of table words marks start x u ≡ waits_of table words others start x u
  unfolding waits_of
  waits_alike marks others alike x u = ap (vacant_at (start + u)) (special_alike table is words marks start (get_or words (start + x) 0) at others alike)

  module _ (flags marks : List ℕ) where
    pub pending_gone : (c slot : ℕ) → slot ≡ start + c → slot < length marks → pending_of table counts words flags (set marks slot 1) start c ≡ false
    unfolding pending_of
    pending_gone c slot e l =
        let g : get_or (set marks slot 1) (start + c) 0 ≡ 1 = rw (← e) (get_or-set_same marks slot 1 0 l) in
        rw (ne_eqb (get_or (set marks slot 1) (start + c) 0) 0 (λ z. omega arith)) (go (live table counts words flags (set marks slot 1) (start + c)))
      where
        go : (b : Bool) → pick b false false ≡ false
        go true = refl
        go false = refl

    pub pending_stays : (c slot : ℕ) → slot ≡ start + c → (x : ℕ) → (x ≡ c → ⊥) → pending_of table counts words flags (set marks slot 1) start x ≡ pending_of table counts words flags marks start x
    unfolding pending_of
    pending_stays c slot e x n =
        rw (
          live_alike table is words flags (set marks slot 1) marks (λ i l. get_or-set_other marks slot i 1 0 (λ q. omega arith)) (start + x),
          get_or-set_other marks slot (start + x) 1 0 (λ q. n (omega arith)),
        )

    -- ---- readiness

    ready_parts : (placed x : ℕ) → ready table counts words flags marks placed (start + x)
        ≡ pick (pending_of table counts words flags marks start x) (pick (leb table.plan.maximum placed) false (waits_of table words marks start x x)) false
    unfolding pending_of waits_of ready_past
    ready_parts placed x =
        rw (ready_live table is words flags marks placed (start + x) (omega arith), ← at)
        (go (live table counts words flags marks (start + x)) (eqb (get_or marks (start + x) 0) 0))
      where
        go : (a b : Bool)
            → pick a (pick b (pick (leb table.plan.maximum placed) false (vacant_at (start + x) (special_end table words marks start (start + x)))) false) false
            ≡ pick (pick a b false) (pick (leb table.plan.maximum placed) false (vacant_at (start + x) (special_end table words marks start (start + x)))) false
        go true b = refl
        go false b = refl

    module _ {bytes : List ℕ} {m : ℕ} (w : Waiting (waits_of table words marks start) (pending_of table counts words flags marks start) bytes m) (placed : ℕ) where
      -- no other than a candidate is ready
      ready_idle : (x : ℕ) → x < m → candidate bytes m x ≡ false → ready table counts words flags marks placed (start + x) ≡ false
      ready_idle x l f =
          ready_parts placed x ∙ go (pending_of table counts words flags marks start x) refl (leb table.plan.maximum placed) (waits_of table words marks start x x) refl
        where
          go : (a : Bool) → pending_of table counts words flags marks start x ≡ a → (b c : Bool) → waits_of table words marks start x x ≡ c → pick a (pick b false c) false ≡ false
          go false p b c q = refl
          go true p true c q = refl
          go true p false false q = refl
          go true p false true q = absurd (waiting_quiet w x l f p q)

      ready_chosen : (x : ℕ) → x < m → candidate bytes m x ≡ true → waits_of table words marks start x x ≡ true → placed < table.plan.maximum
          → ready table counts words flags marks placed (start + x) ≡ true
      ready_chosen x l e q h = ready_parts placed x ∙ rw (w.lively x l e, lt-leb _ _ h, q)

      ready_full : (x : ℕ) → table.plan.maximum ≤ placed → ready table counts words flags marks placed (start + x) ≡ false
      ready_full x h =
          ready_parts placed x ∙ rw (le-leb table.plan.maximum placed h) (go (pending_of table counts words flags marks start x))
        where
          go : (a : Bool) → pick a false false ≡ false
          go true = refl
          go false = refl

      pub first_chosen : (c : ℕ) → c < m → candidate bytes m c ≡ true → ((y : ℕ) → y < c → candidate bytes m y ≡ false) → waits_of table words marks start c c ≡ true
          → placed < table.plan.maximum → first_from (ready table counts words flags marks placed) start m ≡ Some (start + c)
      first_chosen c l e first q h =
          first_at (ready table counts words flags marks placed) start m (start + c) (omega arith) (omega arith) (ready_chosen c l e q h)
          (λ t a b. (let z : start + (t - start) ≡ t = omega arith in rw z at (ready_idle (t - start) (omega arith) (first (t - start) (omega arith)))))

      pub first_unchosen : (table.plan.maximum ≤ placed) ⊎ ((x : ℕ) → x < m → candidate bytes m x ≡ false) → first_from (ready table counts words flags marks placed) start m ≡ None
      first_unchosen h =
          first_all (ready table counts words flags marks placed) start m
          (λ t a b. (let z : start + (t - start) ≡ t = omega arith in
          rw z at (⊎_elim (λ f. ready_full (t - start) f) (λ f. ready_idle (t - start) (omega arith) (f (t - start) (omega arith))) h)))

-- ---- where a search ends vacant

pub record Vacancy (table : FunnelTable) (words marks : List ℕ) (start slot end : ℕ) : Type 0 where
  pub from : start ≤ end
  pub to : end < table.n
  pub here : vacant_at end (special_end table words marks start slot) ≡ true

module _ (table : FunnelTable) {counts : List ℕ} (is : IsPlan table.n table.e table.plan counts) (words marks : List ℕ) (start slot : ℕ) (at : start ≡ primary_start table.plan counts)
    (r : First) (v : r ≡ vacancy_of (special_end table words marks start slot)) where
  pub vacancy_at : (end : ℕ) → r ≡ Some end → Vacancy table words marks start slot end
  vacancy_at end e = go (special_end table words marks start slot) refl (sym v ∙ e)
    where
      go : (x : Search) → special_end table words marks start slot ≡ x → vacancy_of x ≡ Some end → Vacancy table words marks start slot end
      go (search.Hit k p) q e = let z : ◌≡◌ {A = ℕ} 0 1 = cc in absurd (omega arith)
      go (search.Full k) q e = let z : ◌≡◌ {A = ℕ} 0 1 = cc in absurd (omega arith)
      go (search.Range refusal) q e = let z : ◌≡◌ {A = ℕ} 0 1 = cc in absurd (omega arith)
      go (search.Vacant k p) q e =
          let s : slot_of p ≡ end = cc in
          let b = special_vacant table is words marks start (get_or words slot 0) at k p q in
          record { from = omega (arith, b.from); to = omega (arith, b.to); here = rw q (eq-eqb _ _ s) }

  pub vacancy_none : r ≡ None → (u : ℕ) → vacant_at u (special_end table words marks start slot) ≡ true → ⊥
  vacancy_none e u h = go (special_end table words marks start slot) (sym v ∙ e) h
    where
      go : (x : Search) → vacancy_of x ≡ None → vacant_at u x ≡ true → ⊥
      go (search.Hit k p) e h = let z : ◌≡◌ {A = ℕ} 0 1 = cc in omega arith
      go (search.Full k) e h = let z : ◌≡◌ {A = ℕ} 0 1 = cc in omega arith
      go (search.Range refusal) e h = let z : ◌≡◌ {A = ℕ} 0 1 = cc in omega arith
      go (search.Vacant k p) e h = let z : ◌≡◌ {A = ℕ} 0 1 = cc in omega arith

-- as the code finds it, by the slot's identity, which it reads first
pub vacancy_found : (table : FunnelTable) (words marks : List ℕ) (start slot identity : ℕ) → identity ≡ get_or words slot 0
    → (r : Search) → r ≡ search_of words marks identity (special_path table start identity) 0
    → (s : Search) → r ≡ s → (f : First) → f ≡ vacancy_of s → f ≡ vacancy_of (special_end table words marks start slot)
vacancy_found table words marks start slot identity is r e s q f h =
    let w : r ≡ special_end table words marks start slot = rw (← is) e in
    h ∙ ap vacancy_of (sym q ∙ w)

-- ---- candidates that are not ready

pub turned_none : (table : FunnelTable) (words : List ℕ) (start m : ℕ) (marks : List ℕ) → Fits marks m → Turned table words start m marks marks
turned_none table words start m marks f =
    record { fits = f; beyond = record { same_n = refl; high = λ t h. refl }; kept = λ waits pending same w. w }

pub chosen_full : (table : FunnelTable) (words : List ℕ) (start m placed : ℕ) (before after : List ℕ) → table.plan.maximum ≤ placed → Chosen table words start m placed before after None
unfolding Chosen
chosen_full table words start m placed before after h = inl h

pub chosen_none : (table : FunnelTable) (words : List ℕ) (start m placed : ℕ) (before after : List ℕ) (r : Option ℕ) → r ≡ first_in (holds after (8 * m)) 0 m → r ≡ None
    → Chosen table words start m placed before after None
unfolding Chosen
chosen_none table words start m placed before after r e q = inr (λ x l. first_none (holds after (8 * m)) 0 m (sym e ∙ q) x (omega arith) (omega arith))

module _ {table : FunnelTable} {counts : List ℕ} (is : IsPlan table.n table.e table.plan counts) {words : List ℕ} {start m : ℕ} (at : start ≡ primary_start table.plan counts)
    (room : Room table.n start m) {before marks : List ℕ} (t : Turned table words start m before marks)
    {c : ℕ} (s : Option ℕ) (first : s ≡ first_in (holds marks (8 * m)) 0 m) (is_c : s ≡ Some c) where
  found : Found (holds marks (8 * m)) 0 m c
  found = first_found (holds marks (8 * m)) 0 m c (sym first ∙ is_c)

  pub smallest_below : c < m
  smallest_below = omega (arith, found.below)

  -- what waits on what, as it was at the start
  as_before : (x u : ℕ) → waits_of table words before start x u ≡ waits_of table words marks start x u
  as_before = waits_alike table is words start at before marks (λ i l. sym (t.beyond.high i (omega (arith, room.enough))))

  module _ (r : First) (v : r ≡ vacancy_of (special_end table words marks start (start + c))) where
    pub chosen_at : (end placed : ℕ) → r ≡ Some end → end ≡ start + c → placed < table.plan.maximum → Chosen table words start m placed before marks (Some (start + c))
    unfolding Chosen waits_of
    chosen_at end placed e q h =
        record {
          number = c;
          is_slot = refl;
          small = smallest_below;
          stands = found.holds;
          first = λ y l. found.before y (omega arith) l;
          itself = as_before c c ∙ (rw q at (vacancy_at table is words marks start (start + c) at r v end e).here);
          room = h;
        }

    pub end_within : (end : ℕ) → r ≡ Some end → (start ≤ end) × (end - start < m)
    end_within end e =
        let a = vacancy_at table is words marks start (start + c) at r v end e in
        (a.from, omega (arith, a.from, a.to, room.parts))

    it : (end : ℕ) → r ≡ Some end → waits_of table words marks start c (end - start) ≡ true
    unfolding waits_of
    it end e =
        let a = vacancy_at table is words marks start (start + c) at r v end e in
        let z : start + (end - start) ≡ end = omega (arith, a.from) in
        rw z a.here

    final : r ≡ None → (u : ℕ) → waits_of table words marks start c u ≡ true → ⊥
    unfolding waits_of
    final e u q = vacancy_none table is words marks start (start + c) at r v e (start + u) q

    -- a candidate fewer
    fewer : (after : List ℕ) → candidate after m c ≡ false → ((k : ℕ) → k < m → (k ≡ c → ⊥) → candidate after m k ≡ candidate marks m k) → m - idle after m m < m - idle marks m m
    fewer after here others =
        let i = idle_less after marks m c m smallest_below here found.holds (λ y l n. sym (others y l n)) in
        let j = idle_most after m m in
        omega arith

    module _ {after : List ℕ} where
      -- filed under the slot that it waits on
      pub turned_filed : (end : ℕ) → r ≡ Some end → (end ≡ start + c → ⊥) → Filed marks after m c (end - start) → Turned table words start m before after
      turned_filed end e n d =
          record {
            fits = record { queue = d.queue; small = t.fits.small };
            beyond = record { same_n = d.beyond.same_n ∙ t.beyond.same_n; high = λ i l. d.beyond.high i l ∙ t.beyond.high i l };
            kept = λ waits pending same w.
                waiting_filed (t.kept waits pending same w) d (λ x u y a b. waits_unique table words before start x u y (sym (same x u) ∙ a) (sym (same x y) ∙ b))
                smallest_below (end_within end e).1 found.holds (same c (end - start) ∙ (as_before c (end - start) ∙ it end e)) (λ q. n (let l = (end_within end e).0 in omega arith));
          }

      pub filed_fewer : (end : ℕ) → Filed marks after m c (end - start) → m - idle after m m < m - idle marks m m
      filed_fewer end d = fewer after d.here d.others

      -- one that waits on nothing
      pub turned_dropped : r ≡ None → Changed false marks after (8 * m) m c → Turned table words start m before after
      turned_dropped e d =
          record {
            fits = record { queue = d.queue; small = t.fits.small };
            beyond = record { same_n = d.kept.same_n ∙ t.beyond.same_n; high = λ i l. d.kept.high i l ∙ t.beyond.high i l };
            kept = λ waits pending same w. waiting_dropped (t.kept waits pending same w) d (λ u q. final e u (sym (as_before c u) ∙ (sym (same c u) ∙ q)));
          }

      pub dropped_fewer : Changed false marks after (8 * m) m c → m - idle after m m < m - idle marks m m
      dropped_fewer d = fewer after d.here d.others

-- ---- a turn

ended : {whole : Taken} {base order : List ℕ} {placed : ℕ} → taken base order placed ≡ whole → Ended whole order placed
ended e = record { order_is = ap (λ (t : Taken). t.order) e; placed_is = ap (λ (t : Taken). t.placed) e }

module _ {whole : Taken} {table : FunnelTable} {counts words flags : List ℕ} {start m : ℕ} {marks order : List ℕ} {placed : ℕ} (is : IsPlan table.n table.e table.plan counts)
    (at : start ≡ primary_start table.plan counts) (room : Room table.n start m) (d : Doing whole table counts words flags start m marks order placed) where
  pub doing_end : table.n ≤ placed → Ended whole order placed
  doing_end h = ended (going_end d.going h)

  unique : Unique (waits_of table words d.base start)
  unique = waits_unique table words d.base start

  same : (x u : ℕ) → waits_of table words d.base start x u ≡ waits_of table words marks start x u
  same = waits_alike table is words start at d.base marks (λ i l. sym (d.alike i l))

  module _ {after : List ℕ} (t : Turned table words start m marks after) where
    waiting_now : Waiting (waits_of table words d.base start) (pending_of table counts words flags d.base start) after m
    waiting_now = t.kept _ _ same d.waiting

    pub doing_chained : Chained after m
    doing_chained = record { waits = waits_of table words d.base start; pending = pending_of table counts words flags d.base start; unique = unique; waiting = waiting_now }

    left_over : table.n - start ≡ m
    left_over = omega (arith, room.parts)

    pub doing_stop : (r : First) → Chosen table words start m placed marks after r → r ≡ None → placed < table.n → Ended whole order placed
    unfolding Chosen
    doing_stop r ch e h =
        ended (going_stop d.going is at (omega (arith, room.parts)) h
        (rw left_over (first_unchosen table is words start at flags d.base waiting_now placed (rw e at ch))))

    module _ {r : First} {slot : ℕ} (ch : Chosen table words start m placed marks after r) (e : r ≡ Some slot) where
      pub choice : Choice table words start m placed marks after slot
      unfolding Chosen
      choice = rw e at ch

      pub choice_within : (start ≤ slot) × (slot - start < m) × (slot < table.n)
      choice_within = let l = choice.small in let q = choice.is_slot in let p = room.parts in (omega arith, omega arith, omega arith)

      module _ {woken : List ℕ} (k : Woken after woken m (slot - start) 0) where
        abbrev marked : List ℕ
        marked = set woken slot 1

        low : (i : ℕ) → i < space m → get_or marked i 0 ≡ get_or woken i 0
        low i l = get_or-set_other woken slot i 1 0 (λ q. omega (arith, choice_within.0, room.enough))

        pub marked_queue : Queue marked (8 * m) m
        marked_queue = queue_alike woken marked m (length-set woken slot 1) (λ i a l. low i l) k.fits.queue

        module _ {out : List ℕ} (q : Changed false marked out (8 * m) m (slot - start)) (h : placed < table.n) where
          number : slot ≡ start + (slot - start)
          number = omega (arith, choice_within.0)

          number_is : choice.number ≡ slot - start
          number_is = omega (arith, choice.is_slot)

          first : first_from (ready table counts words flags d.base placed) start m ≡ Some slot
          first =
              first_chosen table is words start at flags d.base waiting_now placed choice.number choice.small choice.stands choice.first
              (same choice.number choice.number ∙ choice.itself) choice.room
              ∙ ap Some (sym choice.is_slot)

          n_marks : length d.base ≡ table.n
          n_marks = d.going.marks_n

          alike_now : (i : ℕ) → start ≤ i → get_or out i 0 ≡ get_or (set d.base slot 1) i 0
          alike_now i l = q.kept.high i (omega (arith, room.enough)) ∙ go (eqb i slot) refl
            where
              size : length woken ≡ table.n
              size = k.beyond.same_n ∙ t.beyond.same_n ∙ d.size

              go : (b : Bool) → eqb i slot ≡ b → get_or marked i 0 ≡ get_or (set d.base slot 1) i 0
              go true e =
                  let z : i ≡ slot = eqb-true _ _ e in
                  rw z (get_or-set_same woken slot 1 0 (omega (arith, size, choice_within.2)) ∙ sym (get_or-set_same d.base slot 1 0 (omega (arith, n_marks, choice_within.2))))
              go false e =
                  let n = eqb-false _ _ e in
                  get_or-set_other woken slot i 1 0 n ∙ k.beyond.high i (omega (arith, room.enough)) ∙ t.beyond.high i (omega (arith, room.enough)) ∙ d.alike i l
                  ∙ sym (get_or-set_other d.base slot i 1 0 n)

          pub doing_placed : Doing whole table counts words flags start m out (set order placed slot) (placed + 1)
          doing_placed =
              record {
                base = set d.base slot 1;
                going = going_special d.going is at (omega (arith, room.parts)) slot h (rw left_over first);
                alike = alike_now;
                size = q.kept.same_n ∙ length-set woken slot 1 ∙ k.beyond.same_n ∙ t.beyond.same_n ∙ d.size;
                fits = record { queue = q.queue; small = k.fits.small };
                waiting =
                    waiting_placed (k.kept _ _ unique waiting_now) (waits_of table words (set d.base slot 1) start) (pending_of table counts words flags (set d.base slot 1) start) out (slot - start)
                    (λ i l. link_alike woken out m (λ y b. q.kept.low y b ∙ low y (omega arith)) i l) q.here
                    (λ y l n. q.others y l n ∙ candidate_alike woken marked m low y l) unique choice_within.1 (k.grown (slot - start) choice_within.1 (rw number_is at choice.stands))
                    k.is_head (waits_stable table words d.base start (slot - start) slot number) (pending_gone table is words start at flags d.base (slot - start) slot number (omega (arith, n_marks, choice_within.2)))
                    (pending_stays table is words start at flags d.base (slot - start) slot number);
              }
