-- Laws of waiting: it holds on as numbers are filed, dropped, woken and placed. Assumes nothing.
use Rattle.std.specs.Prelude.{Bool, List, [], ◌∷◌, ◌≡◌, ℕ, ◌+◌, ◌*◌, ◌-◌, ◌<◌}
use Rattle.std.proofs.Math.Bool.{true, false}
use Rattle.std.proofs.Common.{inl, inr, ⊎_elim, ap, sym, ◌∙◌, arith}
use Rattle.std.proofs.Math.Path.{refl}
use Rattle.std.proofs.Math.Dec.{eqb}
use borrow.Author.Tests.{eqb-true, eqb-false}
use Rattle.words.specs.Pick.{pick}
use Rattle.queue.specs.Queue.{Changed}
use Rattle.waiting.specs.Links.{link, candidate, Fits, idle, Filed, Popped}
use Rattle.waiting.specs.LinksLaws.{link_alike, idle_less}
use Rattle.waiting.specs.Waiting.{In, Linked, Unique, Member, Waiting, Chained, Woken}

-- false is not true
pub not_both : {x : Bool} → x ≡ false → x ≡ true → ⊥
not_both {x} a b = let z : ◌≡◌ {A = ℕ} 0 1 = cc in omega arith

-- ---- chains

-- a chain whose links are the same
linked_alike : (before after : List ℕ) (m h : ℕ) (xs : List ℕ) → ((x : ℕ) → In x xs → link after (m + x) ≡ link before (m + x)) → Linked before m h xs → Linked after m h xs
unfolding Linked In
linked_alike before after m h [] same c = c
linked_alike before after m h (x ∷ xs) same c = (c.0, c.1, rw (same x (inl refl)) (linked_alike before after m (link before (m + x)) xs (λ y i. same y (inr i)) c.2))

-- from no link on there is none
linked_none : (b : List ℕ) (m h : ℕ) (xs : List ℕ) → h ≡ 0 → Linked b m h xs → (x : ℕ) → In x xs → ⊥
unfolding Linked In
linked_none b m h [] e c x i = i
linked_none b m h (y ∷ xs) e c x i = omega (arith, c.0)

-- the first of a chain, and the rest
pub record Split (b : List ℕ) (m x : ℕ) (xs : List ℕ) : Type 0 where
  pub rest : List ℕ
  pub whole : xs ≡ x ∷ rest
  pub out : In x rest → ⊥
  pub linked : Linked b m (link b (m + x)) rest

linked_first : (b : List ℕ) (m h x : ℕ) (xs : List ℕ) → h ≡ x + 1 → Linked b m h xs → Split b m x xs
unfolding Linked
linked_first b m h x [] e c = absurd (omega arith)
linked_first b m h x (y ∷ xs) e c =
    let q : y ≡ x = omega (arith, c.0) in
    rw (← q) (record { rest = xs; whole = refl; out = c.1; linked = c.2 })

-- ---- at the start

pub waiting_start : (waits : ℕ → ℕ → Bool) (pending : ℕ → Bool) (b : List ℕ) (m : ℕ) → ((u : ℕ) → u < m → link b u ≡ 0)
    → ((x : ℕ) → x < m → candidate b m x ≡ pending x) → Waiting waits pending b m
unfolding In Linked
waiting_start waits pending b m none all =
    record {
      lists = λ u. [];
      linked = λ u l. none u l;
      members = λ u x l i. absurd i;
      settled = λ x u l k f p w. absurd (not_both f (all x l ∙ p));
      lively = λ x l e. sym (all x l) ∙ e;
    }

-- ---- what every turn keeps

module _ {waits : ℕ → ℕ → Bool} {pending : ℕ → Bool} {before : List ℕ} {m : ℕ} (w : Waiting waits pending before m) where
  -- a number that pends and waits on itself is a candidate
  pub waiting_quiet : (x : ℕ) → x < m → candidate before m x ≡ false → pending x ≡ true → waits x x ≡ true → ⊥
  waiting_quiet x l f p q = (w.members x x l (w.settled x x l l f p q)).other refl

  -- the first on a chain
  pub waiting_first : (c x : ℕ) → c < m → link before c ≡ x + 1 → Member waits pending before m c x
  unfolding In
  waiting_first c x l e =
      let s = linked_first before m (link before c) x (w.lists c) e (w.linked c l) in
      w.members c x l (rw s.whole (inl refl))

  -- number c is a candidate no longer
  module _ (after : List ℕ) (c : ℕ) (here : candidate after m c ≡ false) (others : (k : ℕ) → k < m → (k ≡ c → ⊥) → candidate after m k ≡ candidate before m k) where
    falls : (x : ℕ) → x < m → candidate before m x ≡ false → candidate after m x ≡ false
    falls x l f = go (eqb x c) refl
      where
        go : (v : Bool) → eqb x c ≡ v → candidate after m x ≡ false
        go true e = let q : x ≡ c = eqb-true _ _ e in rw q here
        go false e = others x l (eqb-false _ _ e) ∙ f

    not_it : (x : ℕ) → candidate after m x ≡ true → x ≡ c → ⊥
    not_it x e q = not_both here (rw q at e)

    was : (x : ℕ) → x < m → candidate after m x ≡ true → candidate before m x ≡ true
    was x l e = sym (others x l (not_it x e)) ∙ e

  -- a candidate that waits on nothing is one no longer
  module _ {after : List ℕ} {c : ℕ} (d : Changed false before after (8 * m) m c) (final : (u : ℕ) → waits c u ≡ true → ⊥) where
    same : (i : ℕ) → i < 2 * m → link after i ≡ link before i
    same = link_alike before after m d.kept.low

    pub waiting_dropped : Waiting waits pending after m
    waiting_dropped =
        record {
          lists = w.lists;
          linked = λ u l. rw (same u (omega arith)) (linked_alike before after m (link before u) (w.lists u) (λ x i. let s = (w.members u x l i).small in same (m + x) (omega arith)) (w.linked u l));
          members = λ u x l i.
              let k = w.members u x l i in
              record { small = k.small; pends = k.pends; idles = falls after c d.here d.others x k.small k.idles; waiting = k.waiting; other = k.other };
          settled = λ x u l k f p q. go x u l k f p q (eqb x c) refl;
          lively = λ x l e. w.lively x l (was after c d.here d.others x l e);
        }
      where
        go : (x u : ℕ) → x < m → u < m → candidate after m x ≡ false → pending x ≡ true → waits x u ≡ true → (v : Bool) → eqb x c ≡ v → In x (w.lists u)
        go x u l k f p q true e =
            let z : x ≡ c = eqb-true _ _ e in
            absurd (final u (rw z at q))
        go x u l k f p q false e = w.settled x u l k (sym (d.others x l (eqb-false _ _ e)) ∙ f) p q

  -- a candidate is filed under the number it waits on
  module _ {after : List ℕ} {c u : ℕ} (d : Filed before after m c u) (unique : Unique waits) (small : c < m) (within : u < m) (stood : candidate before m c ≡ true)
      (is : waits c u ≡ true) (other : c ≡ u → ⊥) where
    filed_lists : ℕ → List ℕ
    filed_lists v = pick (eqb v u) (c ∷ w.lists u) (w.lists v)

    -- no chain had it
    off : (v x : ℕ) → v < m → In x (w.lists v) → x ≡ c → ⊥
    off v x l i e = not_both (w.members v x l i).idles (rw e stood)

    leads : (v x : ℕ) → v < m → In x (w.lists v) → link after (m + x) ≡ link before (m + x)
    leads v x l i =
        let s = (w.members v x l i).small in
        d.links (m + x) (omega arith) (λ q. omega arith) (λ q. off v x l i (omega arith))

    pub waiting_filed : Waiting waits pending after m
    unfolding In Linked filed_lists
    waiting_filed =
        record {
          lists = filed_lists;
          linked = λ v l. chain v l (eqb v u) refl;
          members = λ v x l i. member v x l (eqb v u) refl i;
          settled = λ x v l k f p q. go x v l k f p q (eqb x c) refl (eqb v u) refl;
          lively = λ x l e. w.lively x l (was after c d.here d.others x l e);
        }
      where
        chain : (v : ℕ) → v < m → (t : Bool) → eqb v u ≡ t → Linked after m (link after v) (pick t (c ∷ w.lists u) (w.lists v))
        chain v l true e =
            let q : v ≡ u = eqb-true _ _ e in
            (ap (λ (z : ℕ). link after z) q ∙ d.head, λ i. off u c within i refl, rw d.next (linked_alike before after m (link before u) (w.lists u) (λ x i. leads u x within i) (w.linked u within)))
        chain v l false e =
            rw (d.links v (omega arith) (eqb-false _ _ e) (λ q. omega arith)) (linked_alike before after m (link before v) (w.lists v) (λ x i. leads v x l i) (w.linked v l))

        down : (v x : ℕ) → Member waits pending before m v x → Member waits pending after m v x
        down v x k =
            record { small = k.small; pends = k.pends; idles = falls after c d.here d.others x k.small k.idles; waiting = k.waiting; other = k.other }

        member : (v x : ℕ) → v < m → (t : Bool) → eqb v u ≡ t → In x (pick t (c ∷ w.lists u) (w.lists v)) → Member waits pending after m v x
        member v x l true e i =
            let q : v ≡ u = eqb-true _ _ e in
            ⊎_elim (λ (z : x ≡ c). rw (z, q) (record { small = small; pends = w.lively c small stood; idles = d.here; waiting = is; other = other }))
            (λ j. rw q (down u x (w.members u x within j))) i
        member v x l false e i = down v x (w.members v x l i)

        go : (x v : ℕ) → x < m → v < m → candidate after m x ≡ false → pending x ≡ true → waits x v ≡ true → (s : Bool) → eqb x c ≡ s → (t : Bool) → eqb v u ≡ t
            → In x (pick t (c ∷ w.lists u) (w.lists v))
        go x v l k f p q true e true g = inl (eqb-true _ _ e)
        go x v l k f p q true e false g =
            let z : x ≡ c = eqb-true _ _ e in
            absurd (eqb-false _ _ g (unique c v u (rw z at q) is))
        go x v l k f p q false e true g =
            let z : v ≡ u = eqb-true _ _ g in
            inr (rw z at (w.settled x v l k (sym (d.others x l (eqb-false _ _ e)) ∙ f) p q))
        go x v l k f p q false e false g = w.settled x v l k (sym (d.others x l (eqb-false _ _ e)) ∙ f) p q

  -- the first on a chain becomes a candidate
  module _ {after : List ℕ} {c x : ℕ} (d : Popped before after m c x) (unique : Unique waits) (within : c < m) (first : link before c ≡ x + 1) where
    cut : Split before m x (w.lists c)
    cut = linked_first before m (link before c) x (w.lists c) first (w.linked c within)

    on : In x (w.lists c)
    unfolding In
    on = rw cut.whole (inl refl)

    popped_lists : ℕ → List ℕ
    popped_lists v = pick (eqb v c) cut.rest (w.lists v)

    -- the rest of the chain
    tail : (y : ℕ) → In y cut.rest → In y (w.lists c)
    unfolding In
    tail y i = rw cut.whole (inr i)

    kept_link : (v y : ℕ) → v < m → In y (w.lists v) → link after (m + y) ≡ link before (m + y)
    kept_link v y l i = let s = (w.members v y l i).small in d.links (m + y) (omega arith) (λ q. omega arith)

    hold : (v y : ℕ) → v < m → In y (w.lists v) → (y ≡ x → ⊥) → Member waits pending after m v y
    hold v y l i n =
        let k = w.members v y l i in
        record { small = k.small; pends = k.pends; idles = d.others y k.small n ∙ k.idles; waiting = k.waiting; other = k.other }

    pub waiting_popped : Waiting waits pending after m
    unfolding In Linked popped_lists
    waiting_popped =
        record {
          lists = popped_lists;
          linked = λ v l. chain v l (eqb v c) refl;
          members = λ v y l i. member v y l (eqb v c) refl i;
          settled = λ y v l k f p q. go y v l k f p q (eqb v c) refl;
          lively = λ y l e. lives y l e (eqb y x) refl;
        }
      where
        chain : (v : ℕ) → v < m → (t : Bool) → eqb v c ≡ t → Linked after m (link after v) (pick t cut.rest (w.lists v))
        chain v l true e =
            let q : v ≡ c = eqb-true _ _ e in
            rw (q, d.head) (linked_alike before after m (link before (m + x)) cut.rest (λ y i. kept_link c y within (tail y i)) cut.linked)
        chain v l false e =
            rw (d.links v (omega arith) (eqb-false _ _ e)) (linked_alike before after m (link before v) (w.lists v) (λ y i. kept_link v y l i) (w.linked v l))

        member : (v y : ℕ) → v < m → (t : Bool) → eqb v c ≡ t → In y (pick t cut.rest (w.lists v)) → Member waits pending after m v y
        member v y l true e i =
            let q : v ≡ c = eqb-true _ _ e in
            rw q (hold c y within (tail y i) (λ z. cut.out (rw z at i)))
        member v y l false e i =
            hold v y l i (λ z. eqb-false _ _ e (unique x v c (rw z at (w.members v y l i).waiting) (w.members c x within on).waiting))

        go : (y v : ℕ) → y < m → v < m → candidate after m y ≡ false → pending y ≡ true → waits y v ≡ true → (t : Bool) → eqb v c ≡ t → In y (pick t cut.rest (w.lists v))
        go y v l k f p q t e = by t e (w.settled y v l k (sym (d.others y l n) ∙ f) p q)
          where
            n : y ≡ x → ⊥
            n z = not_both f (rw z d.here)

            by : (t : Bool) → eqb v c ≡ t → In y (w.lists v) → In y (pick t cut.rest (w.lists v))
            by true e i =
                let z : v ≡ c = eqb-true _ _ e in
                ⊎_elim (λ r. absurd (n r)) (λ j. j) (rw (z, cut.whole) at i)
            by false e i = i

        lives : (y : ℕ) → y < m → candidate after m y ≡ true → (t : Bool) → eqb y x ≡ t → pending y ≡ true
        lives y l e true g = let z : y ≡ x = eqb-true _ _ g in rw z (w.members c x within on).pends
        lives y l e false g = w.lively y l (sym (d.others y l (eqb-false _ _ g)) ∙ e)

  -- a candidate that none waits on is placed: what does not wait on it waits on as before, and pends as before
  module _ (others : ℕ → ℕ → Bool) (left : ℕ → Bool) (after : List ℕ) (c : ℕ) (link-kept : (i : ℕ) → i < 2 * m → link after i ≡ link before i) (here : candidate after m c ≡ false)
      (rest : (k : ℕ) → k < m → (k ≡ c → ⊥) → candidate after m k ≡ candidate before m k) (unique : Unique waits) (within : c < m) (stood : candidate before m c ≡ true)
      (none : link before c ≡ 0) (stable : (x : ℕ) → waits x c ≡ false → (u : ℕ) → others x u ≡ waits x u) (gone : left c ≡ false)
      (stays : (x : ℕ) → (x ≡ c → ⊥) → left x ≡ pending x) where
    nobody : (x : ℕ) → In x (w.lists c) → ⊥
    nobody = linked_none before m (link before c) (w.lists c) none (w.linked c within)

    pub waiting_placed : Waiting others left after m
    waiting_placed =
        record {
          lists = w.lists;
          linked = λ u l.
              rw (link-kept u (omega arith)) (linked_alike before after m (link before u) (w.lists u) (λ x i. let s = (w.members u x l i).small in link-kept (m + x) (omega arith)) (w.linked u l));
          members = λ u x l i. member u x l i (waits x c) refl;
          settled = λ x u l k f p q. go x u l k f p q (λ z. not_both gone (rw z at p)) (waits x c) refl;
          lively = λ x l e. stays x (not_it after c here rest x e) ∙ w.lively x l (was after c here rest x l e);
        }
      where
        member : (u x : ℕ) → u < m → In x (w.lists u) → (t : Bool) → waits x c ≡ t → Member others left after m u x
        member u x l i true e =
            let k = w.members u x l i in
            let q : u ≡ c = unique x u c k.waiting e in
            absurd (nobody x (rw q at i))
        member u x l i false e =
            let k = w.members u x l i in
            let n : x ≡ c → ⊥ = λ z. not_both k.idles (rw z stood) in
            record { small = k.small; pends = stays x n ∙ k.pends; idles = rest x k.small n ∙ k.idles; waiting = stable x e u ∙ k.waiting; other = k.other }

        go : (x u : ℕ) → x < m → u < m → candidate after m x ≡ false → left x ≡ true → others x u ≡ true → (x ≡ c → ⊥) → (t : Bool) → waits x c ≡ t → In x (w.lists u)
        go x u l k f p q n true e = absurd (nobody x (w.settled x c l within (sym (rest x l n) ∙ f) (sym (stays x n) ∙ p) e))
        go x u l k f p q n false e = w.settled x u l k (sym (rest x l n) ∙ f) (sym (stays x n) ∙ p) (sym (stable x e u) ∙ q)

-- ---- a chain as a loop takes it off

pub woken_none : (b : List ℕ) (m c head : ℕ) → Fits b m → head ≡ link b c → Woken b b m c head
woken_none b m c head f e =
    record { fits = f; beyond = record { same_n = refl; high = λ t h. refl }; is_head = sym e; grown = λ x l q. q; kept = λ waits pending u w. w }

module _ {before b : List ℕ} {m c head : ℕ} (k : Woken before b m c head) (chained : Chained before m) (within : c < m) (some : head ≡ 0 → ⊥) where
  now : Waiting chained.waits chained.pending b m
  now = k.kept chained.waits chained.pending chained.unique chained.waiting

  to_first : link b c ≡ head - 1 + 1
  to_first = let e = k.is_head in omega arith

  pub woken_first : Member chained.waits chained.pending b m c (head - 1)
  woken_first = waiting_first now c (head - 1) within to_first

  module _ {after : List ℕ} (d : Popped b after m c (head - 1)) where
    pub woken_less : idle after m m < idle b m m
    woken_less = idle_less b after m (head - 1) m woken_first.small woken_first.idles d.here d.others

    pub woken_more : (next : ℕ) → next ≡ link after c → Woken before after m c next
    woken_more next e =
        record {
          fits = record { queue = d.queue; small = k.fits.small };
          beyond = record { same_n = d.beyond.same_n ∙ k.beyond.same_n; high = λ t h. d.beyond.high t h ∙ k.beyond.high t h };
          is_head = sym e;
          grown = λ x l q. go x l (k.grown x l q) (eqb x (head - 1)) refl;
          kept = λ waits pending u w. waiting_popped (k.kept waits pending u w) d u within to_first;
        }
      where
        go : (x : ℕ) → x < m → candidate b m x ≡ true → (t : Bool) → eqb x (head - 1) ≡ t → candidate after m x ≡ true
        go x l q true e = let z : x ≡ head - 1 = eqb-true _ _ e in rw z d.here
        go x l q false e = d.others x l (eqb-false _ _ e) ∙ q
