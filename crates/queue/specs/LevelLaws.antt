-- Laws of one level of flags over another. Assumes nothing.
use Rattle.std.specs.Prelude.{Option, Some, None, not, cond, take, drop, Bool, true, false, List, ◌≡◌, refl, ℕ, ◌+◌, ◌*◌, ◌-◌, ◌/◌, ◌≤◌, ◌<◌, length, get_or, set, eqb, ltb}
use Rattle.std.proofs.Common.{ap, sym, ◌∙◌, arith, length-set, get_or-set_same, get_or-set_other, eqb-true, ltb-true, ltb-false}
use Rattle.std.specs.Option.{unwrap_or}
use Rattle.std.specs.List.{position, position_or_len}
use Rattle.std.proofs.lemmas.List.{length-take, length-drop, get_or-take, get_or-drop}
use Rattle.std.proofs.lemmas.List.Sums.{prefix_len-le-length, fails_before_first, passes_at_first}
use Rattle.std.proofs.lemmas.Bool.{false≢true, eqb-false}
use Rattle.queue.specs.Level.{groups, IsClear, Over, Nearly, Lowered, Settled, FirstSet, GroupEnd, InGroup, Wiped}

-- by a test's two results
cases : {P : Type 0} (x : Bool) → (x ≡ true → P) → (x ≡ false → P) → P
cases true t f = t refl
cases false t f = f refl

-- by whether two numbers are equal
either : {P : Type 0} (a b : ℕ) → (a ≡ b → P) → ((a ≡ b → ⊥) → P) → P
either a b same other = cases (eqb a b) (λ e. same (eqb-true a b e)) (λ e. other (eqb-false a b e))

-- ---- bytes that are as they were

module _ {before after : List ℕ} {low up k : ℕ} (over : Over before low up k) where
  -- where both levels are as they were
  pub over_kept : ((t : ℕ) → low ≤ t → t < low + k → get_or after t 0 ≡ get_or before t 0) → ((t : ℕ) → up ≤ t → t < up + groups k → get_or after t 0 ≡ get_or before t 0)
      → Over after low up k
  over_kept l u =
      record {
        above = λ i h c. l (low + i) (omega arith) (omega arith) ∙ over.above i h (sym (u (up + i / 64) (omega arith) (omega arith)) ∙ c);
        below = λ j h g. u (up + j) (omega arith) (omega arith) ∙ over.below j h (λ i r e. sym (l (low + i) (omega arith) (omega arith)) ∙ g i r e);
      }

  -- where flag x and its group's flag were set
  pub over_raised : (x : ℕ) → x < k → (IsClear after (low + x) → ⊥) → (IsClear after (up + x / 64) → ⊥)
      → ((t : ℕ) → low ≤ t → t < low + k → (t ≡ low + x → ⊥) → get_or after t 0 ≡ get_or before t 0)
      → ((t : ℕ) → up ≤ t → t < up + groups k → (t ≡ up + x / 64 → ⊥) → get_or after t 0 ≡ get_or before t 0) → Over after low up k
  over_raised x f sl su l u =
      record {
        above = λ i h c.
            either (i / 64) (x / 64) (λ e. let q : IsClear after (up + x / 64) = rw e at c in absurd (su q))
            (λ n. l (low + i) (omega arith) (omega arith) (λ e. let w : i ≡ x = omega arith in n (rw w)) ∙ over.above i h (sym (u (up + i / 64) (omega arith) (omega arith) (λ e. n (omega arith))) ∙ c));
        below = λ j h g.
            either j (x / 64) (λ e. absurd (sl (g x f (sym e))))
            (λ n. u (up + j) (omega arith) (omega arith) (λ e. n (omega arith)) ∙ over.below j h (λ i r e. sym (l (low + i) (omega arith) (omega arith) (λ q. let w : i ≡ x = omega arith in n (sym e ∙ ap (λ (z : ℕ). z / 64) w))) ∙ g i r e));
      }

  -- where flag x was cleared at most
  pub over_lowered : (x : ℕ) → x < k → low + k ≤ up → Lowered before after (low + x) → Nearly after low up k x
  over_lowered x f a d =
      record {
        above = λ i h c.
            let q : IsClear before (low + i) = over.above i h (sym (d.others (up + i / 64) (λ e. omega arith)) ∙ c) in
            either i x (λ e. let w : IsClear before (low + x) = rw e at q in let v : IsClear after (low + x) = d.lower w in rw e v) (λ n. d.others (low + i) (λ e. n (omega arith)) ∙ q);
        below = λ j h n g. d.others (up + j) (λ e. omega arith) ∙ over.below j h (λ i r e. sym (d.others (low + i) (λ q. let w : i ≡ x = omega arith in n (sym e ∙ ap (λ (z : ℕ). z / 64) w))) ∙ g i r e);
      }

-- ---- settling

pub cleared : (b : List ℕ) (p : ℕ) → p < length b → Lowered b (set b p 0) p
cleared b p h = record { same_n = simp length-set; others = λ t n. get_or-set_other b p t 0 0 n; lower = λ c. get_or-set_same b p 0 0 h }

unchanged : (b : List ℕ) (p : ℕ) → Lowered b b p
unchanged b p = record { same_n = refl; others = λ t n. refl; lower = λ c. c }

module _ {b : List ℕ} {low up k x : ℕ} (nearly : Nearly b low up k x) where
  -- a flag of x's group is set: nothing to do
  still : (y : ℕ) → y < k → y / 64 ≡ x / 64 → (IsClear b (low + y) → ⊥) → Settled b b low up k x
  still y h e s =
      record {
        over = record { above = nearly.above; below = λ j l g. either j (x / 64) (λ q. absurd (s (g y h (e ∙ sym q)))) (λ n. nearly.below j l n g) };
        lowered = unchanged b (up + x / 64);
      }

  pub settled_self : x < k → (IsClear b (low + x) → ⊥) → Settled b b low up k x
  settled_self h s = still x h refl s

  pub settled_found : {r : ℕ} → InGroup b low k (x / 64) r → r < k → Settled b b low up k x
  settled_found {r} f h = still r h (f.group h) (f.here h)

  pub settled_clear : {r : ℕ} → InGroup b low k (x / 64) r → k ≤ r → x < k → low + k ≤ up → up + groups k ≤ length b
      → Settled b (set b (up + x / 64) 0) low up k x
  settled_clear {r} f h l a m =
      let d = cleared b (up + x / 64) (omega arith) in
      record {
        over = record {
          above = λ i s c. d.others (low + i) (λ e. omega arith) ∙ either (i / 64) (x / 64) (λ e. f.before i (omega arith) e) (λ n. nearly.above i s (sym (d.others (up + i / 64) (λ e. n (omega arith))) ∙ c));
          below = λ j s g.
              either j (x / 64) (λ e. rw e (get_or-set_same b (up + x / 64) 0 0 (omega arith)))
              (λ n. d.others (up + j) (λ e. n (omega arith)) ∙ nearly.below j s n (λ i w e. sym (d.others (low + i) (λ q. omega arith)) ∙ g i w e));
        };
        lowered = d;
      }

-- ---- searches

module _ {b : List ℕ} {low up k : ℕ} (over : Over b low up k) (j : ℕ) {r : ℕ} (f : InGroup b low k j r) where
  -- under a flag that is set there is one
  pub under_set : j < groups k → (IsClear b (up + j) → ⊥) → r < k
  under_set h s = cases (ltb r k) (ltb-true r k) (λ g. let n = ltb-false r k g in absurd (s (over.below j h (λ i l e. f.before i (omega arith) e))))

  -- before the first under the first there is none
  pub under_clear : ((q : ℕ) → q < j → IsClear b (up + q)) → r < k → (t : ℕ) → t < r → IsClear b (low + t)
  under_clear c h t l =
      let g = f.group h in
      either (t / 64) j (λ e. f.before t l e) (λ n. over.above t (omega arith) (c (t / 64) (omega arith)))

-- under flags that are all clear there is none
pub under_none : {b : List ℕ} {low up k : ℕ} → Over b low up k → ((q : ℕ) → q < groups k → IsClear b (up + q)) → (t : ℕ) → t < k → IsClear b (low + t)
under_none over c t h = over.above t h (c (t / 64) (omega arith))

module _ {k j e : ℕ} (g : GroupEnd k j e) {b : List ℕ} (low : ℕ) {r : ℕ} (f : FirstSet b (low + j * 64) (low + e) r) where
  pub group_found : r < low + e → InGroup b low k j (r - low)
  group_found h =
      let l = f.least in
      record {
        most = omega (arith, g.most);
        before = λ i s q. f.before (low + i) (omega arith) (omega arith);
        group = λ s. omega (arith, g.within);
        here = λ s c. let w : low + (r - low) ≡ r = omega arith in f.here h (rw w at c);
      }

  pub group_none : low + e ≤ r → InGroup b low k j k
  group_none h =
      record {
        most = omega arith;
        before = λ i s q. f.before (low + i) (omega arith) (omega (arith, g.whole i s q));
        group = λ s. absurd (omega arith);
        here = λ s c. absurd (omega arith);
      }

-- ---- the first that is set, as a loop that counts up finds it

-- none before i is set
pub record Passed (b : List ℕ) (from i : ℕ) : Type 0 where
  pub least : from ≤ i
  pub none : (t : ℕ) → from ≤ t → t < i → IsClear b t

pub passed_none : (b : List ℕ) (from : ℕ) → Passed b from from
passed_none b from = record { least = omega arith; none = λ t l h. absurd (omega arith) }

module _ {b : List ℕ} {from i : ℕ} (p : Passed b from i) where
  pub passed_more : IsClear b i → Passed b from (i + 1)
  passed_more c = let l = p.least in record { least = omega arith; none = λ t h u. either t i (λ e. rw e c) (λ n. p.none t h (omega arith)) }

  pub passed_set : {to : ℕ} → i < to → (IsClear b i → ⊥) → FirstSet b from to i
  passed_set h s = record { least = p.least; most = omega arith; before = p.none; here = λ l. s }

  pub passed_end : {to : ℕ} → from ≤ to → to ≤ i → FirstSet b from to to
  passed_end f h = record { least = f; most = omega arith; before = λ t l u. p.none t l (omega arith); here = λ l. absurd (omega arith) }

-- ---- the first of a part of the bytes that is set, or the part's end

first_or_end : (p : ℕ → Bool) (xs : List ℕ) → unwrap_or (position p xs) (length xs) ≡ position_or_len p xs
first_or_end p xs = go (ltb (position_or_len p xs) (length xs)) refl
  where
    go : (t : Bool) → ltb (position_or_len p xs) (length xs) ≡ t → unwrap_or (cond t (Some (position_or_len p xs)) None) (length xs) ≡ position_or_len p xs
    go true e = refl
    go false e = let n = ltb-false _ _ e in let m = prefix_len-le-length (λ x. not (p x)) xs in omega arith

clear_of : (v : ℕ) → not (eqb v 0) ≡ false → v ≡ 0
clear_of v e = cases (eqb v 0) (eqb-true v 0) (λ f. let q : true ≡ false = rw f at e in absurd (false≢true (sym q)))

set_of : (v : ℕ) → not (eqb v 0) ≡ true → v ≡ 0 → ⊥
set_of v e z = let q : false ≡ true = rw z at e in false≢true q

-- at the part from one place to another
pub first_of_part : (b : List ℕ) (from to : ℕ) (o : Option ℕ) (r : ℕ) → r ≡ unwrap_or o (length (take (to - from) (drop from b)))
    → o ≡ position (λ x. not (eqb x 0)) (take (to - from) (drop from b)) → from ≤ to → to ≤ length b → FirstSet b from to (from + r)
first_of_part b from to o r e f g h =
    let n : length (take (to - from) (drop from b)) ≡ to - from = rw (length-take, length-drop) (omega arith) in
    let q : r ≡ position_or_len (λ x. not (eqb x 0)) (take (to - from) (drop from b)) = rw f at e ∙ first_or_end (λ x. not (eqb x 0)) (take (to - from) (drop from b)) in
    let m : position_or_len (λ x. not (eqb x 0)) (take (to - from) (drop from b)) ≤ length (take (to - from) (drop from b)) = prefix_len-le-length (λ x. not (not (eqb x 0))) (take (to - from) (drop from b)) in
    go (take (to - from) (drop from b)) n q m (λ k l. get_or-take (to - from) (drop from b) k 0 l ∙ get_or-drop from b k 0)
  where
    go : (part : List ℕ) → length part ≡ to - from → r ≡ position_or_len (λ x. not (eqb x 0)) part → position_or_len (λ x. not (eqb x 0)) part ≤ length part
        → ((k : ℕ) → k < to - from → get_or part k 0 ≡ get_or b (from + k) 0) → FirstSet b from to (from + r)
    go part n q m here =
        record {
          least = omega arith;
          most = omega arith;
          before = λ t l u.
              let w : from + (t - from) ≡ t = omega arith in
              let z = clear_of _ (fails_before_first (λ x. not (eqb x 0)) part (t - from) 0 (omega arith)) in
              rw w at (sym (here (t - from) (omega arith)) ∙ z);
          here = λ l c. set_of _ (passes_at_first (λ x. not (eqb x 0)) part 0 (omega arith)) (rw (← q) (here r (omega arith) ∙ c));
        }

-- by a number that is the same
pub first_same : {b : List ℕ} {from to r s : ℕ} → r ≡ s → FirstSet b from to r → FirstSet b from to s
first_same e f = rw e at f

-- ---- a range of bytes set to 0, as a loop that counts up makes it

pub wiped_none : (b : List ℕ) (from : ℕ) → Wiped b b from from
wiped_none b from = record { same_n = refl; zero = λ t l h. absurd (omega arith); low = λ t h. refl; high = λ t h. refl }

pub wiped_more : {before after : List ℕ} {from i : ℕ} → Wiped before after from i → from ≤ i → i < length before → Wiped before (set after i 0) from (i + 1)
wiped_more {before} {after} {from} {i} w l h =
    let n = w.same_n in
    record {
      same_n = simp length-set n;
      zero = λ t a s. either t i (λ e. rw e (get_or-set_same after i 0 0 (omega arith))) (λ q. get_or-set_other after i t 0 0 q ∙ w.zero t a (omega arith));
      low = λ t s. get_or-set_other after i t 0 0 (λ e. omega arith) ∙ w.low t s;
      high = λ t s. get_or-set_other after i t 0 0 (λ e. omega arith) ∙ w.high t (omega arith);
    }
