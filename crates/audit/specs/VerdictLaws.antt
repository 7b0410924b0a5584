-- Laws of the verdicts: how they are given and queued, and that the turns start from there. Assumes nothing.
use Rattle.std.specs.Prelude.{Bool, List, [], ◌∷◌, ◌≡◌, ℕ, zero, suc, ◌+◌, ◌*◌, ◌-◌, ◌^◌, ◌≤◌, ◌<◌, length, get_or, set, replicate, ltb}
use Rattle.std.proofs.Math.Bool.{true, false}
use Rattle.std.proofs.Common.{⊎_elim, ◌∙◌, eq-or-lt_of_le, mul-le-mul_left, arith, length-set, get_or-set_same, get_or-set_other, pow_mono, eq-eqb, ne_eqb, ltb-true, ltb-false}
use Rattle.std.proofs.Math.Path.{refl, ap, sym}
use Rattle.std.proofs.Math.ListN.{get_or-eq_default}
use Rattle.words.specs.BytesLaws.{get_d_zeros}
use Rattle.words.specs.Pick.{pick}
use Rattle.geometry.specs.Funnel.{IsPlan}
use Rattle.geometry.specs.FunnelLaws.{plan_facts}
use Rattle.geometry.specs.LengthLaws.{length_facts}
use Rattle.geometry.specs.declared.funnel.FunnelPlan.{FunnelPlan}
use Rattle.funnel.specs.declared.table.FunnelTable.{FunnelTable}
use Rattle.funnel.specs.Path.{primary_start}
use Rattle.funnel.specs.PlanLaws.{primary_start_lem}
use Rattle.queue.specs.Queue.{Queue, Changed}
use Rattle.waiting.specs.Links.{space, candidate, Beyond, Cleared}
use Rattle.waiting.specs.LinksLaws.{link_alike, candidate_alike, queue_alike}
use Rattle.waiting.specs.WaitingLaws.{waiting_start}
use Rattle.audit.specs.Greedy.{Taken}
use Rattle.audit.specs.Going.{Going}
use Rattle.audit.specs.Special.{live}
use Rattle.audit.specs.SpecialLaws.{live_alike}
use Rattle.audit.specs.Verdicts.{Early, bit, set?, Judged, Offered}
use Rattle.audit.specs.Waits.{waits_of, pending_of, Doing}

-- ---- room: the ordinary marks are at least 29 of 32, and the links and the queue take less than ten bytes for a special slot

pub record Room (n start m : ℕ) : Type 0 where
  pub parts : n ≡ start + m
  pub enough : space m ≤ start
  pub small : m < 4294967296

pub special_room : {n e : ℕ} {plan : FunnelPlan} {counts : List ℕ} → IsPlan n e plan counts → {start : ℕ} → start ≡ primary_start plan counts → Room n start plan.special_len
special_room {n} {e} {plan} is {start} at =
    let g = plan_facts is in
    let f = length_facts n e plan.special_len is.special.largest.holds in
    let x : 5 ≤ e + 2 = omega (arith, is.exponent) in
    let w : 2 ^ 5 ≤ 2 ^ (e + 2) = pow_mono x in
    let m : plan.special_len * 32 ≤ plan.special_len * 2 ^ (e + 2) = mul-le-mul_left plan.special_len w in
    let p : plan.special_len * 32 ≤ 3 * n = omega (arith, f.part) in
    let s : start ≡ n - plan.special_len = at ∙ primary_start_lem is in
    let four : 4 ≤ plan.special_len = omega (arith, g.special_least_lem, g.loglog_least) in
    let within : plan.special_len ≤ n = g.special_most_lem in
    let most : n ≤ 4294967296 = g.n_most in
    record { parts = omega arith; enough = omega arith; small = omega arith }

-- ---- marks that are 0 or 1, and 0 from a slot on

pub early_cleared : (marks before : List ℕ) → marks ≡ replicate (length before) 0 → Early 0 marks
early_cleared marks before e = record { small = λ i. (let z = get_d_zeros (length before) i in rw e (omega arith)); none = λ i l. rw e (get_d_zeros (length before) i) }

set_small : (marks : List ℕ) (i j : ℕ) → get_or marks j 0 ≤ 1 → get_or (set marks i 1) j 0 ≤ 1
set_small [] i j h = h
set_small (mark ∷ marks) zero zero h = omega arith
set_small (mark ∷ marks) zero (suc j) h = h
set_small (mark ∷ marks) (suc i) zero h = h
set_small (mark ∷ marks) (suc i) (suc j) h = set_small marks i j h

module _ {k : ℕ} {marks : List ℕ} (y : Early k marks) where
  pub early_more : Early (k + 1) marks
  early_more = record { small = y.small; none = λ i l. y.none i (omega arith) }

  pub early_set : Early (k + 1) (set marks k 1)
  early_set =
      record {
        small = λ i. set_small marks k i (y.small i);
        none = λ i l. get_or-set_other marks k i 1 0 (λ q. omega arith) ∙ y.none i (omega arith);
      }

-- ---- the verdicts as they are given

pub judged_none : (verdict : ℕ → Bool) (start : ℕ) (marks : List ℕ) → Judged verdict start start marks marks
judged_none verdict start marks = record { same_n = refl; ordinary = λ i l. refl; given = λ i l h. absurd (omega arith) }

pub judged_more : {verdict : ℕ → Bool} {start to : ℕ} {before marks : List ℕ} → Judged verdict start to before marks → (b : ℕ) → start ≤ to → to < length before
    → b ≡ bit (verdict to) → Judged verdict start (to + 1) before (set marks to b)
judged_more {verdict} {start} {to} {before} {marks} j b l h e =
    let n = j.same_n in
    record {
      same_n = simp length-set j.same_n;
      ordinary = λ i u. get_or-set_other marks to i b 0 (λ q. omega arith) ∙ j.ordinary i u;
      given = λ i u v.
          let w : i ≤ to = omega arith in
          ⊎_elim (λ (q : i ≡ to). rw q (get_or-set_same marks to b 0 (omega arith) ∙ e)) (λ (lt : i < to). get_or-set_other marks to i b 0 (λ q. omega arith) ∙ j.given i u lt) (eq-or-lt_of_le w);
    }

-- ---- the verdicts as they are queued

pub offered_none : (start m : ℕ) (before marks : List ℕ) → Cleared before marks m → Offered start m 0 marks marks
offered_none start m before marks c =
    record { same_n = refl; fits = c.fits; links = c.links; moved = λ x l h. absurd (omega arith); kept = λ x l h. c.none x h; cleared = λ i l h. absurd (omega arith); left = λ i l. refl }

-- with the marks as they were before the links and the queue were cleared
pub offered_from : {start m to : ℕ} {first before marks : List ℕ} → Beyond first before m → space m ≤ start → Offered start m to before marks → Offered start m to first marks
offered_from b l o =
    record {
      same_n = o.same_n ∙ b.same_n;
      fits = o.fits;
      links = o.links;
      moved = λ x h k. o.moved x h k ∙ ap set? (b.high _ (omega arith));
      kept = o.kept;
      cleared = o.cleared;
      left = λ i h. o.left i h ∙ b.high i (omega arith);
    }

module _ {start m to : ℕ} {before marks : List ℕ} (o : Offered start m to before marks) (small : to < m) (enough : space m ≤ start) (n : length before ≡ start + m) where
  n_marks : length marks ≡ start + m
  n_marks = o.same_n ∙ n

  -- one that is not live
  pub offered_dead : get_or marks (start + to) 0 ≡ 0 → Offered start m (to + 1) before marks
  offered_dead z =
      let w : get_or before (start + to) 0 ≡ 0 = sym (o.left (start + to) (omega arith)) ∙ z in
      record {
        same_n = o.same_n;
        fits = o.fits;
        links = o.links;
        moved = λ x l h.
            let u : x ≤ to = omega arith in
            ⊎_elim (λ (q : x ≡ to). rw q (o.kept to (omega arith) small ∙ rw (w))) (λ (lt : x < to). o.moved x lt h) (eq-or-lt_of_le u);
        kept = λ x l h. o.kept x (omega arith) h;
        cleared = λ i l h.
            let u : i ≤ start + to = omega arith in
            ⊎_elim (λ (q : i ≡ start + to). rw q z) (λ (lt : i < start + to). o.cleared i l lt) (eq-or-lt_of_le u);
        left = λ i l. o.left i (omega arith);
      }

  -- one that is: its mark is cleared, and it is queued
  abbrev bared : List ℕ
  bared = set marks (start + to) 0

  below : (t : ℕ) → t < space m → get_or bared t 0 ≡ get_or marks t 0
  below t l = get_or-set_other marks (start + to) t 0 0 (λ q. omega arith)

  pub bared_queue : Queue bared (8 * m) m
  bared_queue = queue_alike marks bared m (length-set marks (start + to) 0) (λ t a l. below t l) o.fits.queue

  module _ (out : List ℕ) (d : Changed true bared out (8 * m) m to) (live-mark : get_or marks (start + to) 0 ≡ 0 → ⊥) where
    as_was : (x : ℕ) → x < m → (x ≡ to → ⊥) → candidate out m x ≡ candidate marks m x
    as_was x l q = d.others x l q ∙ candidate_alike marks bared m below x l

    other : (i : ℕ) → start ≤ i → (i ≡ start + to → ⊥) → get_or out i 0 ≡ get_or marks i 0
    other i l q = d.kept.high i (omega arith) ∙ get_or-set_other marks (start + to) i 0 0 q

    pub offered_live : Offered start m (to + 1) before out
    offered_live =
        let w : (get_or before (start + to) 0 ≡ 0 → ⊥) = λ z. live-mark (o.left (start + to) (omega arith) ∙ z) in
        record {
          same_n = d.kept.same_n ∙ length-set marks (start + to) 0 ∙ o.same_n;
          fits = record { queue = d.queue; small = o.fits.small };
          links = λ i l. link_alike marks out m (λ t h. d.kept.low t h ∙ below t (omega arith)) i l ∙ o.links i l;
          moved = λ x l h.
              let u : x ≤ to = omega arith in
              ⊎_elim (λ (q : x ≡ to). rw q (d.here ∙ rw (ne_eqb _ _ w))) (λ (lt : x < to). as_was x h (λ q. omega arith) ∙ o.moved x lt h) (eq-or-lt_of_le u);
          kept = λ x l h. as_was x h (λ q. omega arith) ∙ o.kept x (omega arith) h;
          cleared = λ i l h.
              let u : i ≤ start + to = omega arith in
              ⊎_elim (λ (q : i ≡ start + to). rw q (d.kept.high (start + to) (omega arith) ∙ get_or-set_same marks (start + to) 0 0 (omega (arith, n_marks))))
              (λ (lt : i < start + to). other i l (λ q. omega arith) ∙ o.cleared i l lt) (eq-or-lt_of_le u);
          left = λ i l. other i (omega arith) (λ q. omega arith) ∙ o.left i (omega arith);
        }

pub offered_end : {start m to : ℕ} {before marks : List ℕ} → Offered start m to before marks → m ≤ to → to ≤ m → Offered start m m before marks
offered_end {start} {m} {to} o a b = let e : to ≡ m = omega arith in rw e at o

-- ---- the turns start

module _ {whole : Taken} {table : FunnelTable} {counts words flags : List ℕ} {start m : ℕ} {marks judged offered order : List ℕ} {before : ℕ} (parts : table.n ≡ start + m)
    (y : Early start marks) (j : Judged (live table counts words flags marks) start table.n marks judged) (o : Offered start m m judged offered)
    (g : Going whole table counts words flags marks order before start) where
  none_marked : (i : ℕ) → start ≤ i → get_or offered i 0 ≡ 0
  none_marked i l = go (ltb i (start + m)) refl
    where
      go : (b : Bool) → ltb i (start + m) ≡ b → get_or offered i 0 ≡ 0
      go true e = o.cleared i l (ltb-true _ _ e)
      go false e =
          let u : start + m ≤ i = ltb-false _ _ e in
          get_or-eq_default offered 0 (omega (arith, o.same_n, j.same_n, g.marks_n))

  all : (x : ℕ) → x < m → candidate offered m x ≡ pending_of table counts words flags marks start x
  unfolding pending_of
  all x l =
      o.moved x l l ∙ ap set? (j.given (start + x) (omega arith) (omega arith)) ∙ by (live table counts words flags marks (start + x))
      ∙ sym (rw (eq-eqb _ _ (y.none (start + x) (omega arith))))
    where
      by : (b : Bool) → set? (bit b) ≡ pick b true false
      by true = refl
      by false = refl

  pub doing_start : Doing whole table counts words flags start m offered order before
  doing_start =
      record {
        base = marks;
        going = g;
        alike = λ i l. none_marked i l ∙ sym (y.none i l);
        size = o.same_n ∙ j.same_n ∙ g.marks_n;
        fits = o.fits;
        waiting = waiting_start (waits_of table words marks start) (pending_of table counts words flags marks start) offered m (λ u l. o.links u (omega arith)) all;
      }

-- ---- as the code gives them

module _ (table : FunnelTable) {counts : List ℕ} (is : IsPlan table.n table.e table.plan counts) (words flags : List ℕ) {start to : ℕ} {before marks : List ℕ}
    (at : start ≡ primary_start table.plan counts) (j : Judged (live table counts words flags before) start to before marks) where
  -- what was found over the marks with some verdicts given
  pub judged_bit : (r x : Bool) → r ≡ live table counts words flags marks to → r ≡ x → bit x ≡ bit (live table counts words flags before to)
  judged_bit r x e q = ap bit (sym q ∙ e ∙ live_alike table is words flags marks before (λ i l. j.ordinary i (omega arith)) to)

  pub judged_end : (n : ℕ) → n ≤ to → Judged (live table counts words flags before) start n before marks
  judged_end n l = record { same_n = j.same_n; ordinary = j.ordinary; given = λ i u v. j.given i u (omega arith) }
