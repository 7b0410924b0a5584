-- Laws of a queue: how each call makes it. Assumes nothing.
use Rattle.std.specs.Prelude.{Some, None, true, false, List, ◌≡◌, refl, ℕ, ◌+◌, ◌-◌, ◌/◌, ◌≤◌, ◌<◌, length, get_or, set}
use Rattle.std.proofs.Common.{sym, ◌∙◌, arith, length-set, get_or-set_same, get_or-set_other, eq-eqb, ne_eqb}
use Rattle.queue.specs.Level.{groups, IsClear, Over, Nearly, Settled, FirstSet, InGroup, Wiped}
use Rattle.queue.specs.LevelLaws.{over_kept, over_raised, over_lowered, cleared, under_set, under_clear, under_none}
use Rattle.queue.specs.Queue.{room, holds, Queue, Emptied, Changed, first_in}
use Rattle.queue.specs.FirstLaws.{first_at, first_all}

-- ---- what a flag says

pub holds_set : (b : List ℕ) (at i : ℕ) → (IsClear b (at + i) → ⊥) → holds b at i ≡ true
unfolding holds
holds_set b at i h = rw (ne_eqb _ _ h)

pub holds_clear : (b : List ℕ) (at i : ℕ) → IsClear b (at + i) → holds b at i ≡ false
unfolding holds
holds_clear b at i h = rw (eq-eqb _ _ h)

-- a queue's numbers are those of their bytes
pub holds_same : (b c : List ℕ) (at i : ℕ) → get_or c (at + i) 0 ≡ get_or b (at + i) 0 → holds c at i ≡ holds b at i
unfolding holds
holds_same b c at i e = rw e

-- ---- bytes of 0 are an empty queue

pub wiped_emptied : {before after : List ℕ} {at m to : ℕ} → Wiped before after at to → to ≡ at + room m → to ≤ length before → Emptied before after at m
wiped_emptied {before} {after} {at} {m} {to} w e h =
    record {
      queue = record {
        fits = omega (arith, w.same_n);
        middle = record { above = λ i l c. w.zero (at + i) (omega arith) (omega arith); below = λ j l g. w.zero (at + m + j) (omega arith) (omega arith) };
        top = record { above = λ i l c. w.zero (at + m + i) (omega arith) (omega arith); below = λ j l g. w.zero (at + m + groups m + j) (omega arith) (omega arith) };
      };
      none = λ i l. holds_clear after at i (w.zero (at + i) (omega arith) (omega arith));
      kept = record { same_n = w.same_n; low = w.low; high = λ t l. w.high t (omega arith) };
    }

-- ---- a number added: three flags are set

module _ (b : List ℕ) (p q r : ℕ) where
  three_other : (t : ℕ) → (t ≡ p → ⊥) → (t ≡ q → ⊥) → (t ≡ r → ⊥) → get_or (set (set (set b p 1) q 1) r 1) t 0 ≡ get_or b t 0
  three_other t x y z = get_or-set_other (set (set b p 1) q 1) r t 1 0 z ∙ get_or-set_other (set b p 1) q t 1 0 y ∙ get_or-set_other b p t 1 0 x

  module _ (pq : p < q) (qr : q < r) (h : r < length b) where
    three_p : get_or (set (set (set b p 1) q 1) r 1) p 0 ≡ 1
    three_p = get_or-set_other (set (set b p 1) q 1) r p 1 0 (λ e. omega arith) ∙ get_or-set_other (set b p 1) q p 1 0 (λ e. omega arith) ∙ get_or-set_same b p 1 0 (omega arith)

    three_q : get_or (set (set (set b p 1) q 1) r 1) q 0 ≡ 1
    three_q = get_or-set_other (set (set b p 1) q 1) r q 1 0 (λ e. omega arith) ∙ get_or-set_same (set b p 1) q 1 0 (simp length-set (omega arith))

    three_r : get_or (set (set (set b p 1) q 1) r 1) r 0 ≡ 1
    three_r = get_or-set_same (set (set b p 1) q 1) r 1 0 (simp length-set (omega arith))

pub added : {b : List ℕ} {at m i : ℕ} → Queue b at m → i < m → (g : ℕ) → g ≡ groups m
    → Changed true b (set (set (set b (at + i) 1) (at + m + i / 64) 1) (at + m + g + i / 64 / 64) 1) at m i
added {b} {at} {m} {i} q h g e = rw e (go (at + i) (at + m + i / 64) (at + m + groups m + i / 64 / 64) refl refl refl)
  where
    go : (x y z : ℕ) → x ≡ at + i → y ≡ at + m + i / 64 → z ≡ at + m + groups m + i / 64 / 64 → Changed true b (set (set (set b x 1) y 1) z 1) at m i
    go x y z ex ey ez =
        let f = q.fits in
        let xy : x < y = omega arith in
        let yz : y < z = omega arith in
        let zl : z < length b = omega arith in
        let sx = three_p b x y z xy yz zl in
        let sy = three_q b x y z xy yz zl in
        let sz = three_r b x y z xy yz zl in
        record {
          queue = record {
            fits = simp length-set f;
            middle = over_raised q.middle i h (λ c. let w = rw (← ex) at c in omega arith) (λ c. let w = rw (← ey) at c in omega arith)
                (λ t l u n. three_other b x y z t (λ k. n (omega arith)) (λ k. omega arith) (λ k. omega arith))
                (λ t l u n. three_other b x y z t (λ k. omega arith) (λ k. n (omega arith)) (λ k. omega arith));
            top = over_raised q.top (i / 64) (omega arith) (λ c. let w = rw (← ey) at c in omega arith) (λ c. let w = rw (← ez) at c in omega arith)
                (λ t l u n. three_other b x y z t (λ k. omega arith) (λ k. n (omega arith)) (λ k. omega arith))
                (λ t l u n. three_other b x y z t (λ k. omega arith) (λ k. omega arith) (λ k. n (omega arith)));
          };
          here = holds_set _ at i (λ c. let w = rw (← ex) at c in omega arith);
          others = λ k l n. holds_same b _ at k (three_other b x y z (at + k) (λ w. n (omega arith)) (λ w. omega arith) (λ w. omega arith));
          kept = record {
            same_n = simp length-set;
            low = λ t l. three_other b x y z t (λ k. omega arith) (λ k. omega arith) (λ k. omega arith);
            high = λ t l. three_other b x y z t (λ k. omega arith) (λ k. omega arith) (λ k. omega arith);
          };
        }

-- ---- a number removed: its flag is cleared, and the two levels above settle

module _ {b : List ℕ} {at m i : ℕ} (q : Queue b at m) (h : i < m) where
  pub removed_first : Nearly (set b (at + i) 0) at (at + m) m i
  removed_first = let f = q.fits in over_lowered q.middle i h (omega arith) (cleared b (at + i) (omega arith))

  module _ {c : List ℕ} (s : Settled (set b (at + i) 0) c at (at + m) m i) (g : ℕ) (e : g ≡ groups m) where
    first_length : length (set b (at + i) 0) ≡ length b
    first_length = simp length-set

    pub removed_second : Nearly c (at + m) (at + m + g) g (i / 64)
    removed_second =
        let f = q.fits in
        rw e
        (over_lowered
        (over_kept q.top (λ t l u. get_or-set_other b (at + i) t 0 0 (λ k. omega arith)) (λ t l u. get_or-set_other b (at + i) t 0 0 (λ k. omega arith)))
        (i / 64)
        (omega arith)
        (omega arith)
        s.lowered)

    pub removed_fits : at + m + g + groups g ≤ length c
    removed_fits = let f = q.fits in omega (arith, s.lowered.same_n, first_length)

    module _ {d : List ℕ} (r : Settled c d (at + m) (at + m + g) g (i / 64)) where
      as_first : (t : ℕ) → (t ≡ at + m + i / 64 → ⊥) → (t ≡ at + m + g + i / 64 / 64 → ⊥) → get_or d t 0 ≡ get_or (set b (at + i) 0) t 0
      as_first t x y = r.lowered.others t y ∙ s.lowered.others t x

      as_before : (t : ℕ) → (t ≡ at + i → ⊥) → (t ≡ at + m + i / 64 → ⊥) → (t ≡ at + m + g + i / 64 / 64 → ⊥) → get_or d t 0 ≡ get_or b t 0
      as_before t w x y = as_first t x y ∙ get_or-set_other b (at + i) t 0 0 w

      same_length : length d ≡ length b
      same_length = r.lowered.same_n ∙ s.lowered.same_n ∙ first_length

      pub removed : Changed false b d at m i
      removed =
          let f = q.fits in
          let n = same_length in
          record {
            queue = record {
              fits = omega arith;
              middle = over_kept s.over (λ t l u. r.lowered.others t (λ k. omega arith)) (λ t l u. r.lowered.others t (λ k. omega arith));
              top = rw (← e) r.over;
            };
            here = holds_clear d at i (as_first (at + i) (λ k. omega arith) (λ k. omega arith) ∙ get_or-set_same b (at + i) 0 0 (omega arith));
            others = λ k l w. holds_same b d at k (as_before (at + k) (λ z. w (omega arith)) (λ z. omega arith) (λ z. omega arith));
            kept = record {
              same_n = n;
              low = λ t l. as_before t (λ k. omega arith) (λ k. omega arith) (λ k. omega arith);
              high = λ t l. as_before t (λ k. omega arith) (λ k. omega arith) (λ k. omega arith);
            };
          }

-- ---- the smallest

module _ {b : List ℕ} {at m : ℕ} (q : Queue b at m) (g : ℕ) (e : g ≡ groups m) (h : ℕ) (eh : h ≡ groups g) {r : ℕ} (f : FirstSet b (at + m + g) (at + m + g + h) r) where
  top_over : Over b (at + m) (at + m + g) g
  top_over = rw e q.top

  pub smallest_none : at + m + g + h ≤ r → None ≡ first_in (holds b at) 0 m
  smallest_none l =
      let tops : (t : ℕ) → t < groups g → IsClear b (at + m + g + t) = λ t s. f.before (at + m + g + t) (omega arith) (omega arith) in
      let mids : (t : ℕ) → t < groups m → IsClear b (at + m + t) = λ t s. under_none top_over tops t (omega arith) in
      sym (first_all (holds b at) 0 m (λ t s u. holds_clear b at t (under_none q.middle mids t (omega arith))))

  module _ (s : r < at + m + g + h) {j : ℕ} (fj : InGroup b (at + m) g (r - (at + m + g)) j) where
    top_set : IsClear b (at + m + g + (r - (at + m + g))) → ⊥
    top_set c = let l = f.least in let w : at + m + g + (r - (at + m + g)) ≡ r = omega arith in f.here s (rw w at c)

    pub smallest_group : j < g
    smallest_group = let l = f.least in under_set top_over (r - (at + m + g)) fj (omega arith) top_set

    module _ {i : ℕ} (fi : InGroup b at m j i) where
      below_m : i < m
      below_m = under_set q.middle j fi (let l = smallest_group in omega arith) (fj.here smallest_group)

      pub smallest_found : Some i ≡ first_in (holds b at) 0 m
      smallest_found =
          let tops : (t : ℕ) → t < r - (at + m + g) → IsClear b (at + m + g + t) = λ t u. f.before (at + m + g + t) (omega arith) (omega arith) in
          let mids : (t : ℕ) → t < j → IsClear b (at + m + t) = under_clear top_over (r - (at + m + g)) fj tops smallest_group in
          sym (first_at (holds b at) 0 m i (omega arith) (let l = below_m in omega arith) (holds_set b at i (fi.here below_m)) (λ t u l. holds_clear b at t (under_clear q.middle j fi mids below_m t l)))
