-- Laws of links and the queue after them: what stores leave, and how many numbers are no candidates. Assumes nothing.
use Rattle.std.specs.Prelude.{Bool, List, [], ◌∷◌, ◌⊎◌, ◌≡◌, length, get_or, set}
use Rattle.std.proofs.Math.Bool.{true, false}
use Rattle.std.proofs.Common.{inl, inr, ⊎_elim, sym, ◌∙◌, eq-or-lt_of_le, get_or-set_other}
use Rattle.std.proofs.Math.Path.{refl}
use Prim.Native.Nat.{ℕ, zero, suc, ◌+◌, ◌*◌, ◌/◌, ◌%◌, ◌≤◌, ◌<◌}
use native.Mathlib.Omega.{arith}
use Rattle.std.proofs.lemmas.List.Edits.{sets}
use Rattle.std.proofs.Math.Seq.{length-sets}
use Rattle.std.proofs.Math.Dec.{eqb, ltb}
use borrow.Author.Tests.{eqb-true, eqb-false, ltb-true, ltb-false}
use Rattle.words.specs.Bytes.{bytes_of, num_at, Read}
use Rattle.words.specs.BytesLaws.{length_bytes, num_sets, num_stored}
use Rattle.words.specs.Pick.{pick}
use Rattle.queue.specs.Queue.{holds, Queue, Emptied, Changed}
use Rattle.queue.specs.Level.{groups, Over, Wiped}
use Rattle.waiting.specs.Links.{link, space, candidate, Fits, idle, Cleared, Filed, Popped}

-- ---- bytes that stay

-- numbers over bytes that are alike
num_alike : (a b : List ℕ) (at k : ℕ) → ((t : ℕ) → at ≤ t → t < at + k → get_or a t 0 ≡ get_or b t 0) → num_at a at k ≡ num_at b at k
unfolding num_at
num_alike a b at zero h = refl
num_alike a b at (suc k) h = rw (h at (omega arith) (omega arith), num_alike a b (suc at) k (λ t l u. h t (omega arith) (omega arith)))

num_zero : (b : List ℕ) (at k : ℕ) → ((t : ℕ) → at ≤ t → t < at + k → get_or b t 0 ≡ 0) → num_at b at k ≡ 0
unfolding num_at
num_zero b at zero h = refl
num_zero b at (suc k) h = rw (h at (omega arith) (omega arith), num_zero b (suc at) k (λ t l u. h t (omega arith) (omega arith)))

module _ (before after : List ℕ) (m : ℕ) where
  pub link_alike : ((t : ℕ) → t < 8 * m → get_or after t 0 ≡ get_or before t 0) → (i : ℕ) → i < 2 * m → link after i ≡ link before i
  unfolding link
  link_alike h i l = num_alike after before (4 * i) 4 (λ t a b. h t (omega arith))

  pub candidate_alike : ((t : ℕ) → t < space m → get_or after t 0 ≡ get_or before t 0) → (x : ℕ) → x < m → candidate after m x ≡ candidate before m x
  unfolding holds
  candidate_alike h x l = rw (h (8 * m + x) (omega arith))

  over_alike : (low up k : ℕ) → ((t : ℕ) → low ≤ t → t < up + groups k → get_or after t 0 ≡ get_or before t 0) → low + k ≤ up → Over before low up k → Over after low up k
  over_alike low up k h l o =
      record {
        above = λ i a z. h (low + i) (omega arith) (omega arith) ∙ o.above i a (sym (h (up + i / 64) (omega arith) (omega arith)) ∙ z);
        below = λ j a z. h (up + j) (omega arith) (omega arith) ∙ o.below j a (λ i b q. sym (h (low + i) (omega arith) (omega arith)) ∙ z i b q);
      }

  pub queue_alike : length after ≡ length before → ((t : ℕ) → 8 * m ≤ t → t < space m → get_or after t 0 ≡ get_or before t 0) → Queue before (8 * m) m → Queue after (8 * m) m
  queue_alike n h q =
      let f = q.fits in
      record {
        fits = omega arith;
        middle = over_alike (8 * m) (8 * m + m) m (λ t a b. h t a (omega arith)) (omega arith) q.middle;
        top = over_alike (8 * m + m) (8 * m + m + groups m) (groups m) (λ t a b. h t (omega arith) (omega arith)) (omega arith) q.top;
      }

-- ---- a link stored

sets_other : (vs b : List ℕ) (j t : ℕ) → (t < j) ⊎ (j + length vs ≤ t) → get_or (sets b j vs) t 0 ≡ get_or b t 0
sets_other [] b j t h = refl
sets_other (x ∷ vs) b j t h =
    sets_other vs (set b j x) (suc j) t (⊎_elim (λ l. inl (omega arith)) (λ l. inr (omega arith)) h)
    ∙ get_or-set_other b j t x 0 (λ q. ⊎_elim (λ l. omega arith) (λ l. omega arith) h)

module _ (b : List ℕ) (i x : ℕ) where
  -- the buffer with link i stored
  abbrev pub stored : List ℕ
  stored = sets b (4 * i) (bytes_of 4 x)

  pub stored_n : length stored ≡ length b
  stored_n = length-sets b (4 * i) (bytes_of 4 x)

  pub stored_same : 4 * i + 4 ≤ length b → x < 4294967296 → link stored i ≡ x
  unfolding link
  stored_same h l = num_stored b (4 * i) 4 x h ∙ (let e : x % 4294967296 ≡ x = omega arith in e)

  pub stored_other : (j : ℕ) → (j ≡ i → ⊥) → link stored j ≡ link b j
  unfolding link
  stored_other j n = go (ltb j i) refl
    where
      go : (v : Bool) → ltb j i ≡ v → num_at stored (4 * j) 4 ≡ num_at b (4 * j) 4
      go true e = let l : j < i = ltb-true _ _ e in num_sets (bytes_of 4 x) b (4 * i) (4 * j) 4 (inr (omega arith))
      go false e = let l : i ≤ j = ltb-false _ _ e in num_sets (bytes_of 4 x) b (4 * i) (4 * j) 4 (inl (let k = length_bytes 4 x in let d : i < j = by (eq-or-lt_of_le l) in omega arith))
        where
          by : (i ≡ j) ⊎ (i < j) → i < j
          by (inl q) = absurd (n (sym q))
          by (inr q) = q

  pub stored_high : (m t : ℕ) → i < 2 * m → 8 * m ≤ t → get_or stored t 0 ≡ get_or b t 0
  stored_high m t l h = let k = length_bytes 4 x in sets_other (bytes_of 4 x) b (4 * i) t (inr (omega arith))

pub link_read : (b : List ℕ) (i r p : ℕ) → Read r (num_at b (4 * i) 4) p → r ≡ link b i
unfolding link
link_read b i r p h = h.is

-- ---- the calls

-- taken out of the queue, and two links stored
module _ (b out : List ℕ) (m c u next : ℕ) (f : Fits b m) (d : Changed false b out (8 * m) m c) (lc : c < m) (lu : u < m) (is : next ≡ link out u) (few : next < 4294967296) where
  abbrev led : List ℕ
  led = stored out (m + c) next

  abbrev headed : List ℕ
  headed = stored led u (c + 1)

  n_out : length out ≡ length b
  n_out = d.kept.same_n

  n_led : length led ≡ length b
  n_led = stored_n out (m + c) next ∙ n_out

  n_headed : length headed ≡ length b
  n_headed = stored_n led u (c + 1) ∙ n_led

  past : (t : ℕ) → 8 * m ≤ t → get_or headed t 0 ≡ get_or out t 0
  past t l = stored_high led u (c + 1) m t (omega arith) l ∙ stored_high out (m + c) next m t (omega arith) l

  as_out : (x : ℕ) → candidate headed m x ≡ candidate out m x
  unfolding holds
  as_out x = rw (past (8 * m + x) (omega arith))

  was_link : (i : ℕ) → i < 2 * m → link out i ≡ link b i
  was_link = link_alike b out m d.kept.low

  pub filed_made : Filed b headed m c u
  filed_made =
      let q = f.queue.fits in
      let l = f.small in
      record {
        queue = queue_alike out headed m (stored_n led u (c + 1) ∙ stored_n out (m + c) next) (λ t h k. past t h) d.queue;
        beyond = record { same_n = n_headed; high = λ t h. past t (omega arith) ∙ d.kept.high t (omega arith) };
        here = as_out c ∙ d.here;
        others = λ k h n. as_out k ∙ d.others k h n;
        head = stored_same led u (c + 1) (omega (arith, n_led)) (omega arith);
        next = stored_other led u (c + 1) (m + c) (λ e. omega arith) ∙ stored_same out (m + c) next (omega (arith, n_out)) few ∙ is ∙ was_link u (omega arith);
        links = λ i h n k. stored_other led u (c + 1) i n ∙ stored_other out (m + c) next i k ∙ was_link i h;
      }

-- a head stored, and a number put into the queue
module _ (b : List ℕ) (m c x next : ℕ) (f : Fits b m) (lc : c < m) (lx : x < m) (is : next ≡ link b (m + x)) (few : next < 4294967296) where
  abbrev cut : List ℕ
  cut = stored b c next

  pub cut_queue : Queue cut (8 * m) m
  cut_queue = queue_alike b cut m (stored_n b c next) (λ t h k. stored_high b c next m t (omega arith) h) f.queue

  module _ (out : List ℕ) (d : Changed true cut out (8 * m) m x) where
    as_was : (y : ℕ) → candidate cut m y ≡ candidate b m y
    unfolding holds
    as_was y = rw (stored_high b c next m (8 * m + y) (omega arith) (omega arith))

    cut_link : (i : ℕ) → i < 2 * m → link out i ≡ link cut i
    cut_link = link_alike cut out m d.kept.low

    pub popped_made : Popped b out m c x
    popped_made =
        let q = f.queue.fits in
        record {
          queue = d.queue;
          beyond = record { same_n = d.kept.same_n ∙ stored_n b c next; high = λ t h. d.kept.high t (omega arith) ∙ stored_high b c next m t (omega arith) (omega arith) };
          here = d.here;
          others = λ k h n. d.others k h n ∙ as_was k;
          head = cut_link c (omega arith) ∙ stored_same b c next (omega arith) few ∙ is;
          links = λ i h n. cut_link i h ∙ stored_other b c next i n;
        }

-- nothing on any chain, and no candidate
pub cleared_made : (b wiped out : List ℕ) (m : ℕ) → Wiped b wiped 0 (8 * m) → Emptied wiped out (8 * m) m → m < 4294967296 → Cleared b out m
unfolding link
cleared_made b wiped out m v e l =
    record {
      fits = record { queue = e.queue; small = l };
      beyond = record { same_n = e.kept.same_n ∙ v.same_n; high = λ t h. e.kept.high t (omega arith) ∙ v.high t (omega arith) };
      links = λ i h. num_zero out (4 * i) 4 (λ t a k. e.kept.low t (omega arith) ∙ v.zero t (omega arith) (omega arith));
      none = λ x h. e.none x h;
    }

-- ---- how many are no candidates

pub idle_most : (b : List ℕ) (m k : ℕ) → idle b m k ≤ k
unfolding idle
idle_most b m zero = omega arith
idle_most b m (suc k) = go (candidate b m k) (idle_most b m k)
  where
    go : (v : Bool) → idle b m k ≤ k → pick v 0 1 + idle b m k ≤ suc k
    go true h = omega arith
    go false h = omega arith

module _ (before after : List ℕ) (m : ℕ) where
  idle_alike : (k : ℕ) → ((y : ℕ) → y < k → candidate after m y ≡ candidate before m y) → idle after m k ≡ idle before m k
  unfolding idle
  idle_alike zero h = refl
  idle_alike (suc k) h = rw (h k (omega arith), idle_alike k (λ y l. h y (omega arith)))

  -- one more candidate is one fewer that is none
  pub idle_less : (x k : ℕ) → x < k → candidate before m x ≡ false → candidate after m x ≡ true
      → ((y : ℕ) → y < k → (y ≡ x → ⊥) → candidate after m y ≡ candidate before m y) → idle after m k < idle before m k
  unfolding idle
  idle_less x zero l a b h = absurd (omega arith)
  idle_less x (suc k) l a b h = go (eqb x k) refl (λ u. idle_less x k u a b (λ y t w. h y (omega arith) w))
    where
      go : (v : Bool) → eqb x k ≡ v → (x < k → idle after m k < idle before m k) → idle after m (suc k) < idle before m (suc k)
      go true e ih =
          let q : x ≡ k = eqb-true _ _ e in
          let f : candidate before m k ≡ false = rw q at a in
          let g : candidate after m k ≡ true = rw q at b in
          let i = idle_alike k (λ y u. h y (omega arith) (λ z. omega arith)) in
          rw (f, g) (omega arith)
      go false e ih =
          let n : x ≡ k → ⊥ = eqb-false _ _ e in
          let i = ih (omega arith) in
          rw (h k (omega arith) (λ z. n (sym z))) (omega arith)
