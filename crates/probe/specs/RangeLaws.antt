-- Laws of the reduction: one word at a time, the bounds of a draw, and the answers of the bare reductions in turn. Assumes nothing.
use Rattle.std.specs.Prelude.{◌≡◌, ℕ, zero, suc, ◌+◌, ◌-◌, ◌*◌, ◌/◌, ◌%◌, ◌^◌, ◌<◌, ◌≤◌, Bool, true, false, leb, length, nat_le, slice_index, refl, Ok, Err}
use Rattle.std.proofs.Math.Path.{sym, ap}
use Rattle.std.proofs.Common.{◌∙◌, mod-lt, mul-lt-mul_of_pos_right}
use native.Mathlib.Omega.{arith}
use borrow.Author.Tests.{eq-eqb, ne_eqb, lt-ltb, le-ltb, le-leb, lt-leb}
use Rattle.refusal.specs.declared.Draw.{Draw}
use Rattle.refusal.specs.declared.Draw.TheVariants as draw
use Rattle.refusal.specs.declared.RangeRefusal.{RangeRefusal}
use Rattle.words.specs.Pick.{pick}
use Rattle.probe.specs.Counter.{elastic_counter_of, level_of, funnel_counter_of}
use Rattle.probe.specs.Word.{elastic_key_of, funnel_in_of, funnel_out_of, word_of, elastic_word_of, funnel_word_of}
use Rattle.probe.specs.WordLaws.{word_below}
use Rattle.probe.specs.Range.{indexed, Trial, Drawn, Reduced, words_at, FirstIndex, all_rejected, reduce_of, draw_of, Names, drawn_for, keyed_draw_of, elastic_draw_of, origin_of, domain_draw_of, funnel_draw_of, reduced_of, elastic_reduce_of, funnel_reduce_of}
use Rattle.probe.specs.declared.counter.Domain.{Domain}
use Rattle.probe.specs.declared.range.ReduceRefusal.TheVariants as reduced

-- ---- the list of words

pub words_length : (inner outer base n : ℕ) → length (words_at inner outer base n) ≡ n
unfolding words_at
words_length inner outer base zero = refl
words_length inner outer base (suc n) = ap suc (words_length inner outer (base + 1) n)

pub words_at_lem : (inner outer base n k : ℕ) → k < n → slice_index (words_at inner outer base n) k ≡ word_of inner outer (base + k)
unfolding words_at
words_at_lem inner outer base zero k h = absurd (omega arith)
words_at_lem inner outer base (suc n) zero h = let e : base + 0 ≡ base = omega arith in rw e
words_at_lem inner outer base (suc n) (suc k) h =
    let e : base + 1 + k ≡ base + suc k = omega arith in
    words_at_lem inner outer (base + 1) n k (omega arith) ∙ ap (word_of inner outer) e

-- the words of an elastic probe are those of its retries
pub elastic_words : (seed identity level probe cap retry : ℕ) → retry < cap
    → slice_index (words_at (elastic_key_of seed identity) (elastic_key_of seed identity) (elastic_counter_of level probe 0) cap) retry ≡ elastic_word_of seed identity level probe retry
elastic_words seed identity level probe cap retry h =
    let e : elastic_counter_of level probe 0 + retry ≡ elastic_counter_of level probe retry = omega arith in
    words_at_lem _ _ _ cap retry h ∙ ap (word_of (elastic_key_of seed identity) (elastic_key_of seed identity)) e

-- and so are those of a funnel probe
pub funnel_words : (seed identity : ℕ) (domain : Domain) (probe cap retry : ℕ) → retry < cap
    → slice_index (words_at (funnel_in_of seed identity) (funnel_out_of seed identity) (funnel_counter_of domain probe 0) cap) retry ≡ funnel_word_of seed identity domain probe retry
funnel_words seed identity domain probe cap retry h =
    let e : funnel_counter_of domain probe 0 + retry ≡ funnel_counter_of domain probe retry = omega arith in
    words_at_lem _ _ _ cap retry h ∙ ap (word_of (funnel_in_of seed identity) (funnel_out_of seed identity)) e

-- ---- one word

-- the high half of a word times u is below u
pub high_below : (w u : ℕ) → w < 2 ^ 64 → 0 < u → w * u / 2 ^ 64 < u
high_below w u hw hu = omega (arith, mul-lt-mul_of_pos_right {m = w} {n = 2 ^ 64} {k = u} hw hu)

-- the turn of a word, whose product with u has the low half low
module _ (inner outer base u used n word low : ℕ) (t : Bool)
    (more : 0 < n)
    (is : word ≡ word_of inner outer base)
    (half : low ≡ word * u % 2 ^ 64)
    (test : t ≡ nat_le (2 ^ 64 % u) low) where
  turn : reduce_of (words_at inner outer base n) u used ≡ pick t (Ok (indexed (word * u / 2 ^ 64) (used + 1))) (reduce_of (words_at inner outer (base + 1) (n - 1)) u (used + 1))
  unfolding reduce_of words_at
  turn =
      let e : n ≡ suc (n - 1) = omega arith in
      ap (λ (m : ℕ). reduce_of (words_at inner outer base m) u used) e
      ∙ ap (λ (v : ℕ). pick (nat_le (2 ^ 64 % u) (v * u % 2 ^ 64)) (Ok (indexed (v * u / 2 ^ 64) (used + 1))) (reduce_of (words_at inner outer (base + 1) (n - 1)) u (used + 1))) (sym is)
      ∙ ap (λ (b : Bool). pick b (Ok (indexed (word * u / 2 ^ 64) (used + 1))) (reduce_of (words_at inner outer (base + 1) (n - 1)) u (used + 1))) (sym (test ∙ ap (leb (2 ^ 64 % u)) half))

  pub reduce_accept : (high : ℕ) → t ≡ true → high ≡ word * u / 2 ^ 64 → Ok (indexed high (used + 1)) ≡ reduce_of (words_at inner outer base n) u used
  reduce_accept high h e = sym (turn ∙ ap (λ (b : Bool). pick b (Ok (indexed (word * u / 2 ^ 64) (used + 1))) (reduce_of (words_at inner outer (base + 1) (n - 1)) u (used + 1))) h ∙ ap (λ (i : ℕ). Ok (indexed i (used + 1))) (sym e))

  pub reduce_reject : t ≡ false → reduce_of (words_at inner outer (base + 1) (n - 1)) u (used + 1) ≡ reduce_of (words_at inner outer base n) u used
  reduce_reject h = sym (turn ∙ ap (λ (b : Bool). pick b (Ok (indexed (word * u / 2 ^ 64) (used + 1))) (reduce_of (words_at inner outer (base + 1) (n - 1)) u (used + 1))) h)

pub reduce_none : (inner outer base u used n : ℕ) → n ≡ 0 → all_rejected used ≡ reduce_of (words_at inner outer base n) u used
unfolding reduce_of words_at
reduce_none inner outer base u used n e = rw e

-- ---- a draw: no words, the first

pub draw_none : (inner outer base u cap : ℕ) → cap ≡ 0 → all_rejected 0 ≡ draw_of inner outer base u cap
unfolding draw_of
draw_none inner outer base u cap e = reduce_none inner outer base u 0 cap e

module _ (inner outer base u cap word low : ℕ) (t : Bool) (more : cap ≡ 0 → ⊥)
    (is : word ≡ word_of inner outer base)
    (half : low ≡ word * u % 2 ^ 64)
    (test : t ≡ nat_le (2 ^ 64 % u) low) where
  pub draw_first : (high : ℕ) → t ≡ true → high ≡ word * u / 2 ^ 64 → Ok (indexed high 1) ≡ draw_of inner outer base u cap
  unfolding draw_of
  draw_first high h e = reduce_accept inner outer base u 0 cap word low t (omega arith) is half test high h e

-- a first word whose low half is at least u is accepted without 2^64 mod u, and its high half is the index
pub first_index : (inner outer base u word low high : ℕ) → 0 < u → word ≡ word_of inner outer base → low ≡ word * u % 2 ^ 64 → u ≤ low → high ≡ word * u / 2 ^ 64
    → FirstIndex inner outer base u high
first_index inner outer base u word low high pos is half least e =
    let m = mod-lt (2 ^ 64) {m = u} pos in
    record { first = λ l cap some. sym (draw_first inner outer base u cap word low true (λ z. absurd (omega arith)) is half (sym (le-leb (2 ^ 64 % u) low (omega (arith, m)))) high refl e) }

-- upper itself is no index
pub first_none : (inner outer base u : ℕ) → FirstIndex inner outer base u u
first_none inner outer base u = record { first = λ l cap some. absurd (omega (arith, l)) }

-- ---- a loop over the words: what is left gives what the whole gives

pub record Drawing (inner outer base u cap used : ℕ) : Type 0 where
  pub most : used ≤ cap
  pub rest : reduce_of (words_at inner outer (base + used) (cap - used)) u used ≡ draw_of inner outer base u cap

pub drawing_none : (inner outer base u cap : ℕ) → Drawing inner outer base u cap 0
unfolding draw_of
drawing_none inner outer base u cap =
    let b : base + 0 ≡ base = omega arith in
    let n : cap - 0 ≡ cap = omega arith in
    record { most = omega arith; rest = rw (b, n) }

module _ (inner outer base u cap used : ℕ) (r : Drawing inner outer base u cap used) where
  pub drawing_end : cap ≤ used → all_rejected used ≡ draw_of inner outer base u cap
  drawing_end h = reduce_none inner outer (base + used) u used (cap - used) (omega arith) ∙ r.rest

  module _ (word low : ℕ) (t : Bool) (more : used < cap)
      (is : word ≡ word_of inner outer (base + used))
      (half : low ≡ word * u % 2 ^ 64)
      (test : t ≡ nat_le (2 ^ 64 % u) low) where
    pub drawing_accept : (high : ℕ) → t ≡ true → high ≡ word * u / 2 ^ 64 → Ok (indexed high (used + 1)) ≡ draw_of inner outer base u cap
    drawing_accept high h e = reduce_accept inner outer (base + used) u used (cap - used) word low t (omega arith) is half test high h e ∙ r.rest

    pub drawing_more : t ≡ false → Drawing inner outer base u cap (used + 1)
    drawing_more h =
        let b : base + used + 1 ≡ base + (used + 1) = omega arith in
        let n : cap - used - 1 ≡ cap - (used + 1) = omega arith in
        let e = reduce_reject inner outer (base + used) u used (cap - used) word low t (omega arith) is half test h in
        record { most = omega arith; rest = rw (b, n) at e ∙ r.rest }

-- ---- bounds

-- an index is below u, took a word and no more than it may; where all are rejected, these are as many as it may
unfoldable pub TriedIn : (u cap : ℕ) → Trial → Type 0
TriedIn u cap (Ok drew) = (drew.index < u) × (0 < drew.words) × (drew.words ≤ cap)
TriedIn u cap (Err n) = n ≡ cap

either : (u cap : ℕ) (t : Bool) (a b : Trial) → TriedIn u cap a → TriedIn u cap b → TriedIn u cap (pick t a b)
either u cap true a b ha hb = ha
either u cap false a b ha hb = hb

reduce_in : (inner outer base u cap n used : ℕ) → 0 < u → used + n ≡ cap → TriedIn u cap (reduce_of (words_at inner outer base n) u used)
unfolding reduce_of words_at TriedIn
reduce_in inner outer base u cap zero used pos e = omega arith
reduce_in inner outer base u cap (suc n) used pos e =
    either u cap (nat_le (2 ^ 64 % u) (word_of inner outer base * u % 2 ^ 64)) _ _
    (high_below (word_of inner outer base) u (word_below inner outer base) pos, omega arith, omega arith)
    (reduce_in inner outer (base + 1) u cap n (used + 1) pos (omega arith))

draw_in : (inner outer base u cap : ℕ) → 0 < u → TriedIn u cap (draw_of inner outer base u cap)
unfolding draw_of
draw_in inner outer base u cap pos = reduce_in inner outer base u cap cap 0 pos (omega arith)

-- what an index that was drawn is
pub record Drew (u cap index words : ℕ) : Type 0 where
  pub below : index < u
  pub some : 0 < words
  pub most : words ≤ cap

-- the law that callers use: an index drawn is below u and took from 1 to cap words
for_index : (d : Draw) (probe u cap : ℕ) (t : Trial) (i n : ℕ) → TriedIn u cap t → drawn_for d probe t ≡ Ok (indexed i n) → Drew u cap i n
unfolding TriedIn
for_index d probe u cap (Ok drew) i n h e =
    let a : drew ≡ indexed i n = cc in
    record { below = rw a at h.0; some = rw a at h.1; most = rw a at h.2 }
for_index d probe u cap (Err m) i n h e = let z : ◌≡◌ {A = ℕ} 0 1 = cc in absurd (omega arith)

pub keyed_draw_index : (key level probe u cap i n : ℕ) → 0 < u → keyed_draw_of key level probe u cap ≡ Ok (indexed i n) → Drew u cap i n
unfolding keyed_draw_of
keyed_draw_index key level probe u cap i n pos e = for_index _ _ u cap _ i n (draw_in _ _ _ u cap pos) e

pub elastic_draw_index : (seed identity level probe u cap i n : ℕ) → 0 < u → elastic_draw_of seed identity level probe u cap ≡ Ok (indexed i n) → Drew u cap i n
unfolding elastic_draw_of
elastic_draw_index seed identity level probe u cap i n pos e = keyed_draw_index _ level probe u cap i n pos e

pub domain_draw_index : (inner outer : ℕ) (domain : Domain) (probe u cap i n : ℕ) → 0 < u → domain_draw_of inner outer domain probe u cap ≡ Ok (indexed i n) → Drew u cap i n
unfolding domain_draw_of
domain_draw_index inner outer domain probe u cap i n pos e = for_index _ _ u cap _ i n (draw_in _ _ _ u cap pos) e

pub funnel_draw_index : (seed identity : ℕ) (domain : Domain) (probe u cap i n : ℕ) → 0 < u → funnel_draw_of seed identity domain probe u cap ≡ Ok (indexed i n) → Drew u cap i n
unfolding funnel_draw_of
funnel_draw_index seed identity domain probe u cap i n pos e = domain_draw_index _ _ domain probe u cap i n pos e

-- ---- "Say where the words ran out": a refused draw names itself, and all words that it may take

for_refused : (d : Draw) (probe u cap : ℕ) (t : Trial) (r : RangeRefusal) → TriedIn u cap t → drawn_for d probe t ≡ Err r → Names d probe cap r
unfolding TriedIn
for_refused d probe u cap (Ok drew) r h e = let z : ◌≡◌ {A = ℕ} 0 1 = cc in absurd (omega arith)
for_refused d probe u cap (Err m) r h e =
    let told : ◌≡◌ {A = RangeRefusal} (record { words = m; draw = d; probe = record { 0 = probe } }) r = cc in
    record { all = sym (ap (λ x. x.words) told) ∙ h; for_draw = sym (ap (λ x. x.draw) told); at_probe = sym (ap (λ x. x.probe.0) told) }

pub elastic_draw_refused : (seed identity level probe u cap : ℕ) (r : RangeRefusal) → 0 < u → elastic_draw_of seed identity level probe u cap ≡ Err r
    → Names (draw.Elastic level) probe cap r
unfolding elastic_draw_of keyed_draw_of
elastic_draw_refused seed identity level probe u cap r pos e = for_refused _ _ u cap _ r (draw_in _ _ _ u cap pos) e

pub funnel_draw_refused : (seed identity : ℕ) (domain : Domain) (probe u cap : ℕ) (r : RangeRefusal) → 0 < u
    → funnel_draw_of seed identity domain probe u cap ≡ Err r → Names (origin_of domain) probe cap r
unfolding funnel_draw_of domain_draw_of
funnel_draw_refused seed identity domain probe u cap r pos e = for_refused _ _ u cap _ r (draw_in _ _ _ u cap pos) e

-- ---- the core called with an identity's keys draws what the definition draws

pub elastic_core : (seed identity level probe u cap key : ℕ) → key ≡ elastic_key_of seed identity
    → keyed_draw_of key level probe u cap ≡ elastic_draw_of seed identity level probe u cap
unfolding elastic_draw_of
elastic_core seed identity level probe u cap key k = rw k

pub funnel_core : (seed identity : ℕ) (domain : Domain) (probe u cap inner outer : ℕ) → inner ≡ funnel_in_of seed identity → outer ≡ funnel_out_of seed identity
    → domain_draw_of inner outer domain probe u cap ≡ funnel_draw_of seed identity domain probe u cap
unfolding funnel_draw_of
funnel_core seed identity domain probe u cap inner outer i o = rw (i, o)

-- an index that words gave is the index drawn
pub domain_drawn : (inner outer : ℕ) (domain : Domain) (probe u cap i w : ℕ) → draw_of inner outer (funnel_counter_of domain probe 0) u cap ≡ Ok (indexed i w)
    → domain_draw_of inner outer domain probe u cap ≡ Ok (indexed i w)
unfolding domain_draw_of
domain_drawn inner outer domain probe u cap i w e = ap (drawn_for (origin_of domain) probe) e

-- a draw by its words and the draw that they are for
pub keyed_told : (key level probe u cap base : ℕ) (t : Trial) (d : Drawn) → base ≡ elastic_counter_of level probe 0 → t ≡ draw_of key key base u cap
    → d ≡ drawn_for (draw.Elastic level) probe t → d ≡ keyed_draw_of key level probe u cap
unfolding keyed_draw_of
keyed_told key level probe u cap base t d b e f = f ∙ ap (drawn_for (draw.Elastic level) probe) (e ∙ ap (λ x. draw_of key key x u cap) b)

pub domain_told : (inner outer : ℕ) (domain : Domain) (probe u cap base : ℕ) (t : Trial) (o : Draw) (d : Drawn) → base ≡ funnel_counter_of domain probe 0
    → t ≡ draw_of inner outer base u cap → o ≡ origin_of domain → d ≡ drawn_for o probe t → d ≡ domain_draw_of inner outer domain probe u cap
unfolding domain_draw_of
domain_told inner outer domain probe u cap base t o d b e g f =
    f ∙ ap (λ x. drawn_for x probe t) g ∙ ap (drawn_for (origin_of domain) probe) (e ∙ ap (λ x. draw_of inner outer x u cap) b)

-- ---- the bare reductions, in turn

module _ (seed identity level probe u cap : ℕ) where
  pub elastic_upper : u ≡ 0 → Err reduced.Upper ≡ elastic_reduce_of seed identity level probe u cap
  unfolding elastic_reduce_of
  elastic_upper e = sym (rw (eq-eqb u 0 e))

  module _ (nu : u ≡ 0 → ⊥) where
    pub elastic_level : 32 ≤ level → Err reduced.Counter ≡ elastic_reduce_of seed identity level probe u cap
    unfolding elastic_reduce_of
    elastic_level h = sym (rw (ne_eqb u 0 nu, le-leb 32 level h))

    module _ (hl : level < 32) where
      pub elastic_probe : 8192 ≤ probe → Err reduced.Counter ≡ elastic_reduce_of seed identity level probe u cap
      unfolding elastic_reduce_of
      elastic_probe h = sym (rw (ne_eqb u 0 nu, lt-leb 32 level hl, le-leb 8192 probe h))

      module _ (hp : probe < 8192) where
        pub elastic_cap : 8 < cap → Err reduced.Counter ≡ elastic_reduce_of seed identity level probe u cap
        unfolding elastic_reduce_of
        elastic_cap h = sym (rw (ne_eqb u 0 nu, lt-leb 32 level hl, lt-leb 8192 probe hp, lt-ltb 8 cap h))

        pub elastic_drawn : cap ≤ 8 → reduced_of (elastic_draw_of seed identity level probe u cap) ≡ elastic_reduce_of seed identity level probe u cap
        unfolding elastic_reduce_of
        elastic_drawn h = sym (rw (ne_eqb u 0 nu, lt-leb 32 level hl, lt-leb 8192 probe hp, le-ltb 8 cap h))

        -- by the core
        pub elastic_answer : cap ≤ 8 → (key : ℕ) (d : Drawn) (r : Reduced) → key ≡ elastic_key_of seed identity
            → d ≡ keyed_draw_of key level probe u cap → r ≡ reduced_of d → r ≡ elastic_reduce_of seed identity level probe u cap
        elastic_answer h key d r k e f = f ∙ ap reduced_of (e ∙ elastic_core seed identity level probe u cap key k) ∙ elastic_drawn h

module _ (seed identity : ℕ) (domain : Domain) (probe u cap : ℕ) where
  pub funnel_upper : u ≡ 0 → Err reduced.Upper ≡ funnel_reduce_of seed identity domain probe u cap
  unfolding funnel_reduce_of
  funnel_upper e = sym (rw (eq-eqb u 0 e))

  module _ (nu : u ≡ 0 → ⊥) where
    pub funnel_level : 2 ^ 46 ≤ level_of domain → Err reduced.Counter ≡ funnel_reduce_of seed identity domain probe u cap
    unfolding funnel_reduce_of
    funnel_level h = sym (rw (ne_eqb u 0 nu, le-leb (2 ^ 46) (level_of domain) h))

    module _ (hl : level_of domain < 2 ^ 46) where
      pub funnel_probe : 256 ≤ probe → Err reduced.Counter ≡ funnel_reduce_of seed identity domain probe u cap
      unfolding funnel_reduce_of
      funnel_probe h = sym (rw (ne_eqb u 0 nu, lt-leb (2 ^ 46) (level_of domain) hl, le-leb 256 probe h))

      module _ (hp : probe < 256) where
        pub funnel_cap : 256 < cap → Err reduced.Counter ≡ funnel_reduce_of seed identity domain probe u cap
        unfolding funnel_reduce_of
        funnel_cap h = sym (rw (ne_eqb u 0 nu, lt-leb (2 ^ 46) (level_of domain) hl, lt-leb 256 probe hp, lt-ltb 256 cap h))

        pub funnel_drawn : cap ≤ 256 → reduced_of (funnel_draw_of seed identity domain probe u cap) ≡ funnel_reduce_of seed identity domain probe u cap
        unfolding funnel_reduce_of
        funnel_drawn h = sym (rw (ne_eqb u 0 nu, lt-leb (2 ^ 46) (level_of domain) hl, lt-leb 256 probe hp, le-ltb 256 cap h))

        -- by the core
        pub funnel_answer : cap ≤ 256 → (inner outer : ℕ) (d : Drawn) (r : Reduced) → inner ≡ funnel_in_of seed identity → outer ≡ funnel_out_of seed identity
            → d ≡ domain_draw_of inner outer domain probe u cap → r ≡ reduced_of d → r ≡ funnel_reduce_of seed identity domain probe u cap
        funnel_answer h inner outer d r i o e f = f ∙ ap reduced_of (e ∙ funnel_core seed identity domain probe u cap inner outer i o) ∙ funnel_drawn h
