-- A table and its entries: a clean table is filled from its entries, and entries that rise are those of the table they fill. Assumes nothing.
use Rattle.std.specs.Prelude.{Ok, Err, ◌≡◌, refl, Bool, true, false, List, [], ◌∷◌, ◌++◌, ℕ, zero, suc, ◌+◌, ◌<◌, ◌≤◌, get_or, take, set, replicate, eqb, ltb}
use Rattle.std.proofs.Math.Path.{ap}
use Rattle.std.proofs.Common.{sym, ◌∙◌, append-nil, length-set, take-suc, take_all, length-take-le, get_or-set_same, get_or-set_other, eqb-true, ltb-true, ltb-false, le-leb, lt-ltb}
use native.Mathlib.Omega.{arith}
use Rattle.std.proofs.Math.ListN.{length, get_or-eq_default}
use Rattle.std.proofs.lemmas.List.{length-replicate, get_or-replicate, set_at}
use Rattle.std.proofs.Math.Seq.{append_snoc}
use Rattle.std.proofs.lemmas.Bool.{eqb-false}
use Rattle.words.specs.Pick.{pick}
use Rattle.funnel.specs.Dirty.{dirty_at}
use Rattle.image_writer.specs.Dirty.{scan_from, scan_of}
use Rattle.image_calls.specs.Fill.{fill_words, fill_flags}
use Rattle.image_calls.specs.FillLaws.{risen_head, length_fill_flags}
use Rattle.image.specs.Format.{Entry, entry, entries_from, entries_of}
use Rattle.image.specs.Reading.{rising}
use Rattle.image.specs.TestLaws.{cases, not_both}

-- ---- a clean slot

-- a vacant slot holds 0
clean_vacant : (words flags : List ℕ) (s : ℕ) → dirty_at words flags s ≡ false → eqb (get_or flags s 0) 0 ≡ true → get_or words s 0 ≡ 0
unfolding dirty_at
clean_vacant words flags s h z = go (eqb (get_or words s 0) 0) refl (rw z at h)
  where
    go : (v : Bool) → eqb (get_or words s 0) 0 ≡ v → pick v false true ≡ false → get_or words s 0 ≡ 0
    go true e h = eqb-true _ _ e
    go false e h = not_both h

-- and an occupied one has the flag 1
clean_taken : (words flags : List ℕ) (s : ℕ) → dirty_at words flags s ≡ false → eqb (get_or flags s 0) 0 ≡ false → get_or flags s 0 ≡ 1
unfolding dirty_at
clean_taken words flags s h z =
    let n : get_or flags s 0 ≡ 0 → ⊥ = eqb-false _ _ z in
    let l : get_or flags s 0 ≤ 1 = ltb-false _ _ (rw z at h) in
    omega (arith, n)

record CleanAt (words flags : List ℕ) (s k c m : ℕ) : Type 0 where
  here : dirty_at words flags s ≡ false
  rest : scan_from words flags (suc s) k (pick (eqb (get_or flags s 0) 0) c (c + 1)) ≡ Ok m

clean_at : (words flags : List ℕ) (s k c m : ℕ) → scan_from words flags s (suc k) c ≡ Ok m → CleanAt words flags s k c m
unfolding scan_from
clean_at words flags s k c m h = go (dirty_at words flags s) refl h
  where
    go : (d : Bool) → dirty_at words flags s ≡ d → pick d (Err s) (scan_from words flags (suc s) k (pick (eqb (get_or flags s 0) 0) c (c + 1))) ≡ Ok m → CleanAt words flags s k c m
    go true e h = let z : ◌≡◌ {A = ℕ} 0 1 = cc in absurd (omega arith)
    go false e h = record { here = e; rest = h }

-- ---- a clean table is filled from its entries

module _ (xs : List ℕ) (s k : ℕ) (h : s < length xs) where
  one_more : (v : ℕ) → get_or xs s 0 ≡ v → take s xs ++ (v ∷ replicate k 0) ≡ take (suc s) xs ++ replicate k 0
  one_more v e = sym (rw (take-suc xs s 0 h, e) (append_snoc (take s xs) v (replicate k 0)))

  put_kept : get_or xs s 0 ≡ 0 → take s xs ++ replicate (suc k) 0 ≡ take (suc s) xs ++ replicate k 0
  put_kept e = one_more 0 e

  put_set : (v : ℕ) → get_or xs s 0 ≡ v → set (take s xs ++ replicate (suc k) 0) s v ≡ take (suc s) xs ++ replicate k 0
  put_set v e = set_at (take s xs) 0 (replicate k 0) v s (length-take-le s xs (omega arith)) ∙ one_more v e

put_all : (xs : List ℕ) (s : ℕ) → s + 0 ≡ length xs → take s xs ++ replicate 0 0 ≡ xs
put_all xs s h = let l : length xs ≤ s = omega arith in append-nil (take s xs) ∙ take_all s xs l

fill_words_from : (words flags : List ℕ) (k s c m : ℕ) → s + k ≡ length words → scan_from words flags s k c ≡ Ok m
    → fill_words (take s words ++ replicate k 0) (entries_from words flags s k) ≡ words
unfolding fill_words entries_from
fill_words_from words flags zero s c m h q = put_all words s h
fill_words_from words flags (suc k) s c m h q = go (eqb (get_or flags s 0) 0) refl (fill_words_from words flags k (suc s))
  where
    a : CleanAt words flags s k c m
    a = clean_at words flags s k c m q

    l : s < length words
    l = omega arith

    go : (z : Bool) → eqb (get_or flags s 0) 0 ≡ z
        → ((c m : ℕ) → suc s + k ≡ length words → scan_from words flags (suc s) k c ≡ Ok m → fill_words (take (suc s) words ++ replicate k 0) (entries_from words flags (suc s) k) ≡ words)
        → fill_words (take s words ++ replicate (suc k) 0) (pick z (entries_from words flags (suc s) k) (entry s (get_or words s 0) ∷ entries_from words flags (suc s) k)) ≡ words
    go true e ih = rw (put_kept words s k l (clean_vacant words flags s a.here e)) (ih _ _ (omega arith) a.rest)
    go false e ih = ap (λ (x : List ℕ). fill_words x (entries_from words flags (suc s) k)) (put_set words s k l (get_or words s 0) refl) ∙ ih _ _ (omega arith) a.rest

fill_flags_from : (words flags : List ℕ) (k s c m : ℕ) → s + k ≡ length flags → scan_from words flags s k c ≡ Ok m
    → fill_flags (take s flags ++ replicate k 0) (entries_from words flags s k) ≡ flags
unfolding fill_flags entries_from
fill_flags_from words flags zero s c m h q = put_all flags s h
fill_flags_from words flags (suc k) s c m h q = go (eqb (get_or flags s 0) 0) refl (fill_flags_from words flags k (suc s))
  where
    a : CleanAt words flags s k c m
    a = clean_at words flags s k c m q

    l : s < length flags
    l = omega arith

    go : (z : Bool) → eqb (get_or flags s 0) 0 ≡ z
        → ((c m : ℕ) → suc s + k ≡ length flags → scan_from words flags (suc s) k c ≡ Ok m → fill_flags (take (suc s) flags ++ replicate k 0) (entries_from words flags (suc s) k) ≡ flags)
        → fill_flags (take s flags ++ replicate (suc k) 0) (pick z (entries_from words flags (suc s) k) (entry s (get_or words s 0) ∷ entries_from words flags (suc s) k)) ≡ flags
    go true e ih = rw (put_kept flags s k l (eqb-true _ _ e)) (ih _ _ (omega arith) a.rest)
    go false e ih = ap (λ (x : List ℕ). fill_flags x (entries_from words flags (suc s) k)) (put_set flags s k l 1 (clean_taken words flags s a.here e)) ∙ ih _ _ (omega arith) a.rest

module _ (words flags : List ℕ) (c : ℕ) (h : scan_of words flags ≡ Ok c) (l : length words ≡ length flags) where
  pub fill_words_entries : fill_words (replicate (length words) 0) (entries_of words flags) ≡ words
  unfolding scan_of entries_of
  fill_words_entries = rw l (fill_words_from words flags (length flags) 0 0 c (omega arith) h)

  pub fill_flags_entries : fill_flags (replicate (length flags) 0) (entries_of words flags) ≡ flags
  unfolding scan_of entries_of
  fill_flags_entries = fill_flags_from words flags (length flags) 0 0 c (omega arith) h

-- ---- the entries of a table rise

entries_rise_from : (words flags : List ℕ) (n k s f : ℕ) → f ≤ s → s + k ≤ n → rising n f (entries_from words flags s k) ≡ true
unfolding entries_from rising
entries_rise_from words flags n zero s f a h = refl
entries_rise_from words flags n (suc k) s f a h = go (eqb (get_or flags s 0) 0) (entries_rise_from words flags n k (suc s))
  where
    go : (z : Bool) → ((g : ℕ) → g ≤ suc s → suc s + k ≤ n → rising n g (entries_from words flags (suc s) k) ≡ true)
        → rising n f (pick z (entries_from words flags (suc s) k) (entry s (get_or words s 0) ∷ entries_from words flags (suc s) k)) ≡ true
    go true ih = ih f (omega arith) (omega arith)
    go false ih = let b : s < n = omega arith in rw (le-leb _ _ a, lt-ltb _ _ b) (ih (s + 1) (omega arith) (omega arith))

pub entries_rise : (words flags : List ℕ) → rising (length flags) 0 (entries_of words flags) ≡ true
unfolding entries_of
entries_rise words flags = entries_rise_from words flags (length flags) (length flags) 0 0 (omega arith) (omega arith)

-- ---- entries that rise are those of the table they fill

-- slots below the floor stay as they are
fill_words_below : (n f i : ℕ) (words : List ℕ) (es : List Entry) → rising n f es ≡ true → i < f → get_or (fill_words words es) i 0 ≡ get_or words i 0
unfolding fill_words
fill_words_below n f i words [] h l = refl
fill_words_below n f i words (x ∷ es) h l =
    let r = risen_head n f x es h in
    let d : i ≡ x.slot → ⊥ = (λ e. absurd (omega arith)) in
    fill_words_below n (x.slot + 1) i (set words x.slot x.identity) es r.rest (omega arith) ∙ get_or-set_other words x.slot i x.identity 0 d

fill_flags_below : (n f i : ℕ) (flags : List ℕ) (es : List Entry) → rising n f es ≡ true → i < f → get_or (fill_flags flags es) i 0 ≡ get_or flags i 0
unfolding fill_flags
fill_flags_below n f i flags [] h l = refl
fill_flags_below n f i flags (x ∷ es) h l =
    let r = risen_head n f x es h in
    let d : i ≡ x.slot → ⊥ = (λ e. absurd (omega arith)) in
    fill_flags_below n (x.slot + 1) i (set flags x.slot 1) es r.rest (omega arith) ∙ get_or-set_other flags x.slot i 1 0 d

-- the first entry stands at the floor, or all stand above it
data Next (n s : ℕ) (es : List Entry) : Type 0 where
  here : (x : ℕ) (r : List Entry) → es ≡ entry s x ∷ r → rising n (s + 1) r ≡ true → Next n s es
  later : rising n (suc s) es ≡ true → Next n s es

next_of : (n s : ℕ) (es : List Entry) → rising n s es ≡ true → Next n s es
unfolding rising
next_of n s [] h = later refl
next_of n s (x ∷ es) h =
    let r = risen_head n s x es h in
    cases (eqb x.slot s)
    (λ t. let e : x.slot ≡ s = eqb-true _ _ t in here x.identity es (ap (λ (i : ℕ). entry i x.identity ∷ es) e) (rw e at r.rest))
    (λ f. let d : x.slot ≡ s → ⊥ = eqb-false _ _ f in let m : suc s ≤ x.slot = omega (arith, d) in let b = r.below in later (rw (le-leb _ _ m, lt-ltb _ _ b) r.rest))

-- nothing from slot s on
record Vacant (xs : List ℕ) (s : ℕ) : Type 0 where
  zeros : (i : ℕ) → s ≤ i → get_or xs i 0 ≡ 0

vacant_more : (xs : List ℕ) (s : ℕ) → Vacant xs s → Vacant xs (suc s)
vacant_more xs s v = record { zeros = λ i h. v.zeros i (omega arith) }

vacant_set : (xs : List ℕ) (s a : ℕ) → Vacant xs s → Vacant (set xs s a) (suc s)
vacant_set xs s a v = record { zeros = λ i h. let d : i ≡ s → ⊥ = (λ e. absurd (omega arith)) in get_or-set_other xs s i a 0 d ∙ v.zeros i (omega arith) }

-- the entries from slot s on, and that they are clean
record Holds (words flags : List ℕ) (s k c : ℕ) (es : List Entry) : Type 0 where
  entries : entries_from words flags s k ≡ es
  scan : scan_from words flags s k c ≡ Ok (c + length es)

-- a vacant slot, and an occupied one
holds_vacant : (words flags : List ℕ) (s k c : ℕ) (es : List Entry) → get_or words s 0 ≡ 0 → get_or flags s 0 ≡ 0 → Holds words flags (suc s) k c es → Holds words flags s (suc k) c es
unfolding entries_from scan_from dirty_at
holds_vacant words flags s k c es w f h = record { entries = rw f h.entries; scan = rw (w, f) h.scan }

holds_taken : (words flags : List ℕ) (s k c x : ℕ) (es : List Entry) → get_or words s 0 ≡ x → get_or flags s 0 ≡ 1 → Holds words flags (suc s) k (c + 1) es → Holds words flags s (suc k) c (entry s x ∷ es)
unfolding entries_from scan_from dirty_at
holds_taken words flags s k c x es w f h =
    let m : c + 1 + length es ≡ c + suc (length es) = omega arith in
    record { entries = rw (f, w, h.entries); scan = rw f (h.scan ∙ ap Ok m) }

holds_fill : (n k s c : ℕ) (words flags : List ℕ) (es : List Entry) → s + k ≡ n → length words ≡ n → length flags ≡ n → Vacant words s → Vacant flags s → rising n s es ≡ true
    → Holds (fill_words words es) (fill_flags flags es) s k c es
unfolding fill_words fill_flags entries_from scan_from
holds_fill n zero s c words flags [] h lw lf vw vf r = let m : c ≡ c + 0 = omega arith in record { entries = refl; scan = ap Ok m }
holds_fill n zero s c words flags (x ∷ es) h lw lf vw vf r = let q = risen_head n s x es r in absurd (omega arith)
holds_fill n (suc k) s c words flags es h lw lf vw vf r = go (next_of n s es r) (holds_fill n k (suc s))
  where
    go : Next n s es
        → ((c : ℕ) (words flags : List ℕ) (es : List Entry) → suc s + k ≡ n → length words ≡ n → length flags ≡ n → Vacant words (suc s) → Vacant flags (suc s) → rising n (suc s) es ≡ true
        → Holds (fill_words words es) (fill_flags flags es) (suc s) k c es)
        → Holds (fill_words words es) (fill_flags flags es) s (suc k) c es
    go (later m) ih =
        let z : s ≤ s = omega arith in
        let l : s < suc s = omega arith in
        holds_vacant (fill_words words es) (fill_flags flags es) s k c es
        (fill_words_below n (suc s) s words es m l ∙ vw.zeros s z)
        (fill_flags_below n (suc s) s flags es m l ∙ vf.zeros s z)
        (ih c words flags es (omega arith) lw lf (vacant_more words s vw) (vacant_more flags s vf) m)
    go (here x t e m) ih =
        let a : s + 1 ≡ suc s = omega arith in
        let m' : rising n (suc s) t ≡ true = rw a at m in
        let l : s < suc s = omega arith in
        let iw : s < length words = omega arith in
        let if : s < length flags = omega arith in
        rw e
        (holds_taken (fill_words (set words s x) t) (fill_flags (set flags s 1) t) s k c x t
        (fill_words_below n (suc s) s (set words s x) t m' l ∙ get_or-set_same words s x 0 iw)
        (fill_flags_below n (suc s) s (set flags s 1) t m' l ∙ get_or-set_same flags s 1 0 if)
        (ih (c + 1) (set words s x) (set flags s 1) t (omega arith) (simp length-set lw) (simp length-set lf) (vacant_set words s x vw) (vacant_set flags s 1 vf) m'))

vacant_zeros : (n : ℕ) → Vacant (replicate n 0) 0
vacant_zeros n =
    record {
      zeros = λ i h.
          cases (ltb i n) (λ t. let l : i < n = ltb-true _ _ t in get_or-replicate n i 0 0 l)
          (λ f. let l : length (replicate {A = ℕ} n 0) ≤ i = rw length-replicate (ltb-false _ _ f) in get_or-eq_default (replicate n 0) 0 l);
    }

module _ (n : ℕ) (es : List Entry) (r : rising n 0 es ≡ true) where
  filled : Holds (fill_words (replicate n 0) es) (fill_flags (replicate n 0) es) 0 n 0 es
  filled = holds_fill n n 0 0 (replicate n 0) (replicate n 0) es (omega arith) (length-replicate n 0) (length-replicate n 0) (vacant_zeros n) (vacant_zeros n) r

  length_filled : length (fill_flags (replicate n 0) es) ≡ n
  length_filled = length_fill_flags (replicate n 0) es ∙ length-replicate n 0

  pub entries_filled : entries_of (fill_words (replicate n 0) es) (fill_flags (replicate n 0) es) ≡ es
  unfolding entries_of
  entries_filled = rw length_filled filled.entries

  pub scan_filled : scan_of (fill_words (replicate n 0) es) (fill_flags (replicate n 0) es) ≡ Ok (length es)
  unfolding scan_of
  scan_filled = let z : 0 + length es ≡ length es = omega arith in rw length_filled (filled.scan ∙ ap Ok z)

-- ---- the smallest dirty slot

-- d is the smallest dirty one of the slots from s on
pub record SmallestDirty (words flags : List ℕ) (s d : ℕ) : Type 0 where
  pub from : s ≤ d
  pub here : dirty_at words flags d ≡ true
  pub below : (t : ℕ) → s ≤ t → t < d → dirty_at words flags t ≡ false

scan_smallest_from : (words flags : List ℕ) (k s c d : ℕ) → scan_from words flags s k c ≡ Err d → SmallestDirty words flags s d
unfolding scan_from
scan_smallest_from words flags zero s c d h = let z : ◌≡◌ {A = ℕ} 0 1 = cc in absurd (omega arith)
scan_smallest_from words flags (suc k) s c d h = go (dirty_at words flags s) refl h (λ e g. scan_smallest_from words flags k (suc s) e d g)
  where
    go : (x : Bool) → dirty_at words flags s ≡ x → pick x (Err s) (scan_from words flags (suc s) k (pick (eqb (get_or flags s 0) 0) c (c + 1))) ≡ Err d
        → ((e : ℕ) → scan_from words flags (suc s) k e ≡ Err d → SmallestDirty words flags (suc s) d) → SmallestDirty words flags s d
    go true e h ih = let q : s ≡ d = cc in rw (← q) (record { from = omega arith; here = e; below = λ t a b. absurd (omega arith) })
    go false e h ih =
        let r = ih _ h in
        let f = r.from in
        record {
          from = omega arith;
          here = r.here;
          below = λ t a b. cases (eqb t s) (λ y. let q : t ≡ s = eqb-true _ _ y in rw q e) (λ y. let n : t ≡ s → ⊥ = eqb-false _ _ y in let m : suc s ≤ t = omega (arith, n) in r.below t m b);
        }

-- "DIRTY: .. smallest such slot"
pub scan_smallest : (words flags : List ℕ) (d : ℕ) → scan_of words flags ≡ Err d → SmallestDirty words flags 0 d
unfolding scan_of
scan_smallest words flags d h = scan_smallest_from words flags (length flags) 0 0 d h

-- a table with no dirty slot has none
clean_from : (words flags : List ℕ) (k s c m : ℕ) → scan_from words flags s k c ≡ Ok m → (t : ℕ) → s ≤ t → t < s + k → dirty_at words flags t ≡ false
clean_from words flags zero s c m h t a b = absurd (omega arith)
clean_from words flags (suc k) s c m h t a b =
    let r = clean_at words flags s k c m h in
    cases (eqb t s) (λ y. let q : t ≡ s = eqb-true _ _ y in rw q r.here)
    (λ y. let n : t ≡ s → ⊥ = eqb-false _ _ y in clean_from words flags k (suc s) _ m r.rest t (omega (arith, n)) (omega arith))

pub scan_clean : (words flags : List ℕ) (c : ℕ) → scan_of words flags ≡ Ok c → (t : ℕ) → t < length flags → dirty_at words flags t ≡ false
unfolding scan_of
scan_clean words flags c h t l = clean_from words flags (length flags) 0 0 c h t (omega arith) (omega arith)

-- ---- how many entries there can be

pub rising_few : (n f : ℕ) (es : List Entry) → rising n f es ≡ true → f ≤ n → length es + f ≤ n
rising_few n f [] h l = omega arith
rising_few n f (x ∷ es) h l =
    let r = risen_head n f x es h in
    let i = rising_few n (x.slot + 1) es r.rest (omega arith) in
    omega arith
