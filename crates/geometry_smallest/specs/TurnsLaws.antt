-- The search is short: never more than 12e + 3 turns. Assumes nothing.
use Rattle.std.specs.Prelude.{None, ◌≡◌, refl, ℕ, zero, suc, ◌+◌, ◌-◌, ◌*◌, ◌/◌, ◌%◌, ◌^◌, ◌≤◌, ◌<◌, min, max}
use Rattle.std.proofs.Common.{sym, ap, subst, ◌∙◌, lt_of_not-le, le_antisymm, le-div_iff_mul-le, div-lt_iff_lt-mul, mod-lt, mul-le-mul_right, mul-le-mul_left, mul_left_comm, mul-one, lt_of_mul-lt-mul_right, pow-suc}
use Rattle.std.specs.Int.{◌∣◌}
use Rattle.std.proofs.Math.Nat.{div-add-mod, dvd_of_mod-eq-zero, dvd-mul_right, dvd-add, dvd_refl, add-mul, one-mul}
use Rattle.std.proofs.Math.Decide.{dec_le}
use native.Mathlib.Omega.{arith}
use Rattle.std.proofs.Math.Pow.{pow_pos}
use Rattle.geometry.specs.Special.{loglog, special_least, special_most, SpecialLength, FoundFor}
use Rattle.geometry_smallest.specs.Layouts.{Next, LengthFrom, SlotsFrom, Alike}
use Rattle.geometry_smallest.specs.LayoutsLaws.{loglog_mono, loglog_17, length_here, length_up, slots_part, slots_main}
use Rattle.geometry_smallest.specs.LayoutsLaws.{next_of, next_end, next_jump, next_bare, alike_256, alike_65536, alike_last}
use Rattle.geometry_smallest.specs.Turns.{Ends, past, here, turn}

-- more turns do no harm
pub weaken : {e last n k : ℕ} (j : ℕ) → k ≤ j → Ends e last n k → Ends e last n j
weaken j h (past l) = past l
weaken zero h (here s p) = absurd (omega arith)
weaken (suc j) h (here s p) = here s p
weaken zero h (turn r x t) = absurd (omega arith)
weaken (suc j) h (turn r x t) = turn r x (weaken j (omega arith) t)

-- the next is one
module _ (e n r p : ℕ) (x : Next e n r) (y : Next e n p) where
  same_length : x.s ≡ y.s
  same_length = le_antisymm (x.is_length.least y.s y.is_length.from y.is_length.whole) (y.is_length.least x.s x.is_length.from x.is_length.whole)

  same_slots : x.t ≡ y.t
  same_slots =
      let h = same_length in
      let a : x.s * 2 ^ (e + 2) ≡ y.s * 2 ^ (e + 2) = ap (λ (i : ℕ). i * 2 ^ (e + 2)) h in
      le_antisymm
      (x.is_slots.least y.t (omega (arith, y.is_slots.part)) (omega (arith, y.is_slots.main)))
      (y.is_slots.least x.t (omega (arith, x.is_slots.part)) (omega (arith, x.is_slots.main)))

  not_before : (a b : ℕ) → Alike n a → Alike n b → Dec (b ≤ a) → b ≤ a
  not_before a b u v (yes h) = h
  not_before a b u v (no f) = let h = lt_of_not-le f in let i = u.last b h v.to in let j = v.alike b v.from (omega arith) in absurd (omega arith)

  same_end : x.end ≡ y.end
  same_end = le_antisymm (not_before y.end x.end y.is_end x.is_end (dec_le x.end y.end)) (not_before x.end y.end x.is_end y.is_end (dec_le y.end x.end))

  pub next_unique : r ≡ p
  next_unique =
      let a = same_slots in
      let b = same_end in
      let c = x.is in
      let d = y.is in
      omega arith

-- a turn of the code: one of those that are left
pub ends_more : (e last n j r : ℕ) → Ends e last n j → n ≤ last → FoundFor n e None → Next e n r → (0 < j) × Ends e last r (j - 1)
unfolding FoundFor
ends_more e last n j r (past h) l f x = absurd (omega arith)
ends_more e last n (suc k) r (here s p) l f x = absurd (f s p)
ends_more e last n (suc k) r (turn p y t) l f x =
    let h : k ≡ suc k - 1 = omega arith in
    let u : Ends e last r k = subst (λ (i : ℕ). Ends e last i k) (next_unique e n p r y x) t in
    (omega arith, subst (λ (i : ℕ). Ends e last r i) h u)

-- with no turn left the search is past the last n
pub ends_past : (e last n j : ℕ) → Ends e last n j → j ≡ 0 → last < n
ends_past e last n j (past h) z = h
ends_past e last n (suc k) (here s p) z = absurd (omega arith)
ends_past e last n (suc k) (turn r x t) z = absurd (omega arith)

-- powers: 2 ^ (e + 1) against e
double : (e : ℕ) → 2 ^ (e + 2) ≡ 2 * 2 ^ (e + 1)
double e =
    let a : e + 2 ≡ suc (e + 1) = omega arith in
    let b = ap (λ (i : ℕ). 2 ^ i) a in
    let c = pow-suc 2 (e + 1) in
    omega arith

-- for e = d + 3
powers : (d : ℕ) → (16 ≤ 2 ^ (d + 4)) × (2 * (d + 3) ≤ 2 ^ (d + 4)) × ((4 * (d + 3) + 10) * (2 * (d + 3)) + 2 * (d + 3) + 12 ≤ 12 * 2 ^ (d + 4))
powers zero = (omega arith, omega arith, omega arith)
powers (suc d) =
    let p = powers d in
    let a : suc d + 4 ≡ suc (d + 4) = omega arith in
    let b = ap (λ (i : ℕ). 2 ^ i) a in
    let c = pow-suc 2 (d + 4) in
    (omega (arith, p.0), omega (arith, p.0, p.1), omega (arith, p.0, p.1, p.2))

power_facts : (e : ℕ) → 3 ≤ e → (2 * e ≤ 2 ^ (e + 1)) × ((4 * e + 10) * (2 * e) + 2 * e + 12 ≤ 12 * 2 ^ (e + 1))
power_facts e h =
    let a : e - 3 + 3 ≡ e = omega arith in
    let b : e - 3 + 4 ≡ e + 1 = omega arith in
    let p = powers (e - 3) in
    (rw (a, b) at p.1, rw (a, b) at p.2)

-- there is a next
length_exists : (lo w : ℕ) → 0 < w → (s : ℕ) × LengthFrom lo w s
length_exists lo w pos = go (dec_le 2 (lo % (2 * w)))
  where
    go : Dec (2 ≤ lo % (2 * w)) → (s : ℕ) × LengthFrom lo w s
    go (yes h) = (lo + (2 * w - lo % (2 * w)), length_up lo w pos h)
    go (no f) = (lo, length_here lo w pos (lt_of_not-le f))

slots_exist : (e s : ℕ) → (t : ℕ) × SlotsFrom e s t
slots_exist e s = go (dec_le (s + (4 * e + 10) * (2 * e)) ((s * 2 ^ (e + 2) + 2) / 3))
  where
    go : Dec (s + (4 * e + 10) * (2 * e) ≤ (s * 2 ^ (e + 2) + 2) / 3) → (t : ℕ) × SlotsFrom e s t
    go (yes h) = ((s * 2 ^ (e + 2) + 2) / 3, slots_part e s (2 ^ (e + 2)) refl h)
    go (no f) = let h = lt_of_not-le f in (s + (4 * e + 10) * (2 * e), slots_main e s (2 ^ (e + 2)) refl (omega arith))

three_least : (n : ℕ) → 16 < n → n ≤ 4294967296 → 3 ≤ loglog n
three_least n a b = let x = loglog_mono 17 n a (omega arith) in let y = loglog_17 in omega arith

alike_from : {n end : ℕ} (m : ℕ) → Alike n end → n ≤ m → m ≤ end → Alike m end
alike_from m x l h =
    let s = x.alike m l h in
    record { from = h; to = x.to; alike = λ i a b. x.alike i (omega arith) b ∙ sym s; last = λ i a b. let y = x.last i a b in omega arith }

-- where a length lies within the bounds
module _ (e m s : ℕ) where
  least_at : 4 * loglog m ≤ s → m ≤ s * 2 ^ (e + 1) → special_least m e ≤ s
  unfolding special_least
  least_at a b =
      let p = pow_pos (e + 1) in
      let x = add-mul s 1 (2 ^ (e + 1)) in
      let y = one-mul (2 ^ (e + 1)) in
      let z : m + (2 ^ (e + 1) - 1) < (s + 1) * 2 ^ (e + 1) = omega arith in
      let c = (div-lt_iff_lt-mul p).1 z in
      omega arith

  least_covers : special_least m e ≤ s → m ≤ s * 2 ^ (e + 1)
  unfolding special_least
  least_covers h =
      let p = pow_pos (e + 1) in
      let c : (m + (2 ^ (e + 1) - 1)) / 2 ^ (e + 1) < s + 1 = omega arith in
      let x = add-mul s 1 (2 ^ (e + 1)) in
      let y = one-mul (2 ^ (e + 1)) in
      let z = (div-lt_iff_lt-mul p).0 c in
      omega arith

  fits_at : 0 < loglog m → 4 * loglog m ≤ s → 2 * loglog m ∣ s / 2 → m ≤ s * 2 ^ (e + 1) → s * 2 ^ (e + 2) ≤ 3 * m → s + (4 * e + 10) * (2 * e) ≤ m → 2 * e ∣ m - s → SpecialLength m e s
  unfolding special_most
  fits_at g a w b c d f =
      let x = (le-div_iff_mul-le (pow_pos (e + 2))).1 c in
      record { from = least_at a b; to = omega arith; main = f; fallback = w; some = omega arith }

-- one of any 2e n in a row over which a length lies within the bounds has it
pub window : (e n s : ℕ) → 0 < e → ((m : ℕ) → n ≤ m → m < n + 2 * e → loglog m ≡ loglog n) → 0 < loglog n → 4 * loglog n ≤ s → 2 * loglog n ∣ s / 2 → n + 2 * e ≤ s * 2 ^ (e + 1) + 1
    → s * 2 ^ (e + 2) ≤ 3 * n → s + (4 * e + 10) * (2 * e) ≤ n → (m : ℕ) × (n ≤ m) × (m < n + 2 * e) × SpecialLength m e s
window e n s pos same g a w b c d = go (dec_le ((n - s) % (2 * e)) 0)
  where
    at : (m : ℕ) → n ≤ m → m < n + 2 * e → 2 * e ∣ m - s → SpecialLength m e s
    at m l h f = let i = same m l h in fits_at e m s (omega arith) (omega arith) (rw i w) (omega arith) (omega arith) (omega arith) f

    up : (n - s) % (2 * e) < 2 * e → 2 * e ∣ n + (2 * e - (n - s) % (2 * e)) - s
    up l =
        let x = div-add-mod (n - s) (2 * e) in
        let y : n + (2 * e - (n - s) % (2 * e)) - s ≡ 2 * e * ((n - s) / (2 * e)) + 2 * e = omega arith in
        rw y (dvd-add (2 * e) (dvd-mul_right (2 * e) ((n - s) / (2 * e))) (dvd_refl (2 * e)))

    go : Dec ((n - s) % (2 * e) ≤ 0) → (m : ℕ) × (n ≤ m) × (m < n + 2 * e) × SpecialLength m e s
    go (yes z) = (n, omega arith, omega arith, at n (omega arith) (omega arith) (dvd_of_mod-eq-zero (2 * e) (omega arith)))
    go (no f) =
        let l = mod-lt (n - s) {m = 2 * e} (omega arith) in
        let k = lt_of_not-le f in
        (n + (2 * e - (n - s) % (2 * e)), omega arith, omega arith, at (n + (2 * e - (n - s) % (2 * e))) (omega arith) (omega arith) (up l))

module _ (e last : ℕ) (low : 3 ≤ e) where
  -- the next of n, where g is known to be the same up to `end`
  next_exists : (n end : ℕ) → 16 < n → Alike n end → (r : ℕ) × Next e n r × (n < r) × (r ≤ end + 1)
  next_exists n end a x =
      let f = x.from in
      let g = three_least n a (omega (arith, x.to)) in
      let s = length_exists (special_least n e) (2 * loglog n) (omega arith) in
      let t = slots_exist e s.0 in
      (max n (min (t.0 - 1) end) + 1, next_of e n s.0 t.0 s.1 t.1 end x (max n (min (t.0 - 1) end) + 1) refl, omega arith, omega arith)

  -- n is the end of the range, or the first with another g, or has a length: the search comes to it
  arrive : {n m k : ℕ} (j : ℕ) → n ≡ m → k ≤ j → Ends e last m k → Ends e last n j
  arrive {n} {m} {k} j h l t = subst (λ (i : ℕ). Ends e last i j) (sym h) (weaken j l t)

  -- the search does not pass an n with a length
  reach : (d n m s end : ℕ) → 16 < n → Alike n end → n ≤ m → m ≤ end → m ≤ n + d → SpecialLength m e s → Ends e last n (suc d)
  reach zero n m s end a x l h k p = let i : m ≡ n = omega arith in here s (subst (λ (j : ℕ). SpecialLength j e s) i p)
  reach (suc d) n m s end a x l h k p = go (λ r b y u i. reach d r m s end b y u h i p) (dec_le m n)
    where
      on : ((r : ℕ) → 16 < r → Alike r end → r ≤ m → m ≤ r + d → Ends e last r (suc d)) → n < m → (y : (r : ℕ) × Next e n r × (n < r) × (r ≤ end + 1)) → Dec (y.0 ≤ m) → Ends e last n (suc (suc d))
      on again i y (yes u) = let b = y.2 in turn y.0 y.1 (again y.0 (omega arith) (alike_from y.0 x (omega arith) (omega arith)) u (omega arith))
      on again i y (no u) = absurd (next_bare e n y.0 y.1 m s (omega arith) (lt_of_not-le u) p)

      go : ((r : ℕ) → 16 < r → Alike r end → r ≤ m → m ≤ r + d → Ends e last r (suc d)) → Dec (m ≤ n) → Ends e last n (suc (suc d))
      go again (yes i) = here s (subst (λ (j : ℕ). SpecialLength j e s) (le_antisymm i l) p)
      go again (no f) = let y = next_exists n end a x in on again (lt_of_not-le f) y (dec_le y.0 m)

  -- the search does not pass the first n with another g, and comes to it in as many turns as there are n on the way
  over : (d n k j end : ℕ) → 16 < n → Alike n end → end + 1 ≤ n + d → d + k ≤ j → Ends e last (end + 1) k → Ends e last n j
  over zero n k j end a x h l t = let f = x.from in absurd (omega arith)
  over (suc d) n k zero end a x h l t = absurd (omega arith)
  over (suc d) n k (suc j) end a x h l t = let y = next_exists n end a x in go (λ r b z u. over d r k j end b z u (omega arith) t) y (dec_le y.0 end)
    where
      go : ((r : ℕ) → 16 < r → Alike r end → end + 1 ≤ r + d → Ends e last r j) → (y : (r : ℕ) × Next e n r × (n < r) × (r ≤ end + 1)) → Dec (y.0 ≤ end) → Ends e last n (suc j)
      go again y (yes u) = let b = y.2 in turn y.0 y.1 (again y.0 (omega arith) (alike_from y.0 x (omega arith) u) (omega arith))
      go again y (no u) = let v = lt_of_not-le u in let b = y.3 in turn y.0 y.1 (arrive j (omega arith) (omega arith) t)

  -- a length that stays within the bounds over 2e n ends the search within as many turns, or the first n with another g is met
  settled : (n s k end : ℕ) → 16 < n → Alike n end → 4 * loglog n ≤ s → 2 * loglog n ∣ s / 2 → n + 2 * e ≤ s * 2 ^ (e + 1) + 1 → s * 2 ^ (e + 2) ≤ 3 * n → s + (4 * e + 10) * (2 * e) ≤ n
      → Ends e last (end + 1) k → Ends e last n (2 * e + k)
  settled n s k end a x g w b c d t = go (dec_le (n + 2 * e) (end + 1))
    where
      go : Dec (n + 2 * e ≤ end + 1) → Ends e last n (2 * e + k)
      go (yes h) =
          let f = x.from in
          let i = three_least n a (omega (arith, x.to)) in
          let m = window e n s (omega arith) (λ m l u. x.alike m l (omega arith)) (omega arith) g w b c d in
          let l = m.1 in
          let u = m.2 in
          weaken (2 * e + k) (omega arith) (reach (m.0 - n) n m.0 s end a x l (omega arith) (omega arith) m.3)
      go (no f) = let h = lt_of_not-le f in let i = x.from in over (end + 1 - n) n k (2 * e + k) end a x (omega arith) (omega arith) t

  -- after a jump to t the length stays for 2e n
  slots_near : (s t : ℕ) → 12 ≤ s → SlotsFrom e s t → t + 2 * e ≤ s * 2 ^ (e + 1) + 1
  slots_near s t h x =
      let p = power_facts e low in
      let p0 = p.0 in
      let p1 = p.1 in
      let o = pow_pos (e + 1) in
      let is : s ≡ 12 + (s - 12) = omega arith in
      let a : s * 2 ^ (e + 1) ≡ (12 + (s - 12)) * 2 ^ (e + 1) = ap (λ (i : ℕ). i * 2 ^ (e + 1)) is in
      let b = add-mul 12 (s - 12) (2 ^ (e + 1)) in
      let c : (s - 12) * 1 ≤ (s - 12) * 2 ^ (e + 1) = mul-le-mul_left (s - 12) o in
      let d : s * 2 ^ (e + 2) ≡ s * (2 * 2 ^ (e + 1)) = ap (λ (i : ℕ). s * i) (double e) in
      let f = mul_left_comm s 2 (2 ^ (e + 1)) in
      let m = mul-one (s - 12) in
      let y = x.least (s * 2 ^ (e + 1) + 1 - 2 * e) (omega arith) (omega arith) in
      omega arith

  least_length : (n : ℕ) → 4 * loglog n ≤ special_least n e
  unfolding special_least
  least_length n = omega arith

  module _ (end k : ℕ) (tail : Ends e last (end + 1) k) where
    -- where the length stays for 2e n, or a jump comes first
    near : (n s t : ℕ) → 16 < n → Alike n end → LengthFrom (special_least n e) (2 * loglog n) s → SlotsFrom e s t → (t ≤ n → n + 2 * e ≤ s * 2 ^ (e + 1) + 1) → Ends e last n (2 * e + 1 + k)
    near n s t a x length slots stays = go (dec_le t end) (dec_le t n)
      where
        long : 4 * loglog n ≤ s
        long = omega (arith, least_length n, length.from)

        go : Dec (t ≤ end) → Dec (t ≤ n) → Ends e last n (2 * e + 1 + k)
        go (no f) h = weaken (2 * e + 1 + k) (omega arith) (turn (end + 1) (next_end e n s t length slots end x (lt_of_not-le f)) tail)
        go (yes f) (no h) =
            let i = lt_of_not-le h in
            let g = three_least n a (omega (arith, x.from, x.to)) in
            let j = x.alike t (omega arith) f in
            let l = long in
            weaken
            (2 * e + 1 + k)
            (omega arith)
            (turn t (next_jump e n s t length slots end x f i)
            (settled t s k end (omega arith) (alike_from t x (omega arith) f) (omega arith) (rw j length.whole) (slots_near s t (omega arith) slots) slots.part
            slots.main tail))
        go (yes f) (yes h) =
            let p = slots.part in
            let m = slots.main in
            weaken (2 * e + 1 + k) (omega arith) (settled n s k end a x long length.whole (stays h) (omega arith) (omega arith) tail)

    -- the walk to the last n of a length, and one further: q
    module _ (first s t q c : ℕ) (low_first : 16 < first) (x : Alike first end) (slots : SlotsFrom e s t) (long : 4 * loglog first ≤ s)
        (whole : 2 * loglog first ∣ s / 2) (here-t : t ≤ first) (is : q ≡ s * 2 ^ (e + 1) + 1) (within : q ≤ end) (rest : Ends e last q c) where
      one_more : (n : ℕ) → first ≤ n → n < q → (r : ℕ) → Next e n r → r ≡ n + 1
      one_more n a b r y =
          let g = x.alike n a (omega arith) in
          let i = least_at e n s (omega arith) (omega arith) in
          let u = y.is_length.least s i (rw g whole) in
          let v = mul-le-mul_right (2 ^ (e + 2)) u in
          let p = slots.part in
          let m = slots.main in
          let w = y.is_slots.least t (omega arith) (omega arith) in
          let h = y.is in
          omega arith

      walk : (d n j : ℕ) → first ≤ n → n ≤ q → q ≤ n + d → d + c ≤ j → Ends e last n j
      walk zero n j a b h l = arrive j (omega arith) (omega arith) rest
      walk (suc d) n zero a b h l = absurd (omega arith)
      walk (suc d) n (suc j) a b h l = go (λ r u v w. walk d r j u v w (omega arith)) (dec_le q n)
        where
          go : ((r : ℕ) → first ≤ r → r ≤ q → q ≤ r + d → Ends e last r j) → Dec (q ≤ n) → Ends e last n (suc j)
          go again (yes f) = arrive (suc j) (omega arith) (omega arith) rest
          go again (no f) =
              let i = lt_of_not-le f in
              let y = next_exists n end (omega arith) (alike_from n x a (omega arith)) in
              let m = one_more n a i y.0 y.1 in
              turn y.0 y.1 (again y.0 (omega arith) (omega arith) (omega arith))

    -- from any n: at most 2 * beta + 1 turns, and then those from the first n with another g
    segment : (n : ℕ) → 16 < n → Alike n end → Ends e last n (4 * e + 1 + k)
    segment n a x =
        let g = three_least n a (omega (arith, x.from, x.to)) in
        let s = length_exists (special_least n e) (2 * loglog n) (omega arith) in
        let t = slots_exist e s.0 in
        go s.0 t.0 s.1 t.1 (dec_le t.0 n) (dec_le (n + 2 * e) (s.0 * 2 ^ (e + 1) + 1)) (dec_le (s.0 * 2 ^ (e + 1) + 1) end)
      where
        after : (s : ℕ) → n ≤ s * 2 ^ (e + 1) → s * 2 ^ (e + 1) + 1 ≤ end → Ends e last (s * 2 ^ (e + 1) + 1) (2 * e + 1 + k)
        after s l h =
            let q = s * 2 ^ (e + 1) + 1 in
            let y = alike_from (s * 2 ^ (e + 1) + 1) x (omega arith) h in
            let g = three_least (s * 2 ^ (e + 1) + 1) (omega arith) (omega (arith, x.to)) in
            let u = length_exists (special_least (s * 2 ^ (e + 1) + 1) e) (2 * loglog (s * 2 ^ (e + 1) + 1)) (omega arith) in
            let v = slots_exist e u.0 in
            let c = least_covers e (s * 2 ^ (e + 1) + 1) u.0 u.1.from in
            let b : s * 2 ^ (e + 1) < u.0 * 2 ^ (e + 1) = omega arith in
            let d : s < u.0 = lt_of_mul-lt-mul_right (2 ^ (e + 1)) b in
            let d1 : s + 1 ≤ u.0 = omega arith in
            let f : (s + 1) * 2 ^ (e + 1) ≤ u.0 * 2 ^ (e + 1) = mul-le-mul_right (2 ^ (e + 1)) d1 in
            let i = add-mul s 1 (2 ^ (e + 1)) in
            let j = one-mul (2 ^ (e + 1)) in
            let p = (power_facts e low).0 in
            near (s * 2 ^ (e + 1) + 1) u.0 v.0 (omega arith) y u.1 v.1 (λ z. omega arith)

        go : (s t : ℕ) → LengthFrom (special_least n e) (2 * loglog n) s → SlotsFrom e s t → Dec (t ≤ n) → Dec (n + 2 * e ≤ s * 2 ^ (e + 1) + 1)
            → Dec (s * 2 ^ (e + 1) + 1 ≤ end) → Ends e last n (4 * e + 1 + k)
        go s t length slots (no f) u v = let i = lt_of_not-le f in weaken (4 * e + 1 + k) (omega arith) (near n s t a x length slots (λ h. absurd (omega arith)))
        go s t length slots (yes h) (yes u) v = weaken (4 * e + 1 + k) (omega arith) (near n s t a x length slots (λ z. u))
        go s t length slots (yes h) (no f) (no v) =
            let i = lt_of_not-le f in
            let j = lt_of_not-le v in
            let m = x.from in
            over (end + 1 - n) n k (4 * e + 1 + k) end a x (omega arith) (omega arith) tail
        go s t length slots (yes h) (no f) (yes v) =
            let i = lt_of_not-le f in
            let l = least_covers e n s length.from in
            let g : 4 * loglog n ≤ s = omega (arith, least_length n, length.from) in
            walk n s t (s * 2 ^ (e + 1) + 1) (2 * e + 1 + k) a x slots g length.whole h refl v (after s l v) (s * 2 ^ (e + 1) + 1 - n) n (4 * e + 1 + k) (omega arith)
            (omega arith) (omega arith) (omega arith)

-- the search takes at most 12e + 3 turns, from any n above 16: three stretches of the same g, of at most 2 * beta + 1 turns each
module _ (e last : ℕ) (low : 3 ≤ e) (top : last ≤ 4294967296) where
  pub turns_last : (n : ℕ) → 65536 < n → n ≤ 4294967296 → Ends e last n (4 * e + 1)
  turns_last n a b = weaken (4 * e + 1) (omega arith) (segment e last low 4294967296 0 (past (omega arith)) n (omega arith) (alike_last n a b))

  pub turns_some : (n : ℕ) → 256 < n → n ≤ 65536 → Ends e last n (8 * e + 2)
  turns_some n a b = weaken (8 * e + 2) (omega arith) (segment e last low 65536 (4 * e + 1) (turns_last 65537 (omega arith) (omega arith)) n (omega arith) (alike_65536 n a b))

  pub turns_few : (n : ℕ) → 16 < n → n ≤ 256 → Ends e last n (12 * e + 3)
  turns_few n a b = weaken (12 * e + 3) (omega arith) (segment e last low 256 (8 * e + 2) (turns_some 257 (omega arith) (omega arith)) n a (alike_256 n a b))

  pub turns_most : (n : ℕ) → 16 < n → Ends e last n (12 * e + 3)
  turns_most n a = go (dec_le n 256) (dec_le n 65536) (dec_le n 4294967296)
    where
      go : Dec (n ≤ 256) → Dec (n ≤ 65536) → Dec (n ≤ 4294967296) → Ends e last n (12 * e + 3)
      go (yes x) y z = turns_few n a x
      go (no x) (yes y) z = weaken (12 * e + 3) (omega arith) (turns_some n (lt_of_not-le x) y)
      go (no x) (no y) (yes z) = weaken (12 * e + 3) (omega arith) (turns_last n (lt_of_not-le y) z)
      go (no x) (no y) (no z) = let h = lt_of_not-le z in let k : last < n = omega arith in past k
