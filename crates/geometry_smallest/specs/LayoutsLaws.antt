-- Laws of stretches without a layout: the jump, and the search that jumps. Assumes nothing.
use Rattle.std.specs.Prelude.{◌≡◌, refl}
use Rattle.std.specs.Prelude.{Option, Some, None, true, false}
use Rattle.std.specs.Option.{is_some}
use Rattle.std.proofs.Common.{subst, le_antisymm, div-le_self, mod-lt, mul-le-mul, mul-le-mul_left, mul-le-mul_right, mul-add, mul-one, arith, pow_mono, pow_pos}
use Prim.Native.Nat.{ℕ, ◌+◌, ◌-◌, ◌*◌, ◌/◌, ◌%◌, ◌^◌, ◌≤◌, ◌<◌, ◌∣◌, min, max}
use Rattle.std.proofs.Math.Nat.{lt_of_not-le, div-add-mod, mod-eq-zero_of_dvd, dvd_refl, dvd-add, dvd-mul_right}
use Rattle.std.proofs.Math.Decide.{dec_le}
use Rattle.std.proofs.Math.Pow.{shr_mono}
use Rattle.words.specs.Log.{ceil_log2, first_from}
use Rattle.words.specs.QuotientLaws.{ceil_floor}
use Rattle.geometry.specs.Special.{loglog, special_least, SpecialLength, FoundFor}
use Rattle.geometry.specs.LoglogLaws.{log_is, loglog_facts}
use Rattle.geometry.specs.LengthLaws.{length_facts}
use Rattle.geometry_smallest.specs.Layouts.{Bare, Next, LengthFrom, SlotsFrom, Alike, FirstLayout}

-- logarithms never fall
pub log_mono : (n m : ℕ) → n ≤ m → m ≤ 2 ^ 64 → ceil_log2 n ≤ ceil_log2 m
log_mono n m l h = let a = log_is m h in (log_is n (omega arith)).least (ceil_log2 m) (omega (arith, a.covers))

pub loglog_mono : (n m : ℕ) → n ≤ m → m ≤ 2 ^ 64 → loglog n ≤ loglog m
unfolding loglog
loglog_mono n m l h =
    let a = log_mono n m l h in
    let b : ceil_log2 m ≤ 64 = (log_is m h).least 64 h in
    let e = log_mono (ceil_log2 n) (ceil_log2 m) a (omega arith) in
    omega arith

-- g is the same between two n where it is
module _ (a b n m : ℕ) (top : b ≤ 4294967296) (same : loglog a ≡ loglog b) (from : a ≤ n) (up : n ≤ m) (to : m ≤ b) where
  pub alike_between : loglog m ≡ loglog n
  alike_between =
      let x = loglog_mono a n from (omega arith) in
      let y = loglog_mono n m up (omega arith) in
      let z = loglog_mono m b to (omega arith) in
      omega arith

-- and larger from the next on
above_them : (b n m : ℕ) → n ≤ b → b < m → m ≤ 4294967296 → loglog b < loglog (b + 1) → loglog n < loglog m
above_them b n m l h k up =
    let x = loglog_mono n b l (omega arith) in
    let y = loglog_mono (b + 1) m (omega arith) (omega arith) in
    omega arith

pub loglog_17 : loglog 17 ≡ 3
unfolding loglog ceil_log2 first_from
loglog_17 = refl

alike_few : loglog 17 ≡ loglog 256
unfolding loglog ceil_log2 first_from
alike_few = refl

alike_some : loglog 257 ≡ loglog 65536
unfolding loglog ceil_log2 first_from
alike_some = refl

alike_many : loglog 65537 ≡ loglog 4294967296
unfolding loglog ceil_log2 first_from
alike_many = refl

after_few : loglog 256 < loglog 257
unfolding loglog ceil_log2 first_from
after_few = omega arith

after_some : loglog 65536 < loglog 65537
unfolding loglog ceil_log2 first_from
after_some = omega arith

pub alike_256 : (n : ℕ) → 16 < n → n ≤ 256 → Alike n 256
alike_256 n a b = record { from = b; to = omega arith; alike = λ m u t. alike_between 17 256 n m (omega arith) alike_few a u t; last = λ m u t. above_them 256 n m b u t after_few }

pub alike_65536 : (n : ℕ) → 256 < n → n ≤ 65536 → Alike n 65536
alike_65536 n a b = record { from = b; to = omega arith; alike = λ m u t. alike_between 257 65536 n m (omega arith) alike_some a u t; last = λ m u t. above_them 65536 n m b u t after_some }

pub alike_last : (n : ℕ) → 65536 < n → n ≤ 4294967296 → Alike n 4294967296
alike_last n a b = record { from = b; to = omega arith; alike = λ m u t. alike_between 65537 4294967296 n m (omega arith) alike_many a u t; last = λ m u t. absurd (omega arith) }

-- the next length whose half is whole buckets of w
module _ (lo w : ℕ) (pos : 0 < w) where
  by_period : lo ≡ 2 * (w * (lo / (2 * w))) + lo % (2 * w)
  by_period = let a = div-add-mod lo (2 * w) in omega arith

  pub length_here : lo % (2 * w) < 2 → LengthFrom lo w lo
  length_here few = record { from = omega arith; whole = rw half (dvd-mul_right w (lo / (2 * w))); most = omega arith; least = λ z l d. l }
    where
      half : lo / 2 ≡ w * (lo / (2 * w))
      half = let p = by_period in omega arith

  pub length_up : 2 ≤ lo % (2 * w) → LengthFrom lo w (lo + (2 * w - lo % (2 * w)))
  length_up two =
      let m = mod-lt lo {m = 2 * w} (omega arith) in
      record { from = omega arith; whole = rw up (dvd-add w (dvd-mul_right w (lo / (2 * w))) (dvd_refl w)); most = omega arith; least = above }
    where
      up : (lo + (2 * w - lo % (2 * w))) / 2 ≡ w * (lo / (2 * w)) + w
      up = let p = by_period in let m = mod-lt lo {m = 2 * w} (omega arith) in omega arith

      above : (z : ℕ) → lo ≤ z → w ∣ z / 2 → lo + (2 * w - lo % (2 * w)) ≤ z
      above z l d = go (dec_le (z / 2 / w) (lo / (2 * w)))
        where
          half : z / 2 ≡ w * (z / 2 / w)
          half = let a = div-add-mod (z / 2) w in let b = mod-eq-zero_of_dvd w d in omega arith

          go : Dec (z / 2 / w ≤ lo / (2 * w)) → lo + (2 * w - lo % (2 * w)) ≤ z
          go (yes y) =
              let a = mul-le-mul_left w y in
              let p = by_period in
              let h = half in
              absurd (omega arith)
          go (no f) =
              let c = lt_of_not-le f in
              let b : lo / (2 * w) + 1 ≤ z / 2 / w = omega arith in
              let a = mul-le-mul_left w b in
              let e = mul-add w (lo / (2 * w)) 1 in
              let o = mul-one w in
              let p = by_period in
              let h = half in
              let m = mod-lt lo {m = 2 * w} (omega arith) in
              omega arith

-- the first n whose upper bound reaches s
module _ (e s power : ℕ) (is : power ≡ 2 ^ (e + 2)) where
  pub power_fits : s ≤ 4294967316 → e ≤ 27 → s * power ≤ 2305843019951112192
  power_fits a b =
      let x : e + 2 ≤ 29 = omega arith in
      let y : 2 ^ (e + 2) ≤ 2 ^ 29 = pow_mono x in
      let z : power ≤ 536870912 = omega arith in
      mul-le-mul {n₂ = 4294967316} {m₂ = 536870912} a z

  third : s * 2 ^ (e + 2) ≤ 3 * ((s * power + 2) / 3)
  third = rw (← is) (let x : s * power ≤ 3 * ((s * power + 2) / 3) = omega arith in x)

  pub slots_part : s + (4 * e + 10) * (2 * e) ≤ (s * power + 2) / 3 → SlotsFrom e s ((s * power + 2) / 3)
  slots_part h = record { part = third; main = h; least = λ n a b. let k : s * power ≤ 3 * n = rw is a in omega arith }

  pub slots_main : (s * power + 2) / 3 ≤ s + (4 * e + 10) * (2 * e) → SlotsFrom e s (s + (4 * e + 10) * (2 * e))
  slots_main h = let x = third in record { part = omega arith; main = omega arith; least = λ n a b. b }

-- the lower bound never falls where g is the same
pub least_mono : (e n m : ℕ) → n ≤ m → loglog m ≡ loglog n → special_least n e ≤ special_least m e
unfolding special_least
least_mono e n m l same =
    let b : n + (2 ^ (e + 1) - 1) ≤ m + (2 ^ (e + 1) - 1) = omega arith in
    let a = shr_mono (e + 1) b in
    omega arith

-- it is no more slots than there can be
pub least_small : (n e : ℕ) → 16 < n → n ≤ 4294967296 → special_least n e ≤ 4294967296
unfolding special_least
least_small n e a b =
    let x = ceil_floor n (2 ^ (e + 1)) (pow_pos (e + 1)) (omega arith) in
    let y = div-le_self (n - 1) (2 ^ (e + 1)) in
    let z = (loglog_facts n b).most in
    omega arith

pub length_at_lem : (n e lo g s : ℕ) → lo ≡ special_least n e → g ≡ loglog n → LengthFrom lo (2 * g) s → LengthFrom (special_least n e) (2 * loglog n) s
length_at_lem n e lo g s p q l = rw (p, q) at l

-- the jump: n is asked, s is the next length from its lower bound on, and t the first n whose upper bound reaches s
module _ (e n s t : ℕ) (length : LengthFrom (special_least n e) (2 * loglog n) s) (slots : SlotsFrom e s t) where
  pub jump : (m z : ℕ) → n ≤ m → loglog m ≡ loglog n → SpecialLength m e z → t ≤ m
  jump m z l same p =
      let f = length_facts m e z p in
      let a = least_mono e n m l same in
      let b : special_least n e ≤ z = omega (arith, p.from) in
      let d : 2 * loglog n ∣ z / 2 = rw same at p.fallback in
      let u = length.least z b d in
      let k = mul-le-mul_right (2 ^ (e + 2)) u in
      let i = f.part in
      let j = f.main in
      slots.least m (omega arith) (omega arith)

  module _ (end : ℕ) (alike : Alike n end) where
    pub next_of : (r : ℕ) → r ≡ max n (min (t - 1) end) + 1 → Next e n r
    next_of r h = record { s = s; t = t; end = end; is_length = length; is_slots = slots; is_end = alike; is = h }

    pub next_end : end < t → Next e n (end + 1)
    next_end h = let f = alike.from in next_of (end + 1) (omega arith)

    pub next_jump : t ≤ end → n < t → Next e n t
    next_jump h k = next_of t (omega arith)

    pub next_one : t ≤ end → t ≤ n → Next e n (n + 1)
    next_one h k = next_of (n + 1) (omega arith)

-- what the next says: it is above n, and between the two there is none
pub next_above : {e n r : ℕ} → Next e n r → n < r
next_above {e} {n} {r} x = let h = x.is in omega arith

pub next_bare : (e n r : ℕ) → Next e n r → Bare e (n + 1) r
next_bare e n r x = λ m z l u p.
    let h = x.is in
    let j = jump e n x.s x.t x.is_length x.is_slots m z (omega arith) (x.is_end.alike m (omega arith) (omega arith)) p in
    omega arith

pub none_by : (n e : ℕ) (special : Option ℕ) → is_some special ≡ false → FoundFor n e special → FoundFor n e None
none_by n e None t f = f
none_by n e (Some s) t f = let z : ◌≡◌ {A = ℕ} 0 1 = cc in absurd (omega arith)

-- the search
module _ (e start : ℕ) where
  pub bare_start : Bare e start start
  bare_start = λ m z l u p. omega arith

  pub bare_more : (n r : ℕ) → Bare e start n → FoundFor n e None → Next e n r → Bare e start r
  unfolding FoundFor
  bare_more n r b f x = λ m y l u p. go m y l u p (dec_le n m) (dec_le m n)
    where
      go : (m y : ℕ) → start ≤ m → m < r → SpecialLength m e y → Dec (n ≤ m) → Dec (m ≤ n) → ⊥
      go m y l u p (no h) k = b m y l (lt_of_not-le h) p
      go m y l u p (yes h) (yes k) = f y (subst (λ (i : ℕ). SpecialLength i e y) (le_antisymm k h) p)
      go m y l u p (yes h) (no k) = let i = lt_of_not-le k in next_bare e n r x m y (omega arith) u p

  module _ (last : ℕ) where
    pub first_found : (n s : ℕ) → 16 < n → start ≤ n → n ≤ last → Bare e start n → FoundFor n e (Some s) → FirstLayout e start last (Some n)
    unfolding FirstLayout FoundFor
    first_found n s o a b c f = record { from = a; to = b; special = (s, f); bare = c }

    -- the same where the code asks only whether there is a length
    pub first_by : (n : ℕ) (special : Option ℕ) → 16 < n → start ≤ n → n ≤ last → Bare e start n → is_some special ≡ true → FoundFor n e special
        → FirstLayout e start last (Some n)
    first_by n None o a b c t f = let z : ◌≡◌ {A = ℕ} 0 1 = cc in absurd (omega arith)
    first_by n (Some s) o a b c t f = first_found n s o a b c f

    pub first_none : (n : ℕ) → last < n → Bare e start n → FirstLayout e start last None
    unfolding FirstLayout
    first_none n l b = λ m z i j p. b m z i (omega arith) p
