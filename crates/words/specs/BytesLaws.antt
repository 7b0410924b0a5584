-- Laws of numbers as bytes.
-- Assumes nothing.
use Rattle.std.specs.Prelude.{◌⊎◌, ◌≡◌, refl, List, [], ◌∷◌, ◌++◌, ℕ, zero, suc, ◌+◌, ◌-◌, ◌*◌, ◌/◌, ◌%◌, ◌^◌, ◌<◌, ◌≤◌, length, get_or, take, drop, set, replicate}
use Rattle.std.proofs.lemmas.List.{drop-drop}
use Rattle.std.proofs.Common.{inl, inr, ⊎_elim, ap, sym, ◌∙◌, append_assoc, arith, pow-suc, length-append, lit<, drop-cons, get_or-set_other, length-take-le}
use Rattle.std.proofs.Math.Nat.{div-div-eq-div-mul, mod-one, one-le-pow}
use Rattle.std.proofs.Math.Arith.{mod-mul}
use Rattle.std.proofs.lemmas.List.Edits.{sets, sets-eq}
use Rattle.std.proofs.Math.Seq.{get_or-append_seam, append_snoc}
use borrow.Rule.Slice.PartMut.{put_mid}
use Rattle.words.specs.Bytes.{bytes_of, num_at, Bytes}

-- stores of a list and then of another are stores of both
pub sets_append : (l : List ℕ) (i : ℕ) (a b : List ℕ) → sets l i (a ++ b) ≡ sets (sets l i a) (i + length a) b
sets_append l i [] b = let e : i + 0 ≡ i = omega arith in rw e
sets_append l i (x ∷ a) b =
    let e : i + suc (length a) ≡ suc i + length a = omega arith in
    rw e (sets_append (set l i x) (suc i) a b)

pub length_bytes : (k x : ℕ) → length (bytes_of k x) ≡ k
unfolding bytes_of
length_bytes zero x = refl
length_bytes (suc k) x = ap suc (length_bytes k (x / 256))

pub bytes_2 : (x : ℕ) → bytes_of 2 x ≡ x % 256 ∷ x / 256 % 256 ∷ []
unfolding bytes_of
bytes_2 x = refl

pub bytes_4 : (x : ℕ) → bytes_of 4 x ≡ bytes_of 2 x ++ bytes_of 2 (x / 65536)
unfolding bytes_of
bytes_4 x = let e : x / 256 / 256 ≡ x / 65536 = div-div-eq-div-mul x 256 256 in rw e

pub bytes_8 : (x : ℕ) → bytes_of 8 x ≡ bytes_of 4 x ++ bytes_of 4 (x / 4294967296)
unfolding bytes_of
bytes_8 x = let e : x / 256 / 256 / 256 / 256 ≡ x / 4294967296 = omega arith in rw e

-- the bytes of a word, each by a division of its own
pub low_2 : (x : ℕ) → bytes_of 2 x ≡ x % 65536 % 256 ∷ x % 65536 / 256 % 256 ∷ []
low_2 x =
    let a : x % 65536 % 256 ≡ x % 256 = omega arith in
    let b : x % 65536 / 256 % 256 ≡ x / 256 % 256 = omega arith in
    rw (bytes_2, a, b)

pub low_4 : (x : ℕ) → bytes_of 4 x ≡ x % 4294967296 % 256 ∷ x % 4294967296 / 256 % 256 ∷ x % 4294967296 / 65536 % 256 ∷ x % 4294967296 / 16777216 % 256 ∷ []
unfolding bytes_of
low_4 x =
    let a : x % 4294967296 % 256 ≡ x % 256 = omega arith in
    let b : x % 4294967296 / 256 % 256 ≡ x / 256 % 256 = omega arith in
    let c : x % 4294967296 / 65536 % 256 ≡ x / 256 / 256 % 256 = omega arith in
    let d : x % 4294967296 / 16777216 % 256 ≡ x / 256 / 256 / 256 % 256 = omega arith in
    rw (a, b, c, d)

pub low_8 : (x : ℕ) → bytes_of 8 x ≡ x % 256 ∷ x / 256 % 256 ∷ x / 65536 % 256 ∷ x / 16777216 % 256 ∷ x / 4294967296 % 256 ∷ x / 1099511627776 % 256 ∷ x / 281474976710656 % 256 ∷ x / 72057594037927936 % 256 ∷ []
unfolding bytes_of
low_8 x =
    let b : x / 256 / 256 ≡ x / 65536 = omega arith in
    let c : x / 65536 / 256 ≡ x / 16777216 = omega arith in
    let d : x / 16777216 / 256 ≡ x / 4294967296 = omega arith in
    let e : x / 4294967296 / 256 ≡ x / 1099511627776 = omega arith in
    let f : x / 1099511627776 / 256 ≡ x / 281474976710656 = omega arith in
    let g : x / 281474976710656 / 256 ≡ x / 72057594037927936 = omega arith in
    rw (b, c, d, e, f, g)

-- a part of a list that is overwritten by as many
pub part_put : (l s : List ℕ) (at end : ℕ) → end ≡ at + length s → end ≤ length l → put_mid at (end - at) l s ≡ sets l at s
part_put l s at end e h =
    let k : end - at ≡ length s = omega arith in
    rw (sets-eq s l at (omega arith), k, drop-drop, append_assoc)

pub num_2 : (b : List ℕ) (at : ℕ) → num_at b at 2 ≡ get_or b at 0 + 256 * get_or b (at + 1) 0
unfolding num_at
num_2 b at = let e : at + 1 ≡ suc at = omega arith in rw e (omega arith)

pub num_4 : (b : List ℕ) (at : ℕ) → num_at b at 4 ≡ num_at b at 2 + 65536 * num_at b (at + 2) 2
unfolding num_at
num_4 b at = let e : at + 2 ≡ suc (suc at) = omega arith in rw e (omega arith)

pub num_8 : (b : List ℕ) (at : ℕ) → num_at b at 8 ≡ num_at b at 4 + 4294967296 * num_at b (at + 4) 4
unfolding num_at
num_8 b at = let e : at + 4 ≡ suc (suc (suc (suc at))) = omega arith in rw e (omega arith)

-- the same by the bytes themselves
pub digits_2 : (b : List ℕ) (at : ℕ) → num_at b at 2 ≡ get_or b at 0 + get_or b (at + 1) 0 * 256
digits_2 b at = rw num_2 (omega arith)

pub digits_4 : (b : List ℕ) (at : ℕ) → num_at b at 4 ≡ get_or b at 0 + get_or b (at + 1) 0 * 256 + get_or b (at + 2) 0 * 65536 + get_or b (at + 3) 0 * 16777216
digits_4 b at =
    let e : at + 2 + 1 ≡ at + 3 = omega arith in
    rw (num_4, num_2, num_2, e) (omega arith)

pub digits_8 : (b : List ℕ) (at : ℕ) → num_at b at 8 ≡ get_or b at 0 + get_or b (at + 1) 0 * 256 + get_or b (at + 2) 0 * 65536 + get_or b (at + 3) 0 * 16777216 + get_or b (at + 4) 0 * 4294967296 + get_or b (at + 5) 0 * 1099511627776 + get_or b (at + 6) 0 * 281474976710656 + get_or b (at + 7) 0 * 72057594037927936
digits_8 b at =
    let e : at + 4 + 1 ≡ at + 5 = omega arith in
    let f : at + 4 + 2 ≡ at + 6 = omega arith in
    let g : at + 4 + 3 ≡ at + 7 = omega arith in
    rw (num_8, digits_4, digits_4, e, f, g) (omega arith)

-- what was written is read back
pub num_bytes : (p : List ℕ) (k x : ℕ) (r : List ℕ) → num_at (p ++ (bytes_of k x ++ r)) (length p) k ≡ x % 256 ^ k
unfolding bytes_of num_at
num_bytes p zero x r = sym (mod-one x)
num_bytes p (suc k) x r =
    let q : 0 < 256 ^ k = one-le-pow k 256 (lit< tt) in
    let i : num_at ((p ++ (x % 256 ∷ [])) ++ (bytes_of k (x / 256) ++ r)) (length (p ++ (x % 256 ∷ []))) k ≡ x / 256 % 256 ^ k = num_bytes (p ++ (x % 256 ∷ [])) k (x / 256) r in
    let l : length (p ++ (x % 256 ∷ [])) ≡ suc (length p) = simp length-append (omega arith) in
    let j : num_at (p ++ (x % 256 ∷ (bytes_of k (x / 256) ++ r))) (suc (length p)) k ≡ x / 256 % 256 ^ k = rw (l, append_snoc) at i in
    rw (get_or-append_seam, j, pow-suc, mod-mul x q (lit< tt)) (omega arith)

-- what was read is what is written
pub bytes_num : (b : List ℕ) → Bytes b → (k at : ℕ) → at + k ≤ length b → bytes_of k (num_at b at k) ≡ take k (drop at b)
unfolding bytes_of num_at
bytes_num b h zero at f = refl
bytes_num b h (suc k) at f =
    let l : at < length b = omega arith in
    let g : get_or b at 0 < 256 = h.byte at in
    let m : (get_or b at 0 + 256 * num_at b (suc at) k) % 256 ≡ get_or b at 0 = omega arith in
    let d : (get_or b at 0 + 256 * num_at b (suc at) k) / 256 ≡ num_at b (suc at) k = omega arith in
    rw (drop-cons b at 0 l, m, d) (ap (λ (t : List ℕ). get_or b at 0 ∷ t) (bytes_num b h k (suc at) (omega arith)))

-- ---- numbers in bytes of which some are stored anew

-- a store outside a number's bytes leaves the number
pub num_set : (b : List ℕ) (j x at k : ℕ) → (j < at) ⊎ (at + k ≤ j) → num_at (set b j x) at k ≡ num_at b at k
unfolding num_at
num_set b j x at zero h = refl
num_set b j x at (suc k) h =
    let n : at ≡ j → ⊥ = λ e. ⊎_elim (λ l. omega arith) (λ l. omega arith) h in
    let m : (j < suc at) ⊎ (suc at + k ≤ j) = ⊎_elim (λ l. inl (omega arith)) (λ l. inr (omega arith)) h in
    rw (get_or-set_other b j at x 0 n, num_set b j x (suc at) k m)

pub num_sets : (vs b : List ℕ) (j at k : ℕ) → (j + length vs ≤ at) ⊎ (at + k ≤ j) → num_at (sets b j vs) at k ≡ num_at b at k
num_sets [] b j at k h = refl
num_sets (x ∷ vs) b j at k h =
    let m : (suc j + length vs ≤ at) ⊎ (at + k ≤ suc j) = ⊎_elim (λ l. inl (omega arith)) (λ l. inr (omega arith)) h in
    let n : (j < at) ⊎ (at + k ≤ j) = ⊎_elim (λ l. inl (omega arith)) (λ l. inr l) h in
    num_sets vs (set b j x) (suc j) at k m ∙ num_set b j x at k n

-- a number that was stored is read back
pub num_stored : (b : List ℕ) (at k x : ℕ) → at + k ≤ length b → num_at (sets b at (bytes_of k x)) at k ≡ x % 256 ^ k
num_stored b at k x h =
    let l : length (bytes_of k x) ≡ k = length_bytes k x in
    let t : length (take at b) ≡ at = length-take-le at b (omega arith) in
    let e : sets b at (bytes_of k x) ≡ take at b ++ (bytes_of k x ++ drop (at + k) b) = sets-eq (bytes_of k x) b at (rw l h) ∙ rw (l, append_assoc) in
    let n : num_at (take at b ++ (bytes_of k x ++ drop (at + k) b)) (length (take at b)) k ≡ x % 256 ^ k = num_bytes (take at b) k x (drop (at + k) b) in
    rw e (rw t at n)

-- the same number in the same place has the same bytes
pub num_byte : (a b : List ℕ) → Bytes a → Bytes b → (at k : ℕ) → num_at a at k ≡ num_at b at k → (j : ℕ) → j < k → get_or a (at + j) 0 ≡ get_or b (at + j) 0
unfolding num_at
num_byte a b f g at zero e j h = absurd (omega arith)
num_byte a b f g at (suc k) e zero h =
    let x = f.byte at in
    let y = g.byte at in
    let z : at + 0 ≡ at = omega arith in
    let w : get_or a at 0 ≡ get_or b at 0 = omega arith in
    rw z w
num_byte a b f g at (suc k) e (suc j) h =
    let x = f.byte at in
    let y = g.byte at in
    let m : num_at a (suc at) k ≡ num_at b (suc at) k = omega arith in
    let z : at + suc j ≡ suc at + j = omega arith in
    rw z (num_byte a b f g (suc at) k m j (omega arith))

-- zeros make zero
pub get_d_zeros : (n i : ℕ) → get_or (replicate {A = ℕ} n 0) i 0 ≡ 0
get_d_zeros zero i = refl
get_d_zeros (suc n) zero = refl
get_d_zeros (suc n) (suc i) = get_d_zeros n i

pub num_zeros : (n at k : ℕ) → num_at (replicate n 0) at k ≡ 0
unfolding num_at
num_zeros n at zero = refl
num_zeros n at (suc k) = rw (get_d_zeros n at, num_zeros n (suc at) k)
