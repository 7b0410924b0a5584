-- Laws of lines in parts. Assumes nothing.
use Rattle.std.specs.Prelude.{◌≡◌, ℕ, zero, suc, ◌+◌, ◌<◌, ◌≤◌, Bool, true, false, List, [], ◌∷◌, length, take, drop, ◌==◌, ◌≢◌, slice_index, slice_set, refl}
use Rattle.std.proofs.Common.{sym, ap, ◌∙◌, add-one, arith, length-take, drop-cons, take-suc-set}
use borrow.Author.Tests.{eq-eqb, ne_eqb, lt-ltb, le-ltb}
use Rattle.words.specs.Pick.{pick}
use Rattle.text.specs.Line.{hold, unfinished, finished, line_of, held_of, Takes, Leaves}

-- ---- a byte more

-- where there is room
pub hold_more : (line : List ℕ) (len b : ℕ) → len < length line → take (len + 1) (slice_set line len b) ≡ hold (length line) (take len line) b
unfolding hold
hold_more line len b h =
    let e : length (take len line) < length line = simp length-take (omega arith) in
    rw (lt-ltb (length (take len line)) (length line) e, add-one) (take-suc-set line len b h)

-- and where there is none
pub hold_full : (line : List ℕ) (len b : ℕ) → length line ≤ len → take len line ≡ hold (length line) (take len line) b
unfolding hold
hold_full line len b h =
    let e : length line ≤ length (take len line) = simp length-take (omega arith) in
    rw (le-ltb (length (take len line)) (length line) e)

-- ---- a place of the part

module _ (room : ℕ) (held part : List ℕ) (i b : ℕ) (l : i < length part) (is : b ≡ slice_index part i) where
  pub line_ends : b ≡ 10 → finished held (drop (i + 1) part) ≡ line_of room held (drop i part)
  unfolding line_of
  line_ends e = rw (drop-cons part i 0, ← is, eq-eqb b 10 e, add-one)

  pub line_more : (b ≢ 10) → line_of room (hold room held b) (drop (i + 1) part) ≡ line_of room held (drop i part)
  unfolding line_of
  line_more e = rw (drop-cons part i 0, ← is, ne_eqb b 10 e, add-one)

-- ---- a whole part, line by line

pub held_unfinished : (room : ℕ) (held part h : List ℕ) → line_of room held part ≡ unfinished h → held_of room held part ≡ h
unfolding line_of held_of
held_unfinished room held [] h e = cc
held_unfinished room held (b ∷ part) h e = go (b == 10) e (held_unfinished room (hold room held b) part h)
  where
    go : (x : Bool) → pick x (finished held part) (line_of room (hold room held b) part) ≡ unfinished h → (line_of room (hold room held b) part ≡ unfinished h → held_of room (hold room held b) part ≡ h)
        → held_of room (pick x [] (hold room held b)) part ≡ h
    go true g on = let z : ◌≡◌ {A = ℕ} 0 1 = cc in absurd (omega arith)
    go false g on = on g

pub held_finished : (room : ℕ) (held part h rest : List ℕ) → line_of room held part ≡ finished h rest → held_of room held part ≡ held_of room [] rest
unfolding line_of held_of
held_finished room held [] h rest e = let z : ◌≡◌ {A = ℕ} 0 1 = cc in absurd (omega arith)
held_finished room held (b ∷ part) h rest e = go (b == 10) e (held_finished room (hold room held b) part h rest)
  where
    go : (x : Bool) → pick x (finished held part) (line_of room (hold room held b) part) ≡ finished h rest
        → (line_of room (hold room held b) part ≡ finished h rest → held_of room (hold room held b) part ≡ held_of room [] rest)
        → held_of room (pick x [] (hold room held b)) part ≡ held_of room [] rest
    go true g on = let r : part ≡ rest = cc in ap (held_of room []) r
    go false g on = on g

-- ---- a loop over the bytes of a part: what is left gives the line that the whole gives

drop_past : (xs : List ℕ) (i : ℕ) → length xs ≤ i → drop i xs ≡ []
drop_past [] zero h = refl
drop_past [] (suc i) h = refl
drop_past (x ∷ xs) zero h = absurd (omega arith)
drop_past (x ∷ xs) (suc i) h = drop_past xs i (omega arith)

pub record Going (part : List ℕ) (from : ℕ) (before : List ℕ) (so_far : ℕ) (line : List ℕ) (len i : ℕ) : Type 0 where
  pub rest : line_of (length before) (take len line) (drop i part) ≡ line_of (length before) (take so_far before) (drop from part)
  pub room : length line ≡ length before
  pub on : from ≤ i

pub going_start : (part : List ℕ) (from : ℕ) (before : List ℕ) (so_far : ℕ) → Going part from before so_far before so_far from
going_start part from before so_far = record { rest = refl; room = refl; on = omega arith }

module _ (part : List ℕ) (from : ℕ) (before : List ℕ) (so_far : ℕ) (line : List ℕ) (len i : ℕ) (g : Going part from before so_far line len i) where
  pub going_end : length part ≤ i → Takes part from before so_far line len i false
  unfolding line_of
  going_end h =
      let d = drop_past part i h in
      let e = g.rest in
      record { says = rw d at e; room = g.room; onward = λ l. omega (arith, g.on); whole = λ q. d }

  -- the same by the part's end
  pub going_over : length part ≤ i → Takes part from before so_far line len (length part) false
  unfolding line_of
  going_over h =
      let d = drop_past part i h in
      let e = g.rest in
      record {
        says = rw d at e;
        room = g.room;
        onward = λ l. l;
        whole = λ q. drop_past part (length part) (omega arith);
      }

  module _ (b : ℕ) (l : i < length part) (is : b ≡ slice_index part i) where
    pub going_ends : b ≡ 10 → Takes part from before so_far line len (i + 1) true
    going_ends e =
        record {
          says = line_ends (length before) (take len line) part i b l is e ∙ g.rest;
          room = g.room;
          onward = λ k. omega (arith, g.on);
          whole = λ q. let z : ◌≡◌ {A = ℕ} 0 1 = cc in absurd (omega arith);
        }

    pub going_more : (b ≢ 10) → (line' : List ℕ) (len' : ℕ) → take len' line' ≡ hold (length line) (take len line) b → length line' ≡ length line
        → Going part from before so_far line' len' (i + 1)
    going_more e line' len' t r =
        let h : take len' line' ≡ hold (length before) (take len line) b = rw (← g.room) t in
        record {
          rest = rw h (line_more (length before) (take len line) part i b l is e ∙ g.rest);
          room = r ∙ g.room;
          on = omega (arith, g.on);
        }

-- ---- a loop over the lines of a part: what is left leaves what the whole leaves

pub record Held (part before : List ℕ) (size : ℕ) (line : List ℕ) (len from : ℕ) : Type 0 where
  pub rest : held_of (length before) (take len line) (drop from part) ≡ held_of (length before) (take size before) part
  pub room : length line ≡ length before

pub held_start : (part before : List ℕ) (size : ℕ) → Held part before size before size 0
held_start part before size = record { rest = refl; room = refl }

module _ (part before : List ℕ) (size : ℕ) (line : List ℕ) (len from : ℕ) (g : Held part before size line len from) where
  pub held_end : length part ≤ from → Leaves part before size line len
  unfolding held_of
  held_end h =
      let d = drop_past part from h in
      let e = g.rest in
      record { holds = rw d at e }

  pub held_more : (line' : List ℕ) (size' next : ℕ) (end : Bool) → Takes part from line len line' size' next end → (len' : ℕ) → len' ≡ pick end 0 size' → Held part before size line' len' next
  unfolding held_of
  held_more line' size' next true t len' e =
      let q = held_finished (length line) (take len line) (drop from part) (take size' line') (drop next part) (sym t.says) in
      let p : held_of (length before) (take len line) (drop from part) ≡ held_of (length before) [] (drop next part) = rw g.room at q in
      record { rest = rw e (sym p ∙ g.rest); room = t.room ∙ g.room }
  held_more line' size' next false t len' e =
      let q = held_unfinished (length line) (take len line) (drop from part) (take size' line') (sym t.says) in
      let p : held_of (length before) (take len line) (drop from part) ≡ take size' line' = rw g.room at q in
      record { rest = rw (e, t.whole refl) (sym p ∙ g.rest); room = t.room ∙ g.room }
