-- Case J: distinct identities fill the table in which every level is one bucket, slot by slot. Assumes nothing.
use mathlib.Core.List.{List, [], ◌∷◌, ◌++◌, append_assoc, append-nil}
use Rattle.std.specs.Prelude.{◌≡◌, ℕ, zero, suc, ◌+◌, ◌-◌, ◌≤◌, ◌<◌, length, get_or, set, replicate, Ok, Err}
use Rattle.std.proofs.Math.Path.{refl, sym, ap}
use Rattle.std.proofs.Common.{◌∙◌, arith}
use Rattle.std.proofs.lemmas.List.{length-replicate, replicate-append-replicate, set_at}
use Rattle.std.proofs.Math.ListN.{length-append, get_or-append}
use Rattle.std.proofs.Math.Seq.{set-append_seam, get_or-append_seam}
use Rattle.words.specs.BytesLaws.{get_d_zeros}
use Rattle.funnel.specs.declared.table.FunnelTable.{FunnelTable}
use Rattle.funnel.specs.declared.table.InsertRefusal.TheVariants as insertion
use Rattle.funnel.specs.declared.table.Search.TheVariants as search
use Rattle.funnel.specs.Valid.{Valid}
use Rattle.funnel.specs.Fresh.{State}
use Rattle.funnel.specs.Insert.{Insertion, reached, done, insert_of}
use Rattle.funnel.proofs.InsertLaws.{insert_inserted, insert_spent_vacant, insert_duplicate}
use Rattle.geometry.specs.FunnelGateLaws.{plan_passes}
use Rattle.funnel.specs.Calls.{Opens, insertions}
use Rattle.funnel.specs.CallLaws.{limits_pass, lengths_pass, open_gate_later, valid_gate, insert_passed}
use Rattle.funnel.specs.Search.{find_of}
use Rattle.funnel.specs.SearchLaws.{Passes}
use Rattle.funnel.specs.OneBucket.{counts, table}
use Rattle.cases.specs.OneBucket.{zeros, ordinary, called, state_after, calls_of, opened, Distinct, Other, held, Fills}
use Rattle.cases.specs.OneBucketLaws.{is_plan_lem, find_vacant, find_hit}

-- ---- set flags, and vacant ones after them

flag_set : (k m j : ℕ) → j < k → get_or (replicate k 1 ++ zeros m) j 0 ≡ 0 → ⊥
flag_set zero m j h e = omega arith
flag_set (suc k) m zero h e = omega arith
flag_set (suc k) m (suc j) h e = flag_set k m j (omega arith) e

flag_vacant : (k m : ℕ) → get_or (replicate k 1 ++ zeros m) k 0 ≡ 0
flag_vacant zero m = get_d_zeros m 0
flag_vacant (suc k) m = flag_vacant k m

-- one slot more
words_more : (identities : List ℕ) (identity m : ℕ) → set (identities ++ zeros (suc m)) (length identities) identity ≡ (identities ++ (identity ∷ [])) ++ zeros m
words_more identities identity m = set-append_seam identities 0 (zeros m) identity ∙ sym (append_assoc identities (identity ∷ []) (zeros m))

flags_more : (k m : ℕ) → set (replicate k 1 ++ zeros (suc m)) k 1 ≡ replicate (k + 1) 1 ++ zeros m
flags_more k m = set_at (replicate k 1) 0 (zeros m) 1 k (length-replicate {A = ℕ} k 1) ∙ sym (rw (← replicate-append-replicate {A = ℕ} k 1 1) (append_assoc (replicate k 1) (1 ∷ []) (zeros m)))

-- ---- the calls

module _ (seed cap : ℕ) (least : 1 ≤ cap) (most : cap ≤ 256) where
  -- the opening
  pub opens : (old words flags : List ℕ) → length words ≡ 144 → length flags ≡ 144
      → Opens 144 3 seed cap old words flags (Ok (table seed cap 0)) counts (zeros 144) (zeros 144)
  unfolding Opens
  opens old words flags w f =
      let gate =
      open_gate_later 144 3 cap (length words) (length flags) _ (Ok tt) (Ok tt) (sym (plan_passes is_plan_lem)) refl (lengths_pass 144 (length words) (length flags) (Ok tt) w f)
      (limits_pass cap (Ok tt) (λ z. omega arith) most) in
      (sym gate, is_plan_lem, refl, refl, refl)

  module _ (identities : List ℕ) (few : length identities ≤ 126) where
    abbrev now : State
    now = held seed cap identities

    valid : Valid now.table counts now.words now.flags
    valid =
        record {
          planned = is_plan_lem;
          cap_least = least;
          cap_most = most;
          words_length = simp (length-append, length-replicate) (omega arith);
          flags_length = simp (length-append, length-replicate) (omega arith);
          counted = omega arith;
        }

    -- past the gate the call is the insertion
    answers : (identity : ℕ) (answer : Insertion) (t : FunnelTable) (words flags : List ℕ) → done answer t words flags ≡ insert_of now.table counts now.words now.flags identity
        → called now identity ≡ insertions (Ok (record { answer = answer; table = t })) words flags
    answers identity answer t words flags e =
        sym (insert_passed now.table counts now.words now.flags _ (sym (valid_gate valid)) identity (record { answer = answer; table = t }) words flags refl e)

    -- an identity that is not among the first k passes their slots
    passes : (identity k : ℕ) → k ≤ length identities → ((j : ℕ) → j < k → get_or identities j 0 ≡ identity → ⊥) → (j : ℕ) → j < k → Passes now.words now.flags identity (ordinary j)
    passes identity k h apart j l =
        record {
          occupied = flag_set (length identities) (144 - length identities) j (omega arith);
          other = λ e. apart j l (sym (get_or-append identities (zeros (144 - length identities)) 0 j (omega arith)) ∙ e);
        }

    -- another identity's search ends at the first vacant slot
    finds : (identity : ℕ) → Other identities identity → find_of now.table counts now.words now.flags identity ≡ search.Vacant (length identities + 1) (ordinary (length identities))
    finds identity other =
        find_vacant seed cap identity least (length identities) now.words now.flags (length identities) (omega arith) (passes identity (length identities) (omega arith) other.none)
        (flag_vacant (length identities) (144 - length identities))

    -- another identity, with room: the next slot
    inserts : (identity : ℕ) → Other identities identity → length identities < 126
        → called now identity
        ≡ insertions (Ok (record { answer = Ok (reached (length identities + 1) (ordinary (length identities))); table = table seed cap (length identities + 1) }))
        (set now.words (length identities) identity) (set now.flags (length identities) 1)
    inserts identity other room =
        answers identity _ _ _ _
        (insert_inserted now.table (length identities) counts now.words now.flags identity room (length identities + 1) (ordinary (length identities)) (length identities)
        (finds identity other) refl)

    -- and without
    exhausts : (identity : ℕ) → Other identities identity → length identities ≡ 126
        → called now identity ≡ insertions (Ok (record { answer = Err (insertion.Exhausted (length identities + 1)); table = now.table })) now.words now.flags
    exhausts identity other full =
        answers identity _ _ _ _
        (insert_spent_vacant now.table (length identities) counts now.words now.flags identity (omega arith) (length identities + 1) (ordinary (length identities))
        (finds identity other))

    -- a member
    repeats : Distinct identities → (i : ℕ) → i < length identities
        → called now (get_or identities i 0) ≡ insertions (Ok (record { answer = Err (insertion.Duplicate (i + 1) (ordinary i)); table = now.table })) now.words now.flags
    repeats distinct i within =
        answers (get_or identities i 0) _ _ _ _
        (insert_duplicate now.table (length identities) counts now.words now.flags (get_or identities i 0) (i + 1) (ordinary i)
        (find_hit seed cap (get_or identities i 0) least (length identities) now.words now.flags i (omega arith)
        (passes (get_or identities i 0) i (omega arith) (λ j l. distinct.apart j i l within))
        (flag_set (length identities) (144 - length identities) i within) (get_or-append identities (zeros (144 - length identities)) 0 i within)))

  -- one more is held, in turn
  holds_next : (identities : List ℕ) (identity : ℕ) → Other identities identity → length identities < 126
      → state_after (held seed cap identities).table (called (held seed cap identities) identity) ≡ held seed cap (identities ++ (identity ∷ []))
  holds_next identities identity other room =
      let l : length (identities ++ (identity ∷ [])) ≡ length identities + 1 = length-append identities (identity ∷ []) in
      let m : 144 - length identities ≡ suc (144 - (length identities + 1)) = omega arith in
      rw (inserts identities (omega arith) identity other room, l, m, words_more identities identity (144 - (length identities + 1)), flags_more (length identities) (144 - (length identities + 1)))

  -- and so are all of a list
  holds_all : (before after : List ℕ) → Distinct (before ++ after) → length (before ++ after) ≤ 126 → calls_of (held seed cap before) after ≡ held seed cap (before ++ after)
  unfolding calls_of
  holds_all before [] distinct few = ap (held seed cap) (sym (append-nil before))
  holds_all before (identity ∷ after) distinct few =
      let s : (before ++ (identity ∷ [])) ++ after ≡ before ++ (identity ∷ after) = append_assoc before (identity ∷ []) after in
      let l = length-append before (identity ∷ after) in
      let other : Other before identity =
      record { none = λ i h e. distinct.apart i (length before) h (omega arith) (get_or-append before (identity ∷ after) 0 i h ∙ e ∙ sym (get_or-append_seam before identity after 0)) } in
      rw (holds_next before identity other (omega arith)) (holds_all (before ++ (identity ∷ [])) after (rw s distinct) (rw s few) ∙ ap (held seed cap) s)

  pub fills : (identities : List ℕ) → Distinct identities → length identities ≤ 126 → Fills seed cap identities
  fills identities distinct few =
      let h : calls_of (opened seed cap) identities ≡ held seed cap identities = holds_all [] identities distinct few in
      record {
        holds = h;
        next = λ identity other room. rw (h, inserts identities few identity other room);
        spent = λ identity other full. rw (h, exhausts identities few identity other full, full);
        member = λ i within. rw (h, repeats identities few distinct i within);
      }
