-- The slip that looks right: "Checking an image by looking each member up: two members can each block the other's slot, and both are
-- found." Here such an image is shown to be disordered. Assumes nothing.
use Rattle.std.specs.Prelude.{Err, Some, None, Bool, true, false, List, [], ◌∷◌, ◌≡◌, refl, ℕ, ◌+◌, ◌<◌, get_or, set, replicate, eqb}
use Rattle.std.proofs.Common.{⊎_elim, ap, sym, ◌∙◌, arith, get_or-set_other}
use Rattle.std.proofs.lemmas.Bool.{eqb-false}
use Rattle.words.specs.BytesLaws.{get_d_zeros}
use Rattle.words.specs.declared.place.Place.{Place}
use Rattle.funnel.specs.declared.table.FunnelTable.{FunnelTable}
use Rattle.funnel.specs.declared.table.Search.TheVariants.{Vacant}
use Rattle.funnel.specs.Path.{Ending, slot_of}
use Rattle.funnel.specs.Search.{look, walk_of, search_of, table_path, find_of}
use Rattle.audit_calls.specs.declared.check.CheckRefusal.TheVariants as checked
use Rattle.audit.specs.Greedy.{First}
use Rattle.audit.specs.Greedy.{first_from, unplaced, ready}
use Rattle.audit_calls.specs.Check.{Lent, Ended, end_of, take_all, audit_of, check_of}
use Rattle.audit_calls.specs.CheckLaws.{check_audit}
use Rattle.audit.specs.FirstLaws.{first_none}
use Rattle.audit.specs.ReadyLaws.{ready_facts, unplaced_yes}
use Rattle.demand.specs.Made.{Clean, Occupied, Before}
use Rattle.demand.specs.MadeLaws.{occupied_below}
use Rattle.demand.specs.TakeLaws.{greedy_keeps}
use Rattle.demand.specs.EndLaws.{end, image_clean}

-- a walk that comes to a vacant slot b before a does not end vacant at a
walk_blocked : (words flags : List ℕ) (identity a b j : ℕ) (at : Place) → (a ≡ b → ⊥) → get_or flags b 0 ≡ 0 → slot_of at ≡ a → (places : List Place) (ending : Ending) (k : ℕ) → Before b a places
    → walk_of words flags identity places ending k ≡ Vacant j at → ⊥
unfolding walk_of
walk_blocked words flags identity a b j at d v s [] ending k h e = h
walk_blocked words flags identity a b j at d v s (p ∷ places) ending k h e =
    ⊎_elim (λ q. first (eqb (get_or flags (slot_of p) 0) 0) refl (eqb (get_or words (slot_of p) 0) identity) q e)
    (λ q. later (eqb (get_or flags (slot_of p) 0) 0) (eqb (get_or words (slot_of p) 0) identity) q.0 e (walk_blocked words flags identity a b j at d v s places ending (k + 1) q.1)) h
  where
    first : (x : Bool) → eqb (get_or flags (slot_of p) 0) 0 ≡ x → (y : Bool) → slot_of p ≡ b → look x y (k + 1) p (walk_of words flags identity places ending (k + 1)) ≡ Vacant j at → ⊥
    first true ex y q e = let m : p ≡ at = cc in d (sym s ∙ ap slot_of (sym m) ∙ q)
    first false ex y q e = eqb-false (get_or flags (slot_of p) 0) 0 ex (rw q v)

    later : (x y : Bool) → (slot_of p ≡ a → ⊥) → look x y (k + 1) p (walk_of words flags identity places ending (k + 1)) ≡ Vacant j at
        → (walk_of words flags identity places ending (k + 1) ≡ Vacant j at → ⊥) → ⊥
    later true y n e ih = let m : p ≡ at = cc in n (ap slot_of m ∙ s)
    later false true n e ih = let z : ◌≡◌ {A = ℕ} 0 1 = cc in omega arith
    later false false n e ih = ih e

find_blocked : (table : FunnelTable) (counts words flags : List ℕ) (identity a b j : ℕ) (at : Place) → (a ≡ b → ⊥) → get_or flags b 0 ≡ 0 → slot_of at ≡ a
    → Before b a (table_path table counts identity).places → find_of table counts words flags identity ≡ Vacant j at → ⊥
unfolding find_of search_of
find_blocked table counts words flags identity a b j at d v s h e = walk_blocked words flags identity a b j at d v s _ _ 0 h e

-- Two members, each on the other's way: the path of the one comes to the other's slot before its own, and the other way round. Though a
-- search may find both, the image, if it is not dirty, is disordered. There are such images: `samples/damaged-crossed.img` is one, which `examine` is run
-- on, and two such members stand in the script that `replay` is run on, with the searches that find both.
pub crossed : {table : FunnelTable} {counts words flags marks order : List ℕ} → Lent table counts words flags marks order → (a b : ℕ) → (a ≡ b → ⊥)
    → Occupied flags a → Occupied flags b
    → Before b a (table_path table counts (get_or words a 0)).places → Before a b (table_path table counts (get_or words b 0)).places
    → Clean words flags → (placed : ℕ) × (slot : ℕ) × ((check_of table counts words flags marks order).answer ≡ Err (checked.Disorder placed slot))
unfolding audit_of take_all end_of
crossed {table} {counts} {words} {flags} {marks} {order} lent a b d oa ob pa pb c =
    go (first_from (unplaced flags (end lent).marks) 0 table.n) refl
  where
    keep : (ms os : List ℕ) (k s : ℕ) → (get_or ms a 0 ≡ 0) × (get_or ms b 0 ≡ 0) → s < table.n → ready table counts words flags ms k s ≡ true → (get_or (set ms s 1) a 0 ≡ 0) × (get_or (set ms s 1) b 0 ≡ 0)
    keep ms os k s v h r =
        let f = ready_facts table counts words flags ms k s r in
        let not_a : a ≡ s → ⊥ = λ q. find_blocked table counts words ms (get_or words s 0) s b f.probes f.place (λ u. d (q ∙ u)) v.1 f.at (rw q at pa) f.found in
        let not-b : b ≡ s → ⊥ = λ q. find_blocked table counts words ms (get_or words s 0) s a f.probes f.place (λ u. d (sym u ∙ sym q)) v.0 f.at (rw q at pb) f.found in
        (get_or-set_other ms s a 1 0 not_a ∙ v.0, get_or-set_other ms s b 1 0 not-b ∙ v.1)

    left : get_or (end lent).marks a 0 ≡ 0
    left =
        (greedy_keeps table counts words flags table.n table.n (λ ms os k. (get_or ms a 0 ≡ 0) × (get_or ms b 0 ≡ 0)) keep (replicate table.n 0) order 0
        (get_d_zeros table.n a, get_d_zeros table.n b)
        ).0

    go : (r : First) → first_from (unplaced flags (end lent).marks) 0 table.n ≡ r
        → (placed : ℕ) × (slot : ℕ) × ((check_of table counts words flags marks order).answer ≡ Err (checked.Disorder placed slot))
    go (Some s) q =
        ((end lent).placed, s, ap (λ (x : Ended). x.answer) (check_audit table counts words flags marks order lent) ∙ rw (image_clean words flags table.n c, q))
    go None q =
        let u = unplaced_yes flags (end lent).marks a oa left in
        let w = occupied_below flags a oa in
        let n = first_none _ 0 table.n q a (omega arith) (omega (arith, lent.valid.flags_length)) in
        let z : ◌≡◌ {A = ℕ} 0 1 = cc in
        absurd (omega arith)
