-- What each public call on a funnel table reports, in 01's words: its refusals by name and in their order, then its values. Assumes nothing.
use Rattle.std.specs.Prelude.{Bool, true, false, not, List, [], ◌∷◌, ◌≡◌, refl, ℕ, eqb, ltb, length, Ok, Err}
use Rattle.std.proofs.Common.{ap, sym, ◌∙◌}
use Rattle.refusal.specs.Table.{name_of, answered, refused}
use Rattle.refusal.specs.declared.Gate.{Gate}
use Rattle.refusal.specs.declared.Gate.TheVariants as gate
use Rattle.refusal.specs.declared.Name.TheVariants as name
use Rattle.refusal.specs.declared.RangeRefusal.{RangeRefusal}
use Rattle.words.specs.Pick.{pick}
use Rattle.words.specs.declared.place.Place.{Place}
use Rattle.geometry.specs.Config.{Gated, refuse_if, config_then, gated_report}
use Rattle.geometry.specs.FunnelGate.{has_layout, funnel_gate, is_plan}
use Rattle.funnel.specs.declared.table.FunnelTable.{FunnelTable}
use Rattle.funnel.specs.declared.table.Search.TheVariants as search
use Rattle.funnel.specs.declared.table.InsertRefusal.TheVariants as insertion
use Rattle.funnel.specs.declared.table.PlaceRefusal.TheVariants as placement
use Rattle.funnel.specs.Ranked.{ranked, lengths}
use Rattle.funnel.specs.Search.{find_of}
use Rattle.funnel.specs.Insert.{reached, insert_of, place_all_of}
use Rattle.funnel.specs.Calls.{OpenAnswer, gate_then, limits_then, lengths_then, table_gate, open_gate, place_gate, Opens, search_answer_of}
use Rattle.funnel.specs.Calls.{insert_answer_of, place_answer_of}
use Rattle.funnel.specs.Calls.{place_values, open_report, searched_report, inserted_report, placed_report}

-- ---- the gates: "Order: 1 to 7 by number"

ranked_report : (n e cap : ℕ) (later : Gated) → gated_report (gate_then (funnel_gate n e) (limits_then cap later)) ≡ ranked n e cap (gated_report later)
unfolding funnel_gate config_then limits_then name_of
ranked_report n e cap later = go (ltb n 2) (eqb e 0) (ltb 4294967296 n) (ltb e 3) (has_layout n e) (eqb cap 0) (ltb 256 cap)
  where
    go : (small zero large low laid none many : Bool)
        → gated_report (gate_then
        (refuse_if small gate.N (refuse_if zero gate.ZeroExp (refuse_if large gate.Size
        (refuse_if low gate.Exponent (refuse_if (not laid) gate.Layout (Ok tt))))))
        (refuse_if none gate.Limits (refuse_if many gate.Limits later)))
        ≡ pick small (refused name.N []) (pick zero (refused name.ZeroExp []) (pick large (refused name.Size [])
        (pick low (refused name.Exponent []) (pick (not laid) (refused name.Layout [])
        (pick none (refused name.Limits []) (pick many (refused name.Limits []) (gated_report later)))))))
    go true zero large low laid none many = refl
    go false true large low laid none many = refl
    go false false true low laid none many = refl
    go false false false true laid none many = refl
    go false false false false false none many = refl
    go false false false false true true many = refl
    go false false false false true false true = refl
    go false false false false true false false = refl

lengths_report : (n words flags : ℕ) (later : Gated) → gated_report (lengths_then n words flags later) ≡ lengths n words flags (gated_report later)
unfolding lengths_then name_of
lengths_report n words flags later = go (eqb words n) (eqb flags n)
  where
    go : (w f : Bool) → gated_report (refuse_if (not w) gate.State (refuse_if (not f) gate.State later))
        ≡ pick (not w) (refused name.State []) (pick (not f) (refused name.State []) (gated_report later))
    go true true = refl
    go true false = refl
    go false f = refl

-- the order of an opening's tests
pub open_gate_report : (n e cap words flags : ℕ) → gated_report (open_gate n e cap words flags) ≡ ranked n e cap (lengths n words flags (answered []))
unfolding open_gate
open_gate_report n e cap words flags =
    ranked_report n e cap (lengths_then n words flags (Ok tt)) ∙ ap (ranked n e cap) (lengths_report n words flags (Ok tt))

-- the order of the tests of a table: behind the buffers "count above n; plan not that of n and e"
pub table_gate_report : (t : FunnelTable) (counts : List ℕ) (words flags : ℕ) → gated_report (table_gate t counts words flags)
    ≡ ranked t.n t.e t.word_cap (lengths t.n words flags
    (pick (ltb t.n t.count) (refused name.State []) (pick (not (is_plan t.n t.e t.plan counts)) (refused name.State []) (answered []))))
unfolding table_gate name_of
table_gate_report t counts words flags =
    ranked_report t.n t.e t.word_cap (lengths_then t.n words flags last)
    ∙ ap (ranked t.n t.e t.word_cap)
    (lengths_report t.n words flags last ∙ ap (lengths t.n words flags) (go (ltb t.n t.count) (is_plan t.n t.e t.plan counts)))
  where
    last : Gated
    last = refuse_if (ltb t.n t.count) gate.State (refuse_if (not (is_plan t.n t.e t.plan counts)) gate.State (Ok tt))

    go : (above right : Bool) → gated_report (refuse_if above gate.State (refuse_if (not right) gate.State (Ok tt)))
        ≡ pick above (refused name.State []) (pick (not right) (refused name.State []) (answered []))
    go true right = refl
    go false true = refl
    go false false = refl

-- ---- the answers: what passes its gate reports its values, what does not reports the gate's refusal

pub open_report_lem : (n e seed cap : ℕ) (counts words flags : List ℕ) (answer : OpenAnswer) (counts' words' flags' : List ℕ)
    → Opens n e seed cap counts words flags answer counts' words' flags' → open_report answer ≡ gated_report (open_gate n e cap (length words) (length flags))
unfolding Opens
open_report_lem n e seed cap counts words flags (Err g) counts' words' flags' opens = sym (ap gated_report opens.0)
open_report_lem n e seed cap counts words flags (Ok t) counts' words' flags' opens = sym (ap gated_report opens.0)

module _ (table : FunnelTable) (counts words flags : List ℕ) (identity : ℕ) where
  pub search_refused_report : (g : Gate) → table_gate table counts (length words) (length flags) ≡ Err g
      → searched_report (search_answer_of table counts words flags identity) ≡ gated_report (Err g)
  unfolding search_answer_of
  search_refused_report g h = rw h

  pub insert_refused_report : (g : Gate) → table_gate table counts (length words) (length flags) ≡ Err g
      → inserted_report (insert_answer_of table counts words flags identity).answer ≡ gated_report (Err g)
  unfolding insert_answer_of
  insert_refused_report g h = rw h

  module _ (passes : table_gate table counts (length words) (length flags) ≡ Ok tt) where
    -- a search: probes, 1 for a hit and 0 for a vacancy, the place; FULL with its probes; RANGE with its words
    pub search_hit_report : (probes : ℕ) (place : Place) → find_of table counts words flags identity ≡ search.Hit probes place
        → searched_report (search_answer_of table counts words flags identity) ≡ answered (probes ∷ 1 ∷ place_values place)
    unfolding search_answer_of
    search_hit_report probes place h = rw (passes, h)

    pub search_vacant_report : (probes : ℕ) (place : Place) → find_of table counts words flags identity ≡ search.Vacant probes place
        → searched_report (search_answer_of table counts words flags identity) ≡ answered (probes ∷ 0 ∷ place_values place)
    unfolding search_answer_of
    search_vacant_report probes place h = rw (passes, h)

    pub search_full_report : (probes : ℕ) → find_of table counts words flags identity ≡ search.Full probes
        → searched_report (search_answer_of table counts words flags identity) ≡ refused name.Full (probes ∷ [])
    unfolding search_answer_of
    search_full_report probes h = rw (passes, h)

    pub search_range_report : (r : RangeRefusal) → find_of table counts words flags identity ≡ search.Range r
        → searched_report (search_answer_of table counts words flags identity) ≡ refused name.Range (r.words ∷ [])
    unfolding search_answer_of
    search_range_report r h = rw (passes, h)

    -- an insertion: the search's probes and place; 15 with both; 16 and 20 with the probes; RANGE with its words
    pub insert_inserted_report : (probes : ℕ) (place : Place) → (insert_of table counts words flags identity).answer ≡ Ok (reached probes place)
        → inserted_report (insert_answer_of table counts words flags identity).answer ≡ answered (probes ∷ place_values place)
    unfolding insert_answer_of
    insert_inserted_report probes place h = rw (passes, h)

    pub insert_duplicate_report : (probes : ℕ) (place : Place) → (insert_of table counts words flags identity).answer ≡ Err (insertion.Duplicate probes place)
        → inserted_report (insert_answer_of table counts words flags identity).answer ≡ refused name.Duplicate (probes ∷ place_values place)
    unfolding insert_answer_of
    insert_duplicate_report probes place h = rw (passes, h)

    pub insert_exhausted_report : (probes : ℕ) → (insert_of table counts words flags identity).answer ≡ Err (insertion.Exhausted probes)
        → inserted_report (insert_answer_of table counts words flags identity).answer ≡ refused name.Exhausted (probes ∷ [])
    unfolding insert_answer_of
    insert_exhausted_report probes h = rw (passes, h)

    pub insert_full_report : (probes : ℕ) → (insert_of table counts words flags identity).answer ≡ Err (insertion.Full probes)
        → inserted_report (insert_answer_of table counts words flags identity).answer ≡ refused name.Full (probes ∷ [])
    unfolding insert_answer_of
    insert_full_report probes h = rw (passes, h)

    pub insert_range_report : (r : RangeRefusal) → (insert_of table counts words flags identity).answer ≡ Err (insertion.Range r)
        → inserted_report (insert_answer_of table counts words flags identity).answer ≡ refused name.Range (r.words ∷ [])
    unfolding insert_answer_of
    insert_range_report r h = rw (passes, h)

module _ (table : FunnelTable) (counts words flags identities slots : List ℕ) where
  pub place_refused_report : (g : Gate) → place_gate table counts (length words) (length flags) (length identities) (length slots) ≡ Err g
      → placed_report (place_answer_of table counts words flags identities slots).answer ≡ gated_report (Err g)
  unfolding place_answer_of
  place_refused_report g h = rw h

  module _ (passes : place_gate table counts (length words) (length flags) (length identities) (length slots) ≡ Ok tt) where
    -- a placement: nothing where all are placed; else the index of the identity, then what its insertion would report
    pub place_all_report : (place_all_of table counts words flags identities slots).answer ≡ Ok tt
        → placed_report (place_answer_of table counts words flags identities slots).answer ≡ answered []
    unfolding place_answer_of
    place_all_report h = rw (passes, h)

    pub place_exhausted_report : (index probes : ℕ) → (place_all_of table counts words flags identities slots).answer ≡ Err (placement.Exhausted index probes)
        → placed_report (place_answer_of table counts words flags identities slots).answer ≡ refused name.Exhausted (index ∷ probes ∷ [])
    unfolding place_answer_of
    place_exhausted_report index probes h = rw (passes, h)

    pub place_full_report : (index probes : ℕ) → (place_all_of table counts words flags identities slots).answer ≡ Err (placement.Full index probes)
        → placed_report (place_answer_of table counts words flags identities slots).answer ≡ refused name.Full (index ∷ probes ∷ [])
    unfolding place_answer_of
    place_full_report index probes h = rw (passes, h)

    pub place_range_report : (index : ℕ) (r : RangeRefusal) → (place_all_of table counts words flags identities slots).answer ≡ Err (placement.Range index r)
        → placed_report (place_answer_of table counts words flags identities slots).answer ≡ refused name.Range (index ∷ r.words ∷ [])
    unfolding place_answer_of
    place_range_report index r h = rw (passes, h)
