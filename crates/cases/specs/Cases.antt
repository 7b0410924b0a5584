-- 01's checked cases A to M: what each says, in one table, and one proof of all. Assumes nothing.
use Rattle.std.specs.Prelude.{Bool, true, false, List, [], ◌∷◌, ◌≡◌, refl, ℕ, ◌-◌, ◌^◌, ◌≤◌, ◌<◌, min, leb, length, set, replicate, Ok}
use Rattle.std.proofs.Common.{ap, arith, ne_eqb}
use Rattle.std.proofs.Math.Nat.{sub-zero}
use Rattle.refusal.specs.Table.{refused, answered}
use Rattle.refusal.specs.declared.Name.TheVariants as name
use Rattle.words.specs.Log.{ceil_log2, first_from}
use Rattle.words.specs.Pick.{pick}
use Rattle.geometry.specs.Config.{maximum}
use Rattle.geometry.specs.ConfigLaws.{config_pass}
use Rattle.geometry.specs.Elastic.{level_length, split, lengths_of, total, padded, lay_by, elastic_plan_of, planned_report}
use Rattle.geometry.specs.Special.{loglog}
use Rattle.elastic_probe.specs.Budget.{probes_of, budget_of, budget_report}
use Rattle.probe.specs.Counter.{elastic_packed_of, packed_report}
use Rattle.elastic_probe.specs.Length.{length_in, bits_of}
use Rattle.probe.specs.Mix.{xor_bits, mix64_of}
use Rattle.elastic_probe.specs.Phi.{pairs, phi, parse, start, coords_of}
use Rattle.elastic_probe.specs.Position.{position_of, position_report, bounded_of, bounded_report, coordinates_of, coordinates_report}
use Rattle.refusal.specs.declared.Draw.TheVariants as draw
use Rattle.probe.specs.Range.{words_at, reduce_of, draw_of, keyed_draw_of, elastic_reduce_of, reduced_report}
use Rattle.probe.specs.Word.{elastic_key_of, word_of}
use Rattle.probe.specs.ReportLaws.{elastic_reduce_report}
use Rattle.elastic.specs.declared.state.Limits.{Limits}
use Rattle.elastic.specs.State.{limits_fit, fresh_of}
use Rattle.elastic.specs.StateLaws.{limits_facts}
use Rattle.elastic.specs.Reading.{reading_of}
use Rattle.elastic_steps.specs.Insert.{insert_of, refusal_report, insert_report}
use Rattle.elastic_query.specs.Query.{query_of, query_report}
use Rattle.funnel.specs.Calls.{Opens}
use Rattle.audit_calls.specs.Check.{Checked, Ended, ended, check_of, report_of}
use Rattle.funnel.specs.OneBucket.{counts, table}
use Rattle.cases.specs.OneBucket.{zeros, Distinct, Fills, Given, Ends}
use Rattle.cases.specs.FillLaws.{opens, fills}
use Rattle.cases.specs.CheckLaws.{empty, only_second, twice}
use Rattle.cases.specs.FirstInsertLaws.{two_reading, first_insert, first_query, first_refused}

pub data Letter : Type 0 where
  A : Letter
  B : Letter
  C : Letter
  D : Letter
  E : Letter
  F : Letter
  G : Letter
  H : Letter
  I : Letter
  J : Letter
  K : Letter
  L : Letter
  M : Letter

-- ---- the table

abbrev pub Says : Letter → Type 0
-- "phi(1,1)=13, phi(2,1)=26, phi(1,2)=57": a position is reported as its upper and its lower word
Says A =
    (position_report (position_of 1 1) ≡ answered (0 ∷ 13 ∷ []))
    × (position_report (position_of 2 1) ≡ answered (0 ∷ 26 ∷ []))
    × (position_report (position_of 1 2) ≡ answered (0 ∷ 57 ∷ []))
-- "Positions 1, 12, 25: GAP"
Says B =
    (coordinates_report (coordinates_of 1) ≡ refused name.Gap [])
    × (coordinates_report (coordinates_of 12) ≡ refused name.Gap [])
    × (coordinates_report (coordinates_of 25) ≡ refused name.Gap [])
-- "Elastic (31,8191,7) packs to 2,097,151"
Says C = packed_report (elastic_packed_of 31 8191 7) ≡ answered (2097151 ∷ [])
-- "Level 32, probe 8192 or cap 9: COUNTER", whatever the rest, in a reduction to some values
Says D =
    (seed identity level probe u cap : ℕ) → (u ≡ 0 → ⊥)
    → (reduced_report (elastic_reduce_of seed identity 32 probe u cap) ≡ refused name.Counter [])
    × (reduced_report (elastic_reduce_of seed identity level 8192 u cap) ≡ refused name.Counter [])
    × (reduced_report (elastic_reduce_of seed identity level probe u 9) ≡ refused name.Counter [])
-- "Bounded i=2^31, j=65535: OVERFLOW; i=2^31-1 fits"
Says E =
    (bounded_report (bounded_of (2 ^ 31) 65535) ≡ refused name.Overflow [])
    × (bounded_report (bounded_of (2 ^ 31 - 1) 65535) ≡ answered (18446744071562067967 ∷ []))
-- "Budget free 4 of 4: 0; free 1 of 4, e 3, c 2: 6"
Says F =
    ((e c : ℕ) → (c ≡ 0 → ⊥) → budget_report (budget_of 4 4 e c) ≡ answered (0 ∷ []))
    × (budget_report (budget_of 1 4 3 2) ≡ answered (6 ∷ []))
-- "n=2: one elastic level of 2, g=1", at every e: the levels and the maximum, the lengths in the array of 32
Says G =
    ((e : ℕ) (lengths quotas : List ℕ) → (e ≡ 0 → ⊥)
    → (planned_report (elastic_plan_of 2 e lengths quotas).answer ≡ answered (1 ∷ maximum 2 e ∷ []))
    × ((elastic_plan_of 2 e lengths quotas).lengths ≡ 2 ∷ replicate 31 0))
    × (loglog 2 ≡ 1)
-- "Elastic n=5, seed 0, word cap 1, identity 61C8864680B583EB: RANGE, 1 word", at every e and with every other limit
Says H =
    (e : ℕ) (limits : Limits) → 0 < e → limits_fit e limits ≡ true → limits.range_word_cap ≡ 1
    → insert_report (insert_of (fresh_of 5 e 0 limits) (replicate 32 0) (replicate 5 0) (replicate 5 0) 0x61C8864680B583EB).answer ≡ refused name.Range (1 ∷ [])
-- "Elastic first insert in n=2, position cap at least 13: phi 13; its query answers position 1, mapped 0, gap 1, 1 word": batch 0 takes a slot
-- of level 0 by paper probe 1
Says I =
    (e seed : ℕ) (limits : Limits) (identity : ℕ) → 0 < e → limits_fit e limits ≡ true → 13 ≤ limits.hit_query_position_cap
    → let d = insert_of (fresh_of 2 e seed limits) (replicate 32 0) (replicate 2 0) (replicate 2 0) identity in
    (slot : ℕ) × (insert_report d.answer ≡ answered (0 ∷ 0 ∷ 0 ∷ 0 ∷ 0 ∷ 0 ∷ slot ∷ slot ∷ 1 ∷ 13 ∷ []))
    × (query_report (query_of d.st d.counts d.words d.flags identity) ≡ answered (1 ∷ slot ∷ 0 ∷ 1 ∷ 1 ∷ []))
-- "Funnel (144,3): every level one bucket, distinct identities fill slots 0 to 125 in turn with probes 1 to 126; the next is EXHAUSTED, a member
-- DUPLICATE": the opening's answer, and then the insertions', for every seed and word cap
Says J =
    (seed cap : ℕ) → 1 ≤ cap → cap ≤ 256
    → ((old words flags : List ℕ) → length words ≡ 144 → length flags ≡ 144
    → Opens 144 3 seed cap old words flags (Ok (table seed cap 0)) counts (zeros 144) (zeros 144))
    × ((identities : List ℕ) → Distinct identities → length identities ≤ 126 → Fills seed cap identities)
-- "There, only slot 1 occupied: DISORDER, placed 0, slot 1", whatever marks and order hold
Says K =
    (seed cap count identity : ℕ) (marks order : List ℕ) → Given cap count marks order
    → Ends (check_of (table seed cap count) counts (0 ∷ identity ∷ zeros 142) (0 ∷ 1 ∷ zeros 142) marks order)
    (refused name.Disorder (0 ∷ 1 ∷ [])) (zeros 144) order
-- "Equal identities in 0 and 1: placed 1, slot 1"
Says L =
    (seed cap count identity : ℕ) (marks order : List ℕ) → Given cap count marks order
    → Ends (check_of (table seed cap count) counts (identity ∷ identity ∷ zeros 142) (1 ∷ 1 ∷ zeros 142) marks order)
    (refused name.Disorder (1 ∷ 1 ∷ [])) (1 ∷ zeros 143) (set order 0 0)
-- "Empty: accepted, order empty"
Says M =
    (seed cap count : ℕ) (marks order : List ℕ) → Given cap count marks order
    → Ends (check_of (table seed cap count) counts (zeros 144) (zeros 144) marks order) (answered (0 ∷ [])) (zeros 144) order

-- ---- the proof

-- the same on both sides of a test
either : {X : Type 0} (b : Bool) (x : X) → pick b x x ≡ x
either true x = refl
either false x = refl

-- a check that is known, part by part
ended_so : {e : Ended} {answer : Checked} {marks order : List ℕ} → e ≡ ended answer marks order → Ends e (report_of answer) marks order
ended_so q = (ap (λ (x : Ended). report_of x.answer) q, ap (λ (x : Ended). x.marks) q, ap (λ (x : Ended). x.order) q)

-- a level that is all free has no budget
all_free : (e c : ℕ) → probes_of 4 4 e c ≡ 0
unfolding probes_of ceil_log2 first_from
all_free e c = let m : min 0 e ≡ 0 = omega arith in rw m (omega arith)

pub cases : (letter : Letter) → Says letter
unfolding position_of bounded_of coordinates_of phi pairs coords_of start parse bits_of length_in elastic_packed_of budget_of probes_of ceil_log2 first_from loglog
    elastic_plan_of lay_by planned_report lengths_of split level_length padded total reading_of keyed_draw_of draw_of reduce_of words_at word_of elastic_key_of
    mix64_of xor_bits insert_report refusal_report query_report
cases A = (refl, refl, refl)
cases B = (refl, refl, refl)
cases C = refl
cases D = λ seed identity level probe u cap some. (
  rw (elastic_reduce_report seed identity 32 probe u cap, ne_eqb u 0 some),
  rw (elastic_reduce_report seed identity level 8192 u cap, ne_eqb u 0 some) (either (leb 32 level) (refused name.Counter [])),
  rw (elastic_reduce_report seed identity level probe u 9, ne_eqb u 0 some, either (leb 8192 probe) (refused name.Counter [])) (either (leb 32 level) (refused name.Counter [])),
)
cases E = (refl, refl)
cases F = ((λ e c some. rw (ne_eqb c 0 some, all_free e c)), refl)
cases G = ((λ e lengths quotas some. rw (config_pass 2 e (Ok tt) (omega arith) some (omega arith)) (refl, refl)), refl)
cases H = λ e limits some fit one. rw (first_refused e 0 limits some fit 0x61C8864680B583EB (record { words = 1; draw = draw.Elastic 0; probe = record { 0 = 0 } }) (rw one))
cases I = λ e seed limits identity some fit far.
    let r = two_reading (elastic_key_of seed identity) limits.range_word_cap (limits_facts e limits fit).words_some in
    let insert = first_insert e seed limits some fit identity r.0 r.1 r.2 far in
    (r.0, rw (insert, sub-zero r.0), rw (insert, first_query e seed limits some fit identity r.0 r.1 r.2))
cases J = λ seed cap least most. (opens seed cap least most, fills seed cap least most)
cases K = λ seed cap count identity marks order given. ended_so (only_second seed cap count marks order given identity)
cases L = λ seed cap count identity marks order given. ended_so (twice seed cap count marks order given identity)
cases M = λ seed cap count marks order given. ended_so (empty seed cap count marks order given)
