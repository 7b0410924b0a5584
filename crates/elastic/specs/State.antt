-- The state of an elastic table: the tests 1 to 3, 6 and 7, and the opening. Assumes nothing.
use Rattle.std.specs.Prelude.{Bool, true, false, List, [], ◌∷◌, ◌≡◌, ℕ, ◌+◌, ◌*◌, ◌≤◌, ◌<◌, min, eqb, leb, length, get_or, replicate, Result, Ok, Err}
use Rattle.refusal.specs.Table.{name_of, Report, answered, refused}
use Rattle.refusal.specs.declared.Gate.{Gate}
use Rattle.refusal.specs.declared.Gate.TheVariants as gate
use Rattle.geometry.specs.declared.elastic.ElasticPlan.{ElasticPlan}
use Rattle.geometry.specs.Config.{Gated, Configured, config_gate, maximum}
use Rattle.geometry.specs.Elastic.{both, total, levels_of, lengths_of, split, plan_of, is_plan_of}
use Rattle.elastic.specs.declared.state.Limits.{Limits}
use Rattle.elastic.specs.declared.state.State.{State}

-- a cap from 1 to its largest
abbrev pub cap_fits : (cap most : ℕ) → Bool
cap_fits cap most = both (leb 1 cap) (leb cap most)

-- "c at least 1 with c times min(e, 1024) at most 8,192"
unfoldable pub factor_fits : (e c : ℕ) → Bool
factor_fits e c = both (leb 1 c) (leb (c * min e 1024) 8192)

-- "word cap 1 to 8; uniform-search cap 1 to 8,192; c ..; query position cap 1 to 984,263,340"
unfoldable pub limits_fit : (e : ℕ) → Limits → Bool
limits_fit e l =
    both (cap_fits l.range_word_cap 8)
    (both (cap_fits l.uniform_search_probe_cap 8192)
    (both (factor_fits e l.probe_budget_c)
    (cap_fits l.hit_query_position_cap 984263340)))

-- "a lent buffer isn't n long"
abbrev pub buffers_fit : (n words flags : ℕ) → Bool
buffers_fit n words flags = both (eqb words n) (eqb flags n)

-- "elastic level count above its length, set beyond the last level"
unfoldable pub counts_within : (lengths counts : List ℕ) → Bool
counts_within ls [] = true
counts_within [] (c ∷ cs) = both (eqb c 0) (counts_within [] cs)
counts_within (l ∷ ls) (c ∷ cs) = both (leb c l) (counts_within ls cs)

-- ".. or not summing to the count"
unfoldable pub counts_fit : (lengths : List ℕ) (count : ℕ) (counts : List ℕ) → Bool
counts_fit ls count cs = both (counts_within ls cs) (eqb (total cs) count)

-- STATE: "a lent buffer isn't n long; count above n; plan not that of n and e; elastic level count .."
unfoldable pub state_fits : (n e : ℕ) → ElasticPlan → (count : ℕ) → List ℕ → (words flags : ℕ) → Bool
state_fits n e plan count cs words flags =
    both (buffers_fit n words flags)
    (both (leb count n)
    (both (is_plan_of n e plan)
    (counts_fit (split plan.levels n) count cs)))

-- a test after those that passed, with the refusal where it fails
abbrev pub demand : Gated → Bool → Gate → Gated
demand (Err g) ok gate = Err g
demand (Ok _) true gate = Ok tt
demand (Ok _) false gate = Err gate

-- "Order: 1 to 7 by number"
unfoldable pub setting_gate : (n e : ℕ) → Limits → Gated
setting_gate n e limits = demand (config_gate n e) (limits_fit e limits) gate.Limits

unfoldable pub open_gate : (n e : ℕ) → Limits → (words flags : ℕ) → Gated
open_gate n e limits words flags = demand (setting_gate n e limits) (buffers_fit n words flags) gate.State

unfoldable pub gate_of : State → List ℕ → (words flags : ℕ) → Gated
gate_of st cs words flags =
    demand (setting_gate st.n st.e st.limits) (state_fits st.n st.e st.plan st.count cs words flags) gate.State

-- what an opening answers: a state, or the refusal of its gate
abbrev pub Opened : Type 0
Opened = Result State Gate

-- what an opening leaves: its answer, and the three lent lists
pub record OpenDone : Type 0 where
  pub answer : Opened
  pub counts : List ℕ
  pub words : List ℕ
  pub flags : List ℕ

abbrev pub opened : Opened → List ℕ → List ℕ → List ℕ → OpenDone
opened answer cs ws fs = record { answer = answer; counts = cs; words = ws; flags = fs }

-- the state of a fresh table
abbrev pub fresh_of : (n e seed : ℕ) → Limits → State
fresh_of n e seed limits = record { n = n; e = e; seed = seed; limits = limits; plan = plan_of n e; count = 0 }

-- "Opening zeroes both; that is a fresh table"
unfoldable pub open_by : Gated → (n e seed : ℕ) → Limits → List ℕ → List ℕ → List ℕ → OpenDone
open_by (Err g) n e seed limits cs ws fs = opened (Err g) cs ws fs
open_by (Ok _) n e seed limits cs ws fs =
    opened (Ok (fresh_of n e seed limits)) (replicate (length cs) 0) (replicate (length ws) 0) (replicate (length fs) 0)

unfoldable pub open_of : (n e seed : ℕ) → Limits → List ℕ → List ℕ → List ℕ → OpenDone
open_of n e seed limits cs ws fs = open_by (open_gate n e limits (length ws) (length fs)) n e seed limits cs ws fs

-- number and values of an answer
unfoldable pub open_report : Opened → Report
open_report (Ok st) = answered []
open_report (Err g) = refused (name_of g) []

-- ---- what the tests say once passed

-- "word cap 1 to 8; uniform-search cap 1 to 8,192; c ..; query position cap 1 to 984,263,340"
pub record LimitsFacts (e : ℕ) (l : Limits) : Type 0 where
  pub words_some : 0 < l.range_word_cap
  pub words_most : l.range_word_cap ≤ 8
  pub search_some : 0 < l.uniform_search_probe_cap
  pub search_most : l.uniform_search_probe_cap ≤ 8192
  pub factor_some : 0 < l.probe_budget_c
  pub factor_most : l.probe_budget_c * min e 1024 ≤ 8192
  pub position_some : 0 < l.hit_query_position_cap
  pub position_most : l.hit_query_position_cap ≤ 984263340

-- a table whose tests pass
pub record Valid (st : State) (cs : List ℕ) (words flags : ℕ) : Type 0 where
  pub config : Configured st.n st.e
  pub limits : LimitsFacts st.e st.limits
  pub words_size : words ≡ st.n
  pub flags_size : flags ≡ st.n
  pub count_most : st.count ≤ st.n
  pub levels_is : st.plan.levels ≡ levels_of st.n
  pub maximum_is : st.plan.maximum ≡ maximum st.n st.e
  pub within : (k : ℕ) → get_or cs k 0 ≤ get_or (lengths_of st.n) k 0
  pub sums : total cs ≡ st.count

-- a level of it that can be searched
pub record Searching (st : State) (level flags : ℕ) : Type 0 where
  pub config : Configured st.n st.e
  pub limits : LimitsFacts st.e st.limits
  pub flags_size : flags ≡ st.n
  pub levels_is : st.plan.levels ≡ levels_of st.n
  pub has : level < levels_of st.n

-- a level and the next one
pub record Pairing (st : State) (cs : List ℕ) (current flags : ℕ) : Type 0 where
  pub search : Searching st (current + 1) flags
  pub within : (k : ℕ) → get_or cs k 0 ≤ get_or (lengths_of st.n) k 0

-- free slots and a level for which no table's budget is refused
pub record Affordable (free size e c : ℕ) : Type 0 where
  pub some : 0 < free
  pub most : free ≤ size
  pub small : size ≤ 4294967296
  pub factor_some : 0 < c
  pub factor_most : c * min e 1024 ≤ 8192
