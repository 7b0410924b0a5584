-- How far the levels of an elastic table are filled, batch by batch, and what a sequence of insertions answers. Assumes nothing.
use Rattle.std.specs.Prelude.{List, [], ◌∷◌, ◌≡◌, ℕ, zero, suc, ◌+◌, ◌-◌, ◌/◌, ◌^◌, ◌≤◌, ◌<◌, length, get_or, take}
use Rattle.geometry.specs.Config.{Configured, maximum}
use Rattle.geometry.specs.Elastic.{total, lengths_of, length_at, ceil_three_quarters, uncut_quotas, batch_of}
use Rattle.elastic.specs.declared.state.State.{State}
use Rattle.elastic_steps.specs.Insert.{InsertAnswer, insert_of}

-- ---- limits

-- where a level stands when it has been the next one of a whole batch: C(L) = L - floor(L/4)
abbrev pub next_limit : (n level : ℕ) → ℕ
next_limit n level = ceil_three_quarters (length_at n level)

-- where it stands when it has been the current one of a whole batch: L - floor(L/2^(e+1))
abbrev pub current_limit : (n e level : ℕ) → ℕ
current_limit n e level = length_at n level - length_at n level / 2 ^ (e + 1)

-- the members of so many levels that stand at their limit as current
unfoldable pub filled_to : (n e levels : ℕ) → ℕ
filled_to n e zero = 0
filled_to n e (suc level) = filled_to n e level + current_limit n e level

-- ---- batches

-- the members before batch b, if no quota is cut
abbrev pub quotas_before : (n e b : ℕ) → ℕ
quotas_before n e b = total (take b (uncut_quotas e (lengths_of n)))

-- the batch that a table is in
abbrev pub batch_now : State → ℕ
batch_now st = batch_of st.n st.e st.count

-- the level counts in batch b, whose levels are current b-1 and next b
pub record InBatch (n e b : ℕ) (cs : List ℕ) : Type 0 where
  -- the levels before the current one are at their limit
  pub before : (k : ℕ) → k + 1 < b → get_or cs k 0 ≡ current_limit n e k
  -- the current one has what it had as next
  pub begun : (k : ℕ) → k + 1 ≡ b → next_limit n k ≤ get_or cs k 0
  -- and is not above its limit
  pub current : (k : ℕ) → k + 1 ≡ b → get_or cs k 0 ≤ current_limit n e k
  -- the next one is not above its own
  pub next : get_or cs b 0 ≤ next_limit n b
  -- those after it are empty
  pub after : (k : ℕ) → b < k → get_or cs k 0 ≡ 0

-- a level that takes a member in batch b: level 0 in batch 0, in a later batch one that is not low
pub data Takes (n e b : ℕ) (cs : List ℕ) (level : ℕ) : Type 0 where
  alone : b ≡ 0 → level ≡ 0 → Takes n e b cs level
  current : level + 1 ≡ b → get_or cs level 0 < current_limit n e level → Takes n e b cs level
  next : level ≡ b → get_or cs level 0 < next_limit n level → Takes n e b cs level

-- a table that follows the schedule: as long as it has room, its level counts are those of its batch
pub record Scheduled (st : State) (cs : List ℕ) : Type 0 where
  pub config : Configured st.n st.e
  pub maximum_is : st.plan.maximum ≡ maximum st.n st.e
  pub size : length cs ≡ 32
  pub sums : total cs ≡ st.count
  pub batch : st.count < st.plan.maximum → InBatch st.n st.e (batch_now st) cs

-- ---- sequences

-- what the insertions of a list of identities answer, each on the table that the one before it left
unfoldable pub answers_of : State → List ℕ → List ℕ → List ℕ → List ℕ → List InsertAnswer
answers_of st cs ws fs [] = []
answers_of st cs ws fs (id ∷ ids) =
    let d = insert_of st cs ws fs id in
    d.answer ∷ answers_of d.st d.counts d.words d.flags ids
