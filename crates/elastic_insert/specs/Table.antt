-- Tables over time: what an insertion changes, which tables insertions reach from fresh, and what their level counts say. Assumes nothing.
use Rattle.std.specs.Prelude.{List, ◌≡◌, ℕ, zero, suc, ◌+◌, ◌≤◌, ◌<◌, length, get_or, set, Ok, Err}
use Rattle.words.specs.declared.place.LogicalProbe.{LogicalProbe}
use Rattle.words.specs.Pick.{pick}
use Rattle.geometry.specs.Elastic.{total, levels_of, length_at, offset_at}
use Rattle.elastic_probe.specs.Phi.{phi}
use Rattle.elastic.specs.declared.state.Limits.{Limits}
use Rattle.elastic.specs.declared.state.State.{State}
use Rattle.elastic_steps.specs.declared.answer.Case.{Case}
use Rattle.elastic_steps.specs.declared.answer.InsertRefusal.{InsertRefusal}
use Rattle.elastic_steps.specs.declared.answer.InsertRefusal.TheVariants as refusal
use Rattle.elastic.specs.State.{opened, open_of, Valid}
use Rattle.elastic.specs.Reading.{vacant_at}
use Rattle.elastic_steps.specs.Insert.{InsertAnswer, choice, choose_of, Done, done, counted, added_to, insertion_of, insert_of}

-- what an insertion does: it is refused and changes nothing, and SCHEDULE is a refusal of the choice alone; or it stores the identity in the slot that was chosen, which
-- changes that slot, one level count and the count
pub data Outcome (st : State) (cs ws fs : List ℕ) (id : ℕ) : Done → Type 0 where
  kept : (r : InsertRefusal) → (r ≡ refusal.Schedule → choose_of st cs ws fs id ≡ Err refusal.Schedule) → Outcome st cs ws fs id (done (Err r) st cs ws fs)
  stored : (case : Case) (level slot : ℕ) (probe : LogicalProbe) → Valid st cs (length ws) (length fs) → choose_of st cs ws fs id ≡ Ok (choice case level slot probe)
      → phi (level + 1) (probe.0 + 1) ≤ st.limits.hit_query_position_cap
      → Outcome st cs ws fs id (done (Ok (insertion_of st.n case level slot probe)) (counted st) (added_to cs level) (set ws slot id) (set fs slot 1))

-- the occupied ones of so many flags from one on
unfoldable pub occupied : List ℕ → (from size : ℕ) → ℕ
occupied fs from zero = 0
occupied fs from (suc size) = pick (vacant_at fs from) 0 1 + occupied fs (from + 1) size

-- the level counts sum to the count, and each is the number of occupied flags of its level
pub record Counted (st : State) (cs fs : List ℕ) : Type 0 where
  pub size : length cs ≡ 32
  pub flags_size : length fs ≡ st.n
  pub sums : total cs ≡ st.count
  pub levels : (k : ℕ) → k < levels_of st.n → get_or cs k 0 ≡ occupied fs (offset_at st.n k) (length_at st.n k)

-- the tables that insertions reach from fresh, refused ones among them
pub data Reached (n e seed : ℕ) (limits : Limits) : State → List ℕ → List ℕ → List ℕ → Type 0 where
  fresh : (cs₀ ws₀ fs₀ : List ℕ) (st : State) (cs ws fs : List ℕ) → length cs₀ ≡ 32 → open_of n e seed limits cs₀ ws₀ fs₀ ≡ opened (Ok st) cs ws fs → Reached n e seed limits st cs ws fs
  more : (st : State) (cs ws fs : List ℕ) (id : ℕ) (a : InsertAnswer) (st' : State) (cs' ws' fs' : List ℕ) → Reached n e seed limits st cs ws fs
      → insert_of st cs ws fs id ≡ done a st' cs' ws' fs' → Reached n e seed limits st' cs' ws' fs'
