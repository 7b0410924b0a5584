-- What no insertion changes of an elastic table. Assumes nothing.
use Rattle.std.specs.Prelude.{List, ◌≡◌, ℕ, ◌≤◌, length, get_or, Ok}
use Rattle.geometry.specs.Elastic.{levels_of, plan_of}
use Rattle.elastic.specs.declared.state.State.{State}
use Rattle.elastic.specs.State.{setting_gate}

-- the settings pass their tests, the plan is theirs, and no member is counted beyond the last level
pub record Lasting (st : State) (cs ws : List ℕ) : Type 0 where
  pub settings : setting_gate st.n st.e st.limits ≡ Ok tt
  pub plan_is : st.plan ≡ plan_of st.n st.e
  pub words_size : length ws ≡ st.n
  pub beyond : (k : ℕ) → levels_of st.n ≤ k → get_or cs k 0 ≡ 0
