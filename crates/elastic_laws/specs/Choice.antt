-- What an insertion's choice of a slot says. Assumes nothing.
use Rattle.std.specs.Prelude.{List, ◌≡◌, ℕ, ◌+◌, ◌/◌, ◌^◌, ◌≤◌, ◌<◌, Ok, Some, None}
use Rattle.words.specs.declared.place.LogicalProbe.{LogicalProbe}
use Rattle.geometry.specs.Elastic.{length_at}
use Rattle.probe.specs.Word.{elastic_key_of}
use Rattle.elastic.specs.declared.state.State.{State}
use Rattle.elastic.specs.Reading.{vacant, seek_of, first_of}
use Rattle.elastic_steps.specs.Insert.{Chosen, free_at, steps_of}
use Rattle.elastic_laws.specs.Schedule.{batch_now, Takes}

-- a slot that a search of its level found vacant
pub record Searched (st : State) (key : ℕ) (fs : List ℕ) (level slot : ℕ) (probe : LogicalProbe) : Type 0 where
  pub tries : ℕ
  pub is : seek_of st.n key st.limits.range_word_cap fs level tries ≡ Ok (Some (vacant slot probe))

-- a slot that the steps of batch b chose: in a level that takes a member, by a search of it
pub record Chose (st : State) (key b : ℕ) (cs fs : List ℕ) (level slot : ℕ) (probe : LogicalProbe) : Type 0 where
  pub takes : Takes st.n st.e b cs level
  pub searched : Searched st key fs level slot probe

-- both levels of batch b are low
pub record BothLow (st : State) (b : ℕ) (cs : List ℕ) : Type 0 where
  pub at : ℕ
  pub batch : b ≡ at + 1
  pub current : free_at st.n cs at ≤ length_at st.n at / 2 ^ (st.e + 1)
  pub next : free_at st.n cs (at + 1) ≤ length_at st.n (at + 1) / 4

-- a choice that the steps of the batch made: the identity is not stored, and there is room for it
pub record Stepped (st : State) (cs ws fs : List ℕ) (id : ℕ) (x : Chosen) : Type 0 where
  pub absent : first_of ws fs id ≡ None
  pub room : st.count < st.plan.maximum
  pub steps : steps_of st (elastic_key_of st.seed id) cs fs (batch_now st) ≡ x
