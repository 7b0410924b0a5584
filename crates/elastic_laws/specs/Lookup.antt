-- Identities that went into an elastic table, and what a query of one answers. Assumes nothing.
use Rattle.std.specs.Prelude.{true, List, ◌≡◌, ℕ, ◌+◌, ◌≤◌, ◌<◌, Ok, Err}
use Rattle.refusal.specs.declared.RangeRefusal.{RangeRefusal}
use Rattle.geometry.specs.Elastic.{levels_of}
use Rattle.elastic_probe.specs.Phi.{phi, coords_of}
use Rattle.probe.specs.Word.{elastic_key_of}
use Rattle.elastic.specs.declared.state.Limits.{Limits}
use Rattle.elastic.specs.declared.state.State.{State}
use Rattle.elastic.specs.Reading.{read_slot, Routed, reading_of, holds_at}
use Rattle.elastic_query.specs.declared.query.Finding.{Finding}
use Rattle.elastic_query.specs.Query.{QueryAnswer, within, level_of, probe_of}
use Rattle.elastic_steps.specs.declared.answer.Insertion.{Insertion}
use Rattle.elastic_steps.specs.Insert.{InsertAnswer, done, insert_of}
use Rattle.elastic_insert.specs.Table.{Reached}
use Rattle.elastic_query.specs.declared.query.QueryRefusal.TheVariants as query

-- the tables from fresh in which an identity is stored, with what its insertion answered
pub data WentIn (n e seed : ℕ) (limits : Limits) (id : ℕ) (i : Insertion) : State → List ℕ → List ℕ → List ℕ → Type 0 where
  now : (st : State) (cs ws fs : List ℕ) (st' : State) (cs' ws' fs' : List ℕ) → Reached n e seed limits st cs ws fs → insert_of st cs ws fs id ≡ done (Ok i) st' cs' ws' fs'
      → WentIn n e seed limits id i st' cs' ws' fs'
  later : (st : State) (cs ws fs : List ℕ) (x : ℕ) (a : InsertAnswer) (st' : State) (cs' ws' fs' : List ℕ) → WentIn n e seed limits id i st cs ws fs → insert_of st cs ws fs x ≡ done a st' cs' ws' fs'
      → WentIn n e seed limits id i st' cs' ws' fs'

-- what a position of a query reads
abbrev pub read_at : (route : ℕ → ℕ → Routed) (levels position : ℕ) → Routed
read_at route levels position = route (level_of (within levels (coords_of position))) (probe_of (within levels (coords_of position)))

-- what a probe of a level reads for an identity
abbrev pub route_of : State → (id level probe : ℕ) → Routed
route_of st id level probe = reading_of st.n (elastic_key_of st.seed id) st.limits.range_word_cap level probe

-- a query's answer: the slot at a position no later than phi, or the refusal of a range reduction at a position before phi
pub data Answers (reads : ℕ → Routed) (slot last : ℕ) : QueryAnswer → Type 0 where
  found : (f : Finding) → f.global_slot.0 ≡ slot → f.position ≤ last → Answers reads slot last (Ok f)
  refused : (position : ℕ) (r : RangeRefusal) → 0 < position → position < last → reads position ≡ Err r → Answers reads slot last (Err (query.Range r))

-- an identity in the slot that its insertion answered, and in no other; the probe that found the slot still reads it
pub record Placed (st : State) (ws fs : List ℕ) (id : ℕ) (i : Insertion) : Type 0 where
  pub probe : ℕ
  pub words : ℕ
  pub reads : route_of st id i.location.level probe ≡ Ok (read_slot i.location.global_slot.0 words)
  pub has : i.location.level < levels_of st.n
  pub phi_is : i.phi ≡ phi (i.location.level + 1) (probe + 1)
  pub near : i.phi ≤ st.limits.hit_query_position_cap
  pub holds : holds_at ws fs id i.location.global_slot.0 ≡ true
  pub only : (s : ℕ) → holds_at ws fs id s ≡ true → s ≡ i.location.global_slot.0

-- an identity that was inserted: some insertion of it was answered as inserted
abbrev pub Inserted : (n e seed : ℕ) (limits : Limits) (id : ℕ) (st : State) (cs ws fs : List ℕ) → Type 0
Inserted n e seed limits id st cs ws fs = (i : Insertion) × WentIn n e seed limits id i st cs ws fs

-- a query's answer that names no slot: ABSENT, or the refusal of a range reduction at a position within the cap
pub data Unanswered (reads : ℕ → Routed) (cap : ℕ) : QueryAnswer → Type 0 where
  absent : Unanswered reads cap (Err query.Absent)
  stopped : (position : ℕ) (r : RangeRefusal) → 0 < position → position ≤ cap → reads position ≡ Err r → Unanswered reads cap (Err (query.Range r))

-- a query's answer, exactly: of an identity that was inserted the slot of its insertion by its phi, of any other none; RANGE is the way out of both
pub data Exactly (n e seed : ℕ) (limits : Limits) (id : ℕ) (st : State) (cs ws fs : List ℕ) : QueryAnswer → Type 0 where
  member : (a : QueryAnswer) (i : Insertion) → WentIn n e seed limits id i st cs ws fs
      → Answers (read_at (route_of st id) st.plan.levels) i.location.global_slot.0 i.phi a → Exactly n e seed limits id st cs ws fs a
  stranger : (a : QueryAnswer) → (Inserted n e seed limits id st cs ws fs → ⊥) → Unanswered (read_at (route_of st id) st.plan.levels) st.limits.hit_query_position_cap a
      → Exactly n e seed limits id st cs ws fs a
