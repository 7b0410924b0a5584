-- Laws of the state block: what it is that it holds a state. Assumes nothing.
use Rattle.std.specs.Prelude.{Option, Some, None, Bool, true, false, List, ◌∷◌, ◌≡◌, refl, ℕ, ◌<◌, eqb, ltb, length, replicate}
use Rattle.std.proofs.Math.Path.{sym}
use Rattle.std.proofs.Common.{◌∙◌, arith}
use Rattle.std.proofs.lemmas.List.Edits.{sets}
use borrow.Author.Tests.{eq-eqb, ne_eqb, eqb-true, ltb-true}
use Rattle.words.specs.Bytes.{num_at}
use Rattle.words.specs.Pick.{pick}
use Rattle.funnel.specs.declared.table.FunnelTable.{FunnelTable}
use Rattle.lent.specs.Lent.{lent}
use Rattle.gridder_state.specs.State.{state_length, funnel_kind, counts_at, holds_kind, holds_funnel, table_in, counts_in, Reads, plan_words, funnel_block}

-- test by test
module _ (kind : ℕ) (b : List ℕ) where
  pub holds_short : (length b ≡ state_length → ⊥) → false ≡ holds_kind kind b
  unfolding holds_kind
  holds_short n = sym (rw (ne_eqb _ _ n))

  module _ (l : length b ≡ state_length) where
    pub holds_other : (num_at b 0 8 ≡ kind → ⊥) → false ≡ holds_kind kind b
    unfolding holds_kind
    holds_other n = sym (rw (eq-eqb _ _ l, ne_eqb _ _ n))

    pub holds_kind_lem : num_at b 0 8 ≡ kind → ltb (num_at b 16 8) 4294967296 ≡ holds_kind kind b
    unfolding holds_kind
    holds_kind_lem k = sym (rw (eq-eqb _ _ l, eq-eqb _ _ k))

-- what it says that a block holds a table of some kind
pub record Holds (b : List ℕ) : Type 0 where
  pub long : length b ≡ state_length
  pub exponent : num_at b 16 8 < 4294967296

pub holds_facts : (kind : ℕ) (b : List ℕ) → holds_kind kind b ≡ true → Holds b
unfolding holds_kind
holds_facts kind b h = go (eqb (length b) state_length) (eqb (num_at b 0 8) kind) (ltb (num_at b 16 8) 4294967296) refl refl h
  where
    no : false ≡ true → ⊥
    no e = let z : ◌≡◌ {A = ℕ} 0 1 = cc in omega arith

    go : (x y z : Bool) → eqb (length b) state_length ≡ x → ltb (num_at b 16 8) 4294967296 ≡ z → pick x (pick y z false) false ≡ true → Holds b
    go false y z p q h = absurd (no h)
    go true false z p q h = absurd (no h)
    go true true z p q h = record { long = eqb-true _ _ p; exponent = ltb-true _ _ (q ∙ h) }

-- a block that was zeroed, and then written in two parts
pub block_written : (t : FunnelTable) (counts zeros header whole : List ℕ) (n e : ℕ) → n ≡ state_length → e ≡ t.e → zeros ≡ replicate n 0
    → header ≡ sets zeros 0 (lent (funnel_kind ∷ t.n ∷ e ∷ t.seed ∷ t.word_cap ∷ t.count ∷ plan_words t.plan))
    → whole ≡ sets header counts_at (lent counts) → whole ≡ funnel_block t counts
unfolding funnel_block
block_written t counts zeros header whole n e l i z h w = w ∙ rw (h, z, l, i)

-- ---- what is read of a block

module _ (state before counts : List ℕ) (read : Option FunnelTable) (reads : Reads state before read counts) where
  pub reads_none : read ≡ None → holds_funnel state ≡ false
  unfolding Reads
  reads_none n = (rw n at reads).0

  pub reads_some : (table : FunnelTable) → read ≡ Some table → (holds_funnel state ≡ true) × (table ≡ table_in state) × (counts ≡ counts_in state)
  unfolding Reads
  reads_some table n = rw n at reads
