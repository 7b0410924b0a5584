-- What the check asks of an image that is lent as a valid table, with marks beside its flags. Assumes nothing.
use Rattle.std.specs.Prelude.{Bool, List, ℕ}
use Rattle.lent.specs.declared.store.Stored.{Ghosts}
use Rattle.audit.specs.Greedy.{ready, Taken, greedy_of}
use Rattle.audit.specs.Going.{Going}
use Rattle.audit.specs.Special.{live}
use Rattle.funnel.specs.declared.view.View.{View}

module _ {E : Type 0} {stored : Ghosts E} (view : View E stored) where
  -- whether a slot is ready, and whether it is live
  abbrev pub ready_in : (marks : List ℕ) (placed slot : ℕ) → Bool
  ready_in marks placed slot = ready view.table.now view.counts.now (stored.words view.words.now) view.flags.now marks placed slot

  abbrev pub live_in : (marks : List ℕ) → ℕ → Bool
  live_in marks = live view.table.now view.counts.now (stored.words view.words.now) view.flags.now marks

  -- what some turns take, from some marks, an order and a number on
  abbrev pub greedy_in : (turns : ℕ) (marks order : List ℕ) (placed : ℕ) → Taken
  greedy_in turns marks order placed =
      greedy_of view.table.now view.counts.now (stored.words view.words.now) view.flags.now view.table.now.n turns marks order placed

  -- on the way to the whole
  abbrev pub GoingIn : Taken → (marks order : List ℕ) (placed i : ℕ) → Type 0
  GoingIn whole marks order placed i = Going whole view.table.now view.counts.now (stored.words view.words.now) view.flags.now marks order placed i
