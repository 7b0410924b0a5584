-- What is asked of a valid table that is lent to be read. Assumes nothing.
use Rattle.std.specs.Prelude.{ℕ}
use Rattle.lent.specs.declared.store.Stored.{Ghosts}
use Rattle.funnel.specs.Path.{levels_from, primary_start}
use Rattle.funnel.specs.Search.{search_of, find_of}
use Rattle.funnel.specs.declared.table.Search.{Search}
use Rattle.funnel.specs.declared.view.View.{View}
use Rattle.funnel.specs.declared.view.Sought.{Sought}

module _ {E : Type 0} {stored : Ghosts E} where
  -- how many slots it has, and where the special ones begin
  abbrev pub slots_in : View E stored → ℕ
  slots_in view = view.table.now.n

  abbrev pub special_in : View E stored → ℕ
  special_in view = primary_start view.table.now.plan view.counts.now

  -- the search for an identity
  abbrev pub find_in : View E stored → ℕ → Search
  find_in view identity = find_of view.table.now view.counts.now (stored.words view.words.now) view.flags.now identity

  -- the search along the levels alone
  abbrev pub levels_in : View E stored → ℕ → Search
  levels_in view identity =
      search_of (stored.words view.words.now) view.flags.now identity
      (levels_from view.table.now.plan view.counts.now view.table.now.seed view.table.now.word_cap identity 0 view.table.now.plan.alpha) 0

  -- the same for an identity that is sought
  abbrev pub found_for : Sought E stored → Search
  found_for sought = find_in sought.view.now sought.identity

  abbrev pub levels_for : Sought E stored → Search
  levels_for sought = levels_in sought.view.now sought.identity
