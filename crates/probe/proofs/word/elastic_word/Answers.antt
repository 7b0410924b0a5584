-- `probe::word::elastic_word` meets its contract. Assumes nothing.
use Rattle.std.proofs.Common.{refl, ◌∙◌, None}
use Rattle.probe.specs.WordLaws.{worded_word, elastic_worded}
use Rattle.probe.proofs.word.elastic_word.Goals as goal

pub returns-in_err-counter : goal.returns-in_err-counter
returns-in_err-counter c =
    rw c.from_residual.ensures (elastic_worded c.args.seed c.args.identity _ _ _ _ None refl c.in_err-counter.ensures)

pub returns : goal.returns
returns c = worded_word _ _ _ _ _ refl c.keyed_word.ensures ∙ elastic_worded _ _ _ _ _ _ _ c.elastic_key-key.ensures c.in_ok-counter.ensures
