-- `elastic_insert::insert::choose` meets its contract: each return is a law of the choice. Assumes nothing.
use mathlib.Core.Path.{refl}
use Rattle.elastic_steps.specs.InsertLaws.{choose_duplicate, choose_exhausted, choose_steps, batch_code, valid_batch}
use Rattle.elastic_insert.proofs.insert.choose.Goals as goal

pub returns-in-Some : goal.returns-in-Some
returns-in-Some g c = choose_duplicate _ _ _ _ _ _ c.in-Some.ensures _ refl

pub returns-then-st : goal.returns-then-st
returns-then-st g c = choose_exhausted _ _ _ _ _ _ c.in_default.ensures refl c.if-st.true

pub steps-requires : goal.steps-requires
steps-requires g c =
    let v = c.requires in
    let b = batch_code _ _ _ _ _ _ v.levels_is v.maximum_is c.active_batch-batch.ensures in
    (rw v.words_size at v, rw b (valid_batch v c.if-st.false))

pub returns : goal.returns
returns g c =
    let v = c.requires in
    let b = batch_code _ _ _ _ _ _ v.levels_is v.maximum_is c.active_batch-batch.ensures in
    choose_steps _ _ _ _ _ _ c.in_default.ensures _ _ _ refl c.if-st.false c.elastic_key-key.ensures b c.steps.ensures
