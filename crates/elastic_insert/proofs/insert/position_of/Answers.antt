-- `elastic_insert::insert::position_of` meets its contract: the position fits a word. Assumes nothing.
use Rattle.std.proofs.Common.{refl}
use Rattle.elastic_steps.specs.InsertLaws.{position_given, position_is}
use Rattle.elastic_insert.proofs.insert.position_of.Goals as goal

pub unwrap-requires : goal.unwrap-requires
unwrap-requires c = rw (position_given _ _ c.requires.0 c.requires.1 _ c.phi_bounded.ensures) refl

pub returns : goal.returns
returns c = position_is _ _ c.requires.0 c.requires.1 _ c.phi_bounded.ensures _ c.unwrap.ensures
