-- `gridder_rent::rent::say_plan` meets its contract. Zeros, and then the numbers. Assumes nothing.
use Rattle.gridder_rent.specs.RentLaws.{block_written}
use Rattle.gridder_rent.proofs.rent.say_plan.Goals as goal

pub returns : goal.returns
returns c =
    block_written _ _ _ _ _ c.told-answer c.clear_bytes.ensures c.write_words.ensures
