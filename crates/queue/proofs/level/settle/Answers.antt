-- `queue::level::settle` meets its contract. Assumes nothing.
use native.Mathlib.Omega.{arith}
use Rattle.queue.specs.LevelLaws.{settled_self, settled_found, settled_clear}
use Rattle.queue.proofs.level.settle.Goals as goal

pub returns-then-b-low-ne0 : goal.returns-then-b-low-ne0
returns-then-b-low-ne0 c = settled_self c.requires.0 c.requires.1 c.if-b-low-ne0.true

pub returns-then-first_of-k : goal.returns-then-first_of-k
returns-then-first_of-k c = settled_found c.requires.0 c.first_of.ensures (let t = c.if-first_of-k.true in omega arith)

pub returns : goal.returns
returns c = settled_clear c.requires.0 c.first_of.ensures (let t = c.if-first_of-k.false in omega arith) c.requires.1 c.requires.2 c.requires.3
