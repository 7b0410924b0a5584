-- `geometry_smallest::layouts::last_alike` meets its contract. Assumes nothing.
use native.Mathlib.Omega.{arith}
use Rattle.geometry_smallest.specs.LayoutsLaws.{alike_256, alike_65536, alike_last}
use Rattle.geometry_smallest.proofs.layouts.last_alike.Goals as goal

pub returns-then-n-le256 : goal.returns-then-n-le256
returns-then-n-le256 c = alike_256 _ c.requires.0 c.if-n-le256.true

pub returns-then-n-le65536 : goal.returns-then-n-le65536
returns-then-n-le65536 c = alike_65536 _ (omega arith) c.if-n-le65536.true

pub returns : goal.returns
returns c = alike_last _ (omega arith) c.requires.1
