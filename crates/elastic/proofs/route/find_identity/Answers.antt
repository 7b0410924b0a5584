-- `elastic::route::find_identity` meets its contract. Assumes nothing.
use native.Mathlib.Omega.{arith}
use Rattle.elastic.specs.ReadingLaws.{first_without}
use Rattle.elastic.proofs.route.find_identity.Goals as goal

pub returns-then-hits-eq0 : goal.returns-then-hits-eq0
returns-then-hits-eq0 g c = first_without _ _ _ _ (c.hits.ensures c.if-hits-eq0.true) (omega arith)
