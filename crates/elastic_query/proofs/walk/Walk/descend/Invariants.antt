-- `elastic_query::walk::Walk::descend` meets its contract. The loop's invariant: the walk from position 3 is that from this node on. Assumes nothing.
use Prim.Native.Nat.{◌-◌, ◌+◌}
use Rattle.elastic_query.specs.Looking.{route_in, holds_in, levels_in}
use Rattle.elastic_query.specs.QueryLaws.{Walked}
use Rattle.elastic_query.proofs.walk.Walk.descend.Given as goal

abbrev pub invariant-loop-node : goal.invariant-loop-node
invariant-loop-node g l = Walked (route_in l.self.look) (holds_in l.self.look (g.E.Stored.words l.self.words.now) l.self.flags.now) (levels_in l.self.look) l.self.look.cap l.spent l.node.b l.node.j l.node.q l.cost.mapped l.cost.words

abbrev pub decreases-loop-node : goal.decreases-loop-node
decreases-loop-node g l = l.self.look.cap + 1 - l.node.b
