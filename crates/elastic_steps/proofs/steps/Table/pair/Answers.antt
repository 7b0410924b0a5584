-- `elastic_steps::steps::Table::pair` meets its contract: each return is a law of the pair. Assumes nothing.
use Rattle.geometry.specs.ElasticLaws.{levels_facts}
use native.Mathlib.Omega.{arith}
use Rattle.elastic_steps.specs.InsertLaws.{pair_schedule, pair_next, pair_current, pair_neither}
use Rattle.elastic_steps.proofs.steps.Table.pair.Goals as goal

pub overflow_add-next : goal.overflow_add-next
overflow_add-next c = omega (arith, c.requires, (levels_facts c.args.self.now.st.n c.args.self.now.st.e c.args.self.now.valid.config).few)

pub returns-then-next_free-next_reserve : goal.returns-then-next_free-next_reserve
returns-then-next_free-next_reserve c = pair_schedule _ _ _ _ _ _ _ _ _ _ c.room-here.ensures.0 c.room-there.ensures.0 c.room-here.ensures.1 c.room-there.ensures.1 c.floor_div_pow2-reserve.ensures c.if-free-reserve.true c.if-next_free-next_reserve.true

pub returns-then-free-reserve : goal.returns-then-free-reserve
returns-then-free-reserve c = pair_next _ _ _ _ _ _ _ _ _ _ c.room-here.ensures.0 c.room-there.ensures.0 c.room-here.ensures.1 c.room-there.ensures.1 c.floor_div_pow2-reserve.ensures _ c.if-free-reserve.true c.if-next_free-next_reserve.false c.uniform.ensures

pub returns-then-next_free-next_reserve-2 : goal.returns-then-next_free-next_reserve-2
returns-then-next_free-next_reserve-2 c = pair_current _ _ _ _ _ _ _ _ _ _ c.room-here.ensures.0 c.room-there.ensures.0 c.room-here.ensures.1 c.room-there.ensures.1 c.floor_div_pow2-reserve.ensures _ c.if-free-reserve.false c.if-next_free-next_reserve-2.true c.uniform-then-next_free-next_reserve-2.ensures

pub returns : goal.returns
returns c = pair_neither _ _ _ _ _ _ _ _ _ _ c.room-here.ensures.0 c.room-there.ensures.0 c.room-here.ensures.1 c.room-there.ensures.1 c.floor_div_pow2-reserve.ensures _ c.if-free-reserve.false c.if-next_free-next_reserve-2.false c.budgeted.ensures
