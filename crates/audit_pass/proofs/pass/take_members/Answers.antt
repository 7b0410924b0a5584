-- `audit_pass::pass::take_members` meets its contract. Assumes nothing.
use Prim.Native.Nat.{ℕ}
use native.Mathlib.Omega.{arith}
use mathlib.Core.Path.{ap, sym, ◌∙◌}
use lib.ListN.{length, replicate, length-replicate}
use Rattle.geometry.specs.FunnelLaws.{plan_facts}
use Rattle.funnel.specs.PlanLaws.{primary_start_lem}
use Rattle.audit.specs.VerdictLaws.{early_cleared}
use Rattle.audit.specs.MarkedLaws.{listed_whole}
use Rattle.audit.specs.GreedyLaws.{going_on, greedy_cleared}
use Rattle.audit_pass.proofs.pass.take_members.Goals as goal

pub overflow_sub-start : goal.overflow_sub-start
overflow_sub-start g c = let f = plan_facts c.args.view.now.valid.planned in omega arith

pub take_ordinary-ordinary-requires : goal.take_ordinary-ordinary-requires
take_ordinary-ordinary-requires g c = (ap length c.clear_bytes.ensures ∙ length-replicate _ _ ∙ c.requires.0, c.requires.1, sym (primary_start_lem c.args.view.now.valid.planned), omega arith, early_cleared _ c.args.marks.now c.clear_bytes.ensures)

pub take_special-requires : goal.take_special-requires
take_special-requires g c = (c.take_ordinary-ordinary.ensures.1.marks_n, sym (primary_start_lem c.args.view.now.valid.planned), omega arith, c.take_ordinary-ordinary.ensures.0, going_on c.take_ordinary-ordinary.ensures.1, listed_whole _ _ _ _ _ _ _ _ (c.clear_bytes.ensures ∙ ap (λ (x : ℕ). replicate x 0) c.requires.0) c.requires.1 c.take_ordinary-ordinary.ensures.1.left)

pub returns : goal.returns
returns g c = c.take_special.ensures ∙ sym c.take_ordinary-ordinary.ensures.1.left ∙ greedy_cleared _ _ _ _ _ _ c.args.marks.now c.clear_bytes.ensures c.requires.0
