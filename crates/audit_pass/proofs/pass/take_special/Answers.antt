-- `audit_pass::pass::take_special` meets its contract. Assumes nothing.
use native.Mathlib.Omega.{arith}
use mathlib.Core.Path.{refl, ◌∙◌}
use Rattle.audit.specs.GreedyLaws.{valid_marks}
use Rattle.audit.specs.MarkedLaws.{listed_slots, listed_few, restored, marks_end}
use Rattle.audit.specs.VerdictLaws.{special_room, doing_start}
use Rattle.audit_pass.proofs.pass.take_special.Goals as goal

pub offer-requires : goal.offer-requires
offer-requires g c = let r = special_room c.args.view.now.valid.planned c.requires.1 in (c.judge.ensures.same_n ∙ c.requires.0 ∙ r.parts, r.enough, r.small)

pub take_live-placed-requires : goal.take_live-placed-requires
take_live-placed-requires g c = (valid_marks c.args.view.now.valid _ (c.offer.ensures.same_n ∙ c.judge.ensures.same_n ∙ c.requires.0), c.requires.1, record { whole = _; doing = (doing_start (special_room c.args.view.now.valid.planned c.requires.1).parts c.requires.3 c.judge.ensures c.offer.ensures c.requires.4) })

pub restore-requires : goal.restore-requires
restore-requires g c = let e = c.take_live-placed.ensures.end _ (doing_start (special_room c.args.view.now.valid.planned c.requires.1).parts c.requires.3 c.judge.ensures c.offer.ensures c.requires.4) in let n = c.offer.ensures.same_n ∙ c.judge.ensures.same_n ∙ c.requires.0 in let g = c.marks-3-1.given in (listed_few c.requires.5 e, λ k h. omega (arith, listed_slots c.requires.5 e k h, n, g))

pub returns : goal.returns
returns g c = let e = c.take_live-placed.ensures.end _ (doing_start (special_room c.args.view.now.valid.planned c.requires.1).parts c.requires.3 c.judge.ensures c.offer.ensures c.requires.4) in let n = c.offer.ensures.same_n ∙ c.judge.ensures.same_n ∙ c.requires.0 in let g = c.marks-3-1.given in restored c.requires.5 e _ (marks_end _ _ _ _ _ _ (omega (arith, n, g)) refl c.restore.ensures)
