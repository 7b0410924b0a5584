-- What each public call reports, in 01's words: its refusals by name and in their order, then its values. Assumes nothing.
use Rattle.std.specs.Prelude.{[], ◌∷◌, ◌≡◌, refl, ℕ, ◌/◌, ◌%◌, ◌^◌, eqb, ltb}
use Rattle.refusal.specs.declared.Name.TheVariants as name
use Rattle.refusal.specs.Table.{answered, refused}
use Rattle.words.specs.Pick.{pick}
use Rattle.words.specs.PickLaws.{through}
use Rattle.elastic_probe.specs.Budget.{probes_of, budget_of, budget_report}
use Rattle.elastic_probe.specs.Phi.{phi}
use Rattle.elastic_probe.specs.Position.{position_of, bounded_of, position_report, bounded_report}

-- "Budget: reasons in turn"
pub budget_report_lem : (free level e c : ℕ) → budget_report (budget_of free level e c)
    ≡ pick (eqb free 0) (refused name.Budget (1 ∷ []))
    (pick (ltb level free) (refused name.Budget (1 ∷ []))
    (pick (eqb c 0) (refused name.Budget (2 ∷ []))
    (pick (ltb (probes_of free level e c) (2 ^ 64)) (answered (probes_of free level e c ∷ [])) (refused name.Budget (3 ∷ [])))))
unfolding budget_of
budget_report_lem free level e c =
    through budget_report (eqb free 0) _ _ _ _ refl
    (through budget_report (ltb level free) _ _ _ _ refl
    (through budget_report (eqb c 0) _ _ _ _ refl (through budget_report (ltb (probes_of free level e c) (2 ^ 64)) _ _ _ _ refl refl)))

-- "Phi: 11, 12", with 1 for i and 2 for j; a position as its upper and its lower word
pub position_report_lem : (i j : ℕ) → position_report (position_of i j)
    ≡ pick (eqb i 0) (refused name.Coord (1 ∷ []))
    (pick (eqb j 0) (refused name.Coord (2 ∷ []))
    (pick (ltb (phi i j) (2 ^ 128)) (answered (phi i j / 2 ^ 64 ∷ phi i j % 2 ^ 64 ∷ [])) (refused name.Overflow [])))
unfolding position_of
position_report_lem i j =
    through position_report (eqb i 0) _ _ _ _ refl
    (through position_report (eqb j 0) _ _ _ _ refl (through position_report (ltb (phi i j) (2 ^ 128)) _ _ _ _ refl refl))

pub bounded_report_lem : (i j : ℕ) → bounded_report (bounded_of i j)
    ≡ pick (eqb i 0) (refused name.Coord (1 ∷ []))
    (pick (eqb j 0) (refused name.Coord (2 ∷ []))
    (pick (ltb 65535 j) (refused name.Overflow [])
    (pick (ltb (phi i j) (2 ^ 64)) (answered (phi i j ∷ [])) (refused name.Overflow []))))
unfolding bounded_of
bounded_report_lem i j =
    through bounded_report (eqb i 0) _ _ _ _ refl
    (through bounded_report (eqb j 0) _ _ _ _ refl
    (through bounded_report (ltb 65535 j) _ _ _ _ refl (through bounded_report (ltb (phi i j) (2 ^ 64)) _ _ _ _ refl refl)))
