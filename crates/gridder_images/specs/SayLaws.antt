-- Laws of what the calls on images say. Assumes nothing.
use Rattle.std.specs.Prelude.{Ok, Err, List, ◌≡◌, refl, ℕ}
use Rattle.funnel.specs.declared.table.FunnelTable.{FunnelTable}
use Rattle.image_calls.specs.Calls.{loaded_of, loaded_report, written_report}
use Rattle.image_calls.specs.Loading.{LoadAnswer}
use Rattle.image_calls.specs.declared.loader.LoadRefusal.TheVariants as refusal
use Rattle.image_writer.specs.Writing.{Written}
use Rattle.gridder_answer.specs.Answer.{says, reply}
use Rattle.gridder_images.specs.Say.{filled_fields, filled_number, written_fields}

-- what a loading and a writing say, by their answer
module _ (f : LoadAnswer) (n : ℕ) (a : List ℕ) where
  pub load_says : (x : LoadAnswer) → f ≡ x → n ≡ filled_number x → a ≡ says (filled_fields x) → reply n a ≡ reply (filled_number f) (says (filled_fields f))
  load_says x e p q = rw (e, p, q)

module _ (w : Written) (n : ℕ) (a : List ℕ) where
  pub write_says : (x : Written) → w ≡ x → n ≡ (written_report x).number → a ≡ says (written_fields x)
      → reply n a ≡ reply (written_report w).number (says (written_fields w))
  write_says x e p q = rw (e, p, q)

-- the number of a loading is the base's
pub loaded_number : (table : FunnelTable) (f : LoadAnswer) → filled_number f ≡ (loaded_report (loaded_of table f)).number
unfolding loaded_of
loaded_number table (Err (refusal.Image place)) = refl
loaded_number table (Err refusal.Foreign) = refl
loaded_number table (Ok f) = refl
