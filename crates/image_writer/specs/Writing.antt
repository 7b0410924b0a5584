-- What the writer answers, and what it leaves in the output. Assumes nothing.
use Rattle.std.specs.Prelude.{Result, Ok, Err, List, ◌++◌, ℕ, length, drop, ltb}
use Rattle.words.specs.Pick.{pick}
use Rattle.funnel.specs.declared.table.FunnelTable.{FunnelTable}
use Rattle.image.specs.Head.{headed}
use Rattle.image.specs.declared.head.Head.{Head}
use Rattle.image_writer.specs.Dirty.{scan_of}
use Rattle.image.specs.Format.{entries_of, image_of}
use Rattle.image_writer.specs.declared.writer.WriteRefusal.{WriteRefusal}
use Rattle.image_writer.specs.declared.writer.WriteRefusal.TheVariants as write_refusal

-- what the writer answers: the image's length, or why it writes none
abbrev pub Written : Type 0
Written = Result ℕ WriteRefusal

-- an answer, with the output as the call leaves it
pub record Writes : Type 0 where
  pub answer : Written
  pub out : List ℕ

abbrev pub writes : Written → List ℕ → Writes
writes a out = record { answer = a; out = out }

-- what names a table
abbrev pub head_of : FunnelTable → Head
head_of table = headed table.n table.e table.seed

-- "The writer answers the image's length and leaves bytes past it as they were."
abbrev pub onto : List ℕ → List ℕ → List ℕ
onto image out = image ++ drop (length image) out

-- "Image writer: 22, 26"; ROOM tells the length that the image needs
unfoldable pub write_after : Result ℕ ℕ → List ℕ → List ℕ → Writes
write_after (Err s) image out = writes (Err (write_refusal.Dirty (record { 0 = s }))) out
write_after (Ok c) image out =
    pick (ltb (length out) (length image)) (writes (Err (write_refusal.Room (length image))) out) (writes (Ok (length image)) (onto image out))

unfoldable pub write_of : Head → (label words flags out : List ℕ) → Writes
write_of hd label words flags out = write_after (scan_of words flags) (image_of hd label (entries_of words flags)) out
