-- Words lent as little-endian bytes, eight to a word. Assumes nothing.
use Rattle.std.specs.Prelude.{List, [], ◌∷◌, ◌++◌, ℕ, zero, suc, ◌+◌, ◌/◌, ◌%◌, eqb, length}
use Rattle.words.specs.Bytes.{bytes_of, num_at}
use Rattle.words.specs.Pick.{pick}

-- so many words, the first of them at an offset
unfoldable pub words_from : List ℕ → ℕ → ℕ → List ℕ
words_from b at zero = []
words_from b at (suc k) = num_at b at 8 ∷ words_from b (at + 8) k

-- "words lent as little-endian bytes": the words that bytes are. A last word of fewer than eight bytes counts too, so that every
-- byte is read
unfoldable pub words_of : List ℕ → List ℕ
words_of b = words_from b 0 ((length b + 7) / 8)

-- how many entries so many bytes lend, by "a lent buffer isn't n long": bytes that are no whole number of words lend none
unfoldable pub word_count : ℕ → ℕ
word_count len = pick (eqb (len % 8) 0) (len / 8) 0

-- the bytes that words are lent as
unfoldable pub lent : List ℕ → List ℕ
lent [] = []
lent (x ∷ words) = bytes_of 8 x ++ lent words

-- the whole words that bytes are: a last word of fewer than eight bytes is none
unfoldable pub whole_of : List ℕ → List ℕ
whole_of b = words_from b 0 (length b / 8)
