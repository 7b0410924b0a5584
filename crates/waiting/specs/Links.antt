-- Numbers below m in a buffer: from byte 0 on 2 * m links of four bytes, and after them a queue of such numbers. The first m links are
-- the heads of chains, the others lead on. Assumes nothing.
use Rattle.std.specs.Prelude.{Bool, true, false, List, ◌≡◌, ℕ, zero, suc, ◌+◌, ◌*◌, ◌≤◌, ◌<◌, length, get_or}
use Rattle.words.specs.Bytes.{num_at}
use Rattle.words.specs.Pick.{pick}
use Rattle.queue.specs.Queue.{room, holds, Queue}

-- a link: 0 for none, or one more than a number
unfoldable pub link : List ℕ → ℕ → ℕ
link b i = num_at b (4 * i) 4

-- the bytes that both take
abbrev pub space : ℕ → ℕ
space m = 8 * m + room m

-- whether a number is a candidate
abbrev pub candidate : List ℕ → (m x : ℕ) → Bool
candidate b m x = holds b (8 * m) x

-- the links and the queue lie in a buffer, and every number and one more has four bytes
pub record Fits (b : List ℕ) (m : ℕ) : Type 0 where
  pub queue : Queue b (8 * m) m
  pub small : m < 4294967296

-- how many numbers below k are no candidates
unfoldable pub idle : List ℕ → (m k : ℕ) → ℕ
idle b m zero = 0
idle b m (suc k) = pick (candidate b m k) 0 1 + idle b m k

-- ---- what the calls leave

-- the length, and the bytes after both
pub record Beyond (before after : List ℕ) (m : ℕ) : Type 0 where
  pub same_n : length after ≡ length before
  pub high : (t : ℕ) → space m ≤ t → get_or after t 0 ≡ get_or before t 0

-- no link, and no candidate
pub record Cleared (before after : List ℕ) (m : ℕ) : Type 0 where
  pub fits : Fits after m
  pub beyond : Beyond before after m
  pub links : (i : ℕ) → i < 2 * m → link after i ≡ 0
  pub none : (x : ℕ) → x < m → candidate after m x ≡ false

-- number c, a candidate no longer, is the first on the chain of u
pub record Filed (before after : List ℕ) (m c u : ℕ) : Type 0 where
  pub queue : Queue after (8 * m) m
  pub beyond : Beyond before after m
  pub here : candidate after m c ≡ false
  pub others : (k : ℕ) → k < m → (k ≡ c → ⊥) → candidate after m k ≡ candidate before m k
  pub head : link after u ≡ c + 1
  pub next : link after (m + c) ≡ link before u
  pub links : (i : ℕ) → i < 2 * m → (i ≡ u → ⊥) → (i ≡ m + c → ⊥) → link after i ≡ link before i

-- number x, the first on the chain of c, is off it and a candidate
pub record Popped (before after : List ℕ) (m c x : ℕ) : Type 0 where
  pub queue : Queue after (8 * m) m
  pub beyond : Beyond before after m
  pub here : candidate after m x ≡ true
  pub others : (k : ℕ) → k < m → (k ≡ x → ⊥) → candidate after m k ≡ candidate before m k
  pub head : link after c ≡ link before (m + x)
  pub links : (i : ℕ) → i < 2 * m → (i ≡ c → ⊥) → link after i ≡ link before i
