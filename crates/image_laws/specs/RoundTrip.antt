-- The two round trips, over the definitions that the writer and the loader are proved to follow. Assumes nothing.
use Rattle.std.specs.Prelude.{Result, Ok, Err, ◌≡◌, Bool, true, false, get_or, drop, replicate, eqb, ltb}
use Rattle.std.proofs.Math.Path.{refl}
use Rattle.std.proofs.Common.{ap, sym, ◌∙◌, take_at}
use mathlib.Core.List.{List, ◌∷◌}
use Prim.Native.Nat.{ℕ, zero, suc, ◌+◌, ◌<◌, ◌≤◌, ◌^◌}
use native.Mathlib.Omega.{arith}
use Rattle.std.proofs.Math.ListN.{length, take}
use borrow.Author.Tests.{eqb-true, eq-eqb, le-ltb}
use Rattle.words.specs.Bytes.{Bytes}
use Rattle.words.specs.Pick.{pick}
use Rattle.image_writer.specs.Dirty.{scan_of}
use Rattle.image_writer.specs.DirtyLaws.{entries_most}
use Rattle.image_calls.specs.Fill.{fill_words, fill_flags}
use Rattle.image.specs.Format.{Entry, entry, label_most, entries_from, entries_of, image_of}
use Rattle.image.specs.Head.{headed, same_head}
use Rattle.image.specs.declared.head.Head.{Head}
use Rattle.image_calls.specs.Loading.{filled, Loads, loads, load_good, load_after, load_of}
use Rattle.image.specs.Reading.{rising, Seen, Reading, bad, good, read_of}
use Rattle.image.specs.TestLaws.{not_both}
use Rattle.image_writer.specs.Writing.{Writes, writes, onto, write_after, write_of}
use Rattle.image_calls.specs.declared.loader.Filled.{Filled}
use Rattle.image_calls.specs.declared.loader.LoadRefusal.TheVariants as refusal
use Rattle.image_writer.specs.declared.writer.WriteRefusal.TheVariants as write_refusal
use Rattle.image_laws.specs.ReadAfterWrite.{Fit, none, one, Valid, label_place, read_after_write}
use Rattle.image_laws.specs.TableLaws.{fill_words_entries, fill_flags_entries, entries_rise, entries_filled, scan_filled}
use Rattle.image_laws.specs.WriteAfterRead.{write_after_read}

-- what machine numbers are: those of a table, and its words
pub record Machine (hd : Head) (words : List ℕ) : Type 0 where
  pub n_fits_lem : hd.n < 2 ^ 64
  pub e_fits_lem : hd.e < 2 ^ 32
  pub seed_fits_lem : hd.seed < 2 ^ 64
  pub words_fit : (i : ℕ) → get_or words i 0 < 2 ^ 64

-- ---- what the writer wrote

record WroteAll (words flags image out : List ℕ) (len : ℕ) (out' : List ℕ) : Type 0 where
  count : ℕ
  clean : scan_of words flags ≡ Ok count
  length_is : len ≡ length image
  out_is : out' ≡ onto image out

wrote_all : (hd : Head) (label words flags out : List ℕ) (len : ℕ) (out' : List ℕ) → write_of hd label words flags out ≡ writes (Ok len) out'
    → WroteAll words flags (image_of hd label (entries_of words flags)) out len out'
unfolding write_of write_after
wrote_all hd label words flags out len out' h = go (scan_of words flags) refl h
  where
    image : List ℕ
    image = image_of hd label (entries_of words flags)

    done : (c : ℕ) → scan_of words flags ≡ Ok c → (z : Bool) → pick z (writes (Err (write_refusal.Room (length image))) out) (writes (Ok (length image)) (onto image out)) ≡ writes (Ok len) out' → WroteAll words flags image out len out'
    done c e true h = let q : Err (write_refusal.Room (length image)) ≡ Ok len = ap (λ (w : Writes). w.answer) h in let z : ◌≡◌ {A = ℕ} 0 1 = cc in absurd (omega arith)
    done c e false h =
        let q : Ok (length image) ≡ Ok len = ap (λ (w : Writes). w.answer) h in
        let l : length image ≡ len = cc in
        record { count = c; clean = e; length_is = sym l; out_is = sym (ap (λ (w : Writes). w.out) h) }

    go : (s : Result ℕ ℕ) → scan_of words flags ≡ s → write_after s image out ≡ writes (Ok len) out' → WroteAll words flags image out len out'
    go (Err s) e h = let q : Err (write_refusal.Dirty (record { 0 = s })) ≡ Ok len = ap (λ (w : Writes). w.answer) h in let z : ◌≡◌ {A = ℕ} 0 1 = cc in absurd (omega arith)
    go (Ok c) e h = done c e (ltb (length out) (length image)) h

-- ---- what the writer wrote, the loader reads back

fit_from : (words flags : List ℕ) (k s : ℕ) → s + k < 2 ^ 64 → ((i : ℕ) → get_or words i 0 < 2 ^ 64) → Fit (entries_from words flags s k)
unfolding entries_from
fit_from words flags zero s h w = none
fit_from words flags (suc k) s h w = go (eqb (get_or flags s 0) 0) (fit_from words flags k (suc s) (omega arith) w)
  where
    go : (z : Bool) → Fit (entries_from words flags (suc s) k) → Fit (pick z (entries_from words flags (suc s) k) (entry s (get_or words s 0) ∷ entries_from words flags (suc s) k))
    go true f = f
    go false f = let a : s < 2 ^ 64 = omega arith in one a (w s) f

module _ (hd : Head) (label words flags : List ℕ) (m : Machine hd words) (lw : length words ≡ hd.n) (lf : length flags ≡ hd.n) (short : length label ≤ label_most) where
  table_valid : Valid hd label (entries_of words flags)
  unfolding entries_of
  table_valid =
      let few : length (entries_from words flags 0 (length flags)) ≤ length flags = entries_most words flags 0 (length flags) in
      let a = m.n_fits_lem in
      let b : length (entries_from words flags 0 (length flags)) < 2 ^ 64 = omega arith in
      let c : 0 + length flags < 2 ^ 64 = omega arith in
      record {
        n_fits = m.n_fits_lem;
        e_fits = m.e_fits_lem;
        seed_fits = m.seed_fits_lem;
        short = short;
        rise = rw (← lf) (entries_rise words flags);
        fit = fit_from words flags (length flags) 0 c m.words_fit;
        few = b;
      }

  -- what the writer wrote the loader reads back: the same words and flags, the number of entries, and the label's place
  pub load_after_write : (out : List ℕ) (len : ℕ) (out' : List ℕ) → write_of hd label words flags out ≡ writes (Ok len) out'
      → (words₀ flags₀ : List ℕ) → length words₀ ≡ hd.n → length flags₀ ≡ hd.n
      → load_of hd words₀ flags₀ (take len out') ≡ loads (Ok (filled (length (entries_of words flags)) (label_place label) (length label))) words flags
  unfolding load_of load_after load_good same_head
  load_after_write out len out' h words₀ flags₀ l₀ k₀ =
      let w = wrote_all hd label words flags out len out' h in
      let image : List ℕ = image_of hd label (entries_of words flags) in
      let t : take len out' ≡ image_of hd label (entries_of words flags) = rw (w.out_is, w.length_is) (take_at (image_of hd label (entries_of words flags)) _ _ refl) in
      let r = read_after_write hd label (entries_of words flags) table_valid in
      let lwf : length words ≡ length flags = omega arith in
      let a : length words₀ ≡ length words = omega arith in
      let b : length flags₀ ≡ length flags = omega arith in
      let fw = fill_words_entries words flags w.count w.clean lwf in
      let ff = fill_flags_entries words flags w.count w.clean lwf in
      rw (t, r, eq-eqb hd.n hd.n refl, eq-eqb hd.e hd.e refl, eq-eqb hd.seed hd.seed refl, a, b, fw, ff)

-- ---- whatever the loader accepts, the writer writes again

pub record LoadedAll (hd : Head) (words flags image : List ℕ) (count label_at label_len : ℕ) (words' flags' : List ℕ) : Type 0 where
  pub s : Seen
  pub read : read_of image ≡ good s
  pub named : s.head ≡ hd
  pub count_is : count ≡ length s.entries
  pub at_is : label_at ≡ s.label_at
  pub len_is_lem : label_len ≡ s.label_len
  pub words_are_lem : words' ≡ fill_words (replicate (length words) 0) s.entries
  pub flags_are_lem : flags' ≡ fill_flags (replicate (length flags) 0) s.entries

-- heads that are the same are equal
same_head_lem : (a b : Head) → same_head a b ≡ true → a ≡ b
unfolding same_head
same_head_lem a b h = go (eqb a.n b.n) refl (eqb a.e b.e) refl (eqb a.seed b.seed) refl h
  where
    go : (x : Bool) → eqb a.n b.n ≡ x → (y : Bool) → eqb a.e b.e ≡ y → (z : Bool) → eqb a.seed b.seed ≡ z → pick x (pick y z false) false ≡ true → a ≡ b
    go true p true q true r h =
        let n : a.n ≡ b.n = eqb-true _ _ p in let e : a.e ≡ b.e = eqb-true _ _ q in let d : a.seed ≡ b.seed = eqb-true _ _ r in
        ap (λ (k : ℕ). headed k a.e a.seed) n ∙ ap (λ (k : ℕ). headed b.n k a.seed) e ∙ ap (λ (k : ℕ). headed b.n b.e k) d
    go true p true q false r h = not_both (sym h)
    go true p false q z r h = not_both (sym h)
    go false p y q z r h = not_both (sym h)

pub loaded_all : (hd : Head) (words flags image : List ℕ) (count label_at label_len : ℕ) (words' flags' : List ℕ)
    → load_of hd words flags image ≡ loads (Ok (filled count label_at label_len)) words' flags' → LoadedAll hd words flags image count label_at label_len words' flags'
unfolding load_of load_after load_good
loaded_all hd words flags image count la ll words' flags' h = go (read_of image) refl h
  where
    done : (s : Seen) → read_of image ≡ good s → (z : Bool) → same_head s.head hd ≡ z
        → pick z (load_good words flags s) (loads (Err refusal.Foreign) words flags) ≡ loads (Ok (filled count la ll)) words' flags' → LoadedAll hd words flags image count la ll words' flags'
    done s r false o h = let q : Err refusal.Foreign ≡ Ok (filled count la ll) = ap (λ (w : Loads). w.answer) h in let z : ◌≡◌ {A = ℕ} 0 1 = cc in absurd (omega arith)
    done s r true o h =
        let q : Ok (filled (length s.entries) s.label_at s.label_len) ≡ Ok (filled count la ll) = ap (λ (w : Loads). w.answer) h in
        let k : filled (length s.entries) s.label_at s.label_len ≡ filled count la ll = cc in
        let d : length s.entries ≡ count = ap (λ (x : Filled). x.count) k in
        let a : s.label_at ≡ la = ap (λ (x : Filled). x.label_at) k in
        let l : s.label_len ≡ ll = ap (λ (x : Filled). x.label_len) k in
        record {
          s = s;
          read = r;
          named = same_head_lem s.head hd o;
          count_is = sym d;
          at_is = sym a;
          len_is_lem = sym l;
          words_are_lem = sym (ap (λ (w : Loads). w.words) h);
          flags_are_lem = sym (ap (λ (w : Loads). w.flags) h);
        }

    go : (r : Reading) → read_of image ≡ r → load_after hd words flags r ≡ loads (Ok (filled count la ll)) words' flags' → LoadedAll hd words flags image count la ll words' flags'
    go (bad p) r h = let q : Err (refusal.Image p) ≡ Ok (filled count la ll) = ap (λ (w : Loads). w.answer) h in let z : ◌≡◌ {A = ℕ} 0 1 = cc in absurd (omega arith)
    go (good s) r h = done s r (same_head s.head hd) refl h

image_again : (image : List ℕ) (s : Seen) (hd : Head) (la ll : ℕ) → s.head ≡ hd → la ≡ s.label_at → ll ≡ s.label_len
    → image ≡ image_of s.head (take s.label_len (drop s.label_at image)) s.entries → image_of hd (take ll (drop la image)) s.entries ≡ image
image_again image s hd la ll p a l h = rw (← p, a, l) (sym h)

write_filled : (hd : Head) (label image words flags out : List ℕ) (es : List Entry) → rising hd.n 0 es ≡ true
    → words ≡ fill_words (replicate hd.n 0) es → flags ≡ fill_flags (replicate hd.n 0) es
    → image_of hd label es ≡ image → length image ≤ length out → write_of hd label words flags out ≡ writes (Ok (length image)) (onto image out)
unfolding write_of write_after
write_filled hd label image words flags out es r w f b room = rw (w, f, scan_filled hd.n es r, entries_filled hd.n es r, b, le-ltb _ _ room)

-- whatever the loader accepts, the writer writes again byte for byte for the same label, where the output has room
pub write_after_load : (hd : Head) (words flags image : List ℕ) → Bytes image → length words ≡ hd.n → length flags ≡ hd.n
    → (count label_at label_len : ℕ) (words' flags' : List ℕ) → load_of hd words flags image ≡ loads (Ok (filled count label_at label_len)) words' flags'
    → (out : List ℕ) → length image ≤ length out
    → write_of hd (take label_len (drop label_at image)) words' flags' out ≡ writes (Ok (length image)) (onto image out)
write_after_load hd words flags image B lw lf count la ll words' flags' h out room =
    let g = loaded_all hd words flags image count la ll words' flags' h in
    let i = write_after_read image B g.s g.read in
    let r : rising hd.n 0 g.s.entries ≡ true = rw g.named at i.rise in
    let w : words' ≡ fill_words (replicate hd.n 0) g.s.entries = g.words_are_lem ∙ rw lw in
    let f : flags' ≡ fill_flags (replicate hd.n 0) g.s.entries = g.flags_are_lem ∙ rw lf in
    let b : image_of hd (take ll (drop la image)) g.s.entries ≡ image = image_again image g.s hd la ll g.named g.at_is g.len_is_lem i.bytes in
    write_filled hd (take ll (drop la image)) image words' flags' out g.s.entries r w f b room
