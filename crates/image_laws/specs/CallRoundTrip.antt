-- The two round trips, over what the public calls are proved to answer and to leave. Assumes nothing.
use Rattle.std.specs.Prelude.{Ok, Err, ◌≡◌, refl, true, List, ℕ, ◌≤◌, length, take, drop}
use Rattle.std.proofs.Common.{ap, sym, ◌∙◌, arith, length-take}
use Rattle.std.proofs.lemmas.List.{length-replicate}
use Rattle.words.specs.Bytes.{Bytes}
use Rattle.geometry.specs.Config.{Gated}
use Rattle.funnel.specs.CallLaws.{gate_valid, valid_gate}
use Rattle.funnel.specs.Calls.{table_gate}
use Rattle.funnel.specs.Insert.{with_count}
use Rattle.funnel.specs.Valid.{Valid}
use Rattle.funnel.specs.declared.table.FunnelTable.{FunnelTable}
use Rattle.image_calls.specs.CallLaws.{gate_short, Writable, gate_writable}
use Rattle.image_calls.specs.Calls.{write_gate, write_by, write_image_of, loaded, Loadings, loadings, loaded_of, load_by, load_image_of}
use Rattle.image_calls.specs.FillLaws.{length_fill_words, length_fill_flags}
use Rattle.image.specs.Format.{label_most, entries_of}
use Rattle.image_calls.specs.Loading.{filled, LoadAnswer, Loads, loads, load_of}
use Rattle.image.specs.Reading.{rising}
use Rattle.image_writer.specs.Writing.{Writes, writes, onto, head_of, write_of}
use Rattle.image_calls.specs.declared.calls.LoadImageRefusal.TheVariants as loading
use Rattle.image_calls.specs.declared.calls.Loaded.{Loaded}
use Rattle.image_writer.specs.declared.writer.WriteRefusal.TheVariants as write_refusal
use Rattle.image_laws.specs.ReadAfterWrite.{label_place}
use Rattle.image_laws.specs.RoundTrip.{Machine, LoadedAll, loaded_all, load_after_write, write_after_load}
use Rattle.image_laws.specs.TableLaws.{rising_few}
use Rattle.image_laws.specs.WriteAfterRead.{write_after_read}

-- ---- what the writer wrote, the loader reads back

-- a written image passed the writer's gate
record Wrote (table : FunnelTable) (counts words flags label out : List ℕ) (len : ℕ) (out' : List ℕ) : Type 0 where
  able : Writable table counts words flags label
  is : write_of (head_of table) label words flags out ≡ writes (Ok len) out'

wrote_of : (table : FunnelTable) (counts words flags label out : List ℕ) (len : ℕ) (out' : List ℕ) → write_image_of table counts words flags label out ≡ writes (Ok len) out'
    → Wrote table counts words flags label out len out'
unfolding write_image_of
wrote_of table counts words flags label out len out' h = go (write_gate table counts (length words) (length flags) (length label)) refl h
  where
    go : (g : Gated) → write_gate table counts (length words) (length flags) (length label) ≡ g
        → write_by g out (write_of (head_of table) label words flags out) ≡ writes (Ok len) out' → Wrote table counts words flags label out len out'
    go (Err x) e h = let q : Err (write_refusal.Gate x) ≡ Ok len = ap (λ (w : Writes). w.answer) h in let z : ◌≡◌ {A = ℕ} 0 1 = cc in absurd (omega arith)
    go (Ok _) e h = record { able = gate_writable table counts words flags label e; is = h }

-- an image that `write_image` wrote of a table, `load_image` loads back into any buffers of its length: the same words and flags, the
-- number of occupied slots as the count, and the label's place
pub load_image_after_write_image : (table : FunnelTable) (counts words flags label out : List ℕ) → Machine (head_of table) words
    → (len : ℕ) (out' : List ℕ) → write_image_of table counts words flags label out ≡ writes (Ok len) out'
    → (words₀ flags₀ : List ℕ) → length words₀ ≡ table.n → length flags₀ ≡ table.n
    → load_image_of table counts words₀ flags₀ (take len out') ≡ loadings (Ok (loaded (with_count table (length (entries_of words flags))) (label_place label) (length label))) words flags
unfolding load_image_of loaded_of
load_image_after_write_image table counts words flags label out m len out' h words₀ flags₀ lw lf =
    let w = wrote_of table counts words flags label out len out' h in
    let v = w.able.valid in
    let v₀ : Valid table counts words₀ flags₀ =
    record { planned = v.planned; cap_least = v.cap_least; cap_most = v.cap_most; words_length = lw; flags_length = lf; counted = v.counted } in
    let l = load_after_write (head_of table) label words flags m v.words_length v.flags_length w.able.short out len out' w.is words₀ flags₀ lw lf in
    rw (valid_gate v₀, l)

-- ---- whatever the loader accepts, the writer writes again

-- a loaded image passed the gate
record LoadedIn (table : FunnelTable) (counts words flags image : List ℕ) (table' : FunnelTable) (label_at label_len : ℕ) (words' flags' : List ℕ) : Type 0 where
  valid : Valid table counts words flags
  count : ℕ
  table_is : table' ≡ with_count table count
  is : load_of (head_of table) words flags image ≡ loads (Ok (filled count label_at label_len)) words' flags'

loaded_in : (table : FunnelTable) (counts words flags image : List ℕ) (table' : FunnelTable) (label_at label_len : ℕ) (words' flags' : List ℕ)
    → load_image_of table counts words flags image ≡ loadings (Ok (loaded table' label_at label_len)) words' flags' → LoadedIn table counts words flags image table' label_at label_len words' flags'
unfolding load_image_of loaded_of
loaded_in table counts words flags image table' la ll words' flags' h =
    gated (table_gate table counts (length words) (length flags)) refl h
  where
    got : (l : Loads) → load_of (head_of table) words flags image ≡ l → table_gate table counts (length words) (length flags) ≡ Ok tt
        → (f : LoadAnswer) → l.answer ≡ f → loadings (loaded_of table f) l.words l.flags ≡ loadings (Ok (loaded table' la ll)) words' flags' → LoadedIn table counts words flags image table' la ll words' flags'
    got l e p (Err r) a h = let q : Err (loading.Load r) ≡ Ok (loaded table' la ll) = ap (λ (w : Loadings). w.answer) h in let z : ◌≡◌ {A = ℕ} 0 1 = cc in absurd (omega arith)
    got l e p (Ok k) a h =
        let q : Ok (loaded (with_count table k.count) k.label_at k.label_len) ≡ Ok (loaded table' la ll) = ap (λ (w : Loadings). w.answer) h in
        let u : loaded (with_count table k.count) k.label_at k.label_len ≡ loaded table' la ll = cc in
        let t : with_count table k.count ≡ table' = ap (λ (x : Loaded). x.table) u in
        let i : k.label_at ≡ la = ap (λ (x : Loaded). x.label_at) u in
        let j : k.label_len ≡ ll = ap (λ (x : Loaded). x.label_len) u in
        let w : l.words ≡ words' = ap (λ (w : Loadings). w.words) h in
        let f : l.flags ≡ flags' = ap (λ (w : Loadings). w.flags) h in
        let s : l ≡ loads (Ok (filled k.count k.label_at k.label_len)) words' flags' = ap (λ (z : LoadAnswer). loads z l.words l.flags) a ∙ rw (w, f) in
        record { valid = gate_valid table counts words flags p; count = k.count; table_is = sym t; is = e ∙ s ∙ rw (i, j) }

    gated : (g : Gated) → table_gate table counts (length words) (length flags) ≡ g
        → load_by g table words flags (load_of (head_of table) words flags image) ≡ loadings (Ok (loaded table' la ll)) words' flags' → LoadedIn table counts words flags image table' la ll words' flags'
    gated (Err x) e h = let q : Err (loading.Gate x) ≡ Ok (loaded table' la ll) = ap (λ (w : Loadings). w.answer) h in let z : ◌≡◌ {A = ℕ} 0 1 = cc in absurd (omega arith)
    gated (Ok _) e h = got (load_of (head_of table) words flags image) refl e (load_of (head_of table) words flags image).answer refl h

-- the table that was loaded passes the writer's gate with the image's own label
module _ (table : FunnelTable) (counts words flags image : List ℕ) (B : Bytes image) (v : Valid table counts words flags) (count la ll : ℕ) (words' flags' : List ℕ)
    (h : load_of (head_of table) words flags image ≡ loads (Ok (filled count la ll)) words' flags') where
  all : LoadedAll (head_of table) words flags image count la ll words' flags'
  all = loaded_all (head_of table) words flags image count la ll words' flags' h

  label_short : length (take ll (drop la image)) ≤ label_most
  label_short =
      let s = (write_after_read image B all.s all.read).short in
      let e = all.len_is_lem in
      rw length-take (omega arith)

  count_most : count ≤ table.n
  count_most =
      let i = (write_after_read image B all.s all.read).rise in
      let r : rising table.n 0 all.s.entries ≡ true = rw all.named at i in
      let f = rising_few table.n 0 all.s.entries r (omega arith) in
      let e = all.count_is in
      omega arith

  loaded_valid : Valid (with_count table count) counts words' flags'
  loaded_valid =
      let w = v.words_length in
      let f = v.flags_length in
      record {
        planned = v.planned;
        cap_least = v.cap_least;
        cap_most = v.cap_most;
        words_length = ap length all.words_are_lem ∙ length_fill_words _ _ ∙ length-replicate _ _ ∙ w;
        flags_length = ap length all.flags_are_lem ∙ length_fill_flags _ _ ∙ length-replicate _ _ ∙ f;
        counted = count_most;
      }

  loaded_gate : write_gate (with_count table count) counts (length words') (length flags') (length (take ll (drop la image))) ≡ Ok tt
  loaded_gate = sym (gate_short (with_count table count) counts (length words') (length flags') (length (take ll (drop la image))) label_short) ∙ valid_gate loaded_valid

-- an image that `load_image` accepts, `write_image` writes again byte for byte, for the label that stands in it
pub write_image_after_load_image : (table : FunnelTable) (counts words flags image : List ℕ) → Bytes image
    → (table' : FunnelTable) (label_at label_len : ℕ) (words' flags' : List ℕ) → load_image_of table counts words flags image ≡ loadings (Ok (loaded table' label_at label_len)) words' flags'
    → (out : List ℕ) → length image ≤ length out
    → write_image_of table' counts words' flags' (take label_len (drop label_at image)) out ≡ writes (Ok (length image)) (onto image out)
unfolding write_image_of
write_image_after_load_image table counts words flags image B table' la ll words' flags' h out room =
    let l = loaded_in table counts words flags image table' la ll words' flags' h in
    let v = l.valid in
    let g = loaded_gate table counts words flags image B v l.count la ll words' flags' l.is in
    let w = write_after_load (head_of table) words flags image B v.words_length v.flags_length l.count la ll words' flags' l.is out room in
    again l.count table' l.table_is g w
  where
    again : (c : ℕ) (t : FunnelTable) → t ≡ with_count table c → write_gate (with_count table c) counts (length words') (length flags') (length (take ll (drop la image))) ≡ Ok tt
        → write_of (head_of table) (take ll (drop la image)) words' flags' out ≡ writes (Ok (length image)) (onto image out)
        → write_by (write_gate t counts (length words') (length flags') (length (take ll (drop la image)))) out (write_of (head_of t) (take ll (drop la image)) words' flags' out) ≡ writes (Ok (length image)) (onto image out)
    again c t e g w = rw (e, g, w)
