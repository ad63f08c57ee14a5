-- A frame laid out from its words, its entries and its main stream: what stands at each place.
-- Assumes nothing.
use mathlib.Core.List.{List, [], ◌∷◌, ◌++◌, append_assoc}
use mathlib.Core.Path.{◌≡◌, refl, sym, ap, ◌∙◌}
use Prim.Native.Nat.{ℕ, zero, suc, ◌+◌, ◌-◌, ◌*◌, ◌^◌, ◌<◌}
use native.Mathlib.Nat.{le_of_suc-le-suc, le_of_lt}
use native.Mathlib.Omega.{arith}
use lib.ListN.{length, get_or, take, drop, replicate, length-append}
use lib.Seq.{take_at, drop_at, get_or-append-add, get_or-append_seam, split_at, length-take-le}
use Rattle.sum.specs.Sum.{sum_of}
use Rattle.sum.proofs.SumLaws.{sum_lt}
use Rattle.frame.specs.declared.Fields.{Fields}
use Rattle.frame.specs.declared.Stream.{Stream}
use Rattle.octets.specs.Words.{split, join, Fit, bytes2, bytes4, word_at}
use Rattle.frame.specs.Frame.{sync_widths, status_by, fsync_by, fc_widths, sstc_widths, eoh_widths, eof_widths, tist_widths, carried_by}
use Rattle.frame.specs.Writing.{entries_of, fl_in, stream_values, streams_bytes, sync_in, header_in, end_in, frame_in, AllFit}
use Rattle.frame.specs.Answers.{time_by, digit, no_stream}
use Rattle.frame.proofs.Entries.{bytes_append, bytes_length}
use Rattle.octets.proofs.SplitJoin.{join_split, split_fit, split_join, join_lt}

-- the four bytes of a word, and the two of half a word
unfoldable pub four : ℕ → List ℕ
four w = split bytes4 w

unfoldable pub two : ℕ → List ℕ
two w = split bytes2 w

four_length : (w : ℕ) → length (four w) ≡ 4
unfolding four
four_length w = refl

pub two_length : (w : ℕ) → length (two w) ≡ 2
unfolding two
two_length w = refl

-- two halves are a word's four bytes
pub halves : (a b : ℕ) → a < 2 ^ 16 → b < 2 ^ 16 → two a ++ two b ≡ four (join eoh_widths (a ∷ b ∷ []))
unfolding four two
halves a b p q =
    let e : join bytes4 (split bytes2 a ++ split bytes2 b) ≡ join eoh_widths (a ∷ b ∷ []) = omega arith in
    let f = split_fit bytes2 a in
    let g = split_fit bytes2 b in
    sym (split_join bytes4 (split bytes2 a ++ split bytes2 b) (f.0, (f.1.0, g)))
    ∙ ap (split bytes4) e

-- a word that stands behind xs is read there
word_there : (xs ys : List ℕ) (w p : ℕ) → length xs ≡ p → w < 2 ^ 32 → word_at (xs ++ (four w ++ ys)) p ≡ w
unfolding four
word_there xs ys w p l h =
    let zs = split bytes4 w ++ ys in
    rw (← l, get_or-append-add xs zs 1 0, get_or-append-add xs zs 2 0, get_or-append-add xs zs 3 0, get_or-append_seam)
    (join_split bytes4 w h)

-- ---- the entries' bytes
bytes_one : (s : Stream) → streams_bytes (s ∷ []) ≡ four (join sstc_widths (stream_values s))
unfolding streams_bytes four
bytes_one s = refl

bytes_cons : (s : Stream) (ss : List Stream) → streams_bytes (s ∷ ss) ≡ four (join sstc_widths (stream_values s)) ++ streams_bytes ss
unfolding streams_bytes four
bytes_cons s ss = refl

-- a word behind the entries is one entry more
pub bytes_more : (ss : List Stream) (s : Stream) (w : ℕ) (ys : List ℕ) → w ≡ join sstc_widths (stream_values s) → streams_bytes ss ++ (four w ++ ys) ≡ streams_bytes (ss ++ (s ∷ [])) ++ ys
bytes_more ss s w ys e = rw (e, bytes_append, bytes_one) (sym (append_assoc (streams_bytes ss) (four (join sstc_widths (stream_values s))) ys))

pub fit_at : (ss : List Stream) (i : ℕ) → AllFit ss → i < length ss → Fit sstc_widths (stream_values (get_or ss i no_stream))
fit_at [] i a h = absurd (omega arith)
fit_at (s ∷ ss) zero a h = a.0
fit_at (s ∷ ss) (suc i) a h = fit_at ss i a.1 (le_of_suc-le-suc h)

-- the word of entry i, in a list that begins with xs
entry_there : (xs : List ℕ) (ss : List Stream) (ys : List ℕ) (i p : ℕ) → AllFit ss → i < length ss → p ≡ length xs + 4 * i
    → word_at (xs ++ (streams_bytes ss ++ ys)) p ≡ join sstc_widths (stream_values (get_or ss i no_stream))
entry_there xs ss ys i p a h l =
    let s = get_or ss i no_stream in
    let front = take i ss in
    let back = drop (suc i) ss in
    let e : xs ++ (streams_bytes ss ++ ys) ≡ (xs ++ streams_bytes front) ++ (four (join sstc_widths (stream_values s)) ++ (streams_bytes back ++ ys)) =
    ap (λ (l : List Stream). xs ++ (streams_bytes l ++ ys)) (split_at ss i no_stream h) ∙ rw (bytes_append, bytes_cons) (simp append_assoc) in
    let n : length (xs ++ streams_bytes front) ≡ p = simp (length-append, bytes_length, length-take-le i ss (le_of_lt h)) (omega arith) in
    ap (λ (l : List ℕ). word_at l p) e ∙ word_there (xs ++ streams_bytes front) (streams_bytes back ++ ys) (join sstc_widths (stream_values s)) p n (join_lt sstc_widths (stream_values s) (fit_at ss i a h))

-- ---- SYNC, FC, the entries, EOH, the main stream, EOF, TIST, padding
unfoldable pub laid : ℕ → ℕ → List Stream → ℕ → List ℕ → ℕ → ℕ → List ℕ → List ℕ
laid s c ss e m z t pad = four s ++ (four c ++ (streams_bytes ss ++ (four e ++ (m ++ (four z ++ (four t ++ pad))))))

module _ (s c : ℕ) (ss : List Stream) (e : ℕ) (m : List ℕ) (z t : ℕ) (pad : List ℕ) where
  pub laid_length : length (laid s c ss e m z t pad) ≡ 20 + 4 * length ss + length m + length pad
  unfolding laid
  laid_length = simp (length-append, four_length, bytes_length) (omega arith)

  pub at_sync : s < 2 ^ 32 → word_at (laid s c ss e m z t pad) 0 ≡ s
  unfolding laid
  at_sync h = word_there [] (four c ++ (streams_bytes ss ++ (four e ++ (m ++ (four z ++ (four t ++ pad)))))) s 0 refl h

  pub at_fc : c < 2 ^ 32 → word_at (laid s c ss e m z t pad) 4 ≡ c
  unfolding laid
  at_fc h = word_there (four s) (streams_bytes ss ++ (four e ++ (m ++ (four z ++ (four t ++ pad))))) c 4 (four_length s) h

  pub at_entry : (i : ℕ) → AllFit ss → i < length ss → word_at (laid s c ss e m z t pad) (4 + (i + 1) * 4) ≡ join sstc_widths (stream_values (get_or ss i no_stream))
  unfolding laid
  at_entry i a h =
      let xs = four s ++ four c in
      let ys = four e ++ (m ++ (four z ++ (four t ++ pad))) in
      let p = 4 + (i + 1) * 4 in
      let l : p ≡ length xs + 4 * i = simp (length-append, four_length) (omega arith) in
      let g : four s ++ (four c ++ (streams_bytes ss ++ ys)) ≡ xs ++ (streams_bytes ss ++ ys) = simp append_assoc in
      ap (λ (f : List ℕ). word_at f p) g ∙ entry_there xs ss ys i p a h l

  -- a word at p, behind what is as long as p
  behind : (xs ys : List ℕ) (w p : ℕ) → laid s c ss e m z t pad ≡ xs ++ (four w ++ ys) → length xs ≡ p → w < 2 ^ 32 → word_at (laid s c ss e m z t pad) p ≡ w
  behind xs ys w p g l h = ap (λ (f : List ℕ). word_at f p) g ∙ word_there xs ys w p l h

  pub at_eoh : (p : ℕ) → p ≡ 8 + 4 * length ss → e < 2 ^ 32 → word_at (laid s c ss e m z t pad) p ≡ e
  unfolding laid
  at_eoh p l h =
      behind (four s ++ four c ++ streams_bytes ss) (m ++ (four z ++ (four t ++ pad))) e p
      (simp append_assoc)
      (simp (length-append, four_length, bytes_length) (omega arith))
      h

  pub at_eof : (p : ℕ) → p ≡ 12 + 4 * length ss + length m → z < 2 ^ 32 → word_at (laid s c ss e m z t pad) p ≡ z
  unfolding laid
  at_eof p l h =
      behind (four s ++ four c ++ streams_bytes ss ++ four e ++ m) (four t ++ pad) z p
      (simp append_assoc)
      (simp (length-append, four_length, bytes_length) (omega arith))
      h

  pub at_tist : (p : ℕ) → p ≡ 16 + 4 * length ss + length m → t < 2 ^ 32 → word_at (laid s c ss e m z t pad) p ≡ t
  unfolding laid
  at_tist p l h =
      behind (four s ++ four c ++ streams_bytes ss ++ four e ++ m ++ four z) pad t p
      (simp append_assoc)
      (simp (length-append, four_length, bytes_length) (omega arith))
      h

  -- the header sum is over FC, the entries and the first half of EOH
  pub header_of : (k : ℕ) → k ≡ 6 + 4 * length ss → (a b : List ℕ) → four e ≡ a ++ b → length a ≡ 2 → take k (drop 4 (laid s c ss e m z t pad)) ≡ four c ++ streams_bytes ss ++ a
  unfolding laid
  header_of k l a b g n =
      let rest = m ++ (four z ++ (four t ++ pad)) in
      let q : four c ++ (streams_bytes ss ++ (four e ++ rest)) ≡ (four c ++ streams_bytes ss ++ a) ++ (b ++ rest) = rw g (simp append_assoc) in
      ap (take k) (drop_at (four s) (four c ++ (streams_bytes ss ++ (four e ++ rest))) 4 (four_length s) ∙ q)
      ∙ take_at (four c ++ streams_bytes ss ++ a) (b ++ rest) k (simp (length-append, four_length, bytes_length) (omega arith))

  pub main_of_lem : (p k : ℕ) → p ≡ 12 + 4 * length ss → k ≡ length m → take k (drop p (laid s c ss e m z t pad)) ≡ m
  unfolding laid
  main_of_lem p k l n =
      let xs = four s ++ four c ++ streams_bytes ss ++ four e in
      let rest = four z ++ (four t ++ pad) in
      let q : four s ++ (four c ++ (streams_bytes ss ++ (four e ++ (m ++ rest)))) ≡ xs ++ (m ++ rest) = simp append_assoc in
      ap (take k) (ap (drop p) q ∙ drop_at xs (m ++ rest) p (simp (length-append, four_length, bytes_length) (omega arith)))
      ∙ take_at m rest k (sym n)

  pub padding_of : (p : ℕ) → p ≡ 20 + 4 * length ss + length m → drop p (laid s c ss e m z t pad) ≡ pad
  unfolding laid
  padding_of p l =
      let xs = four s ++ four c ++ streams_bytes ss ++ four e ++ m ++ four z ++ four t in
      let q : four s ++ (four c ++ (streams_bytes ss ++ (four e ++ (m ++ (four z ++ (four t ++ pad)))))) ≡ xs ++ pad = simp append_assoc in
      ap (drop p) q ∙ drop_at xs pad p (simp (length-append, four_length, bytes_length) (omega arith))

-- ---- the frame that fields call for is laid out so
abbrev pub sync_values : Fields → List ℕ
sync_values x = status_by x.level ∷ fsync_by (digit x.fsync1) ∷ []

abbrev pub fc_values : Fields → List ℕ
fc_values x = x.fct ∷ digit x.ficf ∷ x.count ∷ x.fp ∷ x.mid ∷ fl_in x ∷ []

abbrev pub eoh_values : Fields → List ℕ
eoh_values x = x.mnsc ∷ sum_of (header_in x) ∷ []

abbrev pub eof_values : Fields → List ℕ → List ℕ
eof_values x m = sum_of m ∷ x.rfu ∷ []

abbrev pub tist_values : Fields → List ℕ
tist_values x = x.rfa ∷ time_by x.timestamp ∷ []

abbrev pub padding_in : Fields → List ℕ
padding_in x = replicate (6144 - carried_by (fl_in x)) 0x55

pub header_laid : (x : Fields) → four (join fc_widths (fc_values x)) ++ streams_bytes (entries_of x) ++ two x.mnsc ≡ header_in x
unfolding header_in four two
header_laid x = refl

unfoldable pub laid_in : Fields → List ℕ → List ℕ
laid_in x m =
    laid
    (join sync_widths (sync_values x))
    (join fc_widths (fc_values x))
    (entries_of x)
    (join eoh_widths (eoh_values x))
    m
    (join eof_widths (eof_values x m))
    (join tist_widths (tist_values x))
    (padding_in x)

-- the halves of EOH and of EOF put together, and the pieces regrouped
regroup : (s c : ℕ) (ss : List Stream) (a b : ℕ) (m : List ℕ) (u v t : ℕ) (pad : List ℕ) → a < 2 ^ 16 → b < 2 ^ 16 → u < 2 ^ 16 → v < 2 ^ 16
    → four s ++ (four c ++ streams_bytes ss ++ two a) ++ two b ++ m ++ (two u ++ two v ++ four t) ++ pad ≡ laid s c ss (join eoh_widths (a ∷ b ∷ [])) m (join eof_widths (u ∷ v ∷ [])) t pad
unfolding laid
regroup s c ss a b m u v t pad ha hb hu hv = rw (← halves a b ha hb, ← halves u v hu hv) (simp append_assoc)

pub frame_laid : (x : Fields) (m : List ℕ) → x.mnsc < 2 ^ 16 → x.rfu < 2 ^ 16 → frame_in x m ≡ laid_in x m
unfolding frame_in sync_in header_in end_in laid_in four two
frame_laid x m p q =
    regroup (join sync_widths (sync_values x)) (join fc_widths (fc_values x)) (entries_of x) x.mnsc (sum_of (header_in x)) m (sum_of m) x.rfu (join tist_widths (tist_values x)) (padding_in x)
    p (sum_lt (header_in x)) (sum_lt m) q
