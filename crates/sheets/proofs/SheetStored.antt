-- A sheet in bytes, read and stored piece by piece; what the export leaves.
-- Assumes nothing.
use mathlib.Core.List.{List, [], ◌∷◌, ◌++◌}
use mathlib.Core.Path.{◌≡◌, refl, sym, ap, ◌∙◌}
use Prim.Native.Nat.{ℕ, zero, suc, ◌+◌, ◌*◌, ◌<◌}
use native.Mathlib.Numerals.{add-one}
use native.Mathlib.Omega.{arith}
use lib.ListN.{length, get_or, set, take, length-append, get_or-append}
use lib.Seq.{get_or-set_same, get_or-set_other, ext_get_or, get_or_at}
use mathlib.Core.Logic.{⊎_elim}
use native.Mathlib.Nat.{eq-or-lt_of_le}
use Rattle.octets.specs.Stores.{put, bytes_of_each}
use Rattle.octets.specs.Words.{split, bytes8, eight_at}
use Rattle.octets.proofs.Storing.{put_chain, put_all, each_length, each_put}
use Rattle.sheet.specs.declared.Sheet.{Sheet}
use Rattle.sheet.specs.Sheets.{adding_refusal_of, Adds}
use Rattle.sheets.specs.SheetBytes.{sheet_bytes, totals_in, sheet_in, added_bytes}

-- ---- the totals read
totals_length : (b : List ℕ) (n : ℕ) → length (totals_in b n) ≡ n
unfolding totals_in
totals_length b zero = refl
totals_length b (suc n) = rw (length-append, totals_length b n) (add-one n)

module _ (b t : List ℕ) (sixteen : length t ≡ 16) where
  to_at : (n k : ℕ) → k < n → get_or (totals_in b n) k 0 ≡ eight_at b (8 * k)
  unfolding totals_in
  to_at zero k h = absurd (omega arith)
  to_at (suc n) k h = ⊎_elim same (λ (l : k < n). below l (to_at n k l)) (eq-or-lt_of_le (omega arith))
    where
      same : k ≡ n → get_or (totals_in b n ++ (eight_at b (8 * n) ∷ [])) k 0 ≡ eight_at b (8 * k)
      same e = rw e (get_or_at (totals_in b n) (eight_at b (8 * n)) [] 0 n (totals_length b n))

      below : k < n → get_or (totals_in b n) k 0 ≡ eight_at b (8 * k) → get_or (totals_in b n ++ (eight_at b (8 * n) ∷ [])) k 0 ≡ eight_at b (8 * k)
      below l ih = get_or-append (totals_in b n) (eight_at b (8 * n) ∷ []) 0 k (rw (totals_length b n) l) ∙ ih

  -- one more is read
  pub read_more : (i v : ℕ) → i < 16 → v ≡ eight_at b (8 * i) → ((k : ℕ) → k < i → get_or t k 0 ≡ eight_at b (8 * k)) → (k : ℕ) → k < i + 1 → get_or (set t i v) k 0 ≡ eight_at b (8 * k)
  read_more i v h e so k l = ⊎_elim same below (eq-or-lt_of_le (omega arith))
    where
      same : k ≡ i → get_or (set t i v) k 0 ≡ eight_at b (8 * k)
      same q = rw (q, get_or-set_same t i v 0 (rw sixteen h)) e

      below : k < i → get_or (set t i v) k 0 ≡ eight_at b (8 * k)
      below m = get_or-set_other t i k v 0 (λ (q : k ≡ i). omega arith) ∙ so k m

  pub all_read : ((k : ℕ) → k < 16 → get_or t k 0 ≡ eight_at b (8 * k)) → t ≡ totals_in b 16
  all_read so =
      ext_get_or 0 t (totals_in b 16) (sixteen ∙ sym (totals_length b 16)) (λ (k : ℕ) (l : k < length t). so k (rw sixteen at l) ∙ sym (to_at 16 k (rw sixteen at l)))

-- ---- a sheet stored
pub totals_more : (l t : List ℕ) (i : ℕ) → length l ≡ 146 → length t ≡ 16 → i < 16
    → put (put l 0 (bytes_of_each (split bytes8) (take i t))) (8 * i) (split bytes8 (get_or t i 0)) ≡ put l 0 (bytes_of_each (split bytes8) (take (i + 1) t))
totals_more l t i h k o =
    let z : 8 * i ≡ 0 + 8 * i = omega arith in
    ap (λ (p : ℕ). put (put l 0 (bytes_of_each (split bytes8) (take i t))) p (split bytes8 (get_or t i 0))) z
    ∙ each_put (split bytes8) 8 (λ (x : ℕ). refl) 0 l 0 t i (omega arith) (omega arith)

pub sheet_stored : (s : Sheet) (l a b c d : List ℕ) → length l ≡ 146 → (a ≡ put l 0 (bytes_of_each (split bytes8) s.totals)) × (length s.totals ≡ 16)
    → b ≡ put a 128 (split bytes8 s.run.high) → c ≡ put b 136 (split bytes8 s.run.low) → d ≡ put c 144 (s.run.met ∷ s.run.fct ∷ []) → d ≡ sheet_bytes s
unfolding sheet_bytes
sheet_stored s l a b c d h (p, k) q r m =
    let ts = bytes_of_each (split bytes8) s.totals in
    let hs = split bytes8 s.run.high in
    let ls = split bytes8 s.run.low in
    let ms : List ℕ = s.run.met ∷ s.run.fct ∷ [] in
    let nt : length ts ≡ 8 * length s.totals = each_length (split bytes8) 8 (λ (x : ℕ). refl) s.totals in
    let nh : length (ts ++ hs) ≡ 136 = rw (length-append ts hs) (omega arith) in
    let nl : length (ts ++ hs ++ ls) ≡ 144 = rw (length-append (ts ++ hs) ls, nh) in
    let two : b ≡ put l 0 (ts ++ hs) = put_chain l a b 0 128 ts hs p q (omega arith) (omega arith) in
    let three : c ≡ put l 0 (ts ++ hs ++ ls) = put_chain l b c 0 136 (ts ++ hs) ls two r (omega arith) (omega arith) in
    put_chain l c d 0 144 (ts ++ hs ++ ls) ms three m (omega arith) (omega arith)
    ∙ put_all l (ts ++ hs ++ ls ++ ms) (rw (length-append (ts ++ hs ++ ls) ms, nl) (sym h))

-- a log added
pub sheet_added : (l was : List ℕ) (s t : Sheet) (n b : ℕ) → s ≡ sheet_in was → Adds s l n b t → n ≡ 0 → sheet_bytes t ≡ added_bytes l was
unfolding added_bytes
sheet_added l was s t n b e a z = rw (← e) (ap sheet_bytes (a.sheet ∙ (rw (sym a.number ∙ z))))

pub adding_number : (l was : List ℕ) (s t : Sheet) (n b : ℕ) → s ≡ sheet_in was → Adds s l n b t → n ≡ adding_refusal_of (sheet_in was) l
adding_number l was s t n b e a = rw (← e) a.number
