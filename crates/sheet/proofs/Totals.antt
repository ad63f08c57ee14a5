-- The totals of the rows: one entry more at a time, and of two lists joined.
-- Assumes nothing.
use mathlib.Core.Bool.{Bool, true, false, ◌&&◌}
use mathlib.Core.List.{List, [], ◌∷◌, ◌++◌}
use mathlib.Core.Logic.{⊎_elim}
use mathlib.Core.Path.{◌≡◌, refl, sym, ap₂, ◌∙◌}
use Prim.Native.Nat.{ℕ, zero, suc, ◌+◌, ◌≤◌, ◌<◌}
use native.Mathlib.Numerals.{add-one}
use native.Mathlib.Nat.{eq-or-lt_of_le}
use native.Mathlib.Omega.{arith}
use borrow.Author.Tests.{eqb-true, eqb-false, ltb-true, ltb-false, leb-true, le-leb, lt-leb}
use lib.Dec.{eqb, ltb, leb}
use lib.ListN.{length, get_or, set, drop, length-append, length-set, get_or-append, get_or-eq_default}
use lib.Seq.{get_or-set_same, get_or-set_other, ext_get_or, get_or_at, drop-cons, drop-length}
use Rattle.octets.proofs.Deciding.{both}
use Rattle.sum.specs.Sum.{digit}
use Rattle.nightlog.specs.declared.Entry.{Entry}
use Rattle.sheet.specs.Sheets.{count, row_by, in_row, totals_to, totals_added, all_at_most}

pub count_append : (t : Entry → Bool) (es fs : List Entry) → count t (es ++ fs) ≡ count t es + count t fs
unfolding count
count_append t [] fs = omega arith
count_append t (e ∷ es) fs = rw (count_append t es fs) (omega arith)

digit_le : (b : Bool) → digit b ≤ 1
digit_le true = omega arith
digit_le false = omega arith

pub count_le : (t : Entry → Bool) (es : List Entry) → count t es ≤ length es
unfolding count
count_le t [] = omega arith
count_le t (e ∷ es) = omega (arith, count_le t es, digit_le (t e))

module _ (t : List ℕ) (es : List Entry) where
  to_length : (n : ℕ) → length (totals_to t es n) ≡ n
  unfolding totals_to
  to_length zero = refl
  to_length (suc n) = rw (length-append, to_length n) (add-one n)

  to_at : (n k : ℕ) → k < n → get_or (totals_to t es n) k 0 ≡ get_or t k 0 + count (in_row k) es
  unfolding totals_to
  to_at zero k h = absurd (omega arith)
  to_at (suc n) k h = ⊎_elim same (λ (b : k < n). below b (to_at n k b)) (eq-or-lt_of_le (omega arith))
    where
      last : ℕ
      last = get_or t n 0 + count (in_row n) es

      same : k ≡ n → get_or (totals_to t es n ++ (last ∷ [])) k 0 ≡ get_or t k 0 + count (in_row k) es
      same e = rw e (get_or_at (totals_to t es n) last [] 0 n (to_length n))

      below : k < n → get_or (totals_to t es n) k 0 ≡ get_or t k 0 + count (in_row k) es → get_or (totals_to t es n ++ (last ∷ [])) k 0 ≡ get_or t k 0 + count (in_row k) es
      below b ih = get_or-append (totals_to t es n) (last ∷ []) 0 k (rw (to_length n) b) ∙ ih

  pub total_length : length (totals_added t es) ≡ 16
  total_length = to_length 16

  pub total_at : (k : ℕ) → k < 16 → get_or (totals_added t es) k 0 ≡ get_or t k 0 + count (in_row k) es
  total_at k h = to_at 16 k h

  -- no total grows by more than the number of entries
  pub total_le : (k : ℕ) → get_or (totals_added t es) k 0 ≤ get_or t k 0 + length es
  total_le k = go (ltb k 16) refl
    where
      go : (b : Bool) → ltb k 16 ≡ b → get_or (totals_added t es) k 0 ≤ get_or t k 0 + length es
      go true h = rw (total_at k (ltb-true k 16 h)) (omega (arith, count_le (in_row k) es))
      go false h = rw (get_or-eq_default (totals_added t es) 0 {n = k} (rw total_length (ltb-false k 16 h))) (omega arith)

-- ONE LIST AFTER THE OTHER is both at once
to_joined : (t : List ℕ) (es fs : List Entry) (n : ℕ) → n ≤ 16 → totals_to (totals_added t es) fs n ≡ totals_to t (es ++ fs) n
unfolding totals_to
to_joined t es fs zero h = refl
to_joined t es fs (suc n) h =
    let e : get_or (totals_added t es) n 0 + count (in_row n) fs ≡ get_or t n 0 + count (in_row n) (es ++ fs) =
    rw (total_at t es n (omega arith), count_append (in_row n) es fs) (omega arith) in
    ap₂ (λ (a : List ℕ) (b : ℕ). a ++ (b ∷ [])) (to_joined t es fs n (omega arith)) e

pub totals_joined : (t : List ℕ) (es fs : List Entry) → totals_added (totals_added t es) fs ≡ totals_added t (es ++ fs)
totals_joined t es fs = to_joined t es fs 16 (omega arith)

module _ (t : List ℕ) (sixteen : length t ≡ 16) where
  same_totals : (u : List ℕ) (es : List Entry) → length u ≡ 16 → ((k : ℕ) → k < 16 → get_or u k 0 ≡ get_or t k 0 + count (in_row k) es) → u ≡ totals_added t es
  same_totals u es n h =
      ext_get_or 0 u (totals_added t es) (n ∙ sym (total_length t es))
      (λ (k : ℕ) (l : k < length u). h k (rw n at l) ∙ sym (total_at t es k (rw n at l)))

  pub totals_none : t ≡ totals_added t []
  unfolding count
  totals_none = same_totals t [] sixteen (λ (k : ℕ) (l : k < 16). omega arith)

  -- one more in the entry's row
  module _ (e : Entry) (r : ℕ) (q : r ≡ row_by e.kind e.code e.level) where
    pub total_more : set t r (get_or t r 0 + 1) ≡ totals_added t (e ∷ [])
    unfolding count
    total_more =
        same_totals (set t r (get_or t r 0 + 1)) (e ∷ []) (rw length-set sixteen) (λ (k : ℕ) (l : k < 16). rw (← q) (go k l (eqb r k) refl))
      where
        go : (k : ℕ) → k < 16 → (b : Bool) → eqb r k ≡ b → get_or (set t r (get_or t r 0 + 1)) k 0 ≡ get_or t k 0 + (digit (eqb r k) + 0)
        go k l true h =
            let p : r ≡ k = eqb-true r k h in
            rw (h, p, get_or-set_same t k (get_or t k 0 + 1) 0 (rw sixteen l))
        go k l false h =
            let o : k ≡ r → ⊥ = λ (p : k ≡ r). eqb-false r k h (sym p) in
            rw (h, get_or-set_other t r k (get_or t r 0 + 1) 0 o) (omega arith)

    -- a row beyond the last is none
    pub total_kept : 16 ≤ r → t ≡ totals_added t (e ∷ [])
    unfolding count
    total_kept far =
        same_totals t (e ∷ []) sixteen (λ (k : ℕ) (l : k < 16). rw (← q) (go k l (eqb r k) refl))
      where
        go : (k : ℕ) → k < 16 → (b : Bool) → eqb r k ≡ b → get_or t k 0 ≡ get_or t k 0 + (digit (eqb r k) + 0)
        go k l true h = let p : r ≡ k = eqb-true r k h in absurd (omega arith)
        go k l false h = rw h (omega arith)

-- ---- room in all the totals
module _ (m : ℕ) where
  pub room_at : (t : List ℕ) → all_at_most m t ≡ true → (k : ℕ) → get_or t k 0 ≤ m
  room_at [] h k = omega arith
  room_at (x ∷ xs) h zero = leb-true x m (both (leb x m) (all_at_most m xs) h).0
  room_at (x ∷ xs) h (suc k) = room_at xs (both (leb x m) (all_at_most m xs) h).1 k

  module _ (t : List ℕ) (sixteen : length t ≡ 16) where
    turn : (i : ℕ) → i < 16 → all_at_most m (drop i t) ≡ (leb (get_or t i 0) m && all_at_most m (drop (i + 1) t))
    turn i h = rw (drop-cons t i 0 (rw sixteen h), add-one i)

    pub room_out : (i : ℕ) → i < 16 → m < get_or t i 0 → false ≡ all_at_most m (drop i t)
    room_out i h o = sym (turn i h ∙ (rw (lt-leb (get_or t i 0) m o)))

    pub room_more : (i : ℕ) → i < 16 → get_or t i 0 ≤ m → all_at_most m (drop i t) ≡ all_at_most m (drop (i + 1) t)
    room_more i h o = turn i h ∙ (rw (le-leb (get_or t i 0) m o))

    pub room_end : (i : ℕ) → i ≡ 16 → true ≡ all_at_most m (drop i t)
    room_end i h = rw (h, ← sixteen, drop-length t)
