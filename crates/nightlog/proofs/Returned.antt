-- Written then read returns the entry, read then written the bytes: of a record, and of a log.
-- Assumes nothing.
use mathlib.Core.List.{List, [], ◌∷◌, ◌++◌, append-nil}
use mathlib.Core.Path.{◌≡◌, refl, sym, ap, ap₂, ◌∙◌}
use Prim.Native.Nat.{ℕ, zero, suc, ◌+◌, ◌*◌, ◌≤◌, ◌<◌, ◌^◌}
use native.Mathlib.Numerals.{add-one}
use native.Mathlib.Omega.{arith}
use lib.ListN.{length, get_or, take, drop, length-append}
use lib.Seq.{drop-cons, take-add, get_or-append-add}
use Rattle.octets.specs.Words.{split, bytes8, eight_at}
use Rattle.octets.proofs.SplitJoin.{join_split, split_join}
use Rattle.octets.proofs.Storing.{each_append}
use Rattle.frame.specs.Writing.{Bytes}
use Rattle.nightlog.specs.declared.Entry.{Entry}
use Rattle.nightlog.specs.Log.{record_of, entry_from, tail_from, entries_to, log_of, PlacesFit}

-- ---- a record
pub record_length : (e : Entry) → length (record_of e) ≡ 16
unfolding record_of
record_length e = refl

-- written then read, whatever stands behind it
pub read_record : (e : Entry) (rest : List ℕ) → e.place < 2 ^ 64 → entry_from (record_of e ++ rest) 0 ≡ e
unfolding entry_from record_of
read_record e rest h =
    λ i. record { place = join_split bytes8 e.place h i; kind = e.kind; code = e.code; level = e.level }

-- the n elements from at + k on
abbrev window : List ℕ → ℕ → ℕ → ℕ → List ℕ
window l at k zero = []
window l at k (suc n) = get_or l (at + k) 0 ∷ window l at (k + 1) n

window_cut : (n : ℕ) (l : List ℕ) (at k : ℕ) → at + k + n ≤ length l → take n (drop (at + k) l) ≡ window l at k n
window_cut zero l at k h = refl
window_cut (suc n) l at k h =
    let e : suc (at + k) ≡ at + (k + 1) = omega arith in
    rw (drop-cons l (at + k) 0 (omega arith), e) (ap (λ (x : List ℕ). get_or l (at + k) 0 ∷ x) (window_cut n l at (k + 1) (omega arith)))

cut16 : (l : List ℕ) (at : ℕ) → at + 16 ≤ length l → take 16 (drop at l) ≡ get_or l at 0 ∷ window l at 1 15
cut16 l at h =
    ap (take 16) (drop-cons l at 0 (omega arith))
    ∙ ap (λ (x : List ℕ). get_or l at 0 ∷ x) (ap (λ (k : ℕ). take 15 (drop k l)) (sym (add-one at)) ∙ window_cut 15 l at 1 (omega arith))

module _ (l : List ℕ) (bytes : Bytes l) (at : ℕ) where
  place_split : split bytes8 (eight_at l at) ≡ get_or l at 0 ∷ window l at 1 7
  place_split =
      split_join bytes8 (get_or l at 0 ∷ window l at 1 7) (bytes at, (bytes (at + 1), (bytes (at + 2), (bytes (at + 3), (bytes (at + 4), (bytes (at + 5), (bytes (at + 6), (bytes (at + 7), tt))))))))

  -- read then written
  pub write_record : at + 16 ≤ length l → tail_from l at ≡ 0 → record_of (entry_from l at) ≡ take 16 (drop at l)
  unfolding record_of entry_from tail_from
  write_record h z =
      let a : get_or l (at + 11) 0 ≡ 0 = omega arith in
      let b : get_or l (at + 12) 0 ≡ 0 = omega arith in
      let c : get_or l (at + 13) 0 ≡ 0 = omega arith in
      let d : get_or l (at + 14) 0 ≡ 0 = omega arith in
      let e : get_or l (at + 15) 0 ≡ 0 = omega arith in
      ap (λ (x : List ℕ). x ++ (get_or l (at + 8) 0 ∷ get_or l (at + 9) 0 ∷ get_or l (at + 10) 0 ∷ 0 ∷ 0 ∷ 0 ∷ 0 ∷ 0 ∷ [])) place_split
      ∙ sym (cut16 l at h ∙ (rw (a, b, c, d, e)))

-- ---- a log
pub entries_more : (l : List ℕ) (n : ℕ) → entries_to l (n + 1) ≡ entries_to l n ++ (entry_from l (16 * n) ∷ [])
unfolding entries_to
entries_more l n = ap (entries_to l) (add-one n)

pub entries_length : (l : List ℕ) (n : ℕ) → length (entries_to l n) ≡ n
unfolding entries_to
entries_length l zero = refl
entries_length l (suc n) = rw (length-append, entries_length l n) (add-one n)

log_snoc : (es : List Entry) (e : Entry) → log_of (es ++ (e ∷ [])) ≡ log_of es ++ record_of e
log_snoc es e = each_append record_of es (e ∷ []) ∙ ap (λ (x : List ℕ). log_of es ++ x) (append-nil (record_of e))

pub write_log : (l : List ℕ) → Bytes l → (n : ℕ) → 16 * n ≤ length l → ((i : ℕ) → i < n → tail_from l (16 * i) ≡ 0) → log_of (entries_to l n) ≡ take (16 * n) l
unfolding entries_to
write_log l b zero h t = refl
write_log l b (suc n) h t =
    let e : 16 * suc n ≡ 16 * n + 16 = omega arith in
    log_snoc (entries_to l n) (entry_from l (16 * n))
    ∙ ap₂ (λ (x y : List ℕ). x ++ y) (write_log l b n (omega arith) (λ (i : ℕ) (k : i < n). t i (omega arith))) (write_record l b (16 * n) (omega arith) (t n (omega arith)))
    ∙ sym (ap (λ (k : ℕ). take k l) e ∙ take-add (16 * n) 16 l)

-- what stands behind n elements
module _ (r l : List ℕ) (n : ℕ) (h : length r ≡ n) where
  pub behind : (k : ℕ) → get_or (r ++ l) (n + k) 0 ≡ get_or l k 0
  behind k = rw (← h) (get_or-append-add r l k 0)

  pub moved : (at k : ℕ) → get_or (r ++ l) (n + at + k) 0 ≡ get_or l (at + k) 0
  moved at k = let e : n + at + k ≡ n + (at + k) = omega arith in rw e (behind (at + k))

  pub entry_behind : (at : ℕ) → entry_from (r ++ l) (n + at) ≡ entry_from l at
  unfolding entry_from
  entry_behind at =
      rw (behind at, moved at 1, moved at 2, moved at 3, moved at 4, moved at 5, moved at 6, moved at 7, moved at 8, moved at 9, moved at 10)

entries_behind_lem : (r l : List ℕ) → length r ≡ 16 → (n : ℕ) → entries_to (r ++ l) (suc n) ≡ entry_from (r ++ l) 0 ∷ entries_to l n
unfolding entries_to
entries_behind_lem r l h zero = refl
entries_behind_lem r l h (suc n) =
    let e : 16 * suc n ≡ 16 + 16 * n = omega arith in
    ap₂ (λ (x y : List Entry). x ++ y) (entries_behind_lem r l h n) (ap (λ (y : Entry). y ∷ []) (ap (entry_from (r ++ l)) e ∙ entry_behind r l 16 h (16 * n)))

pub read_log : (es : List Entry) → PlacesFit es → entries_to (log_of es) (length es) ≡ es
unfolding entries_to
read_log [] p = refl
read_log (e ∷ es) p =
    entries_behind_lem (record_of e) (log_of es) (record_length e) (length es)
    ∙ ap₂ (λ (x : Entry) (y : List Entry). x ∷ y) (read_record e (log_of es) p.0) (read_log es p.1)
