-- A log cut into its records: what stands in one is what stands in the log at its place, and the first bad one is the log's.
-- Assumes nothing.
use Rattle.std.proofs.Common.{Bool, true, false, not, List, ◌≡◌, refl, sym, ap, ◌∙◌, ℕ, zero, suc, ◌+◌, ◌*◌, ◌<◌, ◌≤◌, arith, length, get_or, take, drop, Some, None}
use mathlib.Core.Bool.{cond}
use Rattle.std.proofs.lemmas.Option.{cond_some, none-some}
use Rattle.std.proofs.lemmas.Bool.{ltb-true, ltb-false}
use Rattle.std.proofs.lemmas.List.{get_or-take, get_or-drop, drop-drop}
use Rattle.std.specs.List.{prefix_len, position}
use Rattle.std.specs.Simd.{first_chunks}
use Rattle.octets.specs.Choice.{pick}
use Rattle.nightlog.specs.Log.{entry_from, tail_from, good_from, bad_from, records_in, records_of, first_bad}

-- ---- one record
module _ (l : List ℕ) (at : ℕ) where
  byte_in : (k : ℕ) → k < 16 → get_or (take 16 (drop at l)) k 0 ≡ get_or l (at + k) 0
  byte_in k h = get_or-take 16 (drop at l) k 0 h ∙ get_or-drop at l k 0

  first_in : get_or (take 16 (drop at l)) 0 0 ≡ get_or l at 0
  first_in = let e : at + 0 ≡ at = omega arith in byte_in 0 (omega arith) ∙ (rw e)

  pub entry_in : entry_from (take 16 (drop at l)) 0 ≡ entry_from l at
  unfolding entry_from
  entry_in =
      rw (first_in, byte_in 1 (omega arith), byte_in 2 (omega arith), byte_in 3 (omega arith), byte_in 4 (omega arith), byte_in 5 (omega arith), byte_in 6 (omega arith), byte_in 7 (omega arith), byte_in 8 (omega arith), byte_in 9 (omega arith), byte_in 10 (omega arith))

  pub good_in : good_from (take 16 (drop at l)) 0 ≡ good_from l at
  unfolding good_from tail_from
  good_in =
      rw (entry_in, byte_in 11 (omega arith), byte_in 12 (omega arith), byte_in 13 (omega arith), byte_in 14 (omega arith), byte_in 15 (omega arith))

-- ---- the records
pub chunks_length : (n : ℕ) (l : List ℕ) → length (first_chunks 16 n l) ≡ n
chunks_length zero l = refl
chunks_length (suc n) l = ap suc (chunks_length n (drop 16 l))

pub counted : (l : List ℕ) (rs : List (List ℕ)) → rs ≡ records_of l → length rs ≡ records_in l
counted l rs e = ap length e ∙ chunks_length (records_in l) l

pub chunk_at : (n i : ℕ) (l d : List ℕ) → i < n → get_or (first_chunks 16 n l) i d ≡ take 16 (drop (16 * i) l)
chunk_at zero i l d h = absurd (omega arith)
chunk_at (suc n) zero l d h = refl
chunk_at (suc n) (suc i) l d h =
    let e : 16 + 16 * i ≡ 16 * suc i = omega arith in
    chunk_at n i (drop 16 l) d (omega arith) ∙ ap (take 16) (drop-drop (16 * i) 16 l ∙ (rw e))

-- ---- the first bad one
turn : (b : Bool) (i m p : ℕ) → m ≡ i + 1 + p → pick b m i ≡ i + cond (not (not b)) (1 + p) 0
turn true i m p e = omega arith
turn false i m p e = omega arith

module _ (l : List ℕ) where
  bad_chunks : (n i : ℕ) → bad_from l i n ≡ i + prefix_len (λ r. not (not (good_from r 0))) (first_chunks 16 n (drop (16 * i) l))
  unfolding bad_from
  bad_chunks zero i = omega arith
  bad_chunks (suc n) i =
      let e : 16 * i + 16 ≡ 16 * (i + 1) = omega arith in
      rw (good_in l (16 * i), drop-drop 16 (16 * i) l, e) (turn (good_from l (16 * i)) i _ _ (bad_chunks n (i + 1)))

  chosen : first_bad l ≡ prefix_len (λ r. not (not (good_from r 0))) (records_of l)
  chosen = bad_chunks (records_in l) 0 ∙ omega arith

  pub bad_found_at : (b : ℕ) → Some b ≡ position (λ r. not (good_from r 0)) (records_of l) → (b ≡ first_bad l) × (b < records_in l)
  bad_found_at b e =
      let p = cond_some _ _ _ (sym e) in
      let n = chunks_length (records_in l) l in
      let h = ltb-true _ _ p.0 in
      (sym p.1 ∙ sym chosen, omega arith)

  pub none_found : None ≡ position (λ r. not (good_from r 0)) (records_of l) → records_in l ≤ first_bad l
  none_found e = omega (arith, chosen, chunks_length (records_in l) l, ltb-false _ _ (missed _ _ e))
    where
      missed : (b : Bool) (x : ℕ) → None ≡ cond b (Some x) None → b ≡ false
      missed true x q = absurd (none-some x q)
      missed false x q = refl
