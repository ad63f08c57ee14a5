-- THE SHEET ADDS UP: its totals of frames, lost marks and idle items together are the number of a log's records.
-- Assumes nothing.
use mathlib.Core.Bool.{Bool, true, false, ◌&&◌}
use mathlib.Core.List.{List, [], ◌∷◌}
use mathlib.Core.Path.{◌≡◌, refl, sym, ◌∙◌}
use Prim.Native.Nat.{ℕ, zero, suc, ◌+◌}
use native.Mathlib.Omega.{arith}
use borrow.Author.Tests.{ne_eqb, eqb-true}
use lib.Dec.{eqb}
use lib.ListN.{get_or}
use Rattle.octets.proofs.Deciding.{both, clash}
use Rattle.sum.specs.Sum.{digit}
use Rattle.nightlog.specs.declared.Entry.{Entry}
use Rattle.nightlog.specs.Log.{allowed, lost_code, entries_of, records_in, log_refusal_of, AllAllowed}
use Rattle.nightlog.proofs.Accepted.{all_allowed}
use Rattle.sheet.specs.Sheets.{count, is_frame, is_lost, frame_at, lost_by, sheet_of, total}
use Rattle.sheet.proofs.RowsMean.{frame_parts, code_le, frames_at, lost_by_lem, idle_in}
use Rattle.sheet.proofs.Weeks.{adds_up}

-- a frame has one of the four levels
one_level : (k c v : ℕ) → allowed k c v ≡ true
    → digit (eqb k 0 && eqb v 0) + digit (eqb k 0 && eqb v 1) + digit (eqb k 0 && eqb v 2) + digit (eqb k 0 && eqb v 3) ≡ digit (eqb k 0)
one_level zero c zero a = refl
one_level zero c (suc zero) a = refl
one_level zero c (suc (suc zero)) a = refl
one_level zero c (suc (suc (suc zero))) a = refl
one_level zero c (suc (suc (suc (suc v)))) a = let q = (frame_parts c (suc (suc (suc (suc v)))) a).1 in absurd (omega arith)
one_level (suc k) c v a = rw (ne_eqb (suc k) 0 (λ (e : suc k ≡ 0). omega arith))

-- a lost mark has one of the eight codes
no_code : (c v : ℕ) → lost_code c ≡ false → allowed 1 c v ≡ true → ⊥
unfolding allowed
no_code c v e a = let q = (both (eqb v 0xFF) (lost_code c) a).1 in clash (sym (rw e at q))

one_code : (k c v : ℕ) → allowed k c v ≡ true
    → digit (eqb k 1 && eqb c 2) + digit (eqb k 1 && eqb c 3) + digit (eqb k 1 && eqb c 5) + digit (eqb k 1 && eqb c 6) + digit (eqb k 1 && eqb c 7) + digit (eqb k 1 && eqb c 8) + digit (eqb k 1 && eqb c 9) + digit (eqb k 1 && eqb c 10)
    ≡ digit (eqb k 1)
unfolding lost_code
one_code zero c v a = refl
one_code (suc zero) zero v a = absurd (no_code 0 v refl a)
one_code (suc zero) (suc zero) v a = absurd (no_code 1 v refl a)
one_code (suc zero) (suc (suc zero)) v a = refl
one_code (suc zero) (suc (suc (suc zero))) v a = refl
one_code (suc zero) (suc (suc (suc (suc zero)))) v a = absurd (no_code 4 v refl a)
one_code (suc zero) (suc (suc (suc (suc (suc zero))))) v a = refl
one_code (suc zero) (suc (suc (suc (suc (suc (suc zero)))))) v a = refl
one_code (suc zero) (suc (suc (suc (suc (suc (suc (suc zero))))))) v a = refl
one_code (suc zero) (suc (suc (suc (suc (suc (suc (suc (suc zero)))))))) v a = refl
one_code (suc zero) (suc (suc (suc (suc (suc (suc (suc (suc (suc zero))))))))) v a = refl
one_code (suc zero) (suc (suc (suc (suc (suc (suc (suc (suc (suc (suc zero)))))))))) v a = refl
one_code (suc zero) (suc (suc (suc (suc (suc (suc (suc (suc (suc (suc (suc c))))))))))) v a =
    let q = code_le (suc (suc (suc (suc (suc (suc (suc (suc (suc (suc (suc c))))))))))) v a in absurd (omega arith)
one_code (suc (suc k)) c v a = rw (ne_eqb (suc (suc k)) 1 (λ (e : suc (suc k) ≡ 1). omega arith))

-- and none of the other three
none_of : (k c v m : ℕ) → lost_code m ≡ false → allowed k c v ≡ true → digit (eqb k 1 && eqb c m) ≡ 0
none_of zero c v m h a = refl
none_of (suc zero) c v m h a = go (eqb c m) refl
  where
    go : (b : Bool) → eqb c m ≡ b → digit (eqb c m) ≡ 0
    go true e = let p = eqb-true c m e in absurd (no_code c v (rw p h) a)
    go false e = rw e
none_of (suc (suc k)) c v m h a = rw (ne_eqb (suc (suc k)) 1 (λ (e : suc (suc k) ≡ 1). omega arith))

uncounted : (m : ℕ) → lost_code m ≡ false → (es : List Entry) → AllAllowed es → count (lost_by m) es ≡ 0
unfolding count
uncounted m h [] a = refl
uncounted m h (e ∷ es) a = omega (arith, none_of e.kind e.code e.level m h a.0, uncounted m h es a.1)

levels : (es : List Entry) → AllAllowed es → count (frame_at 0) es + count (frame_at 1) es + count (frame_at 2) es + count (frame_at 3) es ≡ count is_frame es
unfolding count
levels [] a = refl
levels (e ∷ es) a = omega (arith, one_level e.kind e.code e.level a.0, levels es a.1)

codes : (es : List Entry) → AllAllowed es
    → count (lost_by 2) es + count (lost_by 3) es + count (lost_by 5) es + count (lost_by 6) es + count (lost_by 7) es + count (lost_by 8) es + count (lost_by 9) es + count (lost_by 10) es ≡ count is_lost es
unfolding count
codes [] a = refl
codes (e ∷ es) a = omega (arith, one_code e.kind e.code e.level a.0, codes es a.1)

module _ (es : List Entry) (a : AllAllowed es) where
  -- the four rows of frames, and the eight of lost marks
  pub frames_in : total es 0 + total es 1 + total es 2 + total es 3 ≡ count is_frame es
  frames_in =
      rw (frames_at es a 0 (omega arith), frames_at es a 1 (omega arith), frames_at es a 2 (omega arith), frames_at es a 3 (omega arith)) (levels es a)

  pub lost_in : total es 6 + total es 7 + total es 9 + total es 10 + total es 11 + total es 12 + total es 13 + total es 14 ≡ count is_lost es
  lost_in =
      rw (lost_by_lem es a 2 (omega arith), lost_by_lem es a 3 (omega arith), lost_by_lem es a 5 (omega arith), lost_by_lem es a 6 (omega arith), lost_by_lem es a 7 (omega arith), lost_by_lem es a 8 (omega arith), lost_by_lem es a 9 (omega arith), lost_by_lem es a 10 (omega arith)) (codes es a)

  -- rows 4, 5 and 8 count nothing
  pub rows_empty : (total es 4 ≡ 0) × (total es 5 ≡ 0) × (total es 8 ≡ 0)
  unfolding lost_code
  rows_empty =
      (lost_by_lem es a 0 (omega arith) ∙ uncounted 0 refl es a, lost_by_lem es a 1 (omega arith) ∙ uncounted 1 refl es a, lost_by_lem es a 4 (omega arith) ∙ uncounted 4 refl es a)

-- of an accepted log: frames at the four levels, lost marks of the eight refusals, and idle items
pub sheet_adds_up : (l : List ℕ) → log_refusal_of l ≡ 0 → (t : List ℕ) → t ≡ (sheet_of (entries_of l)).totals
    → (get_or t 0 0 + get_or t 1 0 + get_or t 2 0 + get_or t 3 0)
    + (get_or t 6 0 + get_or t 7 0 + get_or t 9 0 + get_or t 10 0 + get_or t 11 0 + get_or t 12 0 + get_or t 13 0 + get_or t 14 0)
    + get_or t 15 0
    ≡ records_in l
sheet_adds_up l z t e =
    let a = all_allowed l z in
    rw e (omega (arith, frames_in (entries_of l) a, lost_in (entries_of l) a, idle_in (entries_of l) a, adds_up l z))
