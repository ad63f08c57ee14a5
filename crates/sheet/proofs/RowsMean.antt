-- What the totals say: frames, lost marks and idle items together are the list, and each of the sixteen rows is one of the paper's totals.
-- Assumes nothing.
use mathlib.Core.Bool.{Bool, true, false, ◌&&◌}
use mathlib.Core.List.{List, [], ◌∷◌}
use mathlib.Core.Path.{◌≡◌, refl, ◌∙◌}
use Prim.Native.Nat.{ℕ, zero, suc, ◌+◌, ◌≤◌, ◌<◌}
use native.Mathlib.Omega.{arith}
use borrow.Author.Tests.{eq-eqb, ne_eqb, eqb-true, eqb-false, leb-true}
use lib.Dec.{eqb, leb}
use lib.ListN.{length, get_or, get_or-replicate}
use Rattle.octets.proofs.Deciding.{both}
use Rattle.sum.specs.Sum.{digit}
use Rattle.nightlog.specs.declared.Entry.{Entry}
use Rattle.nightlog.specs.Log.{allowed, allowed_entry, lost_code, AllAllowed}
use Rattle.sheet.specs.Sheets.{count, is_frame, is_lost, is_idle, frame_at, lost_by, row_by, in_row, nothing, added, sheet_of}
use Rattle.sheet.proofs.Totals.{total_at}

count_same : (s t : Entry → Bool) → ((e : Entry) → allowed_entry e ≡ true → s e ≡ t e) → (es : List Entry) → AllAllowed es → count s es ≡ count t es
unfolding count
count_same s t h [] a = refl
count_same s t h (e ∷ es) a = rw (h e a.0, count_same s t h es a.1)

above : (k m : ℕ) → m < k → eqb k m ≡ false
above k m h = ne_eqb k m (λ (e : k ≡ m). omega arith)

-- an allowed entry is of one kind
no_kind : (k c v : ℕ) → 2 < k → allowed k c v ≡ true → ⊥
unfolding allowed
no_kind k c v l h =
    let q : (eqb v 0xFF && false) ≡ true = rw (above k 0 (omega arith), above k 1 (omega arith), above k 2 l) at h in
    let r = (both (eqb v 0xFF) false q).1 in
    let z : ◌≡◌ {A = ℕ} 0 1 = cc in omega arith

one_kind : (k c v : ℕ) → allowed k c v ≡ true → digit (eqb k 0) + digit (eqb k 1) + digit (eqb k 2) ≡ 1
one_kind zero c v h = refl
one_kind (suc zero) c v h = refl
one_kind (suc (suc zero)) c v h = refl
one_kind (suc (suc (suc k))) c v h = absurd (no_kind (suc (suc (suc k))) c v (omega arith) h)

-- FRAMES, LOST AND IDLE ADD UP to the list's length
pub all_counted : (es : List Entry) → AllAllowed es → count is_frame es + count is_lost es + count is_idle es ≡ length es
unfolding count
all_counted [] a = refl
all_counted (e ∷ es) a = omega (arith, one_kind e.kind e.code e.level a.0, all_counted es a.1)

-- what is allowed: a frame's FCT and level, a lost mark's code
pub frame_parts : (c v : ℕ) → allowed 0 c v ≡ true → (c ≤ 249) × (v ≤ 3)
unfolding allowed
frame_parts c v h = let p = both (leb c 249) (leb v 3) h in (leb-true c 249 p.0, leb-true v 3 p.1)

pub code_le : (c v : ℕ) → allowed 1 c v ≡ true → c ≤ 10
unfolding allowed lost_code
code_le c v h = leb-true c 10 (both (leb c 10) _ (both (leb 2 c) _ (both (eqb v 0xFF) _ h).1).1).0

shifted : (c n : ℕ) → eqb (4 + c) (4 + n) ≡ eqb c n
shifted c n = go (eqb c n) refl
  where
    go : (b : Bool) → eqb c n ≡ b → eqb (4 + c) (4 + n) ≡ b
    go true e = let p = eqb-true c n e in eq-eqb (4 + c) (4 + n) (omega arith)
    go false e = ne_eqb (4 + c) (4 + n) (λ (p : 4 + c ≡ 4 + n). eqb-false c n e (omega arith))

module _ (c v : ℕ) where
  frame_row : (l k : ℕ) → l ≤ 3 → eqb (row_by k c v) l ≡ (eqb k 0 && eqb v l)
  unfolding row_by
  frame_row l zero h = refl
  frame_row l (suc zero) h = ne_eqb (4 + c) l (λ (e : 4 + c ≡ l). omega arith)
  frame_row l (suc (suc k)) h =
      rw (above (suc (suc k)) 0 (omega arith), above (suc (suc k)) 1 (omega arith)) (ne_eqb 15 l (λ (e : 15 ≡ l). omega arith))

  lost_row : (n k : ℕ) → n ≤ 10 → allowed k c v ≡ true → eqb (row_by k c v) (4 + n) ≡ (eqb k 1 && eqb c n)
  unfolding row_by
  lost_row n zero h a = let q = (frame_parts c v a).1 in ne_eqb v (4 + n) (λ (e : v ≡ 4 + n). omega arith)
  lost_row n (suc zero) h a = shifted c n
  lost_row n (suc (suc k)) h a =
      rw (above (suc (suc k)) 0 (omega arith), above (suc (suc k)) 1 (omega arith)) (ne_eqb 15 (4 + n) (λ (e : 15 ≡ 4 + n). omega arith))

  idle_row : (k : ℕ) → allowed k c v ≡ true → eqb (row_by k c v) 15 ≡ eqb k 2
  unfolding row_by
  idle_row zero a = let q = (frame_parts c v a).1 in ne_eqb v 15 (λ (e : v ≡ 15). omega arith)
  idle_row (suc zero) a = let q = code_le c v a in ne_eqb (4 + c) 15 (λ (e : 4 + c ≡ 15). omega arith)
  idle_row (suc (suc zero)) a = refl
  idle_row (suc (suc (suc k))) a = absurd (no_kind (suc (suc (suc k))) c v (omega arith) a)

-- EACH TOTAL of a sheet is a count over the list
pub row_of : (es : List Entry) (k : ℕ) → k < 16 → get_or (sheet_of es).totals k 0 ≡ count (in_row k) es
unfolding added
row_of es k h = total_at nothing.totals es k h ∙ (omega (arith, get_or-replicate {A = ℕ} 16 k 0 0 h))

module _ (es : List Entry) (a : AllAllowed es) where
  pub frames_at : (l : ℕ) → l ≤ 3 → get_or (sheet_of es).totals l 0 ≡ count (frame_at l) es
  frames_at l h =
      row_of es l (omega arith)
      ∙ count_same (in_row l) (frame_at l) (λ (e : Entry) (p : allowed_entry e ≡ true). frame_row e.code e.level l e.kind h) es a

  pub lost_by_lem : (n : ℕ) → n ≤ 10 → get_or (sheet_of es).totals (4 + n) 0 ≡ count (lost_by n) es
  lost_by_lem n h =
      row_of es (4 + n) (omega arith)
      ∙ count_same (in_row (4 + n)) (lost_by n) (λ (e : Entry) (p : allowed_entry e ≡ true). lost_row e.code e.level n e.kind h p) es a

  pub idle_in : get_or (sheet_of es).totals 15 0 ≡ count is_idle es
  idle_in =
      row_of es 15 (omega arith)
      ∙ count_same (in_row 15) is_idle (λ (e : Entry) (p : allowed_entry e ≡ true). idle_row e.code e.level e.kind p) es a
