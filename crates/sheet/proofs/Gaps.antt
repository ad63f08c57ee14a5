-- The frames missing, and what is kept from frame to frame: one entry more at a time, and of two lists joined.
-- Assumes nothing.
use mathlib.Core.Bool.{Bool, true, false}
use mathlib.Core.List.{List, [], ◌∷◌, ◌++◌, append-nil}
use mathlib.Core.Path.{◌≡◌, refl, sym, ap, ◌∙◌}
use Prim.Native.Nat.{ℕ, suc, ◌+◌, ◌*◌, ◌/◌, ◌%◌, ◌≤◌, ◌<◌}
use native.Mathlib.Omega.{arith}
use borrow.Author.Tests.{eq-eqb, ne_eqb}
use lib.Dec.{eqb}
use lib.ListN.{length}
use Rattle.octets.specs.Choice.{pick}
use Rattle.nightlog.specs.declared.Entry.{Entry}
use Rattle.sheet.specs.declared.Run.{Run}
use Rattle.sheet.specs.Sheets.{fcts_of, is_frame, gap, gaps_after, gaps, missing, billion, missing_with, met_after, last_after, run_by, run_added, seam}

-- THE DIFFERENCE LESS ONE, MODULO 250: so many frames on behind a, and one more, comes b; and it is less than 250
pub gap_right : (a b : ℕ) → a < 250 → b < 250 → ((a + gap a b + 1) % 250 ≡ b) × (gap a b < 250)
gap_right a b h k = (omega arith, omega arith)

-- the same FCT again counts 249
pub gap_same : (a : ℕ) → a < 250 → gap a a ≡ 249
gap_same a h = omega arith

pub fcts_append : (es fs : List Entry) → fcts_of (es ++ fs) ≡ fcts_of es ++ fcts_of fs
unfolding fcts_of
fcts_append [] fs = refl
fcts_append (e ∷ es) fs = go (is_frame e) (fcts_append es fs)
  where
    go : (b : Bool) → fcts_of (es ++ fs) ≡ fcts_of es ++ fcts_of fs → pick b (e.code ∷ fcts_of (es ++ fs)) (fcts_of (es ++ fs)) ≡ pick b (e.code ∷ fcts_of es) (fcts_of es) ++ fcts_of fs
    go true ih = rw ih
    go false ih = ih

after_append : (a : ℕ) (bs ds : List ℕ) → gaps_after a (bs ++ ds) ≡ gaps_after a bs + gaps_after (last_after a bs) ds
unfolding gaps_after last_after
after_append a [] ds = omega arith
after_append a (b ∷ bs) ds = rw (after_append b bs ds) (omega arith)

last_append : (a : ℕ) (bs ds : List ℕ) → last_after (last_after a bs) ds ≡ last_after a (bs ++ ds)
unfolding last_after
last_append a [] ds = refl
last_append a (b ∷ bs) ds = last_append b bs ds

met_append : (m : ℕ) (bs ds : List ℕ) → met_after (met_after m bs) ds ≡ met_after m (bs ++ ds)
met_append m [] ds = refl
met_append m (b ∷ bs) [] = refl
met_append m (b ∷ bs) (d ∷ ds) = refl

-- the gaps of FCTs that follow others, in two parts
parts : (m a : ℕ) (b : Bool) → eqb m 0 ≡ b → (fs gs : List ℕ)
    → gaps (pick (eqb m 0) fs (a ∷ fs)) + gaps (pick (eqb (met_after m fs) 0) gs (last_after a fs ∷ gs)) ≡ gaps (pick (eqb m 0) (fs ++ gs) (a ∷ (fs ++ gs)))
unfolding gaps last_after gaps_after
parts m a true e [] gs = rw e (omega arith)
parts m a false e [] gs = rw e (omega arith)
parts m a true e (c ∷ fs) gs = rw e (sym (after_append c fs gs))
parts m a false e (c ∷ fs) gs = rw e (sym (after_append a (c ∷ fs) gs))

-- ONE LIST AFTER THE OTHER is both at once
pub run_append : (r : Run) (fs gs : List ℕ) → run_by (run_by r fs) gs ≡ run_by r (fs ++ gs)
unfolding run_by
run_append r fs gs =
    let x : missing_with r fs / billion * billion + missing_with r fs % billion + gaps (pick (eqb (met_after r.met fs) 0) gs (last_after r.fct fs ∷ gs)) ≡ missing_with r (fs ++ gs) =
    omega (arith, parts r.met r.fct (eqb r.met 0) refl fs gs) in
    λ i. record { high = x i / billion; low = x i % billion; met = met_append r.met fs gs i; fct = last_append r.fct fs gs i }

pub run_joined : (r : Run) (es fs : List Entry) → run_added (run_added r es) fs ≡ run_added r (es ++ fs)
run_joined r es fs = run_append r (fcts_of es) (fcts_of fs) ∙ ap (run_by r) (sym (fcts_append es fs))

no_gap : (m a : ℕ) (b : Bool) → eqb m 0 ≡ b → gaps (pick (eqb m 0) [] (a ∷ [])) ≡ 0
unfolding gaps gaps_after
no_gap m a true e = rw e
no_gap m a false e = rw e

pub run_none : (r : Run) → r.low < billion → r ≡ run_by r []
unfolding run_by last_after
run_none r h =
    let g = no_gap r.met r.fct (eqb r.met 0) refl in
    let p : r.high ≡ missing_with r [] / billion = omega arith in
    let q : r.low ≡ missing_with r [] % billion = omega arith in
    λ i. record { high = p i; low = q i; met = r.met; fct = r.fct }

-- ---- one entry more, as the code has it
module _ (r : Run) (e : Entry) where
  pub run_skipped : r.low < billion → (e.kind ≡ 0 → ⊥) → r ≡ run_added r (e ∷ [])
  unfolding fcts_of
  run_skipped h k = rw (ne_eqb e.kind 0 k) (run_none r h)

  pub run_begun : r.low < billion → e.kind ≡ 0 → r.met ≡ 0 → ◌≡◌ {A = Run} (record { high = r.high; low = r.low; met = 1; fct = e.code }) (run_added r (e ∷ []))
  unfolding fcts_of run_by last_after gaps gaps_after
  run_begun h k m = rw (eq-eqb e.kind 0 k, eq-eqb r.met 0 m) (begun r.high r.low e.code h)
    where
      begun : (x y c : ℕ) → y < billion → ◌≡◌ {A = Run} (record { high = x; low = y; met = 1; fct = c }) (record { high = (x * billion + y + 0) / billion; low = (x * billion + y + 0) % billion; met = 1; fct = c })
      begun x y c l =
          let p : x ≡ (x * billion + y + 0) / billion = omega arith in
          let q : y ≡ (x * billion + y + 0) % billion = omega arith in
          λ i. record { high = p i; low = q i; met = 1; fct = c }

  pub run_followed : (g : ℕ) → e.kind ≡ 0 → (r.met ≡ 0 → ⊥) → g ≡ gap r.fct e.code
      → ◌≡◌ {A = Run} (record { high = r.high + (r.low + g) / billion; low = (r.low + g) % billion; met = 1; fct = e.code }) (run_added r (e ∷ []))
  unfolding fcts_of run_by last_after gaps gaps_after
  run_followed g k m q = rw (eq-eqb e.kind 0 k, ne_eqb r.met 0 m, ← q) (summed r.high r.low e.code g)
    where
      summed : (x y c z : ℕ) → ◌≡◌ {A = Run} (record { high = x + (y + z) / billion; low = (y + z) % billion; met = 1; fct = c }) (record { high = (x * billion + y + (z + 0)) / billion; low = (x * billion + y + (z + 0)) % billion; met = 1; fct = c })
      summed x y c z =
          let p : x + (y + z) / billion ≡ (x * billion + y + (z + 0)) / billion = omega arith in
          let q : (y + z) % billion ≡ (x * billion + y + (z + 0)) % billion = omega arith in
          λ i. record { high = p i; low = q i; met = 1; fct = c }

-- ---- at most 249 for each entry
after_le : (a : ℕ) (bs : List ℕ) → gaps_after a bs ≤ 249 * length bs
unfolding gaps_after
after_le a [] = omega arith
after_le a (b ∷ bs) = omega (arith, after_le b bs)

gaps_le : (bs : List ℕ) → gaps bs ≤ 249 * length bs
unfolding gaps
gaps_le [] = omega arith
gaps_le (a ∷ bs) = omega (arith, after_le a bs)

followed_le : (m a : ℕ) (b : Bool) → eqb m 0 ≡ b → (fs : List ℕ) → gaps (pick (eqb m 0) fs (a ∷ fs)) ≤ 249 * length fs
unfolding gaps
followed_le m a true e fs = rw e (gaps_le fs)
followed_le m a false e fs = rw e (after_le a fs)

fcts_le : (es : List Entry) → length (fcts_of es) ≤ length es
unfolding fcts_of
fcts_le [] = omega arith
fcts_le (e ∷ es) = go (is_frame e) (fcts_le es)
  where
    go : (b : Bool) → length (fcts_of es) ≤ length es → length (pick b (e.code ∷ fcts_of es) (fcts_of es)) ≤ suc (length es)
    go true ih = omega arith
    go false ih = omega arith

-- no overflow: room for n entries is room for each of them
pub run_room : (r : Run) (es : List Entry) (n : ℕ) → r.low < billion → r.high + n ≤ 18446744073709551615
    → ((run_added r es).low < billion) × (length es < n → (run_added r es).high < 18446744073709551615) × (length es ≤ n → (run_added r es).high ≤ 18446744073709551615)
unfolding run_by
run_room r es n l h =
    let a = followed_le r.met r.fct (eqb r.met 0) refl (fcts_of es) in
    let b = fcts_le es in
    (omega arith, (λ (k : length es < n). omega arith), (λ (k : length es ≤ n). omega arith))

-- ---- two lists joined: what is added is the seam's own difference
gaps_joined : (fs gs : List ℕ) → gaps (fs ++ gs) ≡ gaps fs + seam fs gs + gaps gs
unfolding gaps gaps_after
gaps_joined [] gs = omega arith
gaps_joined (a ∷ fs) [] = rw (append-nil fs) (omega arith)
gaps_joined (a ∷ fs) (c ∷ gs) = after_append a fs (c ∷ gs) ∙ (omega arith)

pub missing_joined : (es fs : List Entry) → missing (es ++ fs) ≡ missing es + seam (fcts_of es) (fcts_of fs) + missing fs
unfolding missing
missing_joined es fs = rw (fcts_append es fs) (gaps_joined (fcts_of es) (fcts_of fs))

pub missing_le : (es : List Entry) → missing es ≤ 249 * length es
unfolding missing
missing_le es = omega (arith, gaps_le (fcts_of es), fcts_le es)
