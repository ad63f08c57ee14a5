-- Rows with their check bytes.
-- Assumes nothing.
use mathlib.Core.Path.{◌≡◌, refl, sym, ap, ◌∙◌}
use mathlib.Core.Bool.{Bool, true, false}
use mathlib.Core.List.{List, [], ◌++◌}
use Prim.Native.Nat.{ℕ, ◌-◌, ◌*◌, ◌/◌, ◌%◌, ◌<◌, ◌≤◌}
use native.Mathlib.Omega.{arith}
use borrow.Author.Tests.{lt-ltb}
use lib.Dec.{lit≤}
use lib.ListN.{length, get_or, take, drop, length-drop}
use Rattle.std.proofs.Common.{Result, Ok, Err}
use Rattle.std.specs.Result.{IsOk}
use Rattle.refusals.specs.declared.Refusal.{Refusal}
use Rattle.refusals.specs.Refusals.{outcome_number}
use Rattle.refusals.proofs.Numbers.{above_zero}
use lib.Seq.{length-take-le, get_or-take, ext_get_or}
use Rattle.array.specs.Listed.{list}
use Rattle.array.specs.CodingArray.{width_of, lent, contents, coding_row, coding_array}
use Rattle.array.proofs.Cells.{wide, width_below}
use Rattle.array.proofs.Filling.{list_length, list_at, list_same}
use Rattle.code.specs.Code.{check_bytes}
use Rattle.code.specs.CodeAnswers.{check_refusal, Checks}
use Rattle.coded.specs.Coded.{information_row, row_checks, coded}
use Rattle.coded.proofs.CodedRows.{coded_row}
use Rattle.array.specs.PartLengths.{parts_refusal, refusal_beside}
use Rattle.outward.specs.OutClauses.{Held, in_array, beside, output_by, refusal_for}
use Rattle.outward.specs.WayOut.{Sends}
use Rattle.outward.proofs.Placing.{width_most, sent}

-- a row with the check bytes that were asked for
pub row_with : (r w n : ℕ) (row out check after : List ℕ) → check_refusal w r ≡ 0 → w ≤ length row → length out ≡ r → Checks (take w row) out check n → after ≡ take w row ++ check
    → after ≡ take w row ++ check_bytes r (take w row)
row_with r w n row out check after z h e t a =
    let q : n ≡ 0 = t.number ∙ rw (e, length-take-le w row h) z in
    let b = t.bytes in
    a ∙ ap (λ (x : List ℕ). take w row ++ x) (rw (q, e) at b)

taken_row : (fourteen : Bool) (w : ℕ) (row : List ℕ) → length row ≡ 240 → w ≡ width_of fourteen → check_refusal (length (take w row)) (length (drop w row)) ≡ 0
unfolding check_refusal
taken_row fourteen w row l e =
    let d : length (drop w row) ≡ 240 - w = length-drop w row ∙ ap (λ (k : ℕ). k - w) l in
    let f : length (take w row) ≡ w = length-take-le w row (omega (arith, width_most fourteen)) in
    rw (f, d, e) (go fourteen)
  where
    go : (x : Bool) → check_refusal (width_of x) (240 - width_of x) ≡ 0
    go true = refl
    go false = refl

-- a row split at its information columns, with the check bytes that were asked for behind them
pub row_split : (fourteen : Bool) (w n : ℕ) (row check : List ℕ) → length row ≡ 240 → w ≡ width_of fourteen → Checks (take w row) (drop w row) check n → take w row ++ check ≡ take (width_of fourteen) row ++ check_bytes (240 - width_of fourteen) (take (width_of fourteen) row)
row_split fourteen w n row check l e t =
    let d : length (drop w row) ≡ 240 - w = length-drop w row ∙ ap (λ (k : ℕ). k - w) l in
    let b = t.bytes in
    let q : n ≡ 0 = t.number ∙ taken_row fourteen w row l e in
    ap (λ (x : List ℕ). take w row ++ x) ((rw q at b) ∙ ap (λ (k : ℕ). check_bytes k (take w row)) d) ∙ ap (λ (v : ℕ). take v row ++ check_bytes (240 - v) (take v row)) e

pub taken_ok : (fourteen : Bool) (w : ℕ) (row check : List ℕ) (t : Result (Unit {0}) Refusal) → length row ≡ 240 → w ≡ width_of fourteen → Checks (take w row) (drop w row) check (outcome_number t) → IsOk t
taken_ok fourteen w row check (Ok x) l e t = refl
taken_ok fourteen w row check (Err r) l e t = absurd (above_zero r (t.number ∙ taken_row fourteen w row l e))

module _ {A : Type 0} (f : ℕ → A) where
  pub take-list : (w n : ℕ) → w ≤ n → take w (list f n) ≡ list f w
  take-list w n h =
      ext_get_or (f 0) (take w (list f n)) (list f w)
      (length-take-le w (list f n) (rw (list_length f n) h) ∙ sym (list_length f w))
      (λ k l.
      let m : k < w = (rw (length-take-le w (list f n) (rw (list_length f n) h)) at l) in
      get_or-take w (list f n) k (f 0) m ∙ list_at f (f 0) n k (omega arith) ∙ sym (list_at f (f 0) w k m))

-- the information columns do not look at the check bytes
same_information : (w : ℕ) (b m s r : List ℕ) (i : ℕ) → information_row w (in_array b m s r) i ≡ information_row w (in_array b m s []) i
unfolding information_row contents
same_information w b m s r i = list_same (contents w (in_array b m s r) i) (contents w (in_array b m s []) i) w (λ j h. rw (lt-ltb j w h))

-- a row of the array, with the check bytes of its information columns
pub row_coded : (fourteen : Bool) (b m s r row after : List ℕ) (i k : ℕ) → k ≡ width_of fourteen → i < 24 → row ≡ coding_row k (in_array b m s r) i
    → after ≡ take (width_of fourteen) row ++ check_bytes (240 - width_of fourteen) (take (width_of fourteen) row)
    → after ≡ coding_row (width_of fourteen) (coded (width_of fourteen) (in_array b m s [])) i
unfolding coding_row information_row
row_coded fourteen b m s r row after i k q h e a =
    let w = width_of fourteen in
    let W = wide fourteen in
    let t : take w row ≡ information_row w (in_array b m s []) i =
    ap (take w) (e ∙ ap (λ (v : ℕ). coding_row v (in_array b m s r) i) q) ∙ take-list (contents w (in_array b m s r) i) w 240 W.within ∙ same_information w b m s r i in
    a ∙ ap (λ (x : List ℕ). x ++ check_bytes (240 - w) x) t ∙ sym (coded_row W (in_array b m s []) (width_below fourteen) i h)

-- there is room for the check bytes of either variant
pub room : (fourteen : Bool) (b m s r : List ℕ) (k : ℕ) → k ≡ width_of fourteen → length m ≡ 24 → length s ≡ 24 → length r ≡ 336 → Held k (in_array b m s r)
room fourteen b m s r k q e f g =
    record { wide = rw q (wide fourteen); most = rw q (width_most fourteen); management = e; supervision = f; check = rw (q, g) (enough fourteen) }
  where
    enough : (x : Bool) → 24 * (240 - width_of x) ≤ 336
    enough true = lit≤ tt
    enough false = lit≤ tt

-- ---- the answer: that of the parts with the rows' check bytes
module _ (fourteen : Bool) (b m s g h out : List ℕ) where
  abbrev w : ℕ
  w = width_of fourteen

  abbrev pub rows : List ℕ
  rows = row_checks w (lent b m s g h [])

  pub rows_length : length rows ≡ 24 * (240 - w)
  unfolding row_checks
  rows_length = list_length (λ n. get_or (check_bytes (240 - w) (information_row w (lent b m s g h []) (n / (240 - w)))) (n % (240 - w)) 0) (24 * (240 - w))

  -- the lengths as they are asked for: those of the rows' check bytes are right
  pub asked : (n k : ℕ) → k ≡ w → n ≡ parts_refusal w (length out) (length m) (length s) (length g) (length h) (24 * (240 - k)) → n ≡ refusal_beside w (lent b m s g h rows) out
  asked n k q e =
      e ∙ ap (parts_refusal w (length out) (length m) (length s) (length g) (length h)) (ap (λ (v : ℕ). 24 * (240 - v)) q ∙ sym rows_length)

  -- the same of the number, with what the variant carries
  pub asked_for : refusal_for (length b) (parts_refusal w (length out) (length m) (length s) (length g) (length h) (24 * (240 - w))) w ≡ refusal_for (length b) (refusal_beside w (lent b m s g h rows) out) w
  asked_for = ap (λ (n : ℕ). refusal_for (length b) n w) (asked (parts_refusal w (length out) (length m) (length s) (length g) (length h) (24 * (240 - w))) w refl refl)

  same_rows : row_checks w (in_array b m s []) ≡ rows
  unfolding row_checks information_row contents
  same_rows = refl

  pub sent_coded : (c : List (List ℕ)) (after : List ℕ) → 0 ≡ refusal_for (length b) (parts_refusal w (length out) (length m) (length s) (length g) (length h) (24 * (240 - w))) w
      → c ≡ coding_array w (coded w (in_array b m s [])) → after ≡ output_by (beside g h) c → Sends fourteen (coded w (lent b m s g h [])) out after 0
  sent_coded c after e a o = sent fourteen b m s g h rows out c after (e ∙ asked_for) (a ∙ ap (λ (r : List ℕ). coding_array w (in_array b m s r)) same_rows) o
