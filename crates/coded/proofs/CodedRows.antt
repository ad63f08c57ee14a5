-- Each row of a coding array with its rows' check bytes is clean.
-- Assumes nothing.
use mathlib.Core.Path.{◌≡◌, refl, sym, ap, ap₂, ◌∙◌}
use mathlib.Core.Bool.{Bool, true, false}
use mathlib.Core.List.{List, [], ◌++◌}
use Prim.Native.Nat.{ℕ, suc, ◌+◌, ◌-◌, ◌*◌, ◌/◌, ◌%◌, ◌<◌, ◌≤◌}
use native.Mathlib.Nat.{mul-le-mul_right}
use native.Mathlib.Omega.{arith}
use borrow.Author.Tests.{lt-ltb, le-ltb, ltb-true, ltb-false}
use lib.Arith.{digits_div, digits_mod}
use lib.Dec.{ltb}
use lib.ListN.{length, get_or, length-append, get_or-append}
use lib.Seq.{get_or-append-add, ext_get_or}
use Rattle.array.specs.Listed.{list}
use Rattle.array.specs.CodingArray.{Wide, Parts, contents, coding_row, coding_array}
use Rattle.array.proofs.Filling.{list_at, list_length}
use Rattle.code.specs.Code.{is_clean, check_bytes}
use Rattle.code.proofs.CleanRows.{checked_clean, check_length}
use Rattle.coded.specs.Coded.{information_row, row_checks, coded}

module _ {w : ℕ} (W : Wide w) (p : Parts) (some : w < 240) (i : ℕ) (h : i < 24) where
  checks : List ℕ
  checks = check_bytes (240 - w) (information_row w p i)

  row_length : length (information_row w p i) ≡ w
  unfolding information_row
  row_length = list_length (contents w p i) w

  checks_length : length checks ≡ 240 - w
  unfolding checks
  checks_length = let e : 240 - w ≡ suc (239 - w) = omega arith in rw e (check_length (239 - w) (information_row w p i))

  -- the information columns do not look at the check bytes
  inside : (j : ℕ) → j < w → contents w (coded w p) i j ≡ get_or (information_row w p i ++ checks) j 0
  unfolding contents information_row
  inside j l =
      sym (get_or-append (information_row w p i) checks 0 j (rw row_length l)
      ∙ list_at (contents w p i) 0 w j l
      ∙ rw (lt-ltb j w l))

  behind : (j : ℕ) → w ≤ j → j < 240 → contents w (coded w p) i j ≡ get_or (information_row w p i ++ checks) j 0
  unfolding contents row_checks checks
  behind j l m =
      let r = 240 - w in
      let k = j - w in
      let b : k < r = omega arith in
      let c : i * r ≤ 23 * r = mul-le-mul_right r (omega arith) in
      let f : ℕ → ℕ = λ n. get_or (check_bytes r (information_row w p (n / r))) (n % r) 0 in
      rw (le-ltb j w l)
      (list_at f 0 (24 * r) (i * r + k) (omega arith)
      ∙ ap₂ (λ (a d : ℕ). get_or (check_bytes r (information_row w p a)) d 0) (digits_div i b) (digits_mod i b)
      ∙ sym (get_or-append-add (information_row w p i) checks k 0)
      ∙ ap (λ (n : ℕ). get_or (information_row w p i ++ checks) n 0) (ap (λ (n : ℕ). n + k) row_length ∙ (let q : w + k ≡ j = omega arith in q)))

  -- row i is its information columns, then their check bytes
  pub coded_row : coding_row w (coded w p) i ≡ information_row w p i ++ check_bytes (240 - w) (information_row w p i)
  unfolding coding_row checks
  coded_row =
      let f = contents w (coded w p) i in
      ext_get_or 0 (list f 240) (information_row w p i ++ checks)
      (list_length f 240 ∙ sym (length-append (information_row w p i) checks ∙ ap₂ ◌+◌ row_length checks_length ∙ (let q : w + (240 - w) ≡ 240 = omega arith in q)))
      (λ j l. let m : j < 240 = (rw (list_length f 240) at l) in list_at f 0 240 j m ∙ go j m (ltb j w) refl)
    where
      go : (j : ℕ) → j < 240 → (b : Bool) → ltb j w ≡ b → contents w (coded w p) i j ≡ get_or (information_row w p i ++ checks) j 0
      go j m true e = inside j (ltb-true j w e)
      go j m false e = behind j (ltb-false j w e) m

  -- it is clean
  pub row_clean : is_clean (240 - w) (get_or (coding_array w (coded w p)) i []) ≡ true
  unfolding coding_array
  row_clean =
      let e : 240 - w ≡ suc (239 - w) = omega arith in
      ap (is_clean (240 - w)) (list_at (coding_row w (coded w p)) [] 24 i h ∙ coded_row) ∙ rw e (checked_clean (239 - w) (information_row w p i))
