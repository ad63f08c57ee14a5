-- A WEEK FROM C: calls of the export over a sheet of zeros leave the sheet of all the logs joined, whose entries are all allowed.
-- Assumes nothing.
use mathlib.Core.Bool.{Bool, true, false}
use mathlib.Core.List.{List, [], ◌∷◌, ◌++◌, append_assoc}
use mathlib.Core.Path.{◌≡◌, refl, sym, ap, subst, ◌∙◌}
use Prim.Native.Nat.{ℕ, zero, suc, ◌+◌, ◌*◌, ◌^◌, ◌≤◌, ◌<◌}
use native.Mathlib.Omega.{arith}
use borrow.Author.Tests.{eqb-true}
use lib.Dec.{eqb}
use lib.ListN.{length, get_or, length-append}
use Rattle.octets.specs.Choice.{pick}
use Rattle.octets.specs.Stores.{bytes_of_each}
use Rattle.octets.specs.Words.{split, bytes8, eight_at}
use Rattle.octets.proofs.SplitJoin.{join_split}
use Rattle.octets.proofs.Storing.{each_length}
use Rattle.nightlog.specs.declared.Entry.{Entry}
use Rattle.nightlog.specs.Log.{records_in, entries_to, entries_of, log_refusal_of, AllAllowed}
use Rattle.nightlog.proofs.Accepted.{whole, all_allowed}
use Rattle.nightlog.proofs.Returned.{behind, moved, entries_length}
use Rattle.sheet.specs.declared.Sheet.{Sheet}
use Rattle.sheet.specs.Sheets.{count, totals_to, fcts_of, gaps, last_after, run_by, added, sheet_of, goes_on, adding_refusal_of}
use Rattle.sheet.proofs.SheetRoom.{sheet_goes_on, totals_hold, run_holds}
use Rattle.sheet.proofs.Summing.{adding_accepted}
use Rattle.sheet.proofs.Totals.{total_length}
use Rattle.sheet.proofs.Weeks.{joined, logs_added}
use Rattle.controller.specs.Boundary.{Told, lent_refusal}
use Rattle.sheets.specs.SheetBytes.{sheet_bytes, totals_in, sheet_in, added_bytes, Summed, none, more, Week}
use Rattle.sheets.proofs.SheetStored.{all_read}

-- ---- what is stored is read back
eight_behind : (r l : List ℕ) (n : ℕ) → length r ≡ n → (at : ℕ) → eight_at (r ++ l) (n + at) ≡ eight_at l at
eight_behind r l n h at =
    let m = moved r l n h at in
    rw (behind r l n h at, m 1, m 2, m 3, m 4, m 5, m 6, m 7)

each_at : (t rest : List ℕ) → ((k : ℕ) → get_or t k 0 < 2 ^ 64) → (k : ℕ) → k < length t → eight_at (bytes_of_each (split bytes8) t ++ rest) (8 * k) ≡ get_or t k 0
each_at [] rest h k o = absurd (omega arith)
each_at (x ∷ xs) rest h zero o = join_split bytes8 x (h 0)
each_at (x ∷ xs) rest h (suc k) o =
    let e : 8 * suc k ≡ 8 + 8 * k = omega arith in
    ap (λ (l : List ℕ). eight_at l (8 * suc k)) (append_assoc (split bytes8 x) (bytes_of_each (split bytes8) xs) rest)
    ∙ ap (eight_at (split bytes8 x ++ (bytes_of_each (split bytes8) xs ++ rest))) e
    ∙ eight_behind (split bytes8 x) (bytes_of_each (split bytes8) xs ++ rest) 8 refl (8 * k)
    ∙ each_at xs rest (λ (j : ℕ). h (suc j)) k (omega arith)

module _ (s : Sheet) (sixteen : length s.totals ≡ 16) (totals : (k : ℕ) → get_or s.totals k 0 < 2 ^ 64) (high : s.run.high < 2 ^ 64) (low : s.run.low < 2 ^ 64) where
  abbrev front : List ℕ
  front = bytes_of_each (split bytes8) s.totals

  abbrev rest : List ℕ
  rest = split bytes8 s.run.high ++ (split bytes8 s.run.low ++ (s.run.met ∷ s.run.fct ∷ []))

  apart : sheet_bytes s ≡ front ++ rest
  unfolding sheet_bytes
  apart =
      append_assoc (bytes_of_each (split bytes8) s.totals ++ split bytes8 s.run.high) (split bytes8 s.run.low) (s.run.met ∷ s.run.fct ∷ [])
      ∙ append_assoc (bytes_of_each (split bytes8) s.totals) (split bytes8 s.run.high) (split bytes8 s.run.low ++ (s.run.met ∷ s.run.fct ∷ []))

  front_length : length front ≡ 128
  front_length = let e = each_length (split bytes8) 8 (λ (x : ℕ). refl) s.totals in omega arith

  eight_last : (at : ℕ) → eight_at (sheet_bytes s) (128 + at) ≡ eight_at rest at
  eight_last at = ap (λ (l : List ℕ). eight_at l (128 + at)) apart ∙ eight_behind front rest 128 front_length at

  byte_last : (at : ℕ) → get_or (sheet_bytes s) (128 + at) 0 ≡ get_or rest at 0
  byte_last at = ap (λ (l : List ℕ). get_or l (128 + at) 0) apart ∙ behind front rest 128 front_length at

  totals_back : s.totals ≡ totals_in (sheet_bytes s) 16
  totals_back =
      all_read (sheet_bytes s) s.totals sixteen
      (λ (k : ℕ) (o : k < 16). sym (ap (λ (l : List ℕ). eight_at l (8 * k)) apart ∙ each_at s.totals rest totals k (rw sixteen o)))

  pub read_back : sheet_in (sheet_bytes s) ≡ s
  unfolding sheet_in
  read_back =
      let a : eight_at (sheet_bytes s) 128 ≡ s.run.high = eight_last 0 ∙ join_split bytes8 s.run.high high in
      let b : eight_at (sheet_bytes s) 136 ≡ s.run.low = eight_last 8 ∙ join_split bytes8 s.run.low low in
      let c : get_or (sheet_bytes s) 144 0 ≡ s.run.met = byte_last 16 in
      let d : get_or (sheet_bytes s) 145 0 ≡ s.run.fct = byte_last 17 in
      λ i. record { totals = sym totals_back i; run = record { high = a i; low = b i; met = c i; fct = d i } }

added_length : (s : Sheet) (es : List Entry) → length (added s es).totals ≡ 16
unfolding added
added_length s es = total_length s.totals es

-- ---- one call: what it leaves is read back as the sheet with the log added
module _ (s : Sheet) (l was left : List ℕ) (e : sheet_in was ≡ s) (t : Told 146 (adding_refusal_of (sheet_in was) l) (added_bytes l was) was left 0) where
  refusal : (length was ≡ 146) × (adding_refusal_of s l ≡ 0)
  refusal = go (eqb (length was) 146) refl t.number
    where
      go : (b : Bool) → eqb (length was) 146 ≡ b → 0 ≡ pick (eqb (length was) 146) (adding_refusal_of (sheet_in was) l) 1 → (length was ≡ 146) × (adding_refusal_of s l ≡ 0)
      go true h n = (eqb-true (length was) 146 h, sym (rw (h, e) at n))
      go false h n = let z : ◌≡◌ {A = ℕ} 0 1 = rw h at n in absurd (omega arith)

  pub call_left : left ≡ sheet_bytes (added s (entries_of l))
  unfolding added_bytes
  call_left =
      let z : lent_refusal 146 (length was) (adding_refusal_of (sheet_in was) l) ≡ 0 = sym t.number in
      t.answer ∙ (rw (z, e))

  pub call_accepted : (log_refusal_of l ≡ 0) × (goes_on s (records_in l) ≡ true)
  call_accepted = adding_accepted s l refusal.1

  pub call_read : length l < 2 ^ 64 → sheet_in left ≡ added s (entries_of l)
  call_read short =
      let n = entries_length l (records_in l) in
      let g : goes_on s (length (entries_of l)) ≡ true = rw n call_accepted.1 in
      let few : length (entries_of l) ≤ 18446744073709551615 = omega arith in
      let r = run_holds s (entries_of l) g few in
      ap sheet_in call_left ∙ read_back (added s (entries_of l)) (added_length s (entries_of l)) (λ (k : ℕ). totals_hold s (entries_of l) g k few) r.0 r.1

-- ---- all the calls
all_append : (es fs : List Entry) → AllAllowed es → AllAllowed fs → AllAllowed (es ++ fs)
all_append [] fs a b = b
all_append (e ∷ es) fs a b = (a.0, all_append es fs a.1 b)

pub week : {joint b : List ℕ} → Summed joint b → Week joint b
unfolding sheet_bytes sheet_in totals_in added totals_to count run_by fcts_of gaps last_after entries_to
week none = record { even = refl; bytes = refl; read = refl; allowed = tt }
week (more {l} {was} {left} m short w t) =
    let y = week w in
    let s = sheet_of (entries_of l) in
    let a = call_accepted s m was left y.read t in
    let em = whole m a.0 in
    let j = joined l m y.even in
    let x = logs_added l m y.even in
    record {
      even = omega (arith, y.even, em, length-append l m);
      bytes = call_left s m was left y.read t ∙ ap sheet_bytes x;
      read = call_read s m was left y.read t short ∙ x;
      allowed = subst AllAllowed (sym j) (all_append (entries_of l) (entries_of m) y.allowed (all_allowed m a.0));
    }

-- IT GOES ON: 12 is never the answer to a log that is added to such a sheet, as long as all records together are fewer than 2^64
pub week_goes_on : (l b : List ℕ) → Summed l b → (n : ℕ) → records_in l + n < 2 ^ 64 → goes_on (sheet_in b) n ≡ true
week_goes_on l b w n h =
    let y = week w in
    let e = entries_length l (records_in l) in
    rw y.read (sheet_goes_on (entries_of l) y.allowed n (omega arith))
