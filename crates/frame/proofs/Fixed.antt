-- The number and values of an answer fix it, so that two readings of the same bytes are equal.
-- Assumes nothing.
use mathlib.Core.Bool.{Bool, true, false}
use mathlib.Core.List.{List, [], ◌∷◌}
use mathlib.Core.Path.{◌≡◌, refl, sym, ap, ◌∙◌}
use Prim.Native.Nat.{ℕ}
use native.Mathlib.Omega.{arith}
use Rattle.std.specs.Prelude.{Ok, Err}
use Rattle.refusals.proofs.Numbers.{above_zero, number_fixed}
use Rattle.frame.specs.declared.Header.{Header}
use Rattle.frame.specs.declared.Reading.{Reading}
use Rattle.frame.proofs.Timestamps.{timestamp_fixed}
use Rattle.frame.specs.Answers.{Answer, digit, header_values, number_of, values_of, returned_of, sums_of, returning_of, fields_of, Reads}
use Rattle.frame.specs.Frame.{main_of, main_sum_of}
use Rattle.sum.specs.Sum.{sum_of}

digit_fixed : (a b : Bool) → digit a ≡ digit b → a ≡ b
digit_fixed true true e = refl
digit_fixed true false e = absurd (omega arith)
digit_fixed false true e = absurd (omega arith)
digit_fixed false false e = refl

header_fixed : (h k : Header) → header_values h ≡ header_values k → h ≡ k
header_fixed h k e =
    let level : h.level ≡ k.level = cc in
    let fsync1 = digit_fixed h.fsync1 k.fsync1 (cc) in
    let fct : h.fct ≡ k.fct = cc in
    let ficf = digit_fixed h.ficf k.ficf (cc) in
    let nst : h.nst ≡ k.nst = cc in
    let fp : h.fp ≡ k.fp = cc in
    let mid : h.mid ≡ k.mid = cc in
    let fl : h.fl ≡ k.fl = cc in
    let mnsc : h.mnsc ≡ k.mnsc = cc in
    let rfu : h.rfu ≡ k.rfu = cc in
    let rfa : h.rfa ≡ k.rfa = cc in
    let timestamp = timestamp_fixed h.timestamp k.timestamp (cc) in
    let sent : h.sent ≡ k.sent = cc in
    let worked : h.worked ≡ k.worked = cc in
    λ i.
    record {
      level = level i;
      fsync1 = fsync1 i;
      fct = fct i;
      ficf = ficf i;
      nst = nst i;
      fp = fp i;
      mid = mid i;
      fl = fl i;
      mnsc = mnsc i;
      rfu = rfu i;
      rfa = rfa i;
      timestamp = timestamp i;
      sent = sent i;
      worked = worked i;
    }

pub answer_fixed : (a b : Answer) → number_of a ≡ number_of b → values_of a ≡ values_of b → a ≡ b
answer_fixed (Ok h) (Ok k) n v = ap Ok (header_fixed h k v)
answer_fixed (Ok h) (Err s) n v = absurd (above_zero s (sym n))
answer_fixed (Err r) (Ok k) n v = absurd (above_zero r n)
answer_fixed (Err r) (Err s) n v = ap Err (number_fixed r s n)

pub reading_fixed : (f : List ℕ) (r q : Reading) → Reads f r → Reads f q → r ≡ q
reading_fixed f r q a b =
    let answer = answer_fixed r.answer q.answer (a.number ∙ sym b.number) (a.values ∙ sym b.values) in
    let table = a.table ∙ sym b.table in
    λ i. record { answer = answer i; table = table i }

-- the values of an accepted frame's answer, taken apart: the fields that return, and the two sums
pub apart : (f : List ℕ) (a : Answer) → values_of a ≡ fields_of f → (returned_of a ≡ returning_of f) × (sums_of a ≡ main_sum_of f ∷ sum_of (main_of f) ∷ [])
unfolding fields_of returning_of
apart f (Ok h) e = (cc, cc)
apart f (Err r) e = let z : ◌≡◌ {A = ℕ} 0 1 = cc in absurd (omega arith)
