-- What counting answers, by its number and values: they fix it.
-- Assumes nothing.
use Prim.Native.Nat.{ℕ}
use mathlib.Core.Path.{◌≡◌, sym, ap, ◌∙◌}
use mathlib.Core.List.{List}
use Rattle.std.specs.Prelude.{Result, Ok, Err}
use Rattle.refusals.specs.declared.Refusal.{Refusal}
use Rattle.refusals.specs.Refusals.{outcome_number}
use Rattle.refusals.proofs.Numbers.{above_zero, number_fixed}
use Rattle.walk.specs.Records.{limit_refusal_of}
use Rattle.walk.proofs.Limits.{number_allowed}
use Rattle.looks.specs.Testing.{tests_of, counted_values, CountsTests}

same : (r q : Result ℕ Refusal) → outcome_number r ≡ outcome_number q → counted_values r ≡ counted_values q → r ≡ q
same (Ok n) (Ok k) e v = cc
same (Ok n) (Err k) e v = absurd (above_zero k (sym e))
same (Err n) (Ok k) e v = absurd (above_zero n e)
same (Err n) (Err k) e v = ap (λ (x : Refusal). Err x) (number_fixed n k e)

-- TWO RESULTS of one record and limit are equal
pub counted_fixed : (m : ℕ) (bytes : List ℕ) (r q : Result ℕ Refusal) → CountsTests m bytes r → CountsTests m bytes q → r ≡ q
counted_fixed m bytes r q a b = same r q (a.number ∙ sym b.number) (a.values ∙ sym b.values)

-- with an allowed limit it is the count
pub is_count : (m : ℕ) (bytes : List ℕ) → limit_refusal_of m ≡ 0 → (r : Result ℕ Refusal) → CountsTests m bytes r → r ≡ Ok (tests_of m bytes)
is_count m bytes z r c = same r (Ok (tests_of m bytes)) (c.number ∙ z) (rw (number_allowed m z) at c.values)
