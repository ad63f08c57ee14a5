-- `ReadsBack` fixes the reading: the fields that return and the two sums are an answer's values.
-- Assumes nothing.
use mathlib.Core.List.{List, ◌++◌}
use mathlib.Core.Path.{◌≡◌, refl, sym, ap₂, ◌∙◌}
use Prim.Native.Nat.{ℕ}
use Rattle.std.specs.Prelude.{Ok, Err}
use Rattle.frame.specs.declared.Fields.{Fields}
use Rattle.frame.specs.declared.Reading.{Reading}
use Rattle.frame.specs.Answers.{Answer, values_of, returned_of, sums_of}
use Rattle.frame.proofs.Fixed.{answer_fixed}
use Rattle.relay.specs.Back.{ReadsBack}

parted : (a : Answer) → values_of a ≡ returned_of a ++ sums_of a
parted (Ok h) = refl
parted (Err n) = refl

pub back_fixed : (x : Fields) (m was is : List ℕ) (r q : Reading) → ReadsBack x m was is r → ReadsBack x m was is q → r ≡ q
back_fixed x m was is r q a b =
    let values : values_of r.answer ≡ values_of q.answer =
    parted r.answer ∙ ap₂ (λ (u v : List ℕ). u ++ v) (a.values ∙ sym b.values) (a.sums ∙ sym b.sums) ∙ sym (parted q.answer) in
    let answer = answer_fixed r.answer q.answer (a.number ∙ sym b.number) values in
    let table = a.table ∙ sym b.table in
    λ i. record { answer = answer i; table = table i }
