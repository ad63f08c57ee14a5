-- A value as its place and its length in a packet say, either of which may run past the end.
-- Assumes nothing.
use mathlib.Core.Bool.{Bool, true, false}
use mathlib.Core.List.{List}
use mathlib.Core.Path.{◌≡◌, refl, sym, ap, ◌∙◌}
use Prim.Native.Nat.{ℕ, ◌+◌, ◌-◌, min}
use native.Mathlib.Omega.{arith}
use borrow.Author.Tests.{ltb-true, ltb-false}
use lib.Dec.{ltb}
use lib.ListN.{length, take, drop, length-drop}
use lib.Seq.{take_all}
use Rattle.std.proofs.lemmas.List.{nil_from_length}

drop_min : (p : List ℕ) (n : ℕ) → drop (min n (length p)) p ≡ drop n p
drop_min p n = go (ltb n (length p)) refl
  where
    go : (b : Bool) → ltb n (length p) ≡ b → drop (min n (length p)) p ≡ drop n p
    go true e =
        let h = ltb-true n (length p) e in
        let m : min n (length p) ≡ n = omega arith in
        ap (λ (k : ℕ). drop k p) m
    go false e =
        let h = ltb-false n (length p) e in
        let d = length-drop (min n (length p)) p in
        let k = length-drop n p in
        nil_from_length (drop (min n (length p)) p) (omega arith) ∙ sym (nil_from_length (drop n p) (omega arith))

take_min : (l : List ℕ) (n : ℕ) → take (min n (length l)) l ≡ take n l
take_min l n = go (ltb n (length l)) refl
  where
    go : (b : Bool) → ltb n (length l) ≡ b → take (min n (length l)) l ≡ take n l
    go true e =
        let h = ltb-true n (length l) e in
        let m : min n (length l) ≡ n = omega arith in
        ap (λ (k : ℕ). take k l) m
    go false e =
        let h = ltb-false n (length l) e in
        take_all (min n (length l)) l (omega arith) ∙ sym (take_all n l h)

pub value_taken : (p : List ℕ) (start len s l : ℕ) → s ≡ min start (length p) → l ≡ min len (length p - s) → take (s + l - s) (drop s p) ≡ take len (drop start p)
value_taken p start len s l es el =
    let n : s + l - s ≡ min len (length (drop s p)) = omega (arith, el, length-drop s p) in
    ap (λ (k : ℕ). take k (drop s p)) n
    ∙ take_min (drop s p) len
    ∙ ap (take len) (ap (λ (k : ℕ). drop k p) es ∙ drop_min p start)
