-- The first place of a window that stands.
-- Assumes nothing.
use Prim.Native.Nat.{ℕ, zero, suc, ◌+◌, ◌-◌, ◌≤◌, ◌<◌}
use mathlib.Core.Bool.{Bool, true, false}
use mathlib.Core.List.{List}
use mathlib.Core.Path.{◌≡◌, refl, sym, ap, subst, ◌∙◌}
use native.Mathlib.Decide.{dec_le}
use native.Mathlib.Omega.{arith}
use lib.Dec.{eqb}
use lib.ListN.{length}
use borrow.Author.Tests.{eq-eqb, ne_eqb, eqb-true, eqb-false}
use Rattle.frame.specs.Rules.{refusal_of}
use Rattle.walk.specs.Records.{part, NoneStands}
use Rattle.periods.proofs.Passing.{none_passed, one_passed, then_passed}
use Rattle.live.specs.Live.{standing_in, standing}

module _ (w : List ℕ) where
  pub standing_end : (p : ℕ) → length w < p + 6144 → standing w p ≡ p
  unfolding standing standing_in
  standing_end p h = rw (let q : suc (length w) - (p + 6144) ≡ 0 = omega arith in q)

  pub standing_here : (p : ℕ) → p + 6144 ≤ length w → refusal_of (part w p) ≡ 0 → standing w p ≡ p
  unfolding standing standing_in
  standing_here p h e = rw (let q : suc (length w) - (p + 6144) ≡ suc (length w - (p + 6144)) = omega arith in q, eq-eqb (refusal_of (part w p)) 0 e)

  pub standing_next : (p : ℕ) → p + 6144 ≤ length w → (refusal_of (part w p) ≡ 0 → ⊥) → standing w p ≡ standing w (p + 1)
  unfolding standing standing_in
  standing_next p h e =
      rw (let q : suc (length w) - (p + 6144) ≡ suc (length w - (p + 6144)) = omega arith in q, ne_eqb (refusal_of (part w p)) 0 e)
      (ap (λ (n : ℕ). standing_in w n (p + 1)) (let q : length w - (p + 6144) ≡ suc (length w) - (p + 1 + 6144) = omega arith in q))

  past_in : (n a b : ℕ) → b ≡ a + n → NoneStands w a b → standing w a ≡ standing w b
  past_in zero a b e m = ap (standing w) (let q : a ≡ b = omega arith in q)
  past_in (suc n) a b e m =
      standing_next a (m.room a (omega arith) (omega arith)) (m.refused a (omega arith) (omega arith))
      ∙ past_in n (a + 1) b (omega arith) (record { ahead = omega arith; room = λ i x y. m.room i (omega arith) y; refused = λ i x y. m.refused i (omega arith) y })

  -- past places that do not stand it is the same
  pub standing_past : {a b : ℕ} → NoneStands w a b → standing w a ≡ standing w b
  standing_past {a} {b} m = past_in (b - a) a b (omega (arith, m.ahead)) m

  -- no place before it stands
  clear_in : (n p : ℕ) → length w < p + 6144 + n → NoneStands w p (standing w p)
  clear_in zero p h = none_passed w (sym (standing_end p (omega arith)))
  clear_in (suc n) p h = go (dec_le (p + 6144) (length w)) (eqb (refusal_of (part w p)) 0) refl (clear_in n (p + 1) (omega arith))
    where
      go : Dec (p + 6144 ≤ length w) → (b : Bool) → eqb (refusal_of (part w p)) 0 ≡ b → NoneStands w (p + 1) (standing w (p + 1)) → NoneStands w p (standing w p)
      go (no l) b e ih = none_passed w (sym (standing_end p (omega arith)))
      go (yes l) true e ih = none_passed w (sym (standing_here p l (eqb-true _ _ e)))
      go (yes l) false e ih =
          let bad = eqb-false (refusal_of (part w p)) 0 e in
          subst (NoneStands w p) (sym (standing_next p l bad)) (then_passed w (one_passed w refl l bad) ih)

  pub standing_clear : (p : ℕ) → NoneStands w p (standing w p)
  standing_clear p = clear_in (suc (length w)) p (omega arith)
