-- The equations of the walk, in which the bound on the looks is no longer seen. Of the rules they use only that each look goes further.
-- Assumes nothing.
use Prim.Native.Nat.{ℕ, zero, suc, ◌≤◌, ◌<◌}
use mathlib.Core.Path.{◌≡◌, refl, ap, sym, ◌∙◌}
use mathlib.Core.Bool.{Bool, true, false}
use mathlib.Core.List.{List, [], ◌∷◌}
use native.Mathlib.Omega.{arith}
use lib.ListN.{length}
use Rattle.walk.specs.Walk.{Judged, Position, Done, live, look, left, looks_in, looks, giving, items_of, items, rest_in, rest, step_by, step_in, step_of}
use Rattle.walk.proofs.ByRules.{live_fits, further}

module _ (R : Judged) (positive : 0 < R.period) where
  -- a look takes at least one of the places that are left
  left_less : (s : Position) → live R s ≡ true → suc (left R (look R s).goes) ≤ left R s
  unfolding left
  left_less s e = omega (arith, live_fits R s e, further R positive s)

  left_none : (s : Position) → left R s ≤ 0 → live R s ≡ false
  left_none s h = go (live R s) refl
    where
      go : (b : Bool) → live R s ≡ b → live R s ≡ false
      go true e = absurd (omega (arith, left_less s e))
      go false e = e

  looks_in_dead : (n : ℕ) (s : Position) → live R s ≡ false → looks_in R n s ≡ []
  unfolding looks_in
  looks_in_dead zero s e = refl
  looks_in_dead (suc n) s e = rw (e, looks_in)

  looks_in_live : (n : ℕ) (s : Position) → live R s ≡ true → looks_in R (suc n) s ≡ s ∷ looks_in R n (look R s).goes
  unfolding looks_in
  looks_in_live n s e = rw (e, looks_in)

  -- the bound does not matter, if it is enough
  enough : (n m : ℕ) (s : Position) → left R s ≤ n → left R s ≤ m → looks_in R n s ≡ looks_in R m s
  enough zero m s h k = looks_in_dead zero s (left_none s h) ∙ sym (looks_in_dead m s (left_none s h))
  enough (suc n) zero s h k = looks_in_dead (suc n) s (left_none s k) ∙ sym (looks_in_dead zero s (left_none s k))
  enough (suc n) (suc m) s h k = go (live R s) refl (λ q q'. enough n m (look R s).goes q q')
    where
      go : (b : Bool) → live R s ≡ b → (left R (look R s).goes ≤ n → left R (look R s).goes ≤ m → looks_in R n (look R s).goes ≡ looks_in R m (look R s).goes) → looks_in R (suc n) s ≡ looks_in R (suc m) s
      go true e ih = rw (looks_in_live n s e, looks_in_live m s e) (ap (λ (l : List Position). s ∷ l) (ih (omega (arith, left_less s e)) (omega (arith, left_less s e))))
      go false e ih = looks_in_dead (suc n) s e ∙ sym (looks_in_dead (suc m) s e)

  -- THE EQUATIONS, of the looks
  pub looks_dead : (s : Position) → live R s ≡ false → looks R s ≡ []
  unfolding looks
  looks_dead s e = looks_in_dead (left R s) s e

  pub looks_live : (s : Position) → live R s ≡ true → looks R s ≡ s ∷ looks R (look R s).goes
  unfolding looks
  looks_live s e =
      enough (left R s) (suc (left R s)) s (omega arith) (omega arith)
      ∙ looks_in_live (left R s) s e
      ∙ ap (λ (l : List Position). s ∷ l) (enough (left R s) (left R (look R s).goes) (look R s).goes (omega (arith, left_less s e)) (omega arith))

  -- of the items
  pub items_dead : (s : Position) → live R s ≡ false → items R s ≡ []
  unfolding items items_of
  items_dead s e = ap (items_of R) (looks_dead s e)

  pub items_live : (s : Position) → live R s ≡ true → items R s ≡ giving (look R s).gives (items R (look R s).goes)
  unfolding items items_of
  items_live s e = ap (items_of R) (looks_live s e)

  -- of the end
  pub rest_dead : (s : Position) → live R s ≡ false → rest R s ≡ s
  unfolding rest rest_in
  rest_dead s e = ap (rest_in R s) (looks_dead s e)

  pub rest_live : (s : Position) → live R s ≡ true → rest R s ≡ rest R (look R s).goes
  unfolding rest rest_in
  rest_live s e = ap (rest_in R s) (looks_live s e)

  -- and of the step
  pub step_dead : (s : Position) → live R s ≡ false → step_of R s ≡ record { item = Done s.place; walk = s }
  unfolding step_of step_in
  step_dead s e = ap (step_in R s) (looks_dead s e)

  pub step_live : (s : Position) → live R s ≡ true → step_of R s ≡ step_by (look R s).gives (look R s).goes (step_of R (look R s).goes)
  unfolding step_of step_in
  step_live s e = ap (step_in R s) (looks_live s e)

  -- INDUCTION over the walk from s on
  pub walk_ind : (Q : Position → Type 0) → ((s : Position) → live R s ≡ false → Q s) → ((s : Position) → live R s ≡ true → Q (look R s).goes → Q s) → (s : Position) → Q s
  walk_ind Q dead alive s = go (left R s) s (omega arith)
    where
      by : (s : Position) (b : Bool) → live R s ≡ b → (live R s ≡ true → Q (look R s).goes) → Q s
      by s true e ih = alive s e (ih e)
      by s false e ih = dead s e

      go : (n : ℕ) (s : Position) → left R s ≤ n → Q s
      go zero s h = by s (live R s) refl (λ e. absurd (omega (arith, left_less s e)))
      go (suc n) s h = by s (live R s) refl (λ e. go n (look R s).goes (omega (arith, left_less s e)))

  -- no walk looks more often than there are places left
  length-looks_in : (n : ℕ) (s : Position) → length (looks_in R n s) ≤ n
  unfolding looks_in
  length-looks_in zero s = omega arith
  length-looks_in (suc n) s = go (live R s) refl (length-looks_in n (look R s).goes)
    where
      go : (b : Bool) → live R s ≡ b → length (looks_in R n (look R s).goes) ≤ n → length (looks_in R (suc n) s) ≤ suc n
      go true e h = rw (looks_in_live n s e) (omega arith)
      go false e h = rw (looks_in_dead (suc n) s e) (omega arith)

  pub length-looks : (s : Position) → length (looks R s) ≤ left R s
  unfolding looks
  length-looks s = length-looks_in (left R s) s
