-- Repeated calls of the walk's step: joined, and once they are done.
-- Assumes nothing.
use Prim.Native.Nat.{ℕ, zero, suc, ◌+◌}
use mathlib.Core.Path.{◌≡◌, refl, sym, ap, subst, ◌∙◌}
use mathlib.Core.List.{List, ◌∷◌, ◌++◌, map}
use native.Mathlib.Nat.{suc-add, zero-add}
use lib.ListN.{replicate}
use Rattle.walk.specs.declared.State.{State}
use Rattle.walk.specs.Walk.{Item, Done}
use Rattle.walk.specs.declared.Step.{Step}
use Rattle.walk.specs.Records.{table_of, step_with, step_at, calls_at, state_after}
use Rattle.walk.specs.Demand3.{Out, out_of, done_out}
use Rattle.walk.specs.Truth.{ItemTrue}
use Rattle.walk.proofs.Limits.{by_limit, step_is, step_outside, limit_kept}
use Rattle.walk.proofs.Truth.{step_true, done_there}

module _ (v : List ℕ) where
  with_parts : (s : State) → step_at v s ≡ step_with v (step_at v s).item (step_at v s).walk
  unfolding step_with
  with_parts s = by_limit s.limit _ (λ e. rw (step_is v s.limit e s.position) refl) (λ e. rw (step_outside v s e) refl)

  -- a step that says done is followed by the same
  module _ (s : State) (p : ℕ) (e : (step_at v s).item ≡ Done p) where
    pub done_again : step_at v (step_at v s).walk ≡ step_at v s
    done_again =
        let T = subst (λ (x : Item). ItemTrue v s x (step_at v s).walk) e (step_true v s) in
        done_there v (step_at v s).walk T.over ∙ ap (λ (i : ℕ). step_with v (Done i) (step_at v s).walk) T.place ∙ ap (λ (x : Item). step_with v x (step_at v s).walk) (sym e) ∙ sym (with_parts s)

    done_out_lem : out_of (step_at v s) ≡ done_out p
    unfolding step_with table_of
    done_out_lem = ap out_of (with_parts s) ∙ ap (λ (x : Item). out_of (step_with v x (step_at v s).walk)) e

  calls_same : (n : ℕ) (s t : State) → step_at v s ≡ step_at v t → calls_at v n s ≡ calls_at v n t
  unfolding calls_at
  calls_same zero s t e = refl
  calls_same (suc n) s t e = ap (λ (r : Step). r ∷ calls_at v n r.walk) e

  -- once done is said, it is said again and again
  pub calls_done : (n : ℕ) (s : State) (p : ℕ) → (step_at v s).item ≡ Done p → map out_of (calls_at v n s) ≡ replicate n (done_out p)
  unfolding calls_at
  calls_done zero s p e = refl
  calls_done (suc n) s p e =
      ap (λ (x : Out). x ∷ map out_of (calls_at v n (step_at v s).walk)) (done_out_lem s p e)
      ∙ ap (λ (l : List Out). done_out p ∷ l) (ap (map out_of) (calls_same n (step_at v s).walk s (done_again s p e)) ∙ calls_done n s p e)

  pub calls_join : (a b : ℕ) (s : State) → map out_of (calls_at v (a + b) s) ≡ map out_of (calls_at v a s) ++ map out_of (calls_at v b (state_after v a s))
  unfolding calls_at state_after
  calls_join zero b s = rw (zero-add b) refl
  calls_join (suc a) b s = rw (suc-add a b) (ap (λ (l : List Out). out_of (step_at v s) ∷ l) (calls_join a b (step_at v s).walk))

  pub state_join : (a b : ℕ) (s : State) → state_after v (a + b) s ≡ state_after v b (state_after v a s)
  unfolding state_after
  state_join zero b s = rw (zero-add b) refl
  state_join (suc a) b s = rw (suc-add a b) (state_join a b (step_at v s).walk)

  pub limit_stays : (n : ℕ) (s : State) → (state_after v n s).limit ≡ s.limit
  unfolding state_after
  limit_stays zero s = refl
  limit_stays (suc n) s = limit_stays n (step_at v s).walk ∙ limit_kept v s
