-- A walk's limit: which are allowed, the step with an allowed one and with another, and that no step changes it.
-- Assumes nothing.
use Prim.Native.Nat.{ℕ}
use mathlib.Core.Path.{◌≡◌, refl, sym, ap, ◌∙◌}
use mathlib.Core.Bool.{Bool, true, false}
use mathlib.Core.List.{List, []}
use native.Mathlib.Omega.{arith}
use lib.Dec.{leb}
use borrow.Author.Tests.{le-leb, leb-true}
use Rattle.frame.specs.declared.Stream.{Stream}
use Rattle.frame.specs.Answers.{table_by}
use Rattle.octets.proofs.Deciding.{both}
use Rattle.refusals.proofs.Numbers.{above_zero}
use Rattle.std.specs.Prelude.{Ok, Err}
use Rattle.refusals.specs.declared.Refusal.{Refusal}
use Rattle.refusals.specs.Refusals.{refusal_number}
use Rattle.walk.specs.declared.Moved.{Moved}
use Rattle.walk.specs.declared.State.{State}
use Rattle.walk.specs.declared.Step.{Step}
use Rattle.walk.specs.Walk.{Position, Done, begin, step_of}
use Rattle.walk.specs.Records.{judged, Allowed, allowed, limit_refusal_of, within, walk_values, Begins, table_of, step_with, step_at}
use Rattle.walk.specs.StepClauses.{moved_with, moved_at}

pub is_allowed : (m : ℕ) → Allowed m → allowed m ≡ true
unfolding allowed
is_allowed m (a, b) = rw (le-leb 1 m a, le-leb m 8 b)

pub allowed_is : (m : ℕ) → allowed m ≡ true → Allowed m
unfolding allowed
allowed_is m e = let p = both (leb 1 m) (leb m 8) e in (leb-true 1 m p.0, leb-true m 8 p.1)

pub not-allowed : (m : ℕ) → allowed m ≡ false → Allowed m → ⊥
not-allowed m e a = let y = is_allowed m a in let z : ◌≡◌ {A = ℕ} 0 1 = cc in omega arith

-- whatever holds of a limit that is allowed, and of one that is not
pub by_limit : (m : ℕ) (Q : Type 0) → (allowed m ≡ true → Q) → (allowed m ≡ false → Q) → Q
by_limit m Q f g = go (allowed m) refl
  where
    go : (b : Bool) → allowed m ≡ b → Q
    go true e = f e
    go false e = g e

-- the number tells which
module _ (m : ℕ) where
  pub outside : (Allowed m → ⊥) → 27 ≡ limit_refusal_of m
  unfolding limit_refusal_of
  outside bad = by_limit m _ (λ e. absurd (bad (allowed_is m e))) (λ e. rw e)

  pub just_right : Allowed m → 0 ≡ limit_refusal_of m
  unfolding limit_refusal_of
  just_right ok = rw (is_allowed m ok)

  pub number_allowed : limit_refusal_of m ≡ 0 → allowed m ≡ true
  unfolding limit_refusal_of
  number_allowed z = by_limit m _ (λ e. e) (λ e. let y : ◌≡◌ {A = ℕ} 27 0 = rw e at z in absurd (omega arith))

  pub number_outside : (limit_refusal_of m ≡ 0 → ⊥) → allowed m ≡ false
  number_outside f = by_limit m _ (λ e. absurd (f (sym (just_right (allowed_is m e))))) (λ e. e)

  -- what the code hands back
  pub begun_walk : limit_refusal_of m ≡ 0 → (p : Position) → p ≡ begin → Begins m (Ok (record { limit = m; position = p }))
  begun_walk z p e = record { number = sym z; values = rw (number_allowed z) (ap (λ (q : Position). walk_values (within m q)) e) }

  pub begun_refused : (n : Refusal) → refusal_number n ≡ limit_refusal_of m → Begins m (Err n)
  begun_refused n e = record { number = e; values = rw (number_outside (λ z. above_zero n (e ∙ z))) refl }

module _ (bytes : List ℕ) where
  pub step_is : (m : ℕ) → allowed m ≡ true → (p : Position) → step_at bytes (within m p) ≡ step_with bytes (step_of (judged m bytes) p).item (within m (step_of (judged m bytes) p).walk)
  unfolding step_at
  step_is m e p = rw e

  pub step_outside : (s : State) → allowed s.limit ≡ false → step_at bytes s ≡ step_with bytes (Done s.position.place) s
  unfolding step_at
  step_outside s e = rw e

  -- THE LIMIT IS CHANGED BY NO STEP
  pub limit_kept : (s : State) → (step_at bytes s).walk.limit ≡ s.limit
  unfolding step_with
  limit_kept s = by_limit s.limit _ (λ e. rw (step_is s.limit e s.position)) (λ e. rw (step_outside s e))

  -- what the code hands back
  pub outside_step : (s : State) (n : ℕ) → n ≡ limit_refusal_of s.limit → (n ≡ 0 → ⊥) → (t : List Stream) → t ≡ table_by [] → ◌≡◌ {A = Step} (record { item = Done s.position.place; table = t; walk = s }) (step_at bytes s)
  unfolding step_with table_of
  outside_step s n e f t q =
      ap (λ (x : List Stream). record { item = Done s.position.place; table = x; walk = s }) q ∙ sym (step_outside s (number_outside s.limit (λ z. f (e ∙ z))))

  pub inside_step : (s : State) (n : ℕ) → n ≡ limit_refusal_of s.limit → n ≡ 0 → (r : Moved) → r ≡ moved_at s.limit bytes s.position → ◌≡◌ {A = Step} (record { item = r.item; table = r.table; walk = record { limit = s.limit; position = r.position } }) (step_at bytes s)
  unfolding step_with moved_at moved_with
  inside_step s n e z r q =
      ap (λ (x : Moved). record { item = x.item; table = x.table; walk = record { limit = s.limit; position = x.position } }) q ∙ sym (step_is s.limit (number_allowed s.limit (sym e ∙ z)) s.position)
