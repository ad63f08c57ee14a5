-- A walk begun: its number, its state and the part that it holds, by the limit.
-- Assumes nothing.
use mathlib.Core.Bool.{false}
use mathlib.Core.List.{List}
use mathlib.Core.Path.{◌≡◌, refl, ap, ◌∙◌}
use Prim.Native.Nat.{ℕ, ◌-◌}
use native.Mathlib.Omega.{arith}
use lib.ListN.{length, take, drop}
use Rattle.std.specs.Prelude.{Ok, Err}
use Rattle.refusals.specs.declared.Refusal.{Refusal}
use Rattle.refusals.specs.Refusals.{refusal_number}
use Rattle.refusals.proofs.Numbers.{above_zero}
use Rattle.walk.specs.declared.Position.{Position}
use Rattle.walk.specs.Walk.{hunting}
use Rattle.walk.specs.declared.State.{State}
use Rattle.walk.specs.declared.Item.TheVariants.{Done}
use Rattle.walk.specs.Records.{allowed, limit_refusal_of, within, start, Begins, step_with, step_at}
use Rattle.walk.proofs.Beginning.{is_begun, is_refused}
use Rattle.walk.proofs.Limits.{number_allowed, number_outside, step_outside}
use Rattle.walker.specs.Advance.{no_part, held_part, start_of}

module _ (m : ℕ) where
  pub begun_state : (s : State) → Begins m (Ok s) → s ≡ start_of m
  unfolding start_of
  begun_state s b = let (d, x) = is_begun m (Ok s) b s refl in rw d x

  pub begun_outside : (n : Refusal) → Begins m (Err n) → (p : Position) → p ≡ hunting 0 0 → within 0 p ≡ start_of m
  unfolding start_of
  begun_outside n b p e = let (d, x) = is_refused m (Err n) b n refl in rw (d, e)

module _ (m : ℕ) (bytes : List ℕ) where
  pub held_whole : limit_refusal_of m ≡ 0 → held_part m bytes ≡ record { start = 0; len = length bytes }
  unfolding held_part
  held_whole z = rw (number_allowed m z)

  pub held_none : (n : Refusal) → refusal_number n ≡ limit_refusal_of m → held_part m bytes ≡ no_part
  unfolding held_part
  held_none n e = rw (number_outside m (λ z. above_zero n (e ∙ z)))

-- the whole, as a part
pub whole_part : (bytes : List ℕ) → take (length bytes - 0) (drop 0 bytes) ≡ take (length bytes) (drop 0 bytes)
whole_part bytes = ap (λ (n : ℕ). take n (drop 0 bytes)) (let q : length bytes - 0 ≡ length bytes = omega arith in q)

zero_outside : allowed 0 ≡ false
unfolding allowed
zero_outside = refl

-- a walk whose limit was refused is done at place 0, whatever it is stepped over
pub refused_done : (m : ℕ) → allowed m ≡ false → (bytes : List ℕ) → step_at bytes (start_of m) ≡ step_with bytes (Done 0) (start 0)
unfolding start_of
refused_done m e bytes = rw e (step_outside bytes (start 0) zero_outside)
