-- The header as a value and as the paper's numbers.
-- Assumes nothing.
use mathlib.Core.Bool.{Bool, true, false}
use mathlib.Core.List.{List, [], ◌∷◌, ◌++◌}
use mathlib.Core.Logic.{inl, inr}
use mathlib.Core.Path.{◌≡◌, refl, sym, ap}
use Prim.Native.Nat.{ℕ, zero, suc, ◌+◌, ◌*◌, ◌^◌, ◌<◌, max}
use native.Mathlib.Omega.{arith}
use lib.Dec.{eqb}
use borrow.Author.Tests.{eq-eqb, eqb-true}
use Rattle.octets.specs.Choice.{pick, place_in}
use Rattle.octets.specs.Words.{word_at}
use Rattle.sum.specs.Sum.{sum_of}
use Rattle.octets.proofs.SplitJoin.{split_fit}
use Rattle.frame.specs.Frame.{statuses, err_of, fsyncs, fsync_of, fc_widths, ficf_of, fl_of, main_of, main_sum_of, tist_widths, time_of, level_by, level_of}
use Rattle.frame.specs.Rules.{Acceptable}
use Rattle.frame.specs.Answers.{digit, returning_values, header_values, returning_of, fields_of, header_for, LevelKept, Unraised}
use Rattle.frame.proofs.Places.{fsync_placed}

pub digit_of : (n : ℕ) → n < 2 → digit (eqb n 1) ≡ n
digit_of zero h = refl
digit_of (suc zero) h = refl
digit_of (suc (suc n)) h = absurd (omega arith)

pub ficf_lt : (f : List ℕ) → ficf_of f < 2
unfolding ficf_of
ficf_lt f = (split_fit fc_widths (word_at f 4)).1.0

pub time_of_lt : (f : List ℕ) → time_of f < 2 ^ 24
unfolding time_of
time_of_lt f = (split_fit tist_widths (word_at f (4 + (fl_of f + 2) * 4))).1.0

pub returning_values_lem : (f : List ℕ) → Acceptable f → returning_values (header_for f) ≡ returning_of f
unfolding header_for returning_of
returning_values_lem f a =
    let h : place_in fsyncs (fsync_of f) < 2 = omega (arith, fsync_placed (fsync_of f) a.synced) in
    rw (digit_of (place_in fsyncs (fsync_of f)) h, digit_of (ficf_of f) (ficf_lt f))

pub header_values_lem : (f : List ℕ) → Acceptable f → header_values (header_for f) ≡ fields_of f
unfolding header_for fields_of
header_values_lem f a = ap (λ (vs : List ℕ). vs ++ (main_sum_of f ∷ sum_of (main_of f) ∷ [])) (returning_values_lem f a)

-- THE LEVEL AND THE TWO SUMS: the level handed on is the level read exactly when the sums are equal or the level read is 2 or 3
pub level_kept : (f : List ℕ) → Unraised f → LevelKept f
unfolding header_for level_of level_by
level_kept f (inl e) = rw (eq-eqb (sum_of (main_of f)) (main_sum_of f) (sym e))
level_kept f (inr h) = go (eqb (sum_of (main_of f)) (main_sum_of f))
  where
    go : (b : Bool) → pick b (place_in statuses (err_of f)) (max (place_in statuses (err_of f)) 2) ≡ place_in statuses (err_of f)
    go true = refl
    go false = omega arith

pub kept_only : (f : List ℕ) → LevelKept f → Unraised f
unfolding header_for level_of level_by
kept_only f = go (eqb (sum_of (main_of f)) (main_sum_of f)) refl
  where
    go : (b : Bool) → eqb (sum_of (main_of f)) (main_sum_of f) ≡ b → pick b (place_in statuses (err_of f)) (max (place_in statuses (err_of f)) 2) ≡ place_in statuses (err_of f) → Unraised f
    go true e k = inl (sym (eqb-true (sum_of (main_of f)) (main_sum_of f) e))
    go false e k = inr (omega arith)
