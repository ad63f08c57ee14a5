-- A NIGHT'S LOG: that of the items which any number of calls of the step hand out is accepted, and gives back its entries.
-- Assumes nothing.
use mathlib.Core.Bool.{Bool, true, false}
use mathlib.Core.List.{List, [], ◌∷◌}
use mathlib.Core.Path.{◌≡◌, refl}
use Prim.Native.Nat.{ℕ, zero, suc, ◌<◌, ◌^◌}
use native.Mathlib.Omega.{arith}
use borrow.Author.Tests.{eqb-false}
use lib.Dec.{eqb}
use lib.ListN.{length}
use Rattle.octets.specs.Choice.{pick}
use Rattle.nightlog.specs.declared.Entry.{Entry}
use Rattle.nightlog.specs.Log.{log_of, entries_of, log_refusal_of, AllAllowed, PlacesFit}
use Rattle.nightlog.proofs.LogWritten.{written_accepted, written_returns}
use Rattle.walk.specs.declared.Item.{Item}
use Rattle.walk.specs.declared.Item.TheVariants.{Frame, Lost, Idle, Done}
use Rattle.walk.specs.declared.State.{State}
use Rattle.walk.specs.ItemValues.{done_kind, kind_of, place_of}
use Rattle.walk.specs.Records.{step_at, calls_at}
use Rattle.walk.specs.Truth.{ItemTrue}
use Rattle.walk.proofs.Truth.{step_true}
use Rattle.nights.specs.Nights.{entry_of, night_entries}
use Rattle.nights.proofs.Kept.{kept}

module _ (bytes : List ℕ) where
  -- whatever an item that is not done keeps of a list of entries is so of a night's
  each : (Q : List Entry → Type 0) → Q [] → ((s : State) → (kind_of (step_at bytes s).item ≡ done_kind → ⊥) → (es : List Entry) → Q es → Q (entry_of (step_at bytes s).item ∷ es)) →
      (n : ℕ) (s : State) → Q (night_entries (calls_at bytes n s))
  unfolding calls_at night_entries
  each Q none more zero s = none
  each Q none more (suc n) s = go (eqb (kind_of (step_at bytes s).item) done_kind) refl (night_entries (calls_at bytes n (step_at bytes s).walk)) (each Q none more n (step_at bytes s).walk)
    where
      go : (b : Bool) → eqb (kind_of (step_at bytes s).item) done_kind ≡ b → (es : List Entry) → Q es → Q (pick b es (entry_of (step_at bytes s).item ∷ es))
      go true e es a = a
      go false e es a = more s (eqb-false (kind_of (step_at bytes s).item) done_kind e) es a

  pub placed : (s : State) → (kind_of (step_at bytes s).item ≡ done_kind → ⊥) → place_of (step_at bytes s).item < length bytes
  placed s = go (step_at bytes s).item (step_at bytes s).walk (step_true bytes s)
    where
      go : (x : Item) (t : State) → ItemTrue bytes s x t → (kind_of x ≡ done_kind → ⊥) → place_of x < length bytes
      go (Frame p h) t f d = omega (arith, f.fits)
      go (Lost p m) t f d = omega (arith, f.fits)
      go (Idle p) t f d = omega (arith, f.fits)
      go (Done p) t f d = absurd (d refl)

  module _ (n : ℕ) (s : State) where
    -- neither 28 nor 29
    pub night_accepted : log_refusal_of (log_of (night_entries (calls_at bytes n s))) ≡ 0
    night_accepted = written_accepted (night_entries (calls_at bytes n s)) (each AllAllowed tt (λ t d es a. (kept bytes t d, a)) n s)

    pub night_returns : length bytes < 2 ^ 64 → entries_of (log_of (night_entries (calls_at bytes n s))) ≡ night_entries (calls_at bytes n s)
    night_returns l = written_returns (night_entries (calls_at bytes n s)) (each PlacesFit tt (λ t d es a. (omega (arith, placed t d), a)) n s)
