-- What the judging of a place says of its bytes: it keeps the lock exactly where they are an acceptable frame or a null transmission, and its sync word is theirs.
-- Assumes nothing.
use Prim.Native.Nat.{ℕ}
use mathlib.Core.Path.{◌≡◌, refl}
use mathlib.Core.Bool.{Bool, true, false, ◌||◌}
use mathlib.Core.List.{List}
use mathlib.Core.Logic.{◌⊎◌, inl, inr}
use lib.Dec.{eqb}
use lib.ListN.{length}
use borrow.Author.Tests.{eqb-true, eq-eqb}
use Rattle.frame.specs.Frame.{is_fsync1}
use Rattle.frame.specs.Rules.{refusal_of, Acceptable}
use Rattle.frame.specs.Answers.{header_for}
use Rattle.frame.proofs.Accepting.{accepted, acceptable, null_transmission, refused_null}
use Rattle.walk.specs.Walk.{keeps}
use Rattle.walk.specs.Records.{part, judged}
use Rattle.walk.specs.Demand3.{Keeping}

either : (a b : Bool) → (a || b) ≡ true → (a ≡ true) ⊎ (b ≡ true)
either true b e = inl refl
either false b e = inr e

module _ (limit : ℕ) (bytes : List ℕ) (p : ℕ) where
  pub stands_acceptable : (judged limit bytes).stands p ≡ true → Acceptable (part bytes p)
  unfolding judged
  stands_acceptable e = acceptable (part bytes p) (eqb-true _ _ e)

  -- the sync word by which a place is judged is the one that reading gives
  pub sync_given : Acceptable (part bytes p) → (judged limit bytes).sync p ≡ (header_for (part bytes p)).fsync1
  unfolding judged header_for is_fsync1
  sync_given ok = rw (eq-eqb (length (part bytes p)) 6144 ok.whole)

  pub keeping : keeps (judged limit bytes) p ≡ true → Keeping (part bytes p)
  unfolding judged keeps
  keeping e = go (either _ _ e)
    where
      go : (eqb (refusal_of (part bytes p)) 0 ≡ true) ⊎ (eqb (refusal_of (part bytes p)) 4 ≡ true) → Keeping (part bytes p)
      go (inl h) = inl (stands_acceptable h)
      go (inr h) = inr (null_transmission (part bytes p) (eqb-true _ _ h))

  pub kept : Keeping (part bytes p) → keeps (judged limit bytes) p ≡ true
  unfolding judged keeps
  kept (inl ok) = rw (accepted (part bytes p) ok)
  kept (inr ok) = rw (refused_null (part bytes p) ok)
