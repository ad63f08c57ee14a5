-- NO ITEM OF A NIGHT IS REFUSED: every one that a step of a walk hands out is allowed in a record, but done, which never is.
-- Assumes nothing.
use mathlib.Core.Bool.{Bool, true, false, ◌&&◌}
use mathlib.Core.List.{List, [], ◌∷◌}
use mathlib.Core.Path.{◌≡◌, refl, ◌∙◌}
use Prim.Native.Nat.{ℕ, ◌+◌, ◌≤◌}
use native.Mathlib.Omega.{arith}
use borrow.Author.Tests.{eq-eqb, ne_eqb, le-leb, leb-true}
use lib.Dec.{eqb, leb}
use lib.ListN.{length, drop, length-drop}
use lib.Seq.{length-take-le}
use Rattle.octets.specs.Choice.{place_in}
use Rattle.octets.proofs.Deciding.{both}
use Rattle.sum.specs.Sum.{sum_of}
use Rattle.frame.specs.declared.Header.{Header}
use Rattle.frame.specs.Frame.{statuses, err_of, fct_of, level_of, main_of, main_sum_of}
use Rattle.frame.specs.Rules.{Rule, ◌when◌, first, rules_of, refusal_of, Acceptable}
use Rattle.frame.specs.Answers.{header_for}
use Rattle.frame.proofs.Places.{status_placed}
use Rattle.trips.proofs.ReadWritable.{level_le}
use Rattle.refusals.specs.Refusals.{refusal_number}
use Rattle.nightlog.specs.Log.{frame_kind as loggedFrame, lost_kind as loggedLost, idle_kind as loggedIdle, allowed, allowed_entry, lost_code, writing_refusal_of}
use Rattle.walk.specs.declared.Item.{Item}
use Rattle.walk.specs.declared.Item.TheVariants.{Frame, Lost, Idle, Done}
use Rattle.walk.specs.declared.State.{State}
use Rattle.walk.specs.ItemValues.{frame_kind, lost_kind, idle_kind, done_kind, kind_of}
use Rattle.walk.specs.Records.{part, step_at}
use Rattle.walk.specs.Truth.{ItemTrue}
use Rattle.walk.proofs.Truth.{step_true}
use Rattle.nights.specs.Nights.{entry_of}

-- the first rule to hold has one of the rules' numbers
abbrev within : ℕ → ℕ → List Rule → Bool
within a b [] = true
within a b ((n when t) ∷ rs) = leb a n && (leb n b && within a b rs)

numbered : (a b : ℕ) (rs : List Rule) → within a b rs ≡ true → (first rs ≡ 0 → ⊥) → (a ≤ first rs) × (first rs ≤ b)
numbered a b [] h z = absurd (z refl)
numbered a b ((n when true) ∷ rs) h z =
    let p = both (leb a n) _ h in (leb-true a n p.0, leb-true n b (both (leb n b) _ p.1).0)
numbered a b ((n when false) ∷ rs) h z = numbered a b rs (both (leb n b) _ (both (leb a n) _ h).1).1 z

-- reading's rules but for the first
abbrev later : List ℕ → List Rule
later f = elim (rules_of f) [ [] ↦ [] | r ∷ rs ↦ rs ]

module _ (bytes : List ℕ) (p : ℕ) (fits : p + 6144 ≤ length bytes) where
  whole : length (part bytes p) ≡ 6144
  whole = length-take-le 6144 (drop p bytes) (simp length-drop (omega arith))

  -- a lost mark's number is one of 2 to 10
  lost_number : (n : ℕ) → n ≡ refusal_of (part bytes p) → (n ≡ 0 → ⊥) → (2 ≤ n) × (n ≤ 10)
  unfolding refusal_of
  lost_number n e z =
      let one : refusal_of (part bytes p) ≡ first (later (part bytes p)) = rw (eq-eqb (length (part bytes p)) 6144 whole) in
      let q = numbered 2 10 (later (part bytes p)) refl (λ y. z (e ∙ one ∙ y)) in
      rw (e, one) q

frame_allowed : (f : List ℕ) (h : Header) → Acceptable f → h ≡ header_for f → allowed loggedFrame h.fct h.level ≡ true
unfolding allowed header_for level_of
frame_allowed f h a e =
    rw (e, le-leb (fct_of f) 249 a.counted) (le-leb (level_of f) 3 (level_le (place_in statuses (err_of f)) (eqb (sum_of (main_of f)) (main_sum_of f)) (status_placed (err_of f) a.status)))

lost_allowed : (n : ℕ) → (2 ≤ n) × (n ≤ 10) → (n ≡ 4 → ⊥) → allowed loggedLost n 0xFF ≡ true
unfolding allowed lost_code
lost_allowed n (a, b) c = rw (le-leb 2 n a, le-leb n 10 b, ne_eqb n 4 c)

-- the log's kinds are the walk's
pub same_kinds : (loggedFrame ≡ frame_kind) × (loggedLost ≡ lost_kind) × (loggedIdle ≡ idle_kind)
same_kinds = (refl, refl, refl)

-- done is refused, wherever it is said
pub done_refused : (p : ℕ) → writing_refusal_of (entry_of (Done p)) 16 ≡ 29
unfolding writing_refusal_of allowed
done_refused p = refl

module _ (bytes : List ℕ) (s : State) where
  pub kept : (kind_of (step_at bytes s).item ≡ done_kind → ⊥) → allowed_entry (entry_of (step_at bytes s).item) ≡ true
  unfolding allowed
  kept d = go (step_at bytes s).item (step_at bytes s).walk (step_true bytes s) d
    where
      go : (x : Item) (t : State) → ItemTrue bytes s x t → (kind_of x ≡ done_kind → ⊥) → allowed_entry (entry_of x) ≡ true
      go (Frame p h) t f n = frame_allowed (part bytes p) h f.acceptable f.header
      go (Lost p n) t f k = lost_allowed (refusal_number n) (lost_number bytes p f.fits (refusal_number n) f.number f.refused) f.carrying
      go (Idle p) t f n = refl
      go (Done p) t f n = absurd (n refl)
