-- The period at a place, and places that do not stand.
-- Assumes nothing.
use mathlib.Core.Bool.{false}
use mathlib.Core.List.{List}
use mathlib.Core.Path.{◌≡◌, sym, ap, ◌∙◌}
use Prim.Native.Nat.{ℕ, suc, ◌+◌, ◌-◌, ◌≤◌, ◌<◌}
use native.Mathlib.Nat.{add-sub_cancel_left, min_comm, min-le_left}
use native.Mathlib.Decide.{dec_le}
use native.Mathlib.Omega.{arith}
use borrow.Author.Tests.{ne_eqb}
use lib.ListN.{length, take, drop, length-take, length-drop}
use Rattle.frame.specs.Frame.{is_fsync1}
use Rattle.frame.specs.Rules.{refusal_of}
use Rattle.periods.specs.Periods.{part, fsync1_at, NoneStands}

pub part_is : (bytes : List ℕ) (p : ℕ) → take (p + 6144 - p) (drop p bytes) ≡ part bytes p
part_is bytes p = ap (λ (n : ℕ). take n (drop p bytes)) (add-sub_cancel_left p 6144)

-- ---- a place without its period
module _ (bytes : List ℕ) (p : ℕ) (h : length bytes < p + 6144) where
  short : length (part bytes p) ≤ length bytes - p
  short = rw (length-take 6144 (drop p bytes), length-drop p bytes, min_comm 6144 (length bytes - p)) (min-le_left (length bytes - p) 6144)

  not-whole : length (part bytes p) ≡ 6144 → ⊥
  not-whole e = omega (arith, short)

  pub refused_short : 1 ≡ refusal_of (part bytes p)
  unfolding refusal_of
  refused_short = rw (ne_eqb (length (part bytes p)) 6144 not-whole)

  pub no_sync_word : false ≡ fsync1_at bytes p
  unfolding is_fsync1
  no_sync_word = rw (ne_eqb (length (part bytes p)) 6144 not-whole)

-- ---- places that do not stand
module _ (bytes : List ℕ) where
  pub none_passed : {a b : ℕ} → a ≡ b → NoneStands bytes a b
  none_passed e = record { ahead = omega arith; room = λ p x y. absurd (omega arith); refused = λ p x y. absurd (omega arith) }

  pub one_passed : {b c : ℕ} → b + 1 ≡ c → b + 6144 ≤ length bytes → (refusal_of (part bytes b) ≡ 0 → ⊥) → NoneStands bytes b c
  one_passed {b} e room bad =
      record {
        ahead = omega arith;
        room = λ p x y. omega arith;
        refused = λ p x y z. bad (let q : p ≡ b = omega arith in sym (ap (λ (j : ℕ). refusal_of (part bytes j)) q) ∙ z);
      }

  pub then_passed : {a b c : ℕ} → NoneStands bytes a b → NoneStands bytes b c → NoneStands bytes a c
  then_passed {a} {b} {c} m n =
      record {
        ahead = omega (arith, m.ahead, n.ahead);
        room = λ p x y. either p (dec_le (suc p) b) (m.room p x) (λ z. n.room p z y);
        refused = λ p x y. either p (dec_le (suc p) b) (m.refused p x) (λ z. n.refused p z y);
      }
    where
      either : {Q : Type 0} (p : ℕ) → Dec (suc p ≤ b) → (p < b → Q) → (b ≤ p → Q) → Q
      either p (yes l) f g = f l
      either p (no l) f g = g (omega arith)
