-- What a window shows of a line: the same places, and the places that a hunt passes.
-- Assumes nothing.
use Prim.Native.Nat.{ℕ, zero, suc, ◌+◌, ◌-◌, ◌≤◌, ◌<◌}
use mathlib.Core.Path.{◌≡◌, refl, ◌∙◌}
use mathlib.Core.Bool.{Bool, true, false}
use mathlib.Core.List.{List, ◌++◌}
use mathlib.Core.Logic.{◌⊎◌, inl, inr}
use native.Mathlib.Decide.{dec_le}
use native.Mathlib.Omega.{arith}
use native.Mathlib.Nat.{eq-or-lt_of_le}
use lib.ListN.{length, drop, length-append, length-drop}
use lib.Seq.{take-append-le, drop-append-le, drop-drop}
use borrow.Author.Tests.{le-leb}
use Rattle.walk.specs.Walk.{confirmed}
use Rattle.walk.specs.Records.{part, judged}
use Rattle.walk.proofs.Onward.{Passed, short_clear}

-- w is what v shows from d on, as far as w goes
pub record Sees (d : ℕ) (w v : List ℕ) : Type 0 where
  pub room : d + length w ≤ length v
  pub same : (p : ℕ) → p + 6144 ≤ length w → part v (d + p) ≡ part w p

-- a window of what has come, whatever is to come
pub sees : (came b : List ℕ) (d : ℕ) → d ≤ length came → Sees d (drop d came) (came ++ b)
sees came b d h =
    record {
      room = simp (length-drop, length-append) (omega arith);
      same = λ p room.
          let l = length-drop d came in
          let m = length-drop (d + p) came in
          rw (drop-append-le (d + p) came b (omega arith), take-append-le 6144 (drop (d + p) came) b (omega arith), drop-drop p d came) refl;
    }

-- a window of all that came
pub sees_all : (came : List ℕ) (d : ℕ) → d ≤ length came → Sees d (drop d came) came
sees_all came d h = record { room = simp length-drop (omega arith); same = λ p room. rw (drop-drop p d came) }

-- WHAT A HUNT FINDS: it passes to a place that is confirmed, or to the end
pub record Found (m : ℕ) (w : List ℕ) (p : ℕ) : Type 0 where
  pub end : ℕ
  pub passed : Passed m w p end
  pub why : (confirmed (judged m w) end ≡ true) ⊎ (length w < end + 6144)

module _ (m : ℕ) (w : List ℕ) where
  -- a confirmed place has two periods
  pub confirmed_room : (p : ℕ) → confirmed (judged m w) p ≡ true → p + 12288 ≤ length w
  confirmed_room p e = go (dec_le (p + 12288) (length w))
    where
      go : Dec (p + 12288 ≤ length w) → p + 12288 ≤ length w
      go (yes l) = l
      go (no l) = let c = short_clear m w p (omega arith) in let z : ◌≡◌ {A = ℕ} 0 1 = cc in absurd (omega arith)

  nowhere : (p : ℕ) → Passed m w p p
  nowhere p = record { ahead = omega arith; room = λ i a b. absurd (omega arith); clear = λ i a b. absurd (omega arith) }

  one_more : (p e : ℕ) → p + 6144 ≤ length w → confirmed (judged m w) p ≡ false → Passed m w (p + 1) e → Passed m w p e
  one_more p e r c P =
      record {
        ahead = omega (arith, P.ahead);
        room = λ i a b. elim (eq-or-lt_of_le a) as (λ (_ : (p ≡ i) ⊎ (p < i)). i + 6144 ≤ length w) [ inl q ↦ omega arith | inr q ↦ P.room i (omega arith) b ];
        clear = λ i a b. elim (eq-or-lt_of_le a) as (λ (_ : (p ≡ i) ⊎ (p < i)). confirmed (judged m w) i ≡ false) [ inl q ↦ rw (← q) c | inr q ↦ P.clear i (omega arith) b ];
      }

  find : (n p : ℕ) → length w < p + 6144 + n → Found m w p
  find zero p h = record { end = p; passed = nowhere p; why = inr (omega arith) }
  find (suc n) p h = go (dec_le (p + 6144) (length w)) (confirmed (judged m w) p) refl (find n (p + 1) (omega arith))
    where
      go : Dec (p + 6144 ≤ length w) → (b : Bool) → confirmed (judged m w) p ≡ b → Found m w (p + 1) → Found m w p
      go (no l) b c f = record { end = p; passed = nowhere p; why = inr (omega arith) }
      go (yes l) true c f = record { end = p; passed = nowhere p; why = inl c }
      go (yes l) false c f = record { end = f.end; passed = one_more p f.end l c f.passed; why = f.why }

  pub found : (p : ℕ) → Found m w p
  found p = find (suc (length w)) p (omega arith)

-- THE SAME PLACES of the whole
module _ (m : ℕ) {d : ℕ} {w v : List ℕ} (S : Sees d w v) where
  pub confirmed_same : (p : ℕ) → p + 12288 ≤ length w → confirmed (judged m v) (d + p) ≡ confirmed (judged m w) p
  unfolding confirmed judged
  confirmed_same p h =
      rw (let q : d + p + 6144 ≡ d + (p + 6144) = omega arith in q, S.same p (omega arith), S.same (p + 6144) (omega arith), le-leb (p + 6144 + 6144) (length w) (omega arith), le-leb (d + (p + 6144) + 6144) (length v) (omega (arith, S.room)))

  -- a place that is not confirmed in the window is not confirmed in the whole: two periods from it are in the window, or the window goes to the end
  clear_same : (p : ℕ) → (length w < p + 12288 → length v ≡ d + length w) → confirmed (judged m w) p ≡ false → confirmed (judged m v) (d + p) ≡ false
  clear_same p h e = go (dec_le (p + 12288) (length w))
    where
      go : Dec (p + 12288 ≤ length w) → confirmed (judged m v) (d + p) ≡ false
      go (yes l) = confirmed_same p l ∙ e
      go (no l) = short_clear m v (d + p) (let z : length w < p + 12288 = omega arith in omega (arith, h z))

  pub passed_same : (p e : ℕ) → ((i : ℕ) → i < e → length w < i + 12288 → length v ≡ d + length w) → Passed m w p e → Passed m v (d + p) (d + e)
  passed_same p e h P =
      record {
        ahead = omega (arith, P.ahead);
        room = λ j a b. omega (arith, P.room (j - d) (omega arith) (omega arith), S.room);
        clear = λ j a b.
            rw (let q : j ≡ d + (j - d) = omega arith in q) (clear_same (j - d) (h (j - d) (omega arith)) (P.clear (j - d) (omega arith) (omega arith)));
      }
