-- Places of bytes that stand are at least four apart: no byte of a sync word is a status byte. The bound that follows.
-- Assumes nothing.
use Prim.Native.Nat.{ℕ, ◌+◌, ◌-◌, ◌*◌, ◌≤◌, ◌<◌}
use mathlib.Core.Path.{◌≡◌, subst}
use mathlib.Core.Bool.{true}
use mathlib.Core.List.{List}
use mathlib.Core.Logic.{◌⊎◌, inl, inr}
use native.Mathlib.Omega.{arith}
use native.Mathlib.Decide.{dec_le}
use lib.Dec.{lit<}
use lib.ListN.{length, get_or}
use borrow.Author.Tests.{eqb-true}
use Rattle.frame.specs.Frame.{err_of}
use Rattle.frame.specs.Rules.{refusal_of, Acceptable}
use Rattle.frame.specs.Writing.{Bytes}
use Rattle.frame.proofs.Accepting.{acceptable}
use Rattle.frame.proofs.Places.{OneFsync, OneStatus}
use Rattle.walk.specs.Walk.{begin}
use Rattle.walk.specs.Records.{part, judged}
use Rattle.periods.proofs.Marks.{byte_is, fsync_is}
use Rattle.looks.specs.Testing.{tests_of}
use Rattle.looks.proofs.Bounds.{tests_few}

-- a byte of a sync word, which is a * 65536 + b * 256 + c
module _ (a b c : ℕ) (low : (a < 256) × (b < 256) × (c < 256)) where
  between : OneFsync (a * 65536 + b * 256 + c) → (y : ℕ) → (y ≡ a) ⊎ ((y ≡ b) ⊎ (y ≡ c)) → (0 < y) × (y < 255) × (y ≡ 15 → ⊥) × (y ≡ 240 → ⊥)
  between (inl s) y (inl e) = (omega arith, omega arith, λ z. omega arith, λ z. omega arith)
  between (inl s) y (inr (inl e)) = (omega arith, omega arith, λ z. omega arith, λ z. omega arith)
  between (inl s) y (inr (inr e)) = (omega arith, omega arith, λ z. omega arith, λ z. omega arith)
  between (inr s) y (inl e) = (omega arith, omega arith, λ z. omega arith, λ z. omega arith)
  between (inr s) y (inr (inl e)) = (omega arith, omega arith, λ z. omega arith, λ z. omega arith)
  between (inr s) y (inr (inr e)) = (omega arith, omega arith, λ z. omega arith, λ z. omega arith)

outside : (y : ℕ) → OneStatus y → (0 < y) → (y < 255) → (y ≡ 15 → ⊥) → (y ≡ 240 → ⊥) → ⊥
outside y (inl e) p q f g = omega arith
outside y (inr (inl e)) p q f g = g e
outside y (inr (inr (inl e))) p q f g = f e
outside y (inr (inr (inr e))) p q f g = omega arith

module _ (bytes : List ℕ) (small : Bytes bytes) where
  err_is : (p : ℕ) → err_of (part bytes p) ≡ get_or bytes (p + 0) 0
  unfolding err_of
  err_is p =
      rw (byte_is bytes p 0 (omega arith), byte_is bytes p 1 (omega arith), byte_is bytes p 2 (omega arith), byte_is bytes p 3 (omega arith))
      (omega (arith, small (p + 0), small (p + 1), small (p + 2), small (p + 3)))

  pub places_apart : (p q : ℕ) → Acceptable (part bytes p) → Acceptable (part bytes q) → p < q → p + 4 ≤ q
  places_apart p q a b h = go (dec_le (p + 4) q)
    where
      status : OneStatus (get_or bytes (q + 0) 0)
      status = subst OneStatus (err_is q) b.status

      not-here : (get_or bytes (q + 0) 0 ≡ get_or bytes (p + 1) 0) ⊎ ((get_or bytes (q + 0) 0 ≡ get_or bytes (p + 2) 0) ⊎ (get_or bytes (q + 0) 0 ≡ get_or bytes (p + 3) 0)) → ⊥
      not-here w =
          let (x, y, f, g) = between (get_or bytes (p + 1) 0) (get_or bytes (p + 2) 0) (get_or bytes (p + 3) 0) (small (p + 1), small (p + 2), small (p + 3)) (subst OneFsync (fsync_is bytes p small) a.synced) (get_or bytes (q + 0) 0) w in
          outside (get_or bytes (q + 0) 0) status x y f g

      at : (i j : ℕ) → i ≡ j → get_or bytes i 0 ≡ get_or bytes j 0
      at i j e = rw e

      go : Dec (p + 4 ≤ q) → p + 4 ≤ q
      go (yes l) = l
      go (no l) = absurd (near (dec_le q (p + 1)) (dec_le q (p + 2)))
        where
          near : Dec (q ≤ p + 1) → Dec (q ≤ p + 2) → ⊥
          near (yes x) d = not-here (inl (at (q + 0) (p + 1) (omega arith)))
          near (no x) (yes y) = not-here (inr (inl (at (q + 0) (p + 2) (omega arith))))
          near (no x) (no y) = not-here (inr (inr (at (q + 0) (p + 3) (omega arith))))

  apart : (m p q : ℕ) → (judged m bytes).stands p ≡ true → (judged m bytes).stands q ≡ true → p < q → p + 4 ≤ q
  unfolding judged
  apart m p q a b h = places_apart p q (acceptable (part bytes p) (eqb-true (refusal_of (part bytes p)) 0 a)) (acceptable (part bytes q) (eqb-true (refusal_of (part bytes q)) 0 b)) h

  -- n is a quarter of the confirming places, or more
  pub few_tests : (m n : ℕ) → length bytes ≤ 12287 + 4 * n → tests_of m bytes ≤ length bytes - 6143 + n
  unfolding tests_of judged
  few_tests m n h = omega (arith, tests_few (judged m bytes) (lit< tt) (apart m) begin n (omega arith))
