-- Parts that are not refused for a length have the variant's lengths.
-- Assumes nothing.
use mathlib.Core.Path.{◌≡◌, refl, ap, ap₂, ◌∙◌}
use mathlib.Core.Bool.{Bool, true, false, not, ◌&&◌}
use mathlib.Core.List.{List, [], ◌∷◌}
use Prim.Native.Nat.{ℕ, ◌-◌, ◌*◌, ◌≤◌}
use native.Mathlib.Omega.{arith}
use borrow.Author.Tests.{eqb-true}
use lib.Dec.{eqb}
use lib.ListN.{length, get_or}
use Rattle.octets.specs.Choice.{pick}
use Rattle.array.specs.CodingArray.{Parts, carried}
use Rattle.array.specs.PartLengths.{length_refusal, parts_refusal, refusal_beside, Sized}

one_zero : ◌≡◌ {A = ℕ} 1 0 → ⊥
one_zero e = omega arith

pub lengths_same : (ns ws : List ℕ) → length_refusal ns ws ≡ 0 → ns ≡ ws
lengths_same [] [] e = refl
lengths_same [] (w ∷ ws) e = absurd (one_zero e)
lengths_same (n ∷ ns) [] e = absurd (one_zero e)
lengths_same (n ∷ ns) (w ∷ ws) e = go (eqb n w) refl e (lengths_same ns ws)
  where
    go : (b : Bool) → eqb n w ≡ b → pick b (length_refusal ns ws) 1 ≡ 0 → (length_refusal ns ws ≡ 0 → ns ≡ ws) → n ∷ ns ≡ w ∷ ws
    go true q z later = ap₂ ◌∷◌ (eqb-true n w q) (later z)
    go false q z later = absurd (one_zero z)

-- the lengths compared, as arrays of them are
abbrev equal : List ℕ → List ℕ → Bool
equal [] [] = true
equal [] (w ∷ ws) = false
equal (n ∷ ns) [] = false
equal (n ∷ ns) (w ∷ ws) = eqb n w && equal ns ws

compared : (b : Bool) (ns ws : List ℕ) → b ≡ not (equal ns ws) → pick b 1 0 ≡ length_refusal ns ws
compared b [] [] e = rw e refl
compared b [] (w ∷ ws) e = rw e refl
compared b (n ∷ ns) [] e = rw e refl
compared b (n ∷ ns) (w ∷ ws) e = go (eqb n w) e (compared b ns ws)
  where
    go : (c : Bool) → b ≡ not (c && equal ns ws) → (b ≡ not (equal ns ws) → pick b 1 0 ≡ length_refusal ns ws) → pick b 1 0 ≡ pick c (length_refusal ns ws) 1
    go true q later = later q
    go false q later = rw q refl

pub compared_six : (b : Bool) (w o m s g h r : ℕ) → b ≡ not (equal (o ∷ m ∷ s ∷ g ∷ h ∷ r ∷ []) (6144 ∷ 24 ∷ 24 ∷ 192 ∷ 192 ∷ 24 * (240 - w) ∷ [])) → pick b 1 0 ≡ parts_refusal w o m s g h r
unfolding parts_refusal
compared_six b w o m s g h r e = compared b (o ∷ m ∷ s ∷ g ∷ h ∷ r ∷ []) (6144 ∷ 24 ∷ 24 ∷ 192 ∷ 192 ∷ 24 * (240 - w) ∷ []) e

-- there is no other refusal of a length
one_only : (ns ws : List ℕ) → (length_refusal ns ws ≡ 0 → ⊥) → length_refusal ns ws ≡ 1
one_only [] [] h = absurd (h refl)
one_only [] (w ∷ ws) h = refl
one_only (n ∷ ns) [] h = refl
one_only (n ∷ ns) (w ∷ ws) h = go (eqb n w) h (one_only ns ws)
  where
    go : (c : Bool) → (pick c (length_refusal ns ws) 1 ≡ 0 → ⊥) → ((length_refusal ns ws ≡ 0 → ⊥) → length_refusal ns ws ≡ 1) → pick c (length_refusal ns ws) 1 ≡ 1
    go true k later = later k
    go false k later = refl

pub one_of_six : (w o m s g h r n : ℕ) → n ≡ parts_refusal w o m s g h r → (n ≡ 0 → ⊥) → n ≡ 1
unfolding parts_refusal
one_of_six w o m s g h r n e f =
    e ∙ one_only (o ∷ m ∷ s ∷ g ∷ h ∷ r ∷ []) (6144 ∷ 24 ∷ 24 ∷ 192 ∷ 192 ∷ 24 * (240 - w) ∷ []) (λ q. f (e ∙ q))

-- what the six lengths are
pub six : (w o m s g h r k : ℕ) → parts_refusal w o m s g h r ≡ 0 → get_or (o ∷ m ∷ s ∷ g ∷ h ∷ r ∷ []) k 0 ≡ get_or (6144 ∷ 24 ∷ 24 ∷ 192 ∷ 192 ∷ 24 * (240 - w) ∷ []) k 0
unfolding parts_refusal
six w o m s g h r k e = ap (λ (ns : List ℕ). get_or ns k 0) (lengths_same (o ∷ m ∷ s ∷ g ∷ h ∷ r ∷ []) (6144 ∷ 24 ∷ 24 ∷ 192 ∷ 192 ∷ 24 * (240 - w) ∷ []) e)

module _ (w : ℕ) (p : Parts) (out : List ℕ) (e : refusal_beside w p out ≡ 0) where
  at : (k : ℕ) → get_or (length out ∷ length p.management ∷ length p.supervision ∷ length p.synchronising ∷ length p.signalling ∷ length p.check ∷ []) k 0 ≡ get_or (6144 ∷ 24 ∷ 24 ∷ 192 ∷ 192 ∷ 24 * (240 - w) ∷ []) k 0
  at k = six w (length out) (length p.management) (length p.supervision) (length p.synchronising) (length p.signalling) (length p.check) k e

  pub output_size : length out ≡ 6144
  output_size = at 0

  pub sized : length p.information ≤ carried w → Sized w p
  sized h = record { information = h; management = at 1; supervision = at 2; synchronising = at 3; signalling = at 4; check = at 5 }
