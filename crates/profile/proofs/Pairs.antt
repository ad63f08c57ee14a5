-- Tests over streams, one stream more at a time; the number after reading's refusals.
-- Assumes nothing.
use mathlib.Core.Bool.{Bool, true, false, ◌||◌}
use mathlib.Core.List.{List, [], ◌∷◌, ◌++◌}
use mathlib.Core.Path.{◌≡◌, refl, sym, ap₂, ◌∙◌}
use Prim.Native.Nat.{ℕ}
use Rattle.frame.specs.Frame.{nst_of}
use Rattle.frame.specs.Rules.{first, rules_of, refusal_of}
use Rattle.frame.proofs.Accepting.{nothing}
use Rattle.frame.proofs.FirstRule.{first_zero, first_found}
use Rattle.octets.proofs.Deciding.{or_assoc, or-false, neither}
use Rattle.places.specs.declared.Place.{Place}
use Rattle.places.specs.Places.{places_to, places_of, some, some_pair, place_rules, profile_of}

some_append : (t : Place → Bool) (ps qs : List Place) → some t (ps ++ qs) ≡ (some t ps || some t qs)
unfolding some
some_append t [] qs = refl
some_append t (p ∷ ps) qs = rw (some_append t ps qs, or_assoc)

pub some_snoc : (t : Place → Bool) (ps : List Place) (p : Place) → some t (ps ++ (p ∷ [])) ≡ (some t ps || t p)
unfolding some
some_snoc t ps p = some_append t ps (p ∷ []) ∙ (rw (or-false (t p)))

pub or_swap : (a b c d : Bool) → ((a || b) || (c || d)) ≡ ((a || c) || (b || d))
or_swap true b c d = refl
or_swap false true true d = refl
or_swap false true false d = refl
or_swap false false c d = refl

pub pair_snoc : (t : Place → Place → Bool) (ps : List Place) (q : Place) → some_pair t (ps ++ (q ∷ [])) ≡ (some_pair t ps || some (λ (p : Place). t p q) ps)
unfolding some some_pair
pair_snoc t [] q = refl
pair_snoc t (p ∷ ps) q = rw (some_snoc (t p) ps q, pair_snoc t ps q) (or_swap (some (t p) ps) (t p q) (some_pair t ps) (some (λ (x : Place). t x q) ps))

-- a test that holds of none where another holds of none
pub none_too : (t s : Place → Bool) → ((q : Place) → t q ≡ false → s q ≡ false) → (ps : List Place) → some t ps ≡ false → some s ps ≡ false
unfolding some
none_too t s h [] e = refl
none_too t s h (q ∷ ps) e =
    let o = neither (t q) (some t ps) e in
    rw (h q o.0, none_too t s h ps o.1)

pub none_at_all : (t : Place → Bool) → ((q : Place) → t q ≡ false) → (ps : List Place) → some t ps ≡ false
unfolding some
none_at_all t h [] = refl
none_at_all t h (q ∷ ps) = rw (h q) (none_at_all t h ps)

-- reading's refusal first
module _ (f : List ℕ) (r : ℕ) (e : r ≡ refusal_of f) where
  pub profile_refused : (r ≡ 0 → ⊥) → r ≡ profile_of f
  unfolding profile_of refusal_of
  profile_refused h = e ∙ sym (first_found (rules_of f) (place_rules (places_of f)) (λ p. h (e ∙ p)))

  pub profile_judged : r ≡ 0 → (g : List ℕ) (n v : ℕ) → g ≡ f → n ≡ nst_of f → v ≡ first (place_rules (places_to g n)) → v ≡ profile_of f
  unfolding profile_of
  profile_judged z g n v d m q =
      q ∙ ap₂ (λ (h : List ℕ) (k : ℕ). first (place_rules (places_to h k))) d m ∙ sym (first_zero (rules_of f) (place_rules (places_of f)) (nothing f (sym e ∙ z)))
