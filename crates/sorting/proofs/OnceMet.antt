-- What the pass notes of a packet: values that were met once, and the numbers of the items' rules.
-- Assumes nothing.
use mathlib.Core.Bool.{Bool, true, false, ◌&&◌}
use mathlib.Core.List.{List, [], ◌∷◌}
use mathlib.Core.Path.{◌≡◌, refl, sym, ap, ap₂, ◌∙◌}
use Prim.Native.Nat.{ℕ, zero, suc, ◌+◌, ◌≤◌, ◌<◌}
use native.Mathlib.Omega.{arith}
use borrow.Author.Tests.{eq-eqb, ne_eqb, lt-ltb, le-ltb, leb-true, eqb-true, ltb-false, not-false}
use lib.Dec.{eqb, leb}
use lib.ListN.{length, get_or, take, drop, length-drop}
use Rattle.octets.specs.Choice.{pick}
use Rattle.octets.proofs.Deciding.{both}
use Rattle.frame.specs.Rules.{first}
use Rattle.frame.proofs.FirstRule.{none_hold}
use Rattle.std.specs.List.{list_all}
use Rattle.std.proofs.Math.Seq.{take-suc}
use Rattle.std.proofs.lemmas.List.{get_or-drop, nil_from_length}
use Rattle.std.proofs.lemmas.List.Folds.{list_all-append}
use Rattle.frame.specs.declared.Span.{Span}
use Rattle.items.specs.declared.Notes.{Notes}
use Rattle.items.specs.declared.Met.{Met}
use Rattle.items.specs.declared.Met.TheVariants.{Never, Once, Several}
use Rattle.items.specs.TagItems.{Item, items_of, items_to, part_of, number_by, some_bad, values_of, value_of, highest_in, each_once}
use Rattle.items.specs.PassNotes.{tally_of, tally_by, span_of, Holds, Noted, ValueAt, Placed, Finds}
use Rattle.tags.specs.TagValues.{length_for, level_in}
use Rattle.sorting.specs.SortClauses.{is_once}
use Rattle.sorting.specs.TagRules.{is_managed, item_rules_of}

number_small : (part : ℕ) → number_by part ≤ 64
unfolding number_by
number_small part = go (leb part 64) refl
  where
    go : (b : Bool) → leb part 64 ≡ b → pick b part 0 ≤ 64
    go true e = leb-true part 64 e
    go false e = omega arith

pub highest_small : (is : List Item) → highest_in is ≤ 64
unfolding highest_in
highest_small [] = omega arith
highest_small (i ∷ is) = omega (arith, number_small (part_of i.name), highest_small is)

-- ---- a value that was met once
tally_one : (vs : List (List ℕ)) → eqb (tally_of vs) 1 ≡ eqb (length vs) 1
tally_one [] = refl
tally_one (v ∷ []) = refl
tally_one (v ∷ w ∷ vs) = sym (ne_eqb (length (v ∷ w ∷ vs)) 1 (λ (e : length (v ∷ w ∷ vs) ≡ 1). omega (arith, e)))

pub value_there : (p : List ℕ) (k : ℕ) (is : List Item) (m : Met) → Holds p (values_of k is) m → tally_by m ≡ 1 → ValueAt p (value_of k is) (span_of m)
unfolding value_of
value_there p k is m y e = record { inside = y.inside; value = sym (ap (λ (vs : List (List ℕ)). get_or vs 0 []) (y.one e)) }

-- the same with the tally and the place under names of their own
pub value_at_lem : (p : List ℕ) (k : ℕ) (is : List Item) (m : Met) (tally : ℕ) (s : Span) → Holds p (values_of k is) m → tally ≡ tally_by m → s ≡ span_of m → tally ≡ 1 → ValueAt p (value_of k is) s
value_at_lem p k is m tally s y t e o = rw e (value_there p k is m y (sym t ∙ o))

one_tally : (vs : List (List ℕ)) → length vs ≡ 1 → tally_of vs ≡ 1
one_tally vs e = eqb-true (tally_of vs) 1 (tally_one vs ∙ eq-eqb (length vs) 1 e)

pub placed : (p : List ℕ) (is : List Item) (met : List Met) → Noted p is met → Placed p is met
placed p is met y k h e = value_there p k is (get_or met k Never) (y.each k h) ((y.each k h).tallied ∙ one_tally (values_of k is) e)

-- ---- each of the streams 1 to n once, by their notes
once_tally : (m : Met) → is_once m ≡ eqb (tally_by m) 1
once_tally Never = refl
once_tally (Once s) = refl
once_tally Several = refl

and-true : (a b : Bool) → (a && (b && true)) ≡ (a && b)
and-true true true = refl
and-true true false = refl
and-true false b = refl

module _ (p : List ℕ) (is : List Item) (met : List Met) (y : Noted p is met) where
  once_at : (k : ℕ) → k < 66 → is_once (get_or met k Never) ≡ eqb (length (values_of k is)) 1
  once_at k h =
      once_tally (get_or met k Never) ∙ ap (λ (t : ℕ). eqb t 1) (y.each k h).tallied ∙ tally_one (values_of k is)

  pub once_is : (n : ℕ) → n ≤ 64 → list_all is_once (take n (drop 1 met)) ≡ each_once is n
  unfolding each_once
  once_is zero h = refl
  once_is (suc n) h =
      let d = length-drop 1 met in
      let o : 1 + n ≡ suc n = omega arith in
      let g : get_or (drop 1 met) n Never ≡ get_or met (suc n) Never = get_or-drop 1 met n Never ∙ ap (λ (k : ℕ). get_or met k Never) o in
      ap (list_all is_once) (take-suc (drop 1 met) n Never (omega (arith, y.whole)))
      ∙ list_all-append is_once (take n (drop 1 met)) (get_or (drop 1 met) n Never ∷ [])
      ∙ and-true (list_all is_once (take n (drop 1 met))) (is_once (get_or (drop 1 met) n Never))
      ∙ ap₂ ◌&&◌ (once_is n (omega arith)) (ap is_once g ∙ once_at (suc n) (omega arith))

pub once_all : (p : List ℕ) (n : Notes) → Finds p n → (m : ℕ) → m ≡ n.highest → list_all is_once (take m (drop 1 n.met)) ≡ each_once (items_of p) (highest_in (items_of p))
once_all p n y m e =
    ap (λ (k : ℕ). list_all is_once (take k (drop 1 n.met))) (e ∙ y.high)
    ∙ once_is p (items_of p) n.met y.noted (highest_in (items_of p)) (highest_small (items_of p))

-- ---- management
pub never_once : (m : Met) → ((s : Span) → m ≡ Once s → ⊥) → tally_by m ≡ 1 → ⊥
never_once Never h e = omega arith
never_once (Once s) h e = h s refl
never_once Several h e = omega arith

module _ (p : List ℕ) (is : List Item) (m : Met) (y : Holds p (values_of 0 is) m) where
  counted : eqb (length (values_of 0 is)) 1 ≡ eqb (tally_by m) 1
  counted = sym (tally_one (values_of 0 is)) ∙ ap (λ (t : ℕ). eqb t 1) (sym y.tallied)

  pub unmanaged : (tally_by m ≡ 1 → ⊥) → false ≡ is_managed is
  unfolding is_managed
  unmanaged h = rw (counted ∙ ne_eqb (tally_by m) 1 h)

  pub managed_is : tally_by m ≡ 1 → eqb (length (value_of 0 is)) (length_for (value_of 0 is)) ≡ is_managed is
  unfolding is_managed
  managed_is e = rw (counted ∙ eq-eqb (tally_by m) 1 e)

  pub managed_one : is_managed is ≡ true → tally_by m ≡ 1
  unfolding is_managed
  managed_one h =
      let b = both (eqb (length (values_of 0 is)) 1) (eqb (length (value_of 0 is)) (length_for (value_of 0 is))) h in
      eqb-true (tally_by m) 1 (sym counted ∙ b.0)

pub managed_once : (is : List Item) → is_managed is ≡ true → length (values_of 0 is) ≡ 1
unfolding is_managed
managed_once is h = eqb-true _ 1 (both (eqb (length (values_of 0 is)) 1) (eqb (length (value_of 0 is)) (length_for (value_of 0 is))) h).0

pub managed_called : (is : List Item) → is_managed is ≡ true → length (value_of 0 is) ≡ length_for (value_of 0 is)
unfolding is_managed
managed_called is h = eqb-true _ _ (both (eqb (length (values_of 0 is)) 1) (eqb (length (value_of 0 is)) (length_for (value_of 0 is))) h).1

-- ---- the rules' numbers
module _ (is : List Item) (b : some_bad is ≡ false) where
  pub parts_21 : is_managed is ≡ false → 21 ≡ first (item_rules_of is)
  parts_21 m = rw (b, m)

  module _ (m : is_managed is ≡ true) where
    pub parts_22 : each_once is (highest_in is) ≡ false → 22 ≡ first (item_rules_of is)
    parts_22 o = rw (b, m, o)

    module _ (o : each_once is (highest_in is) ≡ true) where
      -- a level of any other number than 0 to 3, and no level
      pub parts_35 : (level : ℕ) → level ≡ level_in (value_of 0 is) → 3 < level → 35 ≡ first (item_rules_of is)
      parts_35 level l h = rw (b, m, o, ← l, lt-ltb 3 level h)

      pub parts_none : level_in (value_of 0 is) ≡ 4 → 35 ≡ first (item_rules_of is)
      parts_none l = parts_35 4 (sym l) (omega arith)

      pub parts_0 : (level : ℕ) → level ≡ level_in (value_of 0 is) → level < 4 → 0 ≡ first (item_rules_of is)
      parts_0 level l h = rw (b, m, o, ← l, le-ltb 3 level (omega arith))

-- ---- what is known where none of the items' rules refuses
pub record Clear (is : List Item) : Type 0 where
  pub sound : some_bad is ≡ false
  pub managed : is_managed is ≡ true
  pub once : each_once is (highest_in is) ≡ true
  pub status : level_in (value_of 0 is) ≤ 3

pub clear : (is : List Item) → first (item_rules_of is) ≡ 0 → Clear is
clear is z =
    let h = none_hold (item_rules_of is) (tt, (tt, (tt, (tt, tt)))) z in
    record { sound = h.0; managed = not-false _ h.1.0; once = not-false _ h.1.1.0; status = ltb-false _ _ h.1.1.1.0 }

-- no bytes, no items
pub none_sent : (p : List ℕ) → length p ≡ 0 → 21 ≡ first (item_rules_of (items_of p))
unfolding items_of items_to some_bad is_managed values_of value_of
none_sent p e = rw (nil_from_length p e) (parts_21 [] refl refl)
