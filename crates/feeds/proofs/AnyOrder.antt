-- The way round: a frame put into items, in any order and with others between them, and regenerated, is the same frame.
-- Assumes nothing.
use mathlib.Core.Bool.{Bool, true, false, ◌||◌}
use mathlib.Core.List.{List, [], ◌∷◌, ◌++◌}
use mathlib.Core.Logic.{inr, ⊎_elim}
use mathlib.Core.Path.{◌≡◌, refl, sym, ap, subst, ◌∙◌}
use Prim.Native.Nat.{ℕ, ◌+◌, ◌/◌, ◌%◌, ◌≤◌, ◌<◌, max}
use native.Mathlib.Omega.{arith}
use borrow.Author.Tests.{eq-eqb, ne_eqb, le-ltb}
use lib.Dec.{eqb}
use lib.ListN.{length, length-append}
use Rattle.octets.specs.Choice.{place_in}
use Rattle.octets.proofs.Deciding.{neither}
use Rattle.frame.specs.Frame.{fsyncs, fsync_of, nst_of}
use Rattle.frame.specs.Rules.{refusal_of}
use Rattle.frame.specs.Answers.{digit}
use Rattle.frame.specs.Writing.{Bytes, Clean}
use Rattle.frame.proofs.Accepting.{acceptable}
use Rattle.items.specs.TagItems.{Item, part_of, is_bad, some_bad, values_of, number_by, highest_in}
use Rattle.items.proofs.ItemList.{bad_append, values_append, highest_append}
use Rattle.edi.specs.Regenerating.{Regenerates}
use Rattle.feeds.specs.Packed.{items_bytes, Whole, Free, items_for, Other, Taken, Mixed, AllWhole}
use Rattle.feeds.proofs.OwnItems.{carry, items_whole}
use Rattle.feeds.proofs.SameFrame.{Carries, carried_back}

-- ---- an item that is passed over
other_values : (k : ℕ) → k ≤ 64 → (i : Item) → Other i → (js : List Item) → values_of k (i ∷ js) ≡ values_of k js
unfolding values_of
other_values k h i o js =
    rw (ne_eqb (part_of i.name) k (λ (e : part_of i.name ≡ k). omega (arith, e, o.stranger)))

other_sound : (i : Item) → Other i → is_bad i ≡ false
unfolding is_bad
other_sound i o =
    let b = o.whole.bits in
    let m : i.bits % 8 ≡ 0 = omega (arith, b) in
    let d : i.bits / 8 ≤ length i.value = omega (arith, b) in
    rw (eq-eqb (i.bits % 8) 0 m, le-ltb (length i.value) (i.bits / 8) d, o.stranger)

other_number : (i : Item) → Other i → (js : List Item) → highest_in (i ∷ js) ≡ highest_in js
unfolding highest_in number_by
other_number i o js = rw o.stranger (omega arith)

-- ---- a value that stands once still does, one that does not stand still does not
none_of : (us ws : List (List ℕ)) (u : List ℕ) → us ++ (u ∷ ws) ≡ [] → ⊥
none_of us ws u e = omega (arith, ap length e, length-append us (u ∷ ws))

behind : List (List ℕ) → List (List ℕ)
behind [] = []
behind (x ∷ xs) = xs

front : List (List ℕ) → List ℕ
front [] = []
front (x ∷ xs) = x

only_one : (us ws : List (List ℕ)) (u v : List ℕ) → us ++ (u ∷ ws) ≡ v ∷ [] → (us ++ ws ≡ []) × (u ≡ v)
unfolding behind front
only_one [] ws u v e = (ap behind e, ap front e)
only_one (x ∷ us) ws u v e = absurd (none_of us ws u (ap behind e))

-- the values of one name, without an item that is taken out
module _ (k : ℕ) (i : Item) (xs ys : List Item) where
  abbrev us : List (List ℕ)
  us = values_of k xs

  abbrev ws : List (List ℕ)
  ws = values_of k ys

  with_it : eqb (part_of i.name) k ≡ true → values_of k (xs ++ (i ∷ ys)) ≡ us ++ (i.value ∷ ws)
  unfolding values_of
  with_it e = values_append k xs (i ∷ ys) ∙ rw e

  without_it : eqb (part_of i.name) k ≡ false → values_of k (xs ++ (i ∷ ys)) ≡ values_of k (xs ++ ys)
  unfolding values_of
  without_it e = values_append k xs (i ∷ ys) ∙ (rw e (sym (values_append k xs ys)))

  first_it : eqb (part_of i.name) k ≡ true → (js : List Item) → values_of k (i ∷ js) ≡ i.value ∷ values_of k js
  unfolding values_of
  first_it e js = rw e

  past_it : eqb (part_of i.name) k ≡ false → (js : List Item) → values_of k (i ∷ js) ≡ values_of k js
  unfolding values_of
  past_it e js = rw e

module _ (k : ℕ) (small : k ≤ 64) where
  mixed_none : (js is : List Item) → Mixed js is → values_of k is ≡ [] → values_of k js ≡ []
  mixed_none [] is m e = ap (values_of k) (sym m) ∙ e
  mixed_none (i ∷ js) is m e =
      ⊎_elim
      (λ (o : Other i × Mixed js is). other_values k small i o.0 js ∙ mixed_none js is o.1 e)
      (λ (t : Taken i (Mixed js) is). go t (eqb (part_of i.name) k) refl (mixed_none js (t.front ++ t.back) t.rest))
      m
    where
      go : (t : Taken i (Mixed js) is) (b : Bool) → eqb (part_of i.name) k ≡ b → (values_of k (t.front ++ t.back) ≡ [] → values_of k js ≡ []) → values_of k (i ∷ js) ≡ []
      go t true q later = absurd (none_of (values_of k t.front) (values_of k t.back) i.value (sym (ap (values_of k) t.same ∙ with_it k i t.front t.back q) ∙ e))
      go t false q later = past_it k i t.front t.back q js ∙ later (sym (ap (values_of k) t.same ∙ without_it k i t.front t.back q) ∙ e)

  mixed_one : (v : List ℕ) (js is : List Item) → Mixed js is → values_of k is ≡ v ∷ [] → values_of k js ≡ v ∷ []
  mixed_one v [] is m e = ap (values_of k) (sym m) ∙ e
  mixed_one v (i ∷ js) is m e =
      ⊎_elim
      (λ (o : Other i × Mixed js is). other_values k small i o.0 js ∙ mixed_one v js is o.1 e)
      (λ (t : Taken i (Mixed js) is). go t (eqb (part_of i.name) k) refl (mixed_one v js (t.front ++ t.back) t.rest))
      m
    where
      go : (t : Taken i (Mixed js) is) (b : Bool) → eqb (part_of i.name) k ≡ b → (values_of k (t.front ++ t.back) ≡ v ∷ [] → values_of k js ≡ v ∷ []) → values_of k (i ∷ js) ≡ v ∷ []
      go t true q later =
          let o = only_one (values_of k t.front) (values_of k t.back) i.value v (sym (ap (values_of k) t.same ∙ with_it k i t.front t.back q) ∙ e) in
          let none = mixed_none js (t.front ++ t.back) t.rest (values_append k t.front t.back ∙ o.0) in
          first_it k i t.front t.back q js ∙ (λ j. o.1 j ∷ none j)
      go t false q later = past_it k i t.front t.back q js ∙ later (sym (ap (values_of k) t.same ∙ without_it k i t.front t.back q) ∙ e)

-- ---- the highest number, and that none is bad
taken_high : (i : Item) (xs ys : List Item) → highest_in (xs ++ (i ∷ ys)) ≡ max (number_by (part_of i.name)) (highest_in (xs ++ ys))
unfolding highest_in
taken_high i xs ys = omega (arith, highest_append xs (i ∷ ys), highest_append xs ys)

mixed_high : (js is : List Item) → Mixed js is → highest_in js ≡ highest_in is
unfolding highest_in
mixed_high [] is m = ap highest_in (sym m)
mixed_high (i ∷ js) is m =
    ⊎_elim
    (λ (o : Other i × Mixed js is). other_number i o.0 js ∙ mixed_high js is o.1)
    (λ (t : Taken i (Mixed js) is).
    ap (max (number_by (part_of i.name))) (mixed_high js (t.front ++ t.back) t.rest)
    ∙ sym (ap highest_in t.same ∙ taken_high i t.front t.back))
    m

taken_sound : (i : Item) (xs ys : List Item) → some_bad (xs ++ (i ∷ ys)) ≡ false → (is_bad i ≡ false) × (some_bad (xs ++ ys) ≡ false)
unfolding some_bad
taken_sound i xs ys e =
    let p = neither (some_bad xs) (is_bad i || some_bad ys) (sym (bad_append xs (i ∷ ys)) ∙ e) in
    let q = neither (is_bad i) (some_bad ys) p.1 in
    (q.0, bad_append xs ys ∙ (λ j. p.0 j || q.1 j))

mixed_sound : (js is : List Item) → Mixed js is → some_bad is ≡ false → some_bad js ≡ false
unfolding some_bad
mixed_sound [] is m e = refl
mixed_sound (i ∷ js) is m e =
    ⊎_elim
    (λ (o : Other i × Mixed js is). λ j. other_sound i o.0 j || mixed_sound js is o.1 e j)
    (λ (t : Taken i (Mixed js) is). go t (mixed_sound js (t.front ++ t.back) t.rest))
    m
  where
    go : (t : Taken i (Mixed js) is) → (some_bad (t.front ++ t.back) ≡ false → some_bad js ≡ false) → (is_bad i || some_bad js) ≡ false
    go t later =
        let p = taken_sound i t.front t.back (sym (ap some_bad t.same) ∙ e) in
        λ j. p.0 j || later p.1 j

-- ---- each is whole
taken_whole : (i : Item) (xs ys : List Item) → AllWhole (xs ++ (i ∷ ys)) → Whole i × AllWhole (xs ++ ys)
taken_whole i [] ys w = w
taken_whole i (x ∷ xs) ys w = let p = taken_whole i xs ys w.1 in (p.0, (w.0, p.1))

mixed_whole : (js is : List Item) → Mixed js is → AllWhole is → AllWhole js
mixed_whole [] is m w = tt
mixed_whole (i ∷ js) is m w =
    ⊎_elim
    (λ (o : Other i × Mixed js is). (o.0.whole, mixed_whole js is o.1 w))
    (λ (t : Taken i (Mixed js) is). go t (mixed_whole js (t.front ++ t.back) t.rest))
    m
  where
    go : (t : Taken i (Mixed js) is) → (AllWhole (t.front ++ t.back) → AllWhole js) → Whole i × AllWhole js
    go t later = let p = taken_whole i t.front t.back (subst AllWhole t.same w) in (p.0, later p.1)

mixed_carry : (f : List ℕ) (c : Free f) → nst_of f ≤ 64 → (js is : List Item) → Mixed js is → Carries f c is → Carries f c js
mixed_carry f c l js is m y =
    record {
      management = mixed_one 0 (omega arith) _ js is m y.management;
      streams = λ k h. mixed_one (k + 1) (omega arith) _ js is m (y.streams k h);
      highest = mixed_high js is m ∙ y.highest;
      sound = mixed_sound js is m y.sound;
    }

-- T-01, the way round: an accepted clean frame put into items, in any order, with any others that are passed over between them and up to seven bytes
-- behind them, and regenerated with its own sync word, is the same 6,144 bytes
pub same_frame : (f : List ℕ) → refusal_of f ≡ 0 → Bytes f → Clean f → (c : Free f) (is : List Item) → Mixed is (items_for f c) → (tail : List ℕ) → length tail < 8
    → (s : Bool) → place_in fsyncs (fsync_of f) ≡ digit s → (was left : List ℕ) (r : ℕ) → length was ≡ 6144 → Regenerates (items_bytes is ++ tail) s was left r
    → (r ≡ 0) × (left ≡ f)
same_frame f z b k c is m tail l s e was left r o g =
    let a = acceptable f z in
    carried_back f z b k c is (mixed_carry f c a.streams is (items_for f c) m (carry f a c)) s e (mixed_whole is (items_for f c) m (items_whole f a c)) tail l was left r o g

-- its items as they are mix to themselves: deti, est1, est2 and so on
pub in_order : (is : List Item) → Mixed is is
in_order [] = refl
in_order (i ∷ is) = inr (record { front = []; back = is; same = refl; rest = in_order is })
