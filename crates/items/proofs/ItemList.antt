-- The items of a packet, one more at a time, and what a sound item shows.
-- Assumes nothing.
use mathlib.Core.Bool.{Bool, true, false, not, ◌&&◌, ◌||◌}
use mathlib.Core.List.{List, [], ◌∷◌, ◌++◌}
use mathlib.Core.Path.{◌≡◌, refl, sym, ap, ◌∙◌}
use Prim.Native.Nat.{ℕ, zero, suc, ◌+◌, ◌-◌, ◌*◌, ◌/◌, ◌%◌, ◌≤◌, ◌<◌, max}
use native.Mathlib.Nat.{div-add-mod'}
use native.Mathlib.Omega.{arith}
use borrow.Author.Tests.{lt-ltb, le-ltb, ltb-true, ltb-false, eqb-true, not-false}
use lib.Dec.{eqb, ltb}
use lib.ListN.{length, get_or, drop, length-take, length-drop}
use Rattle.octets.specs.Choice.{pick}
use Rattle.octets.specs.Words.{word_at}
use Rattle.octets.proofs.Deciding.{or_assoc, neither, clash}
use Rattle.items.specs.TagItems.{Item, item_in, items_to, items_of, part_of, is_stream, is_bad, some_bad, values_of, value_of, highest_in}

-- ---- the list of items does not depend on how many are allowed for
none_to : (n : ℕ) (q : List ℕ) → length q < 8 → items_to n q ≡ []
unfolding items_to
none_to zero q h = refl
none_to (suc n) q h = rw (lt-ltb (length q) 8 h)

more_to : (n : ℕ) (q : List ℕ) → 8 ≤ length q → items_to (suc n) q ≡ item_in q ∷ items_to n (drop (8 + word_at q 4 / 8) q)
unfolding items_to
more_to n q h = rw (le-ltb (length q) 8 h)

enough_more : (n m : ℕ) (q : List ℕ) → (8 ≤ length q → items_to n (drop (8 + word_at q 4 / 8) q) ≡ items_to m (drop (8 + word_at q 4 / 8) q)) → items_to (suc n) q ≡ items_to (suc m) q
enough_more n m q same = go (ltb (length q) 8) refl
  where
    go : (b : Bool) → ltb (length q) 8 ≡ b → items_to (suc n) q ≡ items_to (suc m) q
    go true e =
        let l = ltb-true (length q) 8 e in
        none_to (suc n) q l ∙ sym (none_to (suc m) q l)
    go false e =
        let l = ltb-false (length q) 8 e in
        more_to n q l ∙ ap (λ (is : List Item). item_in q ∷ is) (same l) ∙ sym (more_to m q l)

enough : (n m : ℕ) (q : List ℕ) → length q ≤ n → length q ≤ m → items_to n q ≡ items_to m q
enough zero m q h k = none_to zero q (omega arith) ∙ sym (none_to m q (omega arith))
enough (suc n) zero q h k = none_to (suc n) q (omega arith) ∙ sym (none_to zero q (omega arith))
enough (suc n) (suc m) q h k =
    let d = length-drop (8 + word_at q 4 / 8) q in
    enough_more n m q (λ l. enough n m (drop (8 + word_at q 4 / 8) q) (omega arith) (omega arith))

pub items_none : (q : List ℕ) → length q < 8 → items_of q ≡ []
unfolding items_of
items_none q h = none_to (length q) q h

pub items_more : (q : List ℕ) → 8 ≤ length q → items_of q ≡ item_in q ∷ items_of (drop (8 + (item_in q).bits / 8) q)
unfolding items_of item_in
items_more q h =
    let r = drop (8 + word_at q 4 / 8) q in
    let d = length-drop (8 + word_at q 4 / 8) q in
    enough (length q) (suc (length q)) q (omega arith) (omega arith)
    ∙ more_to (length q) q h
    ∙ ap (λ (is : List Item). item_in q ∷ is) (enough (length q) (length r) r (omega arith) (omega arith))

-- ---- of two lists of items
pub bad_append : (is js : List Item) → some_bad (is ++ js) ≡ (some_bad is || some_bad js)
unfolding some_bad
bad_append [] js = refl
bad_append (i ∷ is) js = rw (bad_append is js, or_assoc)

pub values_append : (k : ℕ) (is js : List Item) → values_of k (is ++ js) ≡ values_of k is ++ values_of k js
unfolding values_of
values_append k [] js = refl
values_append k (i ∷ is) js = go (eqb (part_of i.name) k) (values_append k is js)
  where
    go : (b : Bool) → values_of k (is ++ js) ≡ values_of k is ++ values_of k js
        → pick b (i.value ∷ values_of k (is ++ js)) (values_of k (is ++ js)) ≡ pick b (i.value ∷ values_of k is) (values_of k is) ++ values_of k js
    go true e = ap (λ (vs : List (List ℕ)). i.value ∷ vs) e
    go false e = e

pub highest_append : (is js : List Item) → highest_in (is ++ js) ≡ max (highest_in is) (highest_in js)
unfolding highest_in
highest_append [] js = omega arith
highest_append (i ∷ is) js = rw (highest_append is js) (omega arith)

-- ---- Bools
-- ---- a sound item: whole bytes, all there, and a stream of whole words
pub record SoundItem (i : Item) : Type 0 where
  pub bytes : i.bits % 8 ≡ 0
  pub there : i.bits / 8 ≤ length i.value
  pub stream : is_stream (part_of i.name) ≡ true → (24 ≤ i.bits) × ((i.bits - 24) % 64 ≡ 0)

words : (s w z : Bool) → (s && (w || not z)) ≡ false → s ≡ true → (w ≡ false) × (z ≡ true)
words true w z e h = let p = neither w (not z) e in (p.0, not-false z p.1)
words false w z e h = clash (sym h)

pub sound_item : (i : Item) → is_bad i ≡ false → SoundItem i
unfolding is_bad
sound_item i e =
    let p = neither _ _ e in
    let q = neither _ _ p.1 in
    record {
      bytes = eqb-true _ _ (not-false _ p.0);
      there = ltb-false _ _ q.0;
      stream =
          λ h. let w = words _ _ _ q.1 h in (ltb-false _ _ w.0, eqb-true _ _ w.1);
    }

-- ---- a stream's value is 3 bytes and words of 8
abbrev Trimmed : List Item → Type 0
Trimmed [] = Unit {0}
Trimmed (i ∷ is) = (length i.value ≤ i.bits / 8) × Trimmed is

trimmed_to : (n : ℕ) (p : List ℕ) → Trimmed (items_to n p)
unfolding items_to item_in
trimmed_to zero p = tt
trimmed_to (suc n) p = go (ltb (length p) 8) (trimmed_to n (drop (8 + word_at p 4 / 8) p))
  where
    go : (b : Bool) → Trimmed (items_to n (drop (8 + word_at p 4 / 8) p)) → Trimmed (pick b [] (item_in p ∷ items_to n (drop (8 + word_at p 4 / 8) p)))
    go true t = tt
    go false t = (omega (arith, length-take (word_at p 4 / 8) (drop 8 p)), t)

abbrev pub Words : List ℕ → Type 0
Words v = 3 + 8 * ((length v - 3) / 8) ≡ length v

words_one : (i : Item) → is_bad i ≡ false → length i.value ≤ i.bits / 8 → is_stream (part_of i.name) ≡ true → Words i.value
words_one i b t s =
    let y = sound_item i b in
    let z = y.stream s in
    let n = (i.bits - 24) / 64 in
    let e : i.bits ≡ n * 64 + 24 = omega (arith, z.0, z.1, div-add-mod' (i.bits - 24) 64) in
    let l : length i.value ≡ 3 + n * 8 = omega (arith, e, t, y.there) in
    omega (arith, l)

stream_words : (k : ℕ) → is_stream k ≡ true → (is : List Item) → Trimmed is → some_bad is ≡ false → 1 ≤ length (values_of k is) → Words (value_of k is)
unfolding value_of values_of some_bad
stream_words k s [] t b h = absurd (omega arith)
stream_words k s (i ∷ is) t b h =
    let n = neither (is_bad i) (some_bad is) b in
    go (eqb (part_of i.name) k) refl n.0 (λ l. stream_words k s is t.1 n.1 l) h
  where
    go : (x : Bool) → eqb (part_of i.name) k ≡ x → is_bad i ≡ false → (1 ≤ length (values_of k is) → Words (get_or (values_of k is) 0 []))
        → 1 ≤ length (pick x (i.value ∷ values_of k is) (values_of k is)) → Words (get_or (pick x (i.value ∷ values_of k is) (values_of k is)) 0 [])
    go true e n later l = words_one i n t.0 (ap is_stream (eqb-true (part_of i.name) k e) ∙ s)
    go false e n later l = later l

pub value_words : (p : List ℕ) (k : ℕ) → is_stream k ≡ true → some_bad (items_of p) ≡ false → 1 ≤ length (values_of k (items_of p)) → Words (value_of k (items_of p))
unfolding items_of
value_words p k s b h = stream_words k s (items_to (length p) p) (trimmed_to (length p) p) b h
