-- A frame's own items carry it.
-- Assumes nothing.
use mathlib.Core.Bool.{Bool, true, false, ◌&&◌}
use mathlib.Core.List.{List, [], ◌∷◌, ◌++◌}
use mathlib.Core.Path.{◌≡◌, refl, sym, ap, ap₂, ◌∙◌}
use Prim.Native.Nat.{ℕ, zero, suc, ◌+◌, ◌-◌, ◌*◌, ◌/◌, ◌%◌, ◌≤◌, ◌<◌}
use native.Mathlib.Omega.{arith}
use borrow.Author.Tests.{eq-eqb, ne_eqb, lt-ltb, le-ltb, le-leb, eqb-true, eqb-false}
use lib.Dec.{eqb}
use lib.ListN.{length}
use Rattle.octets.specs.Choice.{pick}
use Rattle.frame.specs.Frame.{ficf_of, mid_of, nst_of}
use Rattle.frame.specs.Rules.{Acceptable}
use Rattle.frame.specs.Answers.{digit}
use Rattle.items.specs.TagItems.{Item, part_of, is_stream, is_bad, some_bad, values_of, number_by, highest_in}
use Rattle.items.proofs.ItemList.{bad_append, values_append, highest_append}
use Rattle.tags.proofs.TagLaws.{ficl_small}
use Rattle.feeds.specs.Packed.{Whole, Free, management_of, stream_item_of, item_of, stream_items_to, items_for, AllWhole}
use Rattle.feeds.proofs.SameFrame.{Carries}
use Rattle.feeds.proofs.ValuesBack.{item_length_lem, stl_lt, management_length}

-- ---- names
management_part : part_of 0x64657469 ≡ 0
unfolding part_of
management_part = refl

stream_part_lem : (k : ℕ) → 1 ≤ k → k ≤ 64 → part_of (0x65737400 + k) ≡ k
unfolding part_of
stream_part_lem k l h =
    let a : 0x65737400 + k ≡ 0x64657469 → ⊥ = λ (e : 0x65737400 + k ≡ 0x64657469). omega (arith, e) in
    let d : (0x65737400 + k) / 256 ≡ 0x657374 = omega arith in
    let m : (0x65737400 + k) % 256 ≡ k = omega arith in
    rw (ne_eqb (0x65737400 + k) 0x64657469 a, eq-eqb ((0x65737400 + k) / 256) 0x657374 d, m, lt-ltb 0 k l, le-leb k 64 h)

-- ---- the stream items
module _ (f : List ℕ) where
  abbrev item : ℕ → Item
  item n = item_of (0x65737400 + suc n) (stream_item_of f n)

  values_more : (k n : ℕ) → suc n ≤ 64 → values_of k (stream_items_to f (suc n)) ≡ values_of k (stream_items_to f n) ++ pick (eqb (suc n) k) (stream_item_of f n ∷ []) []
  unfolding stream_items_to values_of
  values_more k n h = values_append k (stream_items_to f n) (item n ∷ []) ∙ rw (stream_part_lem (suc n) (omega arith) h)

  values_none : (k n : ℕ) → n ≤ 64 → (k ≡ 0 → ⊥) → n < k → values_of k (stream_items_to f n) ≡ []
  unfolding stream_items_to values_of
  values_none k zero h z l = refl
  values_none k (suc n) h z l =
      values_more k n h
      ∙ ap₂ (λ (u : List (List ℕ)) (b : Bool). u ++ pick b (stream_item_of f n ∷ []) []) (values_none k n (omega arith) z (omega arith)) (ne_eqb (suc n) k (λ (e : suc n ≡ k). omega (arith, e)))

  values_zero : (n : ℕ) → n ≤ 64 → values_of 0 (stream_items_to f n) ≡ []
  unfolding stream_items_to values_of
  values_zero zero h = refl
  values_zero (suc n) h =
      values_more 0 n h
      ∙ ap₂ (λ (u : List (List ℕ)) (b : Bool). u ++ pick b (stream_item_of f n ∷ []) []) (values_zero n (omega arith)) (ne_eqb (suc n) 0 (λ (e : suc n ≡ 0). omega (arith, e)))

  values_step : (k n : ℕ) → suc n ≤ 64 → k < suc n → (k < n → values_of (k + 1) (stream_items_to f n) ≡ stream_item_of f k ∷ []) → values_of (k + 1) (stream_items_to f (suc n)) ≡ stream_item_of f k ∷ []
  values_step k n h l before = go (eqb k n) refl
    where
      go : (b : Bool) → eqb k n ≡ b → values_of (k + 1) (stream_items_to f (suc n)) ≡ stream_item_of f k ∷ []
      go true e =
          let q = eqb-true k n e in
          values_more (k + 1) n h
          ∙ ap₂ (λ (u : List (List ℕ)) (b : Bool). u ++ pick b (stream_item_of f n ∷ []) []) (values_none (k + 1) n (omega arith) (λ (z : k + 1 ≡ 0). omega (arith, z)) (omega arith)) (eq-eqb (suc n) (k + 1) (omega arith))
          ∙ ap (λ (j : ℕ). stream_item_of f j ∷ []) (sym q)
      go false e =
          let q = eqb-false k n e in
          values_more (k + 1) n h
          ∙ ap₂ (λ (u : List (List ℕ)) (b : Bool). u ++ pick b (stream_item_of f n ∷ []) []) (before (omega (arith, q))) (ne_eqb (suc n) (k + 1) (λ (z : suc n ≡ k + 1). q (omega (arith, z))))

  values_one : (k n : ℕ) → n ≤ 64 → k < n → values_of (k + 1) (stream_items_to f n) ≡ stream_item_of f k ∷ []
  values_one k zero h l = absurd (omega arith)
  values_one k (suc n) h l = values_step k n h l (λ m. values_one k n (omega arith) m)

  highest_items : (n : ℕ) → n ≤ 64 → highest_in (stream_items_to f n) ≡ n
  unfolding stream_items_to highest_in number_by
  highest_items zero h = refl
  highest_items (suc n) h =
      highest_append (stream_items_to f n) (item n ∷ [])
      ∙ rw (stream_part_lem (suc n) (omega arith) h, le-leb (suc n) 64 h) (omega (arith, highest_items n (omega arith)))

-- ---- none is bad
and-false : (b : Bool) → (b && false) ≡ false
and-false true = refl
and-false false = refl

sound_by : (i : Item) → i.bits % 8 ≡ 0 → i.bits / 8 ≤ length i.value → 24 ≤ i.bits → (i.bits - 24) % 64 ≡ 0 → is_bad i ≡ false
unfolding is_bad
sound_by i a b c d =
    rw (eq-eqb (i.bits % 8) 0 a, le-ltb (length i.value) (i.bits / 8) b, le-ltb i.bits 24 c, eq-eqb ((i.bits - 24) % 64) 0 d)
    (and-false (is_stream (part_of i.name)))

management_sound : (v : List ℕ) → is_bad (item_of 0x64657469 v) ≡ false
unfolding is_bad
management_sound v =
    rw (eq-eqb (length v * 8 % 8) 0 (omega arith), le-ltb (length v) (length v * 8 / 8) (omega arith), management_part)

module _ (f : List ℕ) (a : Acceptable f) where
  items_sound : (n : ℕ) → n ≤ nst_of f → some_bad (stream_items_to f n) ≡ false
  unfolding stream_items_to some_bad
  items_sound zero h = refl
  items_sound (suc n) h =
      let l = item_length_lem f a n (omega arith) in
      let s : is_bad (item f n) ≡ false = sound_by (item f n) (omega arith) (omega arith) (omega arith) (omega arith) in
      bad_append (stream_items_to f n) (item f n ∷ []) ∙ rw (items_sound n (omega arith), s)

  -- ---- each is whole
  whole_more : (is : List Item) (i : Item) → AllWhole is → Whole i → AllWhole (is ++ (i ∷ []))
  whole_more [] i w h = (h, tt)
  whole_more (j ∷ is) i w h = (w.0, whole_more is i w.1 h)

  streams_whole : (n : ℕ) → n ≤ nst_of f → AllWhole (stream_items_to f n)
  unfolding stream_items_to
  streams_whole zero h = tt
  streams_whole (suc n) h =
      let l = item_length_lem f a n (omega arith) in
      let s = stl_lt f a n (omega arith) in
      let c = a.streams in
      whole_more (stream_items_to f n) (item f n) (streams_whole n (omega arith)) (record { name = omega arith; bits = refl; size = omega arith })

  digit_small : (x : Bool) → digit x ≤ 1
  digit_small true = omega arith
  digit_small false = omega arith

  module _ (c : Free f) where
    pub carry : Carries f c (items_for f c)
    unfolding items_for values_of highest_in some_bad number_by
    carry =
        let n = a.streams in
        record {
          management = rw management_part (ap (λ (vs : List (List ℕ)). management_of f c ∷ vs) (values_zero f (nst_of f) (omega arith)));
          streams = λ k h. rw (management_part, ne_eqb 0 (k + 1) (λ (e : 0 ≡ k + 1). omega (arith, e))) (values_one f k (nst_of f) (omega arith) h);
          highest = rw management_part (omega (arith, highest_items f (nst_of f) (omega arith)));
          sound = rw (management_sound (management_of f c)) (items_sound (nst_of f) (omega arith));
        }

    pub items_whole : AllWhole (items_for f c)
    unfolding items_for
    items_whole =
        let l = management_length f a c in
        let t = digit_small c.atst in
        let r = digit_small c.rfud in
        let s = ficl_small (ficf_of f) (mid_of f) in
        (record { name = omega arith; bits = refl; size = omega arith }, streams_whole (nst_of f) (omega arith))
