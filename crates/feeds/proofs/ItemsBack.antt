-- The bytes of items, read as items again.
-- Assumes nothing.
use mathlib.Core.List.{List, [], ◌∷◌, ◌++◌, append_assoc}
use mathlib.Core.Path.{◌≡◌, sym, ap, ◌∙◌}
use Prim.Native.Nat.{ℕ, ◌+◌, ◌/◌, ◌≤◌, ◌<◌}
use native.Mathlib.Omega.{arith}
use lib.ListN.{length, take, drop, length-append}
use lib.Seq.{take_at, drop_at}
use Rattle.octets.specs.Words.{bytes4, word_at}
use Rattle.octets.proofs.SplitJoin.{join_split}
use Rattle.items.specs.TagItems.{Item, item_in, items_of}
use Rattle.items.proofs.ItemList.{items_none, items_more}
use Rattle.feeds.specs.Packed.{item_bytes, items_bytes, Whole, AllWhole}

module _ (i : Item) (w : Whole i) (l : List ℕ) where
  abbrev q : List ℕ
  q = item_bytes i ++ l

  eighth : i.bits / 8 ≡ length i.value
  eighth = omega (arith, w.bits)

  same : item_in q ≡ i
  unfolding item_in
  same =
      let n : word_at q 0 ≡ i.name = join_split bytes4 i.name w.name in
      let b : word_at q 4 ≡ i.bits = join_split bytes4 i.bits w.size in
      let v : take (word_at q 4 / 8) (drop 8 q) ≡ i.value =
      ap (λ (k : ℕ). take (k / 8) (i.value ++ l)) b ∙ take_at i.value l (i.bits / 8) (sym eighth) in
      λ t. record { name = n t; bits = b t; value = v t }

  long : 8 ≤ length q
  long = omega (arith, length-append i.value l)

  onward : drop (8 + (item_in q).bits / 8) q ≡ l
  onward =
      ap (λ (j : Item). drop (8 + j.bits / 8) q) same
      ∙ drop_at (item_bytes i) l (8 + i.bits / 8) (omega (arith, eighth))

  one_back : items_of q ≡ i ∷ items_of l
  one_back = items_more q long ∙ (λ t. same t ∷ items_of (onward t))

-- items packed, with up to seven bytes behind them, give back the items
pub items_back : (is : List Item) → AllWhole is → (tail : List ℕ) → length tail < 8 → items_of (items_bytes is ++ tail) ≡ is
items_back [] w tail h = items_none tail h
items_back (i ∷ is) w tail h =
    ap items_of (append_assoc (item_bytes i) (items_bytes is) tail)
    ∙ one_back i w.0 (items_bytes is ++ tail)
    ∙ ap (λ (js : List Item). i ∷ js) (items_back is w.1 tail h)
