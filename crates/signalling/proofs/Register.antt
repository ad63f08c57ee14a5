-- The sum's register kept as a number from one step to the next.
-- Assumes nothing.
use mathlib.Core.List.{List, [], ◌∷◌, ◌++◌}
use mathlib.Core.Path.{◌≡◌, refl, sym, ap, ◌∙◌}
use Prim.Native.Nat.{ℕ, ◌-◌, ◌^◌, ◌<◌}
use Rattle.sum.specs.Sum.{Register, bit, load, ones, word, feed, after, inverted, sum_of}
use Rattle.sum.proofs.Shifts.{load_word, word_load}
use Rattle.sum.proofs.SumLaws.{after_append, inverse}
use Rattle.signalling.specs.OnNumbers.{fed}

pub load_ones : load 65535 ≡ ones
unfolding load bit
load_ones = refl

pub fed_word : (r : Register) (n : ℕ) (bytes : List ℕ) → n ≡ word r → fed n bytes ≡ word (after r bytes)
unfolding fed
fed_word r n bytes e = ap (λ (q : Register). word (after q bytes)) (ap load e ∙ load_word r)

pub fed_append : (n : ℕ) (xs ys : List ℕ) → fed (fed n xs) ys ≡ fed n (xs ++ ys)
unfolding fed
fed_append n xs ys =
    ap (λ (q : Register). word (after q ys)) (load_word (after (load n) xs)) ∙ ap word (sym (after_append (load n) xs ys))

-- no byte yet, and one more
pub fed_none : (n : ℕ) → n < 2 ^ 16 → n ≡ fed n []
unfolding fed
fed_none n h = sym (word_load n h)

pub fed_more : (n a r b : ℕ) (xs : List ℕ) → a ≡ fed n xs → ((s : Register) → a ≡ word s → r ≡ word (feed s b)) → r ≡ fed n (xs ++ (b ∷ []))
unfolding fed
fed_more n a r b xs e step = step (after (load n) xs) e ∙ ap word (sym (after_append (load n) xs (b ∷ [])))

-- bytes, and then others
pub fed_then : (n a r : ℕ) (xs ys : List ℕ) → a ≡ fed n xs → r ≡ fed a ys → r ≡ fed n (xs ++ ys)
fed_then n a r xs ys p q = q ∙ ap (λ (k : ℕ). fed k ys) p ∙ fed_append n xs ys

pub fed_three : (n a b r : ℕ) (xs ys zs : List ℕ) → a ≡ fed n xs → b ≡ fed a ys → r ≡ fed b zs → r ≡ fed n (xs ++ ys ++ zs)
fed_three n a b r xs ys zs p q t = fed_then n b r (xs ++ ys) zs (fed_then n a b xs ys p q) t

pub closing : (n : ℕ) (before more : List ℕ) → n ≡ word (after ones before) → 65535 - fed n more ≡ sum_of (before ++ more)
unfolding sum_of
closing n before more e =
    ap (λ (x : ℕ). 65535 - x) (fed_word (after ones before) n more e)
    ∙ sym (inverse (after (after ones before) more))
    ∙ ap inverted (sym (after_append ones before more))
