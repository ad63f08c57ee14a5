-- Functions that keep exclusive or: two of them agree where they agree at the powers of two.
-- Assumes nothing.
use mathlib.Core.Path.{◌≡◌, refl, sym, ap, ap₂, ◌∙◌}
use mathlib.Core.List.{List, [], ◌∷◌}
use Prim.Native.Nat.{ℕ, zero, suc, ◌*◌, ◌/◌, ◌%◌, ◌^◌, ◌<◌}
use native.Mathlib.Nat.{add-zero, le_refl, mod-lt, one-mul, zero-mul}
use native.Mathlib.Numerals.{one-add}
use native.Mathlib.Omega.{arith}
use lib.Arith.{lt-one}
use lib.Bits.{bit_xor, xor_self, xor_zero_r, xor_block, xor_shr, xor_mod, xor_shifted}
use lib.ListN.{get_or}
use lib.Pow.{pow_pos, shr_lt, split}
use Rattle.linear.proofs.Row.{row, same}
use Rattle.linear.proofs.Xor.{xor_cross}

-- f takes the exclusive or of its domain, by, to that of numbers
pub record Linear {A : Type 0} (by : A → A → A) (f : A → ℕ) : Type 0 where
  pub law : (a b : A) → f (by a b) ≡ bit_xor (f a) (f b)

pub itself : Linear bit_xor (λ x. x)
itself = record { law = λ a b. refl }

pub right : (k : ℕ) → Linear bit_xor (λ x. x / 2 ^ k)
right k = record { law = λ a b. xor_shr a b k }

pub low : (k : ℕ) → Linear bit_xor (λ x. x % 2 ^ k)
low k = record { law = λ a b. xor_mod a b k }

pub then : {A : Type 0} {by : A → A → A} {f : A → ℕ} {g : ℕ → ℕ} → Linear by f → Linear bit_xor g → Linear by (λ x. g (f x))
then {f = f} {g = g} p q = record { law = λ a b. ap g (p.law a b) ∙ q.law (f a) (f b) }

pub xor : {A : Type 0} {by : A → A → A} {f g : A → ℕ} → Linear by f → Linear by g → Linear by (λ x. bit_xor (f x) (g x))
xor {f = f} {g = g} p q = record { law = λ a b. ap₂ bit_xor (p.law a b) (q.law a b) ∙ xor_cross (f a) (f b) (g a) (g b) }

-- k places to the left, in w bits
pub left : (w k : ℕ) → Linear bit_xor (λ x. x * 2 ^ k % 2 ^ w)
left w k = then (record { law = λ a b. simp add-zero at (sym (xor_block k a b 0 0 (pow_pos k) (pow_pos k))) }) (low w)

-- exclusive or of lists, number by number
abbrev pub xors : List ℕ → List ℕ → List ℕ
xors [] ys = ys
xors (x ∷ xs) [] = x ∷ xs
xors (x ∷ xs) (y ∷ ys) = bit_xor x y ∷ xors xs ys

get_d_xors : (k : ℕ) (xs ys : List ℕ) → get_or (xors xs ys) k 0 ≡ bit_xor (get_or xs k 0) (get_or ys k 0)
get_d_xors k [] ys = refl
get_d_xors k (x ∷ xs) [] = sym (xor_zero_r (get_or (x ∷ xs) k 0))
get_d_xors zero (x ∷ xs) (y ∷ ys) = refl
get_d_xors (suc k) (x ∷ xs) (y ∷ ys) = get_d_xors k xs ys

-- the number at a place
pub nth : (k : ℕ) → Linear xors (λ xs. get_or xs k 0)
nth k = record { law = get_d_xors k }

module _ {f g : ℕ → ℕ} (p : Linear bit_xor f) (q : Linear bit_xor g) where
  at_zero : f 0 ≡ g 0
  at_zero = p.law 0 0 ∙ xor_self (f 0) ∙ sym (q.law 0 0 ∙ xor_self (g 0))

  one_digit : (n d : ℕ) → d < 2 → f (2 ^ n) ≡ g (2 ^ n) → f (d * 2 ^ n) ≡ g (d * 2 ^ n)
  one_digit n zero h e = rw zero-mul at_zero
  one_digit n (suc zero) h e = rw one-mul e
  one_digit n (suc (suc d)) h e = absurd (omega arith)

  pub agree_below : (n : ℕ) → ((k : ℕ) → k < n → f (2 ^ k) ≡ g (2 ^ k)) → (x : ℕ) → x < 2 ^ n → f x ≡ g x
  agree_below zero h x l = rw (lt-one l) at_zero
  agree_below (suc n) h x l =
      let top = x / 2 ^ n * 2 ^ n in
      let rest = x % 2 ^ n in
      let parts : x ≡ bit_xor top rest = sym (xor_shifted (x / 2 ^ n) n rest (mod-lt x (pow_pos n)) ∙ split x n) in
      ap f parts ∙ p.law top rest
      ∙ ap₂ bit_xor (one_digit n (x / 2 ^ n) (shr_lt 1 n (rw one-add l)) (h n (le_refl (suc n)))) (agree_below n (λ k m. h k (omega arith)) rest (mod-lt x (pow_pos n)))
      ∙ sym (ap g parts ∙ q.law top rest)

-- each number below two to its width
pub data Fits : List ℕ → List ℕ → Type 0 where
  none : Fits [] []
  more : {w x : ℕ} {ws xs : List ℕ} → x < 2 ^ w → Fits ws xs → Fits (w ∷ ws) (x ∷ xs)

-- f at the powers of two below each width, with zero in the other places
abbrev pub powers : (List ℕ → ℕ) → List ℕ → List (List ℕ)
powers f [] = []
powers f (w ∷ ws) = row (λ k. f (2 ^ k ∷ [])) 0 w ∷ powers (λ xs. f (0 ∷ xs)) ws

alone : {f : List ℕ → ℕ} → Linear xors f → Linear bit_xor (λ x. f (x ∷ []))
alone p = record { law = λ a b. p.law (a ∷ []) (b ∷ []) }

others : {f : List ℕ → ℕ} → Linear xors f → Linear xors (λ xs. f (0 ∷ xs))
others p = record { law = λ xs ys. p.law (0 ∷ xs) (0 ∷ ys) }

apart : {f : List ℕ → ℕ} → Linear xors f → (x : ℕ) (xs : List ℕ) → f (x ∷ xs) ≡ bit_xor (f (x ∷ [])) (f (0 ∷ xs))
apart {f} p x xs = rw xor_zero_r at (p.law (x ∷ []) (0 ∷ xs))

pub agree : {f g : List ℕ → ℕ} → Linear xors f → Linear xors g → (ws : List ℕ) → powers f ws ≡ powers g ws → (xs : List ℕ) → Fits ws xs → f xs ≡ g xs
agree {f} {g} p q [] e [] none = p.law [] [] ∙ xor_self (f []) ∙ sym (q.law [] [] ∙ xor_self (g []))
agree p q [] e (x ∷ xs) h = elim h [ ]
agree p q (w ∷ ws) e [] h = elim h [ ]
agree {f} {g} p q (w ∷ ws) e (x ∷ xs) (more h l) =
    apart p x xs
    ∙ ap₂ bit_xor (agree_below (alone p) (alone q) w (same (λ k. f (2 ^ k ∷ [])) (λ k. g (2 ^ k ∷ [])) w (cc)) x h) (agree (others p) (others q) ws (cc) xs l)
    ∙ sym (apart q x xs)
