-- The stretched register: it keeps exclusive or, and a word that is fed back 8, 22 and 32 bytes on leaves the register what it was.
-- Assumes nothing.
use mathlib.Core.Path.{◌≡◌, refl, sym, ap, ap₂, subst, ◌∙◌}
use mathlib.Core.List.{List, [], ◌∷◌, ◌++◌}
use Prim.Native.Nat.{ℕ, zero, suc, ◌+◌, ◌*◌, ◌/◌, ◌%◌, ◌^◌, ◌<◌}
use native.Mathlib.Nat.{suc_inj, add_comm, zero-mul, suc-mul}
use native.Mathlib.Numerals.{add-one}
use native.Mathlib.Omega.{arith}
use lib.Bits.{bit_xor}
use lib.ListN.{length, take, drop, get_or, replicate, length-replicate, take-append-drop}
use Rattle.std.specs.Int.{w32, w64, to_be_bytes}
use Rattle.std.specs.Simd.{first_chunks}
use lib.Seq.{take-add, take-suc}
use Rattle.octets.specs.Words.{split, bytes4}
use Rattle.linear.proofs.Linear.{Linear, xors, right, left, low, then, xor, nth, none, more, agree}
use Rattle.sum.specs.Sum.{Register, stages, bit, feed, after, word, load}
use Rattle.sum.proofs.SumLaws.{after_append}
use Rattle.sum.proofs.Bits.{⊕-false}
use Rattle.sum.proofs.Shifts.{◌⊞◌, Kept, loaded, fed, read, load_word, word_xor}
use Rattle.stretch.specs.Stretch.{after4, after8, afters, after_rows, blank, Stands}
use Rattle.stretch.specs.declared.Stretched.{Stretched}
use Rattle.stretch.proofs.Computed.{computed}

pub same_word : {r q : Register} → word r ≡ word q → r ≡ q
same_word {r} {q} e = sym (load_word r) ∙ ap load e ∙ load_word q

byte : {f : List ℕ → ℕ} → Linear xors f → (k : ℕ) → Linear xors (λ xs. f xs / 2 ^ k % 2 ^ 8)
byte p k = then p (then (right k) (low 8))

pub kept4 : {r : List ℕ → Register} {f : List ℕ → ℕ} → Kept r → Linear xors f → Kept (λ xs. after4 (r xs) (f xs))
unfolding after4
kept4 k p = fed (fed (fed (fed k (byte p 24)) (byte p 16)) (byte p 8)) (byte p 0)

pub kept8 : {r : List ℕ → Register} {f : List ℕ → ℕ} → Kept r → Linear xors f → Kept (λ xs. after8 (r xs) (f xs))
unfolding after8
kept8 k p = kept4 (kept4 k (then p (right 32))) (then p (low 32))

pub nought : Linear xors (λ xs. 0)
nought = record { law = λ xs ys. refl }

pub at_blank : Kept (λ xs. blank)
at_blank = loaded nought

after8_xor : (r q : Register) (y z : ℕ) → after8 (r ⊞ q) (bit_xor y z) ≡ after8 r y ⊞ after8 q z
after8_xor r q y z =
    rw (← word_xor r q, load_word (r ⊞ q), load_word r, load_word q) at ((kept8 (loaded (nth 0)) (nth 1)).law (word r ∷ y ∷ []) (word q ∷ z ∷ []))

pub afters_xor : (r q : Register) (ys zs : List ℕ) → length ys ≡ length zs → afters (r ⊞ q) (xors ys zs) ≡ afters r ys ⊞ afters q zs
afters_xor r q [] [] e = refl
afters_xor r q [] (z ∷ zs) e = absurd (omega arith)
afters_xor r q (y ∷ ys) [] e = absurd (omega arith)
afters_xor r q (y ∷ ys) (z ∷ zs) e = ap (λ (p : Register). afters p (xors ys zs)) (after8_xor r q y z) ∙ afters_xor (after8 r y) (after8 q z) ys zs (suc_inj e)

xors_zero : (zs : List ℕ) → xors (replicate (length zs) 0) zs ≡ zs
xors_zero [] = refl
xors_zero (z ∷ zs) = ap (λ (ys : List ℕ). z ∷ ys) (xors_zero zs)

pub xor-blank : (r : Register) → r ⊞ blank ≡ r
unfolding ◌⊞◌ load bit
xor-blank (stages b0 b1 b2 b3 b4 b5 b6 b7 b8 b9 b10 b11 b12 b13 b14 b15) = simp ⊕-false

-- the register at its beginning: its word stands for it, added to the next two bytes
loaded_first : (w : ℕ) → w < 2 ^ 16 → after8 (load w) 0 ≡ after8 blank (w * 2 ^ 48 % 2 ^ 64)
unfolding after8 after4 load bit
loaded_first w h =
    same_word (agree (read (kept8 (loaded (nth 0)) nought)) (read (kept8 at_blank (then (nth 0) (left 64 48)))) (16 ∷ []) (computed tt) (w ∷ []) (more h none))

pub begun : (r : Register) (w : ℕ) → w < 2 ^ 16 → w ≡ word r → afters r (0 ∷ 0 ∷ 0 ∷ 0 ∷ []) ≡ afters blank (w * 2 ^ 48 % 2 ^ 64 ∷ 0 ∷ 0 ∷ 0 ∷ [])
begun r w h e =
    ap (λ (q : Register). afters q (0 ∷ 0 ∷ 0 ∷ 0 ∷ [])) (sym (ap load e ∙ load_word r)) ∙ ap (λ (q : Register). afters q (0 ∷ 0 ∷ 0 ∷ [])) (loaded_first w h)

-- the one computed fact: a word, alone, may go, added to those 8, 22 and 32 bytes on
pub alone : (q : ℕ) → q < 2 ^ 64 → afters blank (q ∷ 0 ∷ 0 ∷ 0 ∷ 0 ∷ []) ≡ afters blank (q ∷ q / 2 ^ 48 ∷ q * 2 ^ 16 % 2 ^ 64 ∷ q ∷ [])
unfolding after8 after4 load bit
alone q h =
    same_word
    (agree (read (kept8 (kept8 (kept8 (kept8 (kept8 at_blank (nth 0)) nought) nought) nought) nought))
    (read (kept8 (kept8 (kept8 (kept8 at_blank (nth 0)) (then (nth 0) (right 48))) (then (nth 0) (left 64 16))) (nth 0)))
    (64 ∷ []) (computed tt) (q ∷ []) (more h none))

pub blank_on : after8 blank 0 ≡ blank
unfolding after8 after4 load bit
blank_on = refl

-- a register that stands so many words ahead where a blank one stands after xs, and fed ys, is where a blank one is after both, added
pub ahead : (r : Register) (xs ys : List ℕ) → afters r (replicate (length ys) 0) ≡ afters blank xs → length xs ≡ length ys → afters r ys ≡ afters blank (xors xs ys)
ahead r xs ys h e =
    ap₂ afters (sym (xor-blank r)) (sym (xors_zero ys)) ∙ afters_xor r blank (replicate (length ys) 0) ys (length-replicate (length ys) 0)
    ∙ ap (λ (q : Register). q ⊞ afters blank ys) h ∙ sym (afters_xor blank blank xs ys e) ∙ ap (λ (q : Register). afters q (xors xs ys)) (xor-blank blank)

-- so a register's word and the next word are as one word
pub as_one : (w z : ℕ) → w < 2 ^ 16 → after8 (load w) z ≡ after8 blank (bit_xor (w * 2 ^ 48 % 2 ^ 64) z)
as_one w z h = ahead (load w) (w * 2 ^ 48 % 2 ^ 64 ∷ []) (z ∷ []) (loaded_first w h) refl

module _ (r : Register) (s : Stretched) (h : Stands r s) where
  -- the end
  pub closed : (x y z u : ℕ) → afters r (x ∷ y ∷ z ∷ u ∷ []) ≡ afters blank (bit_xor s.a x ∷ bit_xor s.b y ∷ bit_xor s.c z ∷ bit_xor s.d u ∷ [])
  closed x y z u = ahead r (s.a ∷ s.b ∷ s.c ∷ s.d ∷ []) (x ∷ y ∷ z ∷ u ∷ []) h.ahead refl

-- the first i bytes and k more
pub on : (r : Register) (xs : List ℕ) (i k : ℕ) → after r (take (i + k) xs) ≡ after (after r (take i xs)) (take k (drop i xs))
on r xs i k = ap (after r) (take-add i k xs) ∙ after_append r (take i xs) (take k (drop i xs))

-- and its word and half a word are as one word, of which they are the lower half
pub as_half : (w z : ℕ) → w < 2 ^ 16 → z < 2 ^ 32 → after4 (load w) z ≡ after8 blank (bit_xor (w * 2 ^ 16 % 2 ^ 64) z)
unfolding after8 after4 load bit
as_half w z h l =
    same_word
    (agree (read (kept4 (loaded (nth 0)) (nth 1))) (read (kept8 at_blank (xor (then (nth 0) (left 64 16)) (nth 1)))) (16 ∷ 32 ∷ []) (computed tt) (w ∷ z ∷ [])
    (more h (more l none)))

-- the bytes of a word, and of half a word
pub word_bytes : (r : Register) (n : ℕ) → after8 r n ≡ after r (to_be_bytes w64 n)
unfolding after8 after4
word_bytes r n =
    let a : n / 2 ^ 32 / 2 ^ 24 % 2 ^ 8 ≡ n / 256 ^ 7 % 256 = omega arith in
    let b : n / 2 ^ 32 / 2 ^ 16 % 2 ^ 8 ≡ n / 256 ^ 6 % 256 = omega arith in
    let c : n / 2 ^ 32 / 2 ^ 8 % 2 ^ 8 ≡ n / 256 ^ 5 % 256 = omega arith in
    let d : n / 2 ^ 32 / 2 ^ 0 % 2 ^ 8 ≡ n / 256 ^ 4 % 256 = omega arith in
    let e : n % 2 ^ 32 / 2 ^ 24 % 2 ^ 8 ≡ n / 256 ^ 3 % 256 = omega arith in
    let f : n % 2 ^ 32 / 2 ^ 16 % 2 ^ 8 ≡ n / 256 ^ 2 % 256 = omega arith in
    let g : n % 2 ^ 32 / 2 ^ 8 % 2 ^ 8 ≡ n / 256 ^ 1 % 256 = omega arith in
    let h : n % 2 ^ 32 / 2 ^ 0 % 2 ^ 8 ≡ n % 256 = omega arith in
    let e : split bytes4 (n / 2 ^ 32) ++ split bytes4 (n % 2 ^ 32) ≡ to_be_bytes w64 n = cc in
    ap (after r) e

pub half_bytes : (r : Register) (n : ℕ) → after4 r n ≡ after r (to_be_bytes w32 n)
unfolding after4
half_bytes r n =
    let h : n / 2 ^ 0 % 2 ^ 8 ≡ n % 256 = omega arith in
    let e : split bytes4 n ≡ to_be_bytes w32 n = cc in
    ap (after r) e

-- from the register's word
pub from_word : (s : Register) (w : ℕ) → w ≡ word s → load w ≡ s
from_word s w e = ap load e ∙ load_word s

-- one byte more
pub byte_on : (r : Register) (xs : List ℕ) (i : ℕ) → i < length xs → after r (take (i + 1) xs) ≡ feed (after r (take i xs)) (get_or xs i 0)
byte_on r xs i h = rw (add-one i, take-suc xs i 0 h) (after_append r (take i xs) (get_or xs i 0 ∷ []))

-- the first n bytes, and all the others
pub whole : (r : Register) (xs : List ℕ) (n : ℕ) → after (after r (take n xs)) (drop n xs) ≡ after r xs
whole r xs n = sym (after_append r (take n xs) (drop n xs)) ∙ ap (after r) (take-append-drop n xs)

-- ---- rows of bytes
pub rows_append : (r : Register) (us vs : List (List ℕ)) → after_rows r (us ++ vs) ≡ after_rows (after_rows r us) vs
rows_append r [] vs = refl
rows_append r (u ∷ us) vs = rows_append (after r u) us vs

-- one row more
pub row_more : (r : Register) (ws : List (List ℕ)) (i : ℕ) → i < length ws → after_rows r (take (i + 1) ws) ≡ after (after_rows r (take i ws)) (get_or ws i [])
row_more r ws i h = rw (add-one i, take-suc ws i [] h) (rows_append r (take i ws) (get_or ws i [] ∷ []))

-- the first n rows, and all the others
pub all_rows : (r : Register) (ws : List (List ℕ)) (n : ℕ) → after_rows (after_rows r (take n ws)) (drop n ws) ≡ after_rows r ws
all_rows r ws n = sym (rows_append r (take n ws) (drop n ws)) ∙ ap (after_rows r) (take-append-drop n ws)

-- the rows of n bytes that a list begins with, and what is behind them
pub cut : (r : Register) (n k : ℕ) (xs : List ℕ) → after_rows r (first_chunks n k xs) ≡ after r (take (k * n) xs)
cut r n zero xs = simp zero-mul
cut r n (suc k) xs = cut (after r (take n xs)) n k (drop n xs) ∙ rw (suc-mul k n, add_comm (k * n) n) (sym (on r xs n (k * n)))

-- a list cut into rows and what is behind them
pub chunked : (r : Register) (n : ℕ) (xs ys : List ℕ) (ws : List (List ℕ)) → ws ≡ first_chunks n (length xs / n) xs → ys ≡ drop (length xs / n * n) xs
    → after (after_rows r ws) ys ≡ after r xs
chunked r n xs ys ws e f = rw (e, f, cut r n (length xs / n) xs) (whole r xs (length xs / n * n))

pub stands_on : {r q : Register} {s : Stretched} → r ≡ q → Stands r s → Stands q s
stands_on {s = s} e = subst (λ (p : Register). Stands p s) e

-- four rows, each a word
pub four_rows : (q : Register) (ws : List (List ℕ)) (x y z u : ℕ) → length ws ≡ 4
    → ((s : Register) → after8 s x ≡ after s (get_or ws 0 [])) → ((s : Register) → after8 s y ≡ after s (get_or ws 1 []))
    → ((s : Register) → after8 s z ≡ after s (get_or ws 2 [])) → ((s : Register) → after8 s u ≡ after s (get_or ws 3 []))
    → afters q (x ∷ y ∷ z ∷ u ∷ []) ≡ after_rows q ws
four_rows q (a ∷ b ∷ c ∷ d ∷ []) x y z u e f g h i =
    i (after8 (after8 (after8 q x) y) z) ∙ ap (λ (s : Register). after s d)
    (h (after8 (after8 q x) y) ∙ ap (λ (s : Register). after s c) (g (after8 q x) ∙ ap (λ (s : Register). after s b) (f q)))
four_rows q _ x y z u e f g h i = absurd (omega arith)
