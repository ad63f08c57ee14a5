-- A byte that is fed back to those 64, 176 and 256 places on leaves the register what it was.
-- Assumes nothing.
use mathlib.Core.Path.{◌≡◌, refl, sym, ap, ap₂, subst, ◌∙◌}
use mathlib.Core.List.{List, [], ◌∷◌, ◌++◌}
use Prim.Native.Nat.{ℕ, suc, ◌/◌, ◌%◌, ◌^◌, ◌≤◌, ◌<◌}
use native.Mathlib.Nat.{add_comm, le_of_suc-le-suc, not-suc-le-zero, suc_inj}
use native.Mathlib.Omega.{arith}
use lib.Bits.{bit_xor, xor_self, xor_zero_r}
use lib.ListN.{length, take, drop, get_or, replicate, length-drop}
use lib.Seq.{drop-drop, take_all}
use Rattle.linear.proofs.Linear.{Linear, xors, right, low, then, nth, none, more, agree, agree_below}
use Rattle.linear.proofs.Row.{same}
use Rattle.sum.specs.Sum.{Register, stages, bit, feed, after, word, load}
use Rattle.sum.proofs.Bits.{⊕-self}
use Rattle.sum.proofs.Shifts.{◌⊞◌, feed_xor, word_xor, load_word, loaded, fed, read}
use Rattle.stretch.specs.Stretch.{blank}
use Rattle.stretch.proofs.Stretching.{nought, same_word}
use Rattle.ring.specs.Ring.{tapped, owed, Same}
use Rattle.ring.proofs.Lists.{xors_comm, xors_assoc, xors_cross, xors_drop, xors_first, length_xors, at, at_xor, snoc}

-- wherever the taps are, what is owed keeps exclusive or, and goes on place by place
module _ (m n : ℕ) where
  tapped_xor : (v w : List ℕ) → tapped m n (xors v w) ≡ xors (tapped m n v) (tapped m n w)
  unfolding tapped
  tapped_xor v w =
      rw (xors_drop m v w, xors_drop n v w, xors_cross (drop m v) (drop m w) (drop n v) (drop n w))
      (xors_cross v w (xors (drop m v) (drop n v)) (xors (drop m w) (drop n w)))

  tapped_rest : (v : List ℕ) → drop 1 (tapped m n v) ≡ tapped m n (drop 1 v)
  unfolding tapped
  tapped_rest v =
      let past : (k : ℕ) → drop 1 (drop k v) ≡ drop k (drop 1 v) =
      λ k. drop-drop 1 k v ∙ ap (λ (j : ℕ). drop j v) (add_comm k 1) ∙ sym (drop-drop k 1 v) in
      xors_drop 1 v (xors (drop m v) (drop n v)) ∙ ap (xors (drop 1 v)) (xors_drop 1 (drop m v) (drop n v) ∙ ap₂ xors (past m) (past n))

owed_xor : (v w : List ℕ) → owed (xors v w) ≡ xors (owed v) (owed w)
unfolding owed
owed_xor = tapped_xor _ _

owed_rest : (v : List ℕ) → drop 1 (owed v) ≡ owed (drop 1 v)
unfolding owed
owed_rest = tapped_rest _ _

-- what one byte that is fed back adds to the bytes behind it
unfoldable spread : ℕ → List ℕ
spread q = owed (at 255 q)

spread_xor : (a b : ℕ) → spread (bit_xor a b) ≡ xors (spread a) (spread b)
unfolding spread
spread_xor a b = ap owed (at_xor 255 a b) ∙ owed_xor (at 255 a) (at 255 b)

owed_snoc : (w : List ℕ) (q : ℕ) → length w ≡ 255 → owed (w ++ (q ∷ [])) ≡ xors (spread q) (owed w)
unfolding spread
owed_snoc w q e = ap owed (snoc w q ∙ ap (λ (n : ℕ). xors w (at n q)) e) ∙ owed_xor w (at 255 q) ∙ xors_comm (owed w) (owed (at 255 q))

blank_xor : (r : Register) → blank ⊞ r ≡ r
unfolding ◌⊞◌ load bit
blank_xor (stages b0 b1 b2 b3 b4 b5 b6 b7 b8 b9 b10 b11 b12 b13 b14 b15) = refl

after_xor : (r q : Register) (xs ys : List ℕ) → length xs ≡ length ys → after (r ⊞ q) (xors xs ys) ≡ after r xs ⊞ after q ys
after_xor r q [] [] e = refl
after_xor r q [] (y ∷ ys) e = absurd (omega arith)
after_xor r q (x ∷ xs) [] e = absurd (omega arith)
after_xor r q (x ∷ xs) (y ∷ ys) e = ap (λ (p : Register). after p (xors xs ys)) (feed_xor r q x y) ∙ after_xor (feed r x) (feed q y) xs ys (suc_inj e)

-- bytes that leave a register blank add nothing
absorbed : (r q : Register) (xs ys : List ℕ) → after r xs ≡ blank → length xs ≤ length ys → after (r ⊞ q) (xors xs ys) ≡ after q ys
absorbed r q [] ys e h = ap (λ (p : Register). after p ys) (ap (λ (p : Register). p ⊞ q) e ∙ blank_xor q)
absorbed r q (x ∷ xs) [] e h = absurd (not-suc-le-zero h)
absorbed r q (x ∷ xs) (y ∷ ys) e h = ap (λ (p : Register). after p (xors xs ys)) (feed_xor r q x y) ∙ absorbed (feed r x) (feed q y) xs ys e (le_of_suc-le-suc h)

-- a register and its own word, byte by byte, leave it blank
own_word : (r : Register) (w : ℕ) → w < 2 ^ 16 → w ≡ word r → feed (feed r (w / 2 ^ 8)) (w % 2 ^ 8) ≡ blank
unfolding load bit
own_word r w h e =
    let two : feed (feed (load w) (w / 2 ^ 8)) (w % 2 ^ 8) ≡ blank =
    same_word (agree (read (fed (fed (loaded (nth 0)) (then (nth 0) (right 8))) (then (nth 0) (low 8)))) nought (16 ∷ []) refl (w ∷ []) (more h none)) in
    ap (λ (q : Register). feed (feed q (w / 2 ^ 8)) (w % 2 ^ 8)) (sym (ap load e ∙ load_word r)) ∙ two

xor_same : (r : Register) → r ⊞ r ≡ blank
unfolding ◌⊞◌ load bit
xor_same (stages b0 b1 b2 b3 b4 b5 b6 b7 b8 b9 b10 b11 b12 b13 b14 b15) = simp ⊕-self

two_owed : (x y : ℕ) → owed (x ∷ y ∷ replicate 254 0) ≡ x ∷ y ∷ replicate 254 0
unfolding owed tapped
two_owed x y = ap₂ (λ (m n : ℕ). m ∷ n ∷ replicate 254 0) (xor_zero_r x) (xor_zero_r y)

-- so at the start the register's word is added to two bytes
pub begun : (r : Register) (w : ℕ) → w < 2 ^ 16 → w ≡ word r → Same r (owed (w / 2 ^ 8 ∷ w % 2 ^ 8 ∷ replicate 254 0))
unfolding load bit
begun r w h e =
    let s = w / 2 ^ 8 ∷ w % 2 ^ 8 ∷ replicate 254 0 in
    let z : after r s ≡ blank = ap (λ (q : Register). after q (replicate 254 0)) (own_word r w h e) in
    subst (Same r) (sym (two_owed (w / 2 ^ 8) (w % 2 ^ 8)))
    (record { law = λ xs l. sym (absorbed r r s xs z l) ∙ ap (λ (q : Register). after q (xors s xs)) (xor_same r) })

-- the one computed fact: a byte and what it adds leave a blank register blank
alone : ℕ → ℕ
alone x = word (after blank (x ∷ spread x))

spread_length : (b : ℕ) → length (spread b) ≡ 256
unfolding spread owed tapped at
spread_length b = refl

alone_xor : Linear bit_xor alone
unfolding alone
alone_xor = record {
  law = λ a b.
      ap (λ (l : List ℕ). word (after blank (bit_xor a b ∷ l))) (spread_xor a b)
      ∙ ap word (ap (λ (p : Register). after p (bit_xor a b ∷ xors (spread a) (spread b))) (sym (blank_xor blank))
      ∙ after_xor blank blank (a ∷ spread a) (b ∷ spread b) (ap suc (spread_length a ∙ sym (spread_length b))))
      ∙ word_xor (after blank (a ∷ spread a)) (after blank (b ∷ spread b));
}

computed : (k : ℕ) → k < 8 → alone (2 ^ k) ≡ 0
unfolding alone spread owed tapped at load bit
computed = same (λ k. alone (2 ^ k)) (λ k. 0) 8 refl

gone : (b : ℕ) → b < 2 ^ 8 → after blank (b ∷ spread b) ≡ blank
unfolding alone load bit
gone b h =
    let nothing : Linear bit_xor (λ (x : ℕ). 0) = record { law = λ c d. refl } in
    sym (load_word (after blank (b ∷ spread b))) ∙ ap load (agree_below alone_xor nothing 8 computed b h)

-- so it may be fed back, where 256 bytes follow
fed_back : (b : ℕ) (xs : List ℕ) → b < 2 ^ 8 → 256 ≤ length xs → after blank (b ∷ xs) ≡ after blank (xors (spread b) xs)
unfolding load bit
fed_back b xs h l =
    sym (absorbed blank blank (b ∷ spread b) (b ∷ xs) (gone b h) (omega (arith, spread_length b)))
    ∙ ap (λ (p : Register). after (feed p (bit_xor b b)) (xors (spread b) xs)) (blank_xor blank)
    ∙ ap (λ (n : ℕ). after (feed blank n) (xors (spread b) xs)) (xor_self b)

-- one byte more
pub one_more : {r : Register} (v : List ℕ) (b q : ℕ) → length v ≡ 256 → q < 2 ^ 8 → q ≡ bit_xor (get_or (owed v) 0 0) b
    → Same r (owed v) → Same (feed r b) (owed (drop 1 v ++ (q ∷ [])))
one_more v b q e h f s = record {
  law = λ xs l.
      let n : length (drop 1 v) ≡ 255 = length-drop 1 v ∙ (omega arith) in
      let j = length_xors (drop 1 (owed v)) xs in
      s.law (b ∷ xs) (omega arith)
      ∙ ap (after blank) (xors_first (owed v) xs b ∙ ap (λ (n : ℕ). n ∷ xors (drop 1 (owed v)) xs) (sym f))
      ∙ fed_back q (xors (drop 1 (owed v)) xs) h (omega arith)
      ∙ ap (after blank) (sym (xors_assoc (spread q) (drop 1 (owed v)) xs)
      ∙ ap (λ (l : List ℕ). xors l xs) (ap (xors (spread q)) (owed_rest v) ∙ sym (owed_snoc (drop 1 v) q n)));
}

-- at the end 256 bytes with what is added to them stand for all
pub closed : {r : Register} (s xs : List ℕ) → Same r s → length xs ≡ 256 → after r xs ≡ after blank (xors s xs)
closed s xs h e = h.law xs (omega arith)

-- what `ring::closed` adds
pub all_owed : (w v last : List ℕ) → length w ≡ 256 → v ≡ xors (xors (xors w (take 176 (drop 80 w))) (take 64 (drop 192 w))) last → v ≡ xors (owed w) last
unfolding owed tapped
all_owed w v last e f =
    let a = length-drop 80 w in
    let b = length-drop 192 w in
    f ∙ rw (take_all 176 (drop 80 w) (omega arith), take_all 64 (drop 192 w) (omega arith), xors_assoc w (drop 80 w) (drop 192 w))
