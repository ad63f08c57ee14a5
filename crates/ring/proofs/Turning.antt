-- The ring, turned on place by place.
-- Assumes nothing.
use mathlib.Core.Path.{◌≡◌, sym, ap, ap₂, ◌∙◌}
use mathlib.Core.List.{List, [], ◌∷◌, ◌++◌, append_assoc, append-nil}
use mathlib.Core.Logic.{⊎_elim}
use Prim.Native.Nat.{ℕ, ◌+◌, ◌-◌, ◌%◌, ◌^◌, ◌<◌}
use native.Mathlib.Nat.{eq-zero-or-pos}
use native.Mathlib.Numerals.{add-one}
use native.Mathlib.Omega.{arith}
use lib.Bits.{bit_xor}
use lib.ListN.{length, take, drop, get_or, set, length-append, length-drop, get_or-append, drop_of_length-le}
use lib.Seq.{drop-append-le, get_or-append-add, drop-drop, take_all, take-suc, take-suc-set, drop-set-lt, get_or-drop, get_or-take, length-take-le}
use Rattle.linear.proofs.Linear.{xors, nth}
use Rattle.sum.specs.Sum.{Register, feed, after}
use Rattle.sum.proofs.SumLaws.{after_append}
use Rattle.ring.specs.Ring.{tapped, owed, turned, Same, Turn}
use Rattle.ring.proofs.Feedback.{one_more}

owed_at : (v : List ℕ) (j : ℕ) → get_or (owed v) j 0 ≡ bit_xor (get_or v j 0) (bit_xor (get_or v (80 + j) 0) (get_or v (192 + j) 0))
unfolding owed tapped
owed_at v j =
    (nth j).law v (xors (drop 80 v) (drop 192 v))
    ∙ ap (bit_xor (get_or v j 0)) ((nth j).law (drop 80 v) (drop 192 v) ∙ ap₂ bit_xor (get_or-drop 80 v j 0) (get_or-drop 192 v j 0))

-- a ring turned on by one, once the first place has the next number
turned_more : (w : List ℕ) (k q : ℕ) → k < length w → turned (set w k q) (k + 1) ≡ drop 1 (turned w k) ++ (q ∷ [])
unfolding turned
turned_more w k q h =
    let n = length-drop k w in
    ap₂ (λ (xs ys : List ℕ). xs ++ ys) (drop-set-lt (k + 1) w k q (omega arith) ∙ sym (drop-drop 1 k w))
    (ap (λ (m : ℕ). take m (set w k q)) (add-one k) ∙ take-suc-set w k q h)
    ∙ sym (append_assoc (drop 1 (drop k w)) (take k w) (q ∷ []))
    ∙ ap (λ (xs : List ℕ). xs ++ (q ∷ [])) (sym (drop-append-le 1 (drop k w) (take k w) (omega arith)))

turned_at : (w : List ℕ) (k j : ℕ) → length w ≡ 256 → k < 256 → j < 256 → get_or (turned w k) j 0 ≡ get_or w ((k + j) % 256) 0
unfolding turned
turned_at w k j e h l =
    let n = length-drop k w in
    ⊎_elim (λ (z : 256 - (k + j) ≡ 0).
    let m : j ≡ length (drop k w) + (k + j - 256) = omega arith in
    let o : k + j - 256 ≡ (k + j) % 256 = omega arith in
    ap (λ (m : ℕ). get_or (drop k w ++ take k w) m 0) m ∙ get_or-append-add (drop k w) (take k w) (k + j - 256) 0
    ∙ get_or-take k w (k + j - 256) 0 (omega arith) ∙ ap (λ (m : ℕ). get_or w m 0) o)
    (λ (z : 0 < 256 - (k + j)).
    let o : k + j ≡ (k + j) % 256 = omega arith in
    get_or-append (drop k w) (take k w) 0 j (omega arith) ∙ get_or-drop k w j 0 ∙ ap (λ (m : ℕ). get_or w m 0) o)
    (eq-zero-or-pos (256 - (k + j)))

turned_length : (w : List ℕ) (k : ℕ) → length w ≡ 256 → k < 256 → length (turned w k) ≡ 256
unfolding turned
turned_length w k e h =
    let a = length-drop k w in
    let b = length-take-le k w (omega arith) in
    let c = length-append (drop k w) (take k w) in omega arith

-- what `one` does
pub taken : {r : Register} (w : List ℕ) (k x y b q : ℕ) → length w ≡ 256 → k < 256 → x ≡ (k + 80) % 256 → y ≡ (k + 192) % 256
    → q ≡ bit_xor (bit_xor (get_or w k 0) (bit_xor (get_or w x 0) (get_or w y 0))) b → q < 2 ^ 8
    → Same r (owed (turned w k)) → Same (feed r b) (owed (turned (set w k q) (k + 1)))
taken w k x y b q e h p o f m s =
    let v = turned w k in
    let z : k ≡ (k + 0) % 256 = omega arith in
    let first : get_or (owed v) 0 0 ≡ bit_xor (get_or w k 0) (bit_xor (get_or w x 0) (get_or w y 0)) =
    owed_at v 0
    ∙ ap₂ bit_xor (turned_at w k 0 e h (omega arith) ∙ ap (λ (j : ℕ). get_or w j 0) (sym z))
    (ap₂ bit_xor (turned_at w k 80 e h (omega arith) ∙ ap (λ (j : ℕ). get_or w j 0) (sym p)) (turned_at w k 192 e h (omega arith) ∙ ap (λ (j : ℕ). get_or w j 0) (sym o))) in
    rw (turned_more w k q (omega arith)) (one_more v b q (turned_length w k e h) m (f ∙ ap (λ (n : ℕ). bit_xor n b) (sym first)) s)

-- the turns of `ring::run`
pub turn_none : (w bytes : List ℕ) → Turn w bytes w 0
unfolding turned
turn_none w bytes = record { stands = λ r s. rw (append-nil w) s }

pub turn_more : (w₀ bytes w w₁ : List ℕ) (k : ℕ) → k < length bytes
    → ((r : Register) → Same r (owed (turned w k)) → Same (feed r (get_or bytes k 0)) (owed (turned w₁ (k + 1))))
    → Turn w₀ bytes w k → Turn w₀ bytes w₁ (k + 1)
turn_more w₀ bytes w w₁ k h f t = record {
  stands = λ r s.
      let b = get_or bytes k 0 in
      rw (add-one k, take-suc bytes k 0 h, ← add-one k, after_append r (take k bytes) (b ∷ [])) (f (after r (take k bytes)) (t.stands r s));
}

pub turn_all : (w₀ bytes w : List ℕ) → length bytes ≡ 256 → length w ≡ 256 → Turn w₀ bytes w 256 → (r : Register) → Same r (owed w₀) → Same (after r bytes) (owed w)
unfolding turned
turn_all w₀ bytes w n e t r s =
    let d : drop 256 w ≡ [] = drop_of_length-le w {i = 256} (omega arith) in
    rw (take_all 256 w (omega arith)) at (rw (take_all 256 bytes (omega arith)) at (rw d at (t.stands r s)))
