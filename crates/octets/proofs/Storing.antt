-- Stores one after the other: what stands in a lent slice so far.
-- Assumes nothing.
use mathlib.Core.List.{List, [], ◌∷◌, ◌++◌, append_assoc, append-nil}
use mathlib.Core.Path.{◌≡◌, refl, sym, ap, ap₂, ◌∙◌}
use Prim.Native.Nat.{ℕ, suc, ◌+◌, ◌*◌, ◌/◌, ◌%◌, ◌≤◌, ◌<◌}
use native.Mathlib.Nat.{zero-add, add_assoc, mul-zero, mul-suc, mul-le-mul_left}
use native.Mathlib.Numerals.{add-one}
use native.Mathlib.Omega.{arith}
use borrow.Author.Tests.{le-leb, lt-leb}
use lib.ListN.{length, get_or, take, drop, set, length-set, length-append, length-drop}
use lib.Seq.{length-take-le, take_at, drop_at, drop-drop, drop-length, take-suc, sets-eq}
use Rattle.octets.specs.Stores.{put, bytes_of_each}

module _ (l : List ℕ) (at : ℕ) (us : List ℕ) (h : at + length us ≤ length l) where
  -- where there is room
  pub put_room : put l at us ≡ take at l ++ us ++ drop (at + length us) l
  unfolding put
  put_room = rw (le-leb (at + length us) (length l) h)

  front : length (take at l ++ us) ≡ at + length us
  front = rw (length-append, length-take-le at l (omega arith))

  pub put_length : length (put l at us) ≡ length l
  put_length = rw (put_room, length-append (take at l ++ us) (drop (at + length us) l), front, length-drop) (omega arith)

  taken : take (at + length us) (put l at us) ≡ take at l ++ us
  taken = rw put_room (take_at (take at l ++ us) (drop (at + length us) l) (at + length us) front)

  dropped : drop (at + length us) (put l at us) ≡ drop (at + length us) l
  dropped = rw put_room (drop_at (take at l ++ us) (drop (at + length us) l) (at + length us) front)

module _ (l : List ℕ) (at : ℕ) (us vs : List ℕ) (h : at + length us + length vs ≤ length l) where
  pub put_then : put (put l at us) (at + length us) vs ≡ put l at (us ++ vs)
  put_then =
      let first : at + length us ≤ length l = omega arith in
      let both : at + length (us ++ vs) ≤ length l = simp length-append (omega arith) in
      let whole = put_length l at us first in
      put_room (put l at us) (at + length us) vs (omega arith)
      ∙ ap₂ (λ (a b : List ℕ). a ++ b)
      (ap (λ (r : List ℕ). r ++ vs) (taken l at us first) ∙ append_assoc (take at l) us vs)
      (sym (drop-drop (length vs) (at + length us) (put l at us))
      ∙ ap (drop (length vs)) (dropped l at us first)
      ∙ drop-drop (length vs) (at + length us) l
      ∙ ap (λ (k : ℕ). drop k l) (add_assoc at (length us) (length vs) ∙ ap (λ (k : ℕ). at + k) (sym (length-append us vs))))
      ∙ sym (put_room l at (us ++ vs) both)

-- two puts, the second where the first ended
pub put_chain : (l a b : List ℕ) (at n : ℕ) (us vs : List ℕ) → a ≡ put l at us → b ≡ put a n vs → n ≡ at + length us → at + length us + length vs ≤ length l → b ≡ put l at (us ++ vs)
put_chain l a b at n us vs p q e h = q ∙ rw (p, e) (put_then l at us vs h)

-- a store puts one element
pub set-put : (l : List ℕ) (at v : ℕ) → at < length l → set l at v ≡ put l at (v ∷ [])
set-put l at v h = sets-eq (v ∷ []) l at (omega arith) ∙ sym (put_room l at (v ∷ []) (omega arith))

pub put_none : (l : List ℕ) (at : ℕ) → at ≤ length l → l ≡ put l at []
put_none l at h = sets-eq [] l at (omega arith) ∙ sym (put_room l at [] (omega arith))

-- put over all of it, nothing is left of what stood there
pub put_all : (l vs : List ℕ) → length vs ≡ length l → put l 0 vs ≡ vs
put_all l vs e = put_room l 0 vs (omega arith) ∙ rw (zero-add (length vs), e, drop-length l) (append-nil vs)

-- where there is no room, nothing is stored
pub put_short : (l : List ℕ) (at : ℕ) (vs : List ℕ) → length l < at + length vs → l ≡ put l at vs
unfolding put
put_short l at vs h = rw (lt-leb (at + length vs) (length l) h)

-- one element, then others behind it
set_then : (l : List ℕ) (n v : ℕ) (vs : List ℕ) → n + 1 + length vs ≤ length l → put (set l n v) (n + 1) vs ≡ put l n (v ∷ vs)
set_then l n v vs h = rw (set-put l n v (omega arith)) (put_then l n (v ∷ []) vs (omega arith))

-- stores at k, k + 1 and so on from `at` on, as code makes them
abbrev pub storing : List ℕ → ℕ → ℕ → List ℕ → List ℕ
storing l at k [] = l
storing l at k (v ∷ vs) = storing (set l (at + k) v) at (k + 1) vs

storing_put : (vs l : List ℕ) (at k : ℕ) → at + k + length vs ≤ length l → storing l at k vs ≡ put l (at + k) vs
storing_put [] l at k h = put_none l (at + k) (omega arith)
storing_put (v ∷ vs) l at k h =
    let n = length-set l (at + k) v in
    let e : at + (k + 1) ≡ at + k + 1 = omega arith in
    storing_put vs (set l (at + k) v) at (k + 1) (omega arith)
    ∙ ap (λ (m : ℕ). put (set l (at + k) v) m vs) e
    ∙ set_then l (at + k) v vs (omega arith)

-- any number of stores in a row
pub stores : (l : List ℕ) (at v : ℕ) (vs : List ℕ) → at + (1 + length vs) ≤ length l → storing (set l at v) at 1 vs ≡ put l at (v ∷ vs)
stores l at v vs h =
    let n = length-set l at v in
    storing_put vs (set l at v) at 1 (omega arith) ∙ set_then l at v vs (omega arith)

-- as many as there are bytes
pub stores_all : (l : List ℕ) (v : ℕ) (vs : List ℕ) → 1 + length vs ≡ length l → storing (set l 0 v) 0 1 vs ≡ v ∷ vs
stores_all l v vs e = stores l 0 v vs (omega arith) ∙ put_all l (v ∷ vs) (omega arith)

pub low_byte : (n : ℕ) → n % 256 ≡ n / 1 % 256
low_byte n = omega arith

-- a turn of a loop that stores one element more
pub put_more : (l : List ℕ) (at : ℕ) (us : List ℕ) (v : ℕ) → at + length us < length l → set (put l at us) (at + length us) v ≡ put l at (us ++ (v ∷ []))
put_more l at us v h =
    let e = put_length l at us (omega arith) in
    set-put (put l at us) (at + length us) v (omega arith) ∙ put_then l at us (v ∷ []) (omega arith)

pub alone : (v : ℕ) → v < 256 → v / 1 % 256 ≡ v
alone v h = omega arith

-- ---- the bytes of a row of things, k for each
pub each_append : {A : Type 0} (f : A → List ℕ) (xs ys : List A) → bytes_of_each f (xs ++ ys) ≡ bytes_of_each f xs ++ bytes_of_each f ys
each_append f [] ys = refl
each_append f (x ∷ xs) ys = rw (each_append f xs ys) (sym (append_assoc (f x) (bytes_of_each f xs) (bytes_of_each f ys)))

module _ {A : Type 0} (f : A → List ℕ) (k : ℕ) (each : (x : A) → length (f x) ≡ k) where
  pub each_length : (xs : List A) → length (bytes_of_each f xs) ≡ k * length xs
  each_length [] = sym (mul-zero k)
  each_length (x ∷ xs) = rw (length-append, each x, each_length xs, mul-suc k (length xs)) (omega arith)

  -- a turn of a loop that stores one of them more
  pub each_put : (d : A) (l : List ℕ) (at : ℕ) (t : List A) (i : ℕ) → at + k * length t ≤ length l → i < length t
      → put (put l at (bytes_of_each f (take i t))) (at + k * i) (f (get_or t i d)) ≡ put l at (bytes_of_each f (take (i + 1) t))
  each_put d l at t i room h =
      let n : length (take i t) ≡ i = length-take-le i t (omega arith) in
      let m : length (bytes_of_each f (take i t)) ≡ k * i = each_length (take i t) ∙ ap (λ (j : ℕ). k * j) n in
      let one = each (get_or t i d) in
      let below : k * i + k ≤ k * length t = rw (mul-suc k i) at (mul-le-mul_left {m = suc i} {n = length t} k h) in
      let more : bytes_of_each f (take (i + 1) t) ≡ bytes_of_each f (take i t) ++ f (get_or t i d) =
      ap (λ (j : ℕ). bytes_of_each f (take j t)) (add-one i)
      ∙ ap (bytes_of_each f) (take-suc t i d h)
      ∙ each_append f (take i t) (get_or t i d ∷ [])
      ∙ ap (λ (r : List ℕ). bytes_of_each f (take i t) ++ r) (append-nil (f (get_or t i d))) in
      rw (more, ← m) (put_then l at (bytes_of_each f (take i t)) (f (get_or t i d)) (omega arith))
