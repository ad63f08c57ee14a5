-- Lists given by what stands at each place: their lengths, their elements, and the turns of a loop that stores one after the other.
-- Assumes nothing.
use mathlib.Core.Path.{◌≡◌, refl, sym, ap, ap₂, subst, ◌∙◌}
use mathlib.Core.List.{List, [], ◌∷◌, ◌++◌}
use mathlib.Core.Logic.{⊎_elim}
use Prim.Native.Nat.{ℕ, zero, suc, ◌+◌, ◌<◌, ◌≤◌}
use native.Mathlib.Nat.{eq-or-lt_of_le, le_of_suc-le-suc}
use native.Mathlib.Numerals.{add-one}
use native.Mathlib.Omega.{arith}
use lib.ListN.{length, get_or, set, length-append, length-set, get_or-append}
use lib.Seq.{get_or_at, get_or-set_same, get_or-set_other, ext_get_or}
use Rattle.octets.specs.Stores.{put}
use Rattle.octets.proofs.Storing.{put_none, put_more}
use Rattle.array.specs.Listed.{list}

module _ {A : Type 0} (f : ℕ → A) where
  pub list_length : (n : ℕ) → length (list f n) ≡ n
  list_length zero = refl
  list_length (suc n) = rw (length-append (list f n) (f n ∷ []), list_length n) (omega arith)

  pub list_at : (d : A) (n k : ℕ) → k < n → get_or (list f n) k d ≡ f k
  list_at d zero k h = absurd (omega arith)
  list_at d (suc n) k h =
      ⊎_elim
      (λ (e : k ≡ n). get_or_at (list f n) (f n) [] d k (list_length n ∙ sym e) ∙ ap f (sym e))
      (λ (l : k < n). get_or-append (list f n) (f n ∷ []) d k (rw (list_length n) l) ∙ list_at d n k l)
      (eq-or-lt_of_le (le_of_suc-le-suc h))

  -- a list with these elements
  pub list_eq : (d : A) (xs : List A) → ((k : ℕ) → k < length xs → get_or xs k d ≡ f k) → xs ≡ list f (length xs)
  list_eq d xs h = ext_get_or d xs (list f (length xs)) (sym (list_length (length xs))) (λ k l. h k l ∙ sym (list_at d (length xs) k l))

pub list_same : {A : Type 0} (f g : ℕ → A) (n : ℕ) → ((k : ℕ) → k < n → f k ≡ g k) → list f n ≡ list g n
list_same f g zero h = refl
list_same f g (suc n) h = ap₂ (λ (xs : List _) (x : _). xs ++ (x ∷ [])) (list_same f g n (λ k l. h k (omega arith))) (h n (omega arith))

-- a list of n elements is the list of them
pub list_all : {A : Type 0} (d : A) (xs : List A) (n : ℕ) → length xs ≡ n → list (λ k. get_or xs k d) n ≡ xs
list_all d xs n e = ap (list (λ k. get_or xs k d)) (sym e) ∙ sym (list_eq (λ k. get_or xs k d) d xs (λ k l. refl))

-- within a list what stands for the places beyond it does not count
pub get_d_any : {A : Type 0} (xs : List A) (n : ℕ) (d e : A) → n < length xs → get_or xs n d ≡ get_or xs n e
get_d_any [] n d e h = absurd (omega arith)
get_d_any (x ∷ xs) zero d e h = refl
get_d_any (x ∷ xs) (suc n) d e h = get_d_any xs n d e (le_of_suc-le-suc h)

-- a run of stores into n places: the first k hold f's values
pub record Filled {A : Type 0} (f : ℕ → A) (d : A) (n : ℕ) (xs : List A) (k : ℕ) : Type 0 where
  pub below : k ≤ n
  pub size : length xs ≡ n
  pub holds : (m : ℕ) → m < k → get_or xs m d ≡ f m

module _ {A : Type 0} (f : ℕ → A) (d : A) (n : ℕ) (xs : List A) where
  pub filled_none : length xs ≡ n → Filled f d n xs 0
  filled_none e = record { below = omega arith; size = e; holds = λ m h. absurd (omega arith) }

  pub filled_more : (k : ℕ) (v : A) → Filled f d n xs k → k < n → v ≡ f k → Filled f d n (set xs k v) (k + 1)
  filled_more k v F h e =
      record {
        below = omega arith;
        size = length-set xs k v ∙ F.size;
        holds = λ m l.
            ⊎_elim
            (λ (q : m ≡ k). rw q (get_or-set_same xs k v d (rw F.size h) ∙ e))
            (λ (q : m < k). get_or-set_other xs k m v d (λ z. absurd (omega arith)) ∙ F.holds m q)
            (eq-or-lt_of_le (le_of_suc-le-suc (rw (add-one k) at l)));
      }

  pub filled_all : (k : ℕ) → Filled f d n xs k → n ≤ k → xs ≡ list f n
  filled_all k F h =
      list_eq f d xs (λ m l. F.holds m (omega (arith, rw F.size at l))) ∙ ap (list f) F.size

-- a list put into others, element by element
module _ (g : ℕ → ℕ) (xs : List ℕ) (at : ℕ) where
  pub one_more : (k : ℕ) → at + k < length xs → set (put xs at (list g k)) (at + k) (g k) ≡ put xs at (list g (k + 1))
  one_more k h =
      rw (add-one k)
      (ap (λ (n : ℕ). set (put xs at (list g k)) (at + n) (g k)) (sym (list_length g k))
      ∙ put_more xs at (list g k) (g k) (rw (list_length g k) h))

  -- as a run of stores
  pub filled_run : (f : ℕ → ℕ) (n k to : ℕ) → Filled f 0 n xs at → at + k ≤ n → ((m : ℕ) → m < k → g m ≡ f (at + m)) → to ≡ at + k → Filled f 0 n (put xs at (list g k)) to
  filled_run f n zero to F h e q =
      let z : to ≡ at = omega arith in
      rw z (subst (λ (l : List ℕ). Filled f 0 n l at) (put_none xs at (omega (arith, F.size))) F)
  filled_run f n (suc k) to F h e q =
      let l = filled_run f n k (at + k) F (omega arith) (λ m b. e m (omega arith)) refl in
      let z : to ≡ at + k + 1 = omega arith in
      let s : set (put xs at (list g k)) (at + k) (g k) ≡ put xs at (list g (suc k)) = one_more k (omega (arith, F.size)) ∙ ap (λ (i : ℕ). put xs at (list g i)) (add-one k) in
      rw z (subst (λ (l : List ℕ). Filled f 0 n l (at + k + 1)) s (filled_more f 0 n (put xs at (list g k)) (at + k) (g k) l (omega arith) (e k (omega arith))))
