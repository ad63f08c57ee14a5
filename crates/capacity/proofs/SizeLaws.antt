-- Sizes of sub-channels, as the code finds them.
-- Assumes nothing.
use mathlib.Core.Bool.{Bool, true, false, ◌&&◌}
use mathlib.Core.List.{List, [], ◌∷◌, map}
use mathlib.Core.Path.{◌≡◌, refl, sym, ap, ◌∙◌}
use Rattle.std.proofs.Common.{◌++◌, cond, nat_lt, Option, Some, None, length}
use Rattle.std.proofs.lemmas.List.{get_or_append_left, get_or-append_right}
use Rattle.std.proofs.lemmas.List.Recursion.{is_position_or_len}
use Rattle.std.specs.List.{position, position_or_len}
use Prim.Native.Nat.{ℕ, zero, suc, ◌+◌, ◌-◌, ◌*◌, ◌/◌, ◌%◌, ◌^◌, ◌≤◌, ◌<◌}
use native.Mathlib.Nat.{zero-mul, mul-le-mul}
use native.Mathlib.Omega.{arith}
use borrow.Author.Tests.{eq-eqb, ne_eqb, eqb-true, eqb-false, le-ltb, ltb-false, le-leb, lt-leb, leb-true}
use lib.Dec.{eqb, ltb, leb}
use lib.ListN.{get_or, get_or-eq_default}
use Rattle.octets.specs.Choice.{pick, place_in}
use Rattle.octets.specs.Stores.{bytes_of_each}
use Rattle.octets.proofs.Deciding.{clash, both}
use Rattle.capacity.specs.Sizes.{rates, stls, unequal_sizes, unequal_size, equal_a, equal_b, per_n, equal_size, size_by, units_by, equal_in}

-- STL times 8 is the rate times 3
rates_of_stls : map (λ (n : ℕ). n * 8) stls ≡ map (λ (r : ℕ). r * 3) rates
rates_of_stls = refl

abbrev all_le : ℕ → List ℕ → Bool
all_le m [] = true
all_le m (x ∷ xs) = leb x m && all_le m xs

at_most : (m : ℕ) (xs : List ℕ) → all_le m xs ≡ true → (k : ℕ) → get_or xs k 0 ≤ m
at_most m [] h k = omega arith
at_most m (x ∷ xs) h zero = leb-true x m (both (leb x m) (all_le m xs) h).0
at_most m (x ∷ xs) h (suc k) = at_most m xs (both (leb x m) (all_le m xs) h).1 k

pub size_le : (k : ℕ) → get_or unequal_sizes k 0 ≤ 416
unfolding unequal_sizes
size_le k = at_most 416 unequal_sizes refl k

-- rows of five, one after the other
abbrev in_fives : List (List ℕ) → Bool
in_fives [] = true
in_fives (x ∷ xs) = eqb (length x) 5 && in_fives xs

abbrev flat : List (List ℕ) → List ℕ
flat xss = bytes_of_each (λ x. x) xss

in_row : (xss : List (List ℕ)) → in_fives xss ≡ true → (r j : ℕ) → r < length xss → j < 5 → get_or (get_or xss r []) j 0 ≡ get_or (flat xss) (5 * r + j) 0
in_row [] h r j a b = absurd (omega arith)
in_row (x ∷ xs) h zero j a b =
    let five = eqb-true (length x) 5 (both (eqb (length x) 5) (in_fives xs) h).0 in
    let e : 5 * 0 + j ≡ j = omega arith in
    sym (ap (λ (n : ℕ). get_or (x ++ flat xs) n 0) e ∙ get_or_append_left x (flat xs) 0 j (omega arith))
in_row (x ∷ xs) h (suc r) j a b =
    let t = both (eqb (length x) 5) (in_fives xs) h in
    let e : 5 * suc r + j - 5 ≡ 5 * r + j = omega arith in
    in_row xs t.1 r j (omega arith) b
    ∙ sym (get_or-append_right x (flat xs) 5 (5 * suc r + j) 0 (eqb-true (length x) 5 t.0) (omega arith) ∙ ap (λ (n : ℕ). get_or (flat xs) n 0) e)

-- the table of rows is the definitions' by one computed test
pub row_listed : (xss : List (List ℕ)) → in_fives xss ≡ true → length xss ≡ 14 → flat xss ≡ unequal_sizes → (r j : ℕ) → r < 14 → j < 5
    → (get_or (get_or xss r []) j 0 ≡ get_or unequal_sizes (5 * r + j) 0) × (get_or (get_or xss r []) j 0 ≤ 416)
row_listed xss h n e r j a b =
    let p : get_or (get_or xss r []) j 0 ≡ get_or unequal_sizes (5 * r + j) 0 = in_row xss h r j (omega arith) b ∙ ap (λ (l : List ℕ). get_or l (5 * r + j) 0) e in
    (p, rw p (size_le (5 * r + j)))

-- a search for the row
place_of : (stl : ℕ) (xs : List ℕ) → place_in xs stl ≡ position_or_len (λ s. eqb stl s) xs
place_of stl xs = is_position_or_len (λ l. place_in l stl) (λ s. eqb stl s) refl (λ s l. go (eqb stl s) (place_in l stl)) xs
  where
    go : (b : Bool) (n : ℕ) → pick b 0 (suc n) ≡ cond b 0 (1 + n)
    go true n = refl
    go false n = omega arith

found : ℕ → Option ℕ
found n = cond (nat_lt n 14) (Some n) None

sought : (stl : ℕ) → position (λ s. eqb stl s) stls ≡ found (place_in stls stl)
unfolding found
sought stl = sym (ap (λ (n : ℕ). cond (nat_lt n 14) (Some n) None) (place_of stl stls))

not_found : (n : ℕ) → None ≡ found n → 14 ≤ n
unfolding found
not_found n e = go (nat_lt n 14) refl e
  where
    go : (b : Bool) → nat_lt n 14 ≡ b → None ≡ cond b (Some n) None → 14 ≤ n
    go true t e = cc
    go false t e = ltb-false n 14 t

found_is : (n r : ℕ) → Some r ≡ found n → r ≡ n
unfolding found
found_is n r e = go (nat_lt n 14) e
  where
    go : (b : Bool) → Some r ≡ cond b (Some n) None → r ≡ n
    go true e = cc
    go false e = cc

module _ (index stl : ℕ) where
  pub unequal_index : 4 < index → 0 ≡ unequal_size index stl
  unfolding unequal_size
  unequal_index h = rw (lt-leb index 4 h)

  module _ (r : ℕ) (h : index ≤ 4) (e : r ≡ place_in stls stl) where
    pub unequal_none : r ≡ 14 → 0 ≡ unequal_size index stl
    unfolding unequal_size unequal_sizes
    unequal_none z = rw (le-leb index 4 h) (sym (get_or-eq_default unequal_sizes 0 {n = 5 * place_in stls stl + (4 - index)} (omega arith)))

    pub unequal_some : (v : ℕ) → v ≡ get_or unequal_sizes (5 * r + (4 - index)) 0 → v ≡ unequal_size index stl
    unfolding unequal_size
    unequal_some v q = rw (le-leb index 4 h, ← e) q

-- 4, 2, 1, 0: what level 4 has, and so many times the step
pub quarter_le : (l : ℕ) → l < 4 → 4 / 2 ^ l ≤ 4
quarter_le zero h = omega arith
quarter_le (suc zero) h = omega arith
quarter_le (suc (suc zero)) h = omega arith
quarter_le (suc (suc (suc zero))) h = omega arith
quarter_le (suc (suc (suc (suc l)))) h = absurd (omega arith)

-- the same by a search for the row
module _ (index stl : ℕ) (h : index ≤ 4) where
  pub unequal_absent : None ≡ position (λ s. eqb stl s) stls → 0 ≡ unequal_size index stl
  unfolding unequal_size unequal_sizes
  unequal_absent z =
      let k = not_found (place_in stls stl) (z ∙ sought stl) in
      rw (le-leb index 4 h) (sym (get_or-eq_default unequal_sizes 0 {n = 5 * place_in stls stl + (4 - index)} (omega arith)))

  pub unequal_found : (r v : ℕ) → Some r ≡ position (λ s. eqb stl s) stls → v ≡ get_or unequal_sizes (5 * r + (4 - index)) 0 → v ≡ unequal_size index stl
  unfolding unequal_size
  unequal_found r v z q = rw (le-leb index 4 h, ← found_is (place_in stls stl) r (z ∙ sought stl)) q

pub per_none : (unit each stl : ℕ) → (stl % unit ≡ 0 → ⊥) → 0 ≡ per_n unit each stl
per_none unit each stl h = rw (ne_eqb (stl % unit) 0 h)

pub per_some : (unit each stl : ℕ) → stl % unit ≡ 0 → stl / unit * each ≡ per_n unit each stl
per_some unit each stl h = rw (eq-eqb (stl % unit) 0 h)

module _ (option index stl each v : ℕ) where
  pub equal_a_lem : option ≡ 0 → each ≡ get_or equal_a index 0 → v ≡ per_n 3 each stl → v ≡ equal_size option index stl
  unfolding equal_size
  equal_a_lem o e q = rw (eq-eqb option 0 o, ← e) q

  pub equal_b_lem : (option ≡ 0 → ⊥) → option ≡ 1 → each ≡ get_or equal_b index 0 → v ≡ per_n 12 each stl → v ≡ equal_size option index stl
  unfolding equal_size
  equal_b_lem n o e q = rw (ne_eqb option 0 n, eq-eqb option 1 o, ← e) q

pub equal_none : (option index stl : ℕ) → (option ≡ 0 → ⊥) → (option ≡ 1 → ⊥) → 0 ≡ equal_size option index stl
unfolding equal_size
equal_none option index stl n o = rw (ne_eqb option 0 n, ne_eqb option 1 o)

module _ (tpl stl v : ℕ) where
  pub size_equal : (tpl / 32 % 2 ≡ 0 → ⊥) → v ≡ equal_size (tpl / 4 % 8) (tpl % 4) stl → v ≡ size_by tpl stl
  unfolding size_by
  size_equal h q = rw (ne_eqb (tpl / 32 % 2) 0 h) q

  pub size_other : tpl / 32 % 2 ≡ 0 → (tpl / 8 % 2 ≡ 0 → ⊥) → 0 ≡ size_by tpl stl
  unfolding size_by
  size_other h k = rw (eq-eqb (tpl / 32 % 2) 0 h, ne_eqb (tpl / 8 % 2) 0 k)

  pub size_unequal : tpl / 32 % 2 ≡ 0 → tpl / 8 % 2 ≡ 0 → v ≡ unequal_size (tpl % 8) stl → v ≡ size_by tpl stl
  unfolding size_by
  size_unequal h k q = rw (eq-eqb (tpl / 32 % 2) 0 h, eq-eqb (tpl / 8 % 2) 0 k) q

  pub taken_none : stl ≡ 0 → 0 ≡ units_by tpl stl
  unfolding units_by
  taken_none h = rw (eq-eqb stl 0 h)

  pub taken_some : (stl ≡ 0 → ⊥) → v ≡ size_by tpl stl → v ≡ units_by tpl stl
  unfolding units_by
  taken_some h q = rw (ne_eqb stl 0 h) q

pick_le : (b : Bool) (x y m : ℕ) → x ≤ m → y ≤ m → pick b x y ≤ m
pick_le true x y m h k = h
pick_le false x y m h k = k

pub unequal_le : (tpl stl : ℕ) → tpl / 32 % 2 ≡ 0 → units_by tpl stl ≤ 416
unfolding units_by size_by unequal_size
unequal_le tpl stl h =
    rw (eq-eqb (tpl / 32 % 2) 0 h)
    (pick_le (eqb stl 0) 0 _ 416 (omega arith)
    (pick_le (eqb (tpl / 8 % 2) 0) _ 0 416 (pick_le (leb (tpl % 8) 4) (get_or unequal_sizes (5 * place_in stls stl + (4 - tpl % 8)) 0) 0 416 (size_le (5 * place_in stls stl + (4 - tpl % 8))) (omega arith)) (omega arith)))

-- ---- equal protection from half a word
pub part_le : (top most each n : ℕ) → each ≤ top → n ≤ most → n * each ≤ most * top
part_le top most each n h k = mul-le-mul k h

other_false : (a b : Bool) → (a && b) ≡ false → a ≡ true → b ≡ false
other_false true b h e = h
other_false false b h e = clash (sym e)

fours : (n : ℕ) → n * 4 % 4 ≡ 0
fours n = omega arith

module _ (half : ℕ) where
  in_units : (v : ℕ) → 32768 ≤ half → (half % 1024 ≡ 0 → v ≡ 0) → v ≡ size_by (half / 1024) (half % 1024) → v ≡ equal_in half
  unfolding equal_in
  in_units v h z q = rw (le-ltb half 32768 h) (go (eqb (half % 1024) 0) refl)
    where
      go : (b : Bool) → eqb (half % 1024) 0 ≡ b → v ≡ units_by (half / 1024) (half % 1024)
      go true e = let k = eqb-true (half % 1024) 0 e in z k ∙ taken_none (half / 1024) (half % 1024) 0 k
      go false e = taken_some (half / 1024) (half % 1024) v (eqb-false (half % 1024) 0 e) q

  module _ (each : ℕ) where
    a_in : half / 4096 ≡ 8 → each ≡ get_or equal_a (half / 1024 % 4) 0 → (v : ℕ) → (half % 1024 ≡ 0 → v ≡ 0) → v ≡ per_n 3 each (half % 1024) → v ≡ equal_in half
    a_in o e v z q =
        in_units v (omega arith) z
        (size_equal (half / 1024) (half % 1024) v (λ (k : half / 1024 / 32 % 2 ≡ 0). omega arith)
        (equal_a_lem (half / 1024 / 4 % 8) (half / 1024 % 4) (half % 1024) each v (omega arith) e q))

    b_in : half / 4096 ≡ 9 → each ≡ get_or equal_b (half / 1024 % 4) 0 → (v : ℕ) → (half % 1024 ≡ 0 → v ≡ 0) → v ≡ per_n 12 each (half % 1024) → v ≡ equal_in half
    b_in o e v z q =
        in_units v (omega arith) z
        (size_equal (half / 1024) (half % 1024) v (λ (k : half / 1024 / 32 % 2 ≡ 0). omega arith)
        (equal_b_lem (half / 1024 / 4 % 8) (half / 1024 % 4) (half % 1024) each v (λ (k : half / 1024 / 4 % 8 ≡ 0). omega arith) (omega arith) e q))

    pub half_a : each ≡ get_or equal_a (half / 1024 % 4) 0 → each ≤ 12 → (eqb (half / 4096) 8 && eqb (half % 1024 % 3) 0) ≡ true → (half % 1024 / 3 * each ≡ equal_in half) × (half % 1024 / 3 * each ≤ 4092)
    half_a e l t =
        let x = both (eqb (half / 4096) 8) (eqb (half % 1024 % 3) 0) t in (
          a_in (eqb-true _ _ x.0) e (half % 1024 / 3 * each) (λ (k : half % 1024 ≡ 0). rw k (zero-mul each)) (per_some 3 each (half % 1024) (eqb-true _ _ x.1)),
          part_le 12 341 each (half % 1024 / 3) l (omega arith),
        )

    pub half_b : each ≡ get_or equal_b (half / 1024 % 4) 0 → each ≤ 27 → (eqb (half / 4096) 9 && (eqb (half % 1024 % 3) 0 && eqb (half % 1024 / 3 % 4) 0)) ≡ true → (half % 1024 / 3 / 4 * each ≡ equal_in half) × (half % 1024 / 3 / 4 * each ≤ 4092)
    half_b e l t =
        let x = both (eqb (half / 4096) 9) (eqb (half % 1024 % 3) 0 && eqb (half % 1024 / 3 % 4) 0) t in
        let y = both (eqb (half % 1024 % 3) 0) (eqb (half % 1024 / 3 % 4) 0) x.1 in
        let p = eqb-true (half % 1024 % 3) 0 y.0 in
        let q = eqb-true (half % 1024 / 3 % 4) 0 y.1 in
        let d : half % 1024 / 3 / 4 ≡ half % 1024 / 12 = omega arith in (
          b_in (eqb-true _ _ x.0) e (half % 1024 / 3 / 4 * each) (λ (k : half % 1024 ≡ 0). rw k (zero-mul each)) (ap (λ (n : ℕ). n * each) d ∙ per_some 12 each (half % 1024) (omega arith)),
          omega (arith, part_le 27 85 each (half % 1024 / 3 / 4) l (omega arith)),
        )

  pub half_none : half < 65536 → (eqb (half / 4096) 8 && eqb (half % 1024 % 3) 0) ≡ false → (eqb (half / 4096) 9 && (eqb (half % 1024 % 3) 0 && eqb (half % 1024 / 3 % 4) 0)) ≡ false → 0 ≡ equal_in half
  unfolding equal_in
  half_none w s t = go (ltb half 32768) (eqb (half / 4096) 8) (eqb (half / 4096) 9) refl refl refl
    where
      go : (a b c : Bool) → ltb half 32768 ≡ a → eqb (half / 4096) 8 ≡ b → eqb (half / 4096) 9 ≡ c → 0 ≡ equal_in half
      go true b c x y z = rw x
      go false true c x y z =
          a_in (get_or equal_a (half / 1024 % 4) 0) (eqb-true (half / 4096) 8 y) refl 0 (λ k. refl)
          (per_none 3 (get_or equal_a (half / 1024 % 4) 0) (half % 1024) (eqb-false (half % 1024 % 3) 0 (other_false (eqb (half / 4096) 8) (eqb (half % 1024 % 3) 0) s y)))
      go false false true x y z =
          b_in (get_or equal_b (half / 1024 % 4) 0) (eqb-true (half / 4096) 9 z) refl 0 (λ k. refl)
          (per_none 12 (get_or equal_b (half / 1024 % 4) 0) (half % 1024) (apart (eqb (half % 1024 % 3) 0) refl (other_false (eqb (half / 4096) 9) (eqb (half % 1024 % 3) 0 && eqb (half % 1024 / 3 % 4) 0) t z)))
        where
          apart : (d : Bool) → eqb (half % 1024 % 3) 0 ≡ d → (eqb (half % 1024 % 3) 0 && eqb (half % 1024 / 3 % 4) 0) ≡ false → half % 1024 % 12 ≡ 0 → ⊥
          apart true e u k =
              let q : half % 1024 / 3 ≡ half % 1024 / 12 * 4 = omega arith in
              eqb-false (half % 1024 / 3 % 4) 0 (other_false (eqb (half % 1024 % 3) 0) (eqb (half % 1024 / 3 % 4) 0) u e) (ap (λ (n : ℕ). n % 4) q ∙ fours (half % 1024 / 12))
          apart false e u k = eqb-false (half % 1024 % 3) 0 e (omega arith)
      go false false false x y z =
          let h : 32768 ≤ half = ltb-false half 32768 x in
          let m = eqb-false (half / 4096) 8 y in
          let n = eqb-false (half / 4096) 9 z in
          in_units 0 h (λ k. refl)
          (size_equal (half / 1024) (half % 1024) 0 (λ (k : half / 1024 / 32 % 2 ≡ 0). omega arith)
          (equal_none (half / 1024 / 4 % 8) (half / 1024 % 4) (half % 1024) (λ (k : half / 1024 / 4 % 8 ≡ 0). m (omega arith)) (λ (k : half / 1024 / 4 % 8 ≡ 1). n (omega arith))))
