-- Each cell of the coding array has a place of its own in the output array, and comes back from it.
-- Assumes nothing.
use mathlib.Core.Path.{◌≡◌, sym, ap, ◌∙◌}
use mathlib.Core.List.{List, []}
use Prim.Native.Nat.{ℕ, ◌+◌, ◌*◌, ◌/◌, ◌%◌, ◌<◌}
use native.Mathlib.Nat.{mod-lt, div-add-mod'}
use native.Mathlib.Omega.{arith}
use borrow.Author.Tests.{ne_eqb}
use lib.Arith.{digits_div, digits_mod}
use lib.Dec.{lit<}
use lib.ListN.{length, get_or}
use Rattle.array.specs.Listed.{list}
use Rattle.array.specs.CodingArray.{Parts, at}
use Rattle.array.specs.OutputArray.{interleaved, sent, place, received, row_at, column_at, output_at, array_row, array_of, Sent, Received}
use Rattle.array.proofs.Filling.{list_at, list_eq}

received_sent : (p : ℕ) → received (sent p) ≡ p
received_sent p = omega arith

-- superblock, column, and row of the superblock
super_of : (i j : ℕ) → j < 240 → interleaved i j / 1920 ≡ i / 8
super_of i j h = omega arith

column_of_lem : (i j : ℕ) → j < 240 → interleaved i j % 1920 / 8 ≡ j
column_of_lem i j h = omega arith

row_of : (i j : ℕ) → interleaved i j % 8 ≡ i % 8
row_of i j = omega arith

pub sent_at : (i j : ℕ) → i < 24 → j < 240 → Sent i j
unfolding place row_at column_at
sent_at i j h l =
    let e = received_sent (interleaved i j) in
    record {
      inside = omega arith;
      between = omega arith;
      row = rw (e, super_of i j l, row_of i j) (div-add-mod' i 8);
      column = rw e (column_of_lem i j l);
    }

received_lt : (q : ℕ) → q < 6144 → (q % 16 ≡ 0 → ⊥) → received q < 5760
received_lt q h f = omega arith

sent_received : (q : ℕ) → (q % 16 ≡ 0 → ⊥) → sent (received q) ≡ q
sent_received q f = omega arith

interleaved_back : (p : ℕ) → interleaved (p / 1920 * 8 + p % 8) (p % 1920 / 8) ≡ p
interleaved_back p =
    let k : p % 8 < 8 = mod-lt p (lit< tt) in
    rw (digits_div (p / 1920) k, digits_mod (p / 1920) k) (omega arith)

pub received_at : (q : ℕ) → q < 6144 → (q % 16 ≡ 0 → ⊥) → Received q
unfolding place row_at column_at
received_at q h f =
    let p = received q in
    let l = received_lt q h f in
    record {
      row = let e : p / 1920 < 3 = omega arith in omega arith;
      column = omega arith;
      back = ap sent (interleaved_back p) ∙ sent_received q f;
    }

-- a coding array: 24 rows of 240
pub record Array (c : List (List ℕ)) : Type 0 where
  pub rows : length c ≡ 24
  pub columns : (i : ℕ) → i < 24 → length (get_or c i []) ≡ 240

pub output_at_lem : (p : Parts) (c : List (List ℕ)) (i j : ℕ) → i < 24 → j < 240 → output_at p c (place i j) ≡ at c i j
unfolding output_at
output_at_lem p c i j h l =
    let s = sent_at i j h l in
    let q = place i j in
    let f : (q % 32 ≡ 0) → ⊥ = λ z. s.between (omega arith) in
    let g : (q % 32 ≡ 16) → ⊥ = λ z. s.between (omega arith) in
    rw (ne_eqb (q % 32) 0 f, ne_eqb (q % 32) 16 g, s.row, s.column)

-- what stands in the coding array of an output array
pub array_of_at : (o : List ℕ) (i j : ℕ) → i < 24 → j < 240 → at (array_of o) i j ≡ get_or o (place i j) 0
unfolding array_of array_row
array_of_at o i j h l =
    ap (λ (r : List ℕ). get_or r j 0) (list_at (array_row o) [] 24 i h) ∙ list_at (λ j. get_or o (place i j) 0) 0 240 j l

-- out and back: the coding array
pub array_back : (p : Parts) (c : List (List ℕ)) → Array c → array_of (list (output_at p c) 6144) ≡ c
unfolding array_of array_row
array_back p c a =
    let o = list (output_at p c) 6144 in
    let f : ℕ → ℕ → ℕ = λ i j. get_or o (place i j) 0 in
    let cell : (i j : ℕ) → i < 24 → j < 240 → f i j ≡ at c i j =
    λ i j h l. list_at (output_at p c) 0 6144 (place i j) (sent_at i j h l).inside ∙ output_at_lem p c i j h l in
    let same : (i : ℕ) → i < 24 → get_or c i [] ≡ list (f i) 240 =
    λ i h. list_eq (f i) 0 (get_or c i []) (λ j l. sym (cell i j h (rw (← a.columns i h) l))) ∙ ap (list (f i)) (a.columns i h) in
    sym (list_eq (λ i. list (f i) 240) [] c (λ i h. same i (rw (← a.rows) h)) ∙ ap (list (λ i. list (f i) 240)) a.rows)
