-- The tests of a walk: none below a period, at most twice the places, and better bounds.
-- Assumes nothing.
use Prim.Native.Nat.{ℕ, zero, suc, ◌+◌, ◌-◌, ◌*◌, ◌≤◌, ◌<◌}
use mathlib.Core.Path.{◌≡◌, refl, ap, ◌∙◌}
use mathlib.Core.Bool.{Bool, true, false, ◌&&◌, and-false}
use mathlib.Core.List.{List, [], ◌∷◌}
use native.Mathlib.Omega.{arith}
use native.Mathlib.Decide.{dec_le}
use lib.Dec.{lit<, leb}
use lib.ListN.{length}
use borrow.Author.Tests.{le-leb, lt-leb, leb-true}
use Rattle.octets.specs.Choice.{pick}
use Rattle.octets.proofs.Deciding.{both}
use Rattle.frame.specs.declared.Header.{Header}
use Rattle.walk.specs.declared.Position.{Position}
use Rattle.walk.specs.Walk.{Judged, fits, confirmed, live, look_hunting, look, looks, hunting, begin}
use Rattle.walk.specs.Records.{judged}
use Rattle.walk.proofs.ByRules.{live_fits, further}
use Rattle.walk.proofs.Looks.{looks_dead, looks_live, walk_ind}
use Rattle.walk.proofs.Ending.{looks_bounded}
use Rattle.looks.specs.Testing.{tests_at, tests_in, tests_from, tests_of, all_alike}

module _ (R : Judged) where
  -- a look puts one test, or two where its place stands and the bytes of the confirming place exist
  pub by_tests : (Q : ℕ → Type 0) (s : Position) → Q 1 → (R.stands s.place ≡ true → s.place + R.period + R.period ≤ R.len → Q 2) → Q (tests_at R s)
  unfolding tests_at
  by_tests Q s one two = go s.lock (R.stands s.place && fits R (s.place + R.period)) refl
    where
      go : (a b : Bool) → (R.stands s.place && fits R (s.place + R.period)) ≡ b → Q (pick a 1 (pick b 2 1))
      go true b e = one
      go false true e = let p = both (R.stands s.place) _ e in two p.0 (leb-true (s.place + R.period + R.period) R.len p.1)
      go false false e = one

  two : (s : Position) → tests_at R s ≤ 2
  two s = by_tests (λ n. n ≤ 2) s (omega arith) (λ e h. omega arith)

  twice : (l : List Position) → tests_in R l ≤ 2 * length l
  unfolding tests_in
  twice [] = omega arith
  twice (s ∷ l) = omega (arith, two s, twice l)

module _ (R : Judged) (positive : 0 < R.period) where
  -- the equations
  pub tests_dead : (s : Position) → live R s ≡ false → tests_from R s ≡ 0
  unfolding tests_from tests_in
  tests_dead s e = ap (tests_in R) (looks_dead R positive s e)

  pub tests_live : (s : Position) → live R s ≡ true → tests_from R s ≡ tests_at R s + tests_from R (look R s).goes
  unfolding tests_from tests_in
  tests_live s e = ap (tests_in R) (looks_live R positive s e)

  -- THE BOUND, whatever the limit
  pub tests_most : (s : Position) → tests_from R s ≤ 2 * (suc R.len - (s.place + R.period))
  unfolding tests_from
  tests_most s = omega (arith, twice R (looks R s), looks_bounded R positive s)

  pub tests_none : (s : Position) → R.len < s.place + R.period → tests_from R s ≡ 0
  tests_none s h = omega (arith, tests_most s)

  -- THE BEST BOUND that holds of any judging: a confirming place is tested only where its bytes exist
  abbrev Best : Position → Type 0
  Best s = tests_from R s ≤ suc R.len - (s.place + R.period) + (suc R.len - (s.place + R.period + R.period))

  pub tests_best : (s : Position) → tests_from R s ≤ suc R.len - (s.place + R.period) + (suc R.len - (s.place + R.period + R.period))
  tests_best = walk_ind R positive Best (λ s e. omega (arith, tests_dead s e)) alive
    where
      alive : (s : Position) → live R s ≡ true → Best (look R s).goes → Best s
      alive s e ih =
          by_tests R (λ n. tests_at R s ≡ n → Best s) s
          (λ q. omega (arith, tests_live s e, further R positive s, live_fits R s e))
          (λ z h q. omega (arith, tests_live s e, further R positive s, live_fits R s e)) refl

  -- A BOUND WHERE NO TWO PLACES THAT STAND ARE LESS THAN FOUR APART: one test more for each four confirming places
  module _ (apart : (p q : ℕ) → R.stands p ≡ true → R.stands q ≡ true → p < q → p + 4 ≤ q) where
    -- the next d places do not stand
    abbrev Free : ℕ → ℕ → Type 0
    Free p d = (q : ℕ) → p ≤ q → q < p + d → R.stands q ≡ true → ⊥

    abbrev Few : Position → Type 0
    Few s = (d n : ℕ) → Free s.place d → suc R.len - (s.place + R.period + R.period) ≤ d + 4 * n → tests_from R s ≤ suc R.len - (s.place + R.period) + n

    few : (s : Position) → Few s
    few = walk_ind R positive Few (λ s e d n f h. omega (arith, tests_dead s e)) alive
      where
        once : (s : Position) → live R s ≡ true → Few (look R s).goes → tests_at R s ≡ 1 → Few s
        once s e ih t d n f h =
            let g = further R positive s in
            let i = ih (d - ((look R s).goes.place - s.place)) n (λ q a b. f q (omega arith) (omega arith)) (omega arith) in
            omega (arith, tests_live s e, live_fits R s e)

        more : (s : Position) → live R s ≡ true → Few (look R s).goes → R.stands s.place ≡ true → s.place + R.period + R.period ≤ R.len → tests_at R s ≡ 2 → (d n : ℕ) → Dec (1 ≤ d) → Free s.place d → suc R.len - (s.place + R.period + R.period) ≤ d + 4 * n → tests_from R s ≤ suc R.len - (s.place + R.period) + n
        more s e ih z r t d n (yes l) f h = absurd (f s.place (omega arith) (omega arith) z)
        more s e ih z r t d zero (no l) f h = absurd (omega arith)
        more s e ih z r t d (suc n) (no l) f h =
            let g = further R positive s in
            let i = ih (4 - ((look R s).goes.place - s.place)) n (λ q a b y. omega (arith, apart s.place q z y (omega arith))) (omega arith) in
            omega (arith, tests_live s e, live_fits R s e)

        alive : (s : Position) → live R s ≡ true → Few (look R s).goes → Few s
        alive s e ih = by_tests R (λ k. tests_at R s ≡ k → Few s) s (once s e ih) (λ z r t d n. more s e ih z r t d n (dec_le 1 d)) refl

    pub tests_few : (s : Position) (n : ℕ) → suc R.len - (s.place + R.period + R.period) ≤ 4 * n → tests_from R s ≤ suc R.len - (s.place + R.period) + n
    tests_few s n h = few s 0 n (λ q a b. absurd (omega arith)) (omega arith)

-- OF A RECORD, with any limit: zero below 6,144 bytes, and else at most twice (length - 6,143)
module _ (m : ℕ) (bytes : List ℕ) where
  pub no_tests : length bytes < 6144 → tests_of m bytes ≡ 0
  unfolding tests_of judged
  no_tests h = tests_none (judged m bytes) (lit< tt) begin (omega arith)

  pub most_tests : tests_of m bytes ≤ 2 * (length bytes - 6143)
  unfolding tests_of judged
  most_tests = omega (arith, tests_most (judged m bytes) (lit< tt) begin)

  pub best_tests : tests_of m bytes ≤ length bytes - 6143 + (length bytes - 12287)
  unfolding tests_of judged
  best_tests = omega (arith, tests_best (judged m bytes) (lit< tt) begin)

-- JUDGED PLACES THAT MEET the best bound: each stands, all with one sync word
module _ (len limit : ℕ) (header : ℕ → Header) where
  abbrev R : Judged
  R = all_alike len limit header

  live_here : (p k : ℕ) → p + 6144 ≤ len → live R (hunting p k) ≡ true
  unfolding live all_alike
  live_here p k h = rw (le-leb (p + 6144) len h)

  goes_on : (p k : ℕ) → (look R (hunting p k)).goes ≡ hunting (p + 1) k
  unfolding look look_hunting confirmed all_alike
  goes_on p k = rw (and-false (leb (p + 6144 + 6144) len))

  two_tests : (p k : ℕ) → p + 6144 + 6144 ≤ len → tests_at R (hunting p k) ≡ 2
  unfolding tests_at all_alike
  two_tests p k h = rw (le-leb (p + 6144 + 6144) len h)

  one_test : (p k : ℕ) → len < p + 6144 + 6144 → tests_at R (hunting p k) ≡ 1
  unfolding tests_at all_alike
  one_test p k h = rw (lt-leb (p + 6144 + 6144) len h)

  on : (p k : ℕ) → p + 6144 ≤ len → tests_from R (hunting p k) ≡ tests_at R (hunting p k) + tests_from R (hunting (p + 1) k)
  unfolding all_alike
  on p k h = tests_live R (lit< tt) (hunting p k) (live_here p k h) ∙ ap (λ (t : Position). tests_at R (hunting p k) + tests_from R t) (goes_on p k)

  at_end : (p k : ℕ) → len < p + 6144 → tests_from R (hunting p k) ≡ 0
  unfolding all_alike
  at_end p k h = tests_none R (lit< tt) (hunting p k) h

  met : (n p k : ℕ) → n ≡ suc len - (p + 6144) → tests_from R (hunting p k) ≡ n + (suc len - (p + 6144 + 6144))
  met zero p k e = omega (arith, at_end p k (omega arith))
  met (suc n) p k e = go (dec_le (p + 6144 + 6144) len) (met n (p + 1) k (omega arith))
    where
      go : Dec (p + 6144 + 6144 ≤ len) → tests_from R (hunting (p + 1) k) ≡ n + (suc len - (p + 1 + 6144 + 6144)) → tests_from R (hunting p k) ≡ suc n + (suc len - (p + 6144 + 6144))
      go (yes l) ih = omega (arith, on p k (omega arith), two_tests p k l)
      go (no l) ih = omega (arith, on p k (omega arith), one_test p k (omega arith))

  pub best_met : tests_from R begin ≡ len - 6143 + (len - 12287)
  best_met = omega (arith, met (suc len - 6144) 0 0 (omega arith))
