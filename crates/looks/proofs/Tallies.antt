-- The tests of one look or more, as the code counts them.
-- Assumes nothing.
use Prim.Native.Nat.{ℕ, zero, suc, ◌+◌, ◌-◌, ◌*◌, ◌≤◌, ◌<◌}
use mathlib.Core.Path.{◌≡◌, refl, sym, ap, subst, ◌∙◌}
use mathlib.Core.Bool.{true, false, and-false}
use mathlib.Core.List.{List, [], ◌∷◌}
use native.Mathlib.Omega.{arith}
use lib.Dec.{lit<, eqb}
use lib.ListN.{length}
use borrow.Author.Tests.{eq-eqb, ne_eqb, le-leb, lt-leb, lt-ltb, le-ltb}
use Rattle.octets.proofs.Deciding.{clash}
use Rattle.frame.specs.Rules.{refusal_of}
use Rattle.walk.specs.declared.Position.{Position}
use Rattle.walk.specs.Walk.{Judged, confirmed, live, keeps, look_locked, look_hunting, look, hunting, locked, begin}
use Rattle.walk.specs.Records.{part, judged, NoneStands, limit_refusal_of}
use Rattle.walk.proofs.Limits.{allowed_is, number_allowed, number_outside}
use Rattle.walk.proofs.Stepping.{unconfirmed, no_second, as_locked, as_hunting}
use Rattle.std.specs.Prelude.{Ok, Err}
use Rattle.refusals.specs.declared.Refusal.{Refusal}
use Rattle.refusals.specs.Refusals.{refusal_number}
use Rattle.refusals.proofs.Numbers.{above_zero}
use Rattle.walk.proofs.ByRules.{further, by_rules}
use Rattle.looks.specs.declared.Tally.{Tally}
use Rattle.looks.specs.Testing.{tests_at, tests_from, tests_of, CountsTests}
use Rattle.looks.specs.CountClauses.{tally, Counts}
use Rattle.looks.proofs.Bounds.{tests_live, tests_none, most_tests}

zero_is : (x : ℕ) → x ≡ 0 + x
zero_is x = omega arith

module _ (limit : ℕ) (bytes : List ℕ) where
  abbrev R : Judged
  R = judged limit bytes

  -- ---- one look
  live_hunting : (p k : ℕ) → p + 6144 ≤ length bytes → live R (hunting p k) ≡ true
  unfolding live judged
  live_hunting p k h = rw (le-leb (p + 6144) (length bytes) h)

  live_locked : (p k : ℕ) → p + 6144 ≤ length bytes → k < limit → live R (locked p k) ≡ true
  unfolding live judged
  live_locked p k h b = rw (le-leb (p + 6144) (length bytes) h, lt-leb limit k b)

  passes : (p k : ℕ) → confirmed R p ≡ false → (look R (hunting p k)).goes ≡ hunting (p + 1) k
  unfolding look look_hunting
  passes p k e = rw e

  takes : (p k : ℕ) → confirmed R p ≡ true → (look R (hunting p k)).goes ≡ locked (p + 6144) 0
  unfolding look look_hunting judged
  takes p k e = rw e

  keeps_lock : (p k : ℕ) → keeps R p ≡ true → (look R (locked p k)).goes ≡ locked (p + 6144) 0
  unfolding look look_locked judged
  keeps_lock p k e = rw e

  misses_one : (p k : ℕ) → keeps R p ≡ false → k + 1 < limit → (look R (locked p k)).goes ≡ locked (p + 6144) (k + 1)
  unfolding look look_locked judged
  misses_one p k e h = rw (e, lt-ltb (k + 1) limit h)

  loses_lock : (p k : ℕ) → keeps R p ≡ false → limit ≤ k + 1 → (look R (locked p k)).goes ≡ hunting (p + 1) (k + 1)
  unfolding look look_locked judged
  loses_lock p k e h = rw (e, le-ltb (k + 1) limit h)

  -- what keeps a lock
  frame_keeps : (p : ℕ) → refusal_of (part bytes p) ≡ 0 → keeps R p ≡ true
  unfolding keeps judged
  frame_keeps p e = rw e

  null_keeps : (p : ℕ) → refusal_of (part bytes p) ≡ 4 → keeps R p ≡ true
  unfolding keeps judged
  null_keeps p e = rw e

  none_keeps : (p : ℕ) → (refusal_of (part bytes p) ≡ 0 → ⊥) → (refusal_of (part bytes p) ≡ 4 → ⊥) → keeps R p ≡ false
  unfolding keeps judged
  none_keeps p y z = rw (ne_eqb (refusal_of (part bytes p)) 0 y, ne_eqb (refusal_of (part bytes p)) 4 z)

  -- the tests of a look
  tests_refused : (p k : ℕ) → (refusal_of (part bytes p) ≡ 0 → ⊥) → tests_at R (hunting p k) ≡ 1
  unfolding tests_at judged
  tests_refused p k z = rw (ne_eqb (refusal_of (part bytes p)) 0 z)

  tests_last : (p k : ℕ) → length bytes < p + 6144 + 6144 → tests_at R (hunting p k) ≡ 1
  unfolding tests_at judged
  tests_last p k h = rw (lt-leb (p + 6144 + 6144) (length bytes) h, and-false (eqb (refusal_of (part bytes p)) 0))

  tests_both : (p k : ℕ) → refusal_of (part bytes p) ≡ 0 → p + 6144 + 6144 ≤ length bytes → tests_at R (hunting p k) ≡ 2
  unfolding tests_at judged
  tests_both p k z h = rw (eq-eqb (refusal_of (part bytes p)) 0 z, le-leb (p + 6144 + 6144) (length bytes) h)

  tests_lock : (p k : ℕ) → tests_at R (locked p k) ≡ 1
  unfolding tests_at
  tests_lock p k = refl

  one_look : (s t : Position) (n : ℕ) → live R s ≡ true → tests_at R s ≡ n → (look R s).goes ≡ t → tests_from R s ≡ n + tests_from R t
  unfolding judged
  one_look s t n e a g = tests_live R (lit< tt) s e ∙ (rw (a, g))

  -- ---- places that do not stand are counted by their distance
  over_in : (n p q k : ℕ) → q ≡ p + n → NoneStands bytes p q → tests_from R (hunting p k) ≡ n + tests_from R (hunting q k)
  over_in zero p q k e m = let y : q ≡ p = omega arith in rw y (zero_is (tests_from R (hunting p k)))
  over_in (suc n) p q k e m =
      let bad = m.refused p (omega arith) (omega arith) in
      let a = one_look (hunting p k) (hunting (p + 1) k) 1 (live_hunting p k (m.room p (omega arith) (omega arith))) (tests_refused p k bad) (passes p k (sym (unconfirmed limit bytes p (refusal_of (part bytes p)) refl bad))) in
      let b = over_in n (p + 1) q k (omega arith) (record { ahead = omega arith; room = λ i x y. m.room i (omega arith) y; refused = λ i x y. m.refused i (omega arith) y }) in
      omega arith

  over : (p q k : ℕ) → NoneStands bytes p q → tests_from R (hunting p k) ≡ q - p + tests_from R (hunting q k)
  over p q k m = over_in (q - p) p q k (omega (arith, m.ahead)) m

  -- ---- what the code counts while hunting
  module _ (p q k : ℕ) (m : NoneStands bytes p q) (w : Position) where
    pub over_end : p + 6144 ≤ length bytes → length bytes < q + 6144 → w ≡ hunting q k → Counts limit bytes (hunting p k) (tally (q - p) w)
    over_end h l e = rw e (record { same = over p q k m; moves = omega arith; fresh = λ z. clash (sym z) })

    module _ (room : q + 6144 ≤ length bytes) where
      to_look : (j : ℕ) (t : Position) → tests_at R (hunting q k) ≡ j → (look R (hunting q k)).goes ≡ t → q < t.place → (t.lock ≡ true → t.misses < limit) → Counts limit bytes (hunting p k) (tally (q - p + j) t)
      to_look j t a g h f =
          let x = over p q k m in
          let y = one_look (hunting q k) t j (live_hunting q k room) a g in
          record { same = omega arith; moves = omega (arith, m.ahead); fresh = f }

      pub over_refused : (refusal_of (part bytes q) ≡ 0 → ⊥) → w ≡ hunting (q + 1) k → Counts limit bytes (hunting p k) (tally (q - p + 1) w)
      over_refused z e = rw e (to_look 1 (hunting (q + 1) k) (tests_refused q k z) (passes q k (sym (unconfirmed limit bytes q (refusal_of (part bytes q)) refl z))) (omega arith) (λ x. clash (sym x)))

      pub over_last : length bytes < q + 6144 + 6144 → w ≡ hunting (q + 1) k → Counts limit bytes (hunting p k) (tally (q - p + 1) w)
      over_last h e = rw e (to_look 1 (hunting (q + 1) k) (tests_last q k h) (passes q k (sym (no_second limit bytes q h))) (omega arith) (λ x. clash (sym x)))

      module _ (z : refusal_of (part bytes q) ≡ 0) (h : q + 6144 + 6144 ≤ length bytes) where
        pub over_both : confirmed R q ≡ false → w ≡ hunting (q + 1) k → Counts limit bytes (hunting p k) (tally (q - p + 2) w)
        over_both c e = rw e (to_look 2 (hunting (q + 1) k) (tests_both q k z h) (passes q k c) (omega arith) (λ x. clash (sym x)))

        pub over_taken : 0 < limit → confirmed R q ≡ true → w ≡ locked (q + 6144) 0 → Counts limit bytes (hunting p k) (tally (q - p + 2) w)
        over_taken b c e = rw e (to_look 2 (locked (q + 6144) 0) (tests_both q k z h) (takes q k c) (omega arith) (λ x. b))

  -- ---- and in lock
  module _ (p k : ℕ) where
    pub lock_frame : refusal_of (part bytes p) ≡ 0 → locked (p + 6144) 0 ≡ (look R (locked p k)).goes
    lock_frame z = sym (keeps_lock p k (frame_keeps p z))

    pub lock_null : refusal_of (part bytes p) ≡ 4 → locked (p + 6144) 0 ≡ (look R (locked p k)).goes
    lock_null z = sym (keeps_lock p k (null_keeps p z))

    module _ (r : Refusal) (e : refusal_number r ≡ refusal_of (part bytes p)) (z : refusal_number r ≡ 4 → ⊥) where
      lost : keeps R p ≡ false
      lost = none_keeps p (λ q. above_zero r (e ∙ q)) (λ q. z (e ∙ q))

      pub lock_missed : k + 1 < limit → locked (p + 6144) (k + 1) ≡ (look R (locked p k)).goes
      lock_missed h = sym (misses_one p k lost h)

      pub lock_lost : limit ≤ k + 1 → hunting (p + 1) (k + 1) ≡ (look R (locked p k)).goes
      lock_lost h = sym (loses_lock p k lost h)

  -- in lock the misses stay below the limit
  below : 0 < limit → (s : Position) → (look R s).goes.lock ≡ true → (look R s).goes.misses < limit
  unfolding judged
  below h = by_rules R (λ s l. l.goes.lock ≡ true → l.goes.misses < limit) (λ p k e z. h) (λ p k e b z. b) (λ p k e z. clash (sym z)) (λ p k e z. h) (λ p k z. clash (sym z))

  -- one look in lock puts one test
  pub one_locked : (s : Position) → s.lock ≡ true → s.place + 6144 ≤ length bytes → s.misses < limit → (w : Position) → w ≡ (look R (locked s.place s.misses)).goes → Counts limit bytes s (tally 1 w)
  unfolding judged
  one_locked s l room few w e =
      subst (λ (t : Position). Counts limit bytes t (tally 1 w)) (as_locked s l)
      (record {
        same = one_look (locked s.place s.misses) w 1 (live_locked s.place s.misses room few) (tests_lock s.place s.misses) (sym e);
        moves = rw e (further R (lit< tt) (locked s.place s.misses));
        fresh = rw e (below (omega arith) (locked s.place s.misses));
      })

  pub of_hunting : (s : Position) (r : Tally) → s.lock ≡ false → Counts limit bytes (hunting s.place s.misses) r → Counts limit bytes s r
  of_hunting s r e c = subst (λ (t : Position). Counts limit bytes t r) (as_hunting s e) c

  -- ---- the walk so far: so many tests are put, and the rest is to come
  pub record Sofar (s : Position) (n : ℕ) : Type 0 where
    pub sum : tests_of limit bytes ≡ n + tests_from R s
    pub fresh : s.lock ≡ true → s.misses < limit

  pub begins : Sofar begin 0
  unfolding tests_of
  begins = record { sum = zero_is (tests_from R begin); fresh = λ z. clash (sym z) }

  module _ (s : Position) (n : ℕ) (o : Sofar s n) where
    pub ends : length bytes < s.place + 6144 → n ≡ tests_of limit bytes
    unfolding judged
    ends h = omega (arith, o.sum, tests_none R (lit< tt) s h)

    module _ (r : Tally) (c : Counts limit bytes s r) where
      pub adds : Sofar r.position (n + r.tests)
      adds = record { sum = omega (arith, o.sum, c.same); fresh = c.fresh }

      pub few_put : n + r.tests ≤ 2 * (length bytes - 6143)
      few_put = omega (arith, o.sum, c.same, most_tests limit bytes)

-- ---- the answer
module _ (limit : ℕ) (bytes : List ℕ) where
  pub answer_refused : (n : Refusal) → refusal_number n ≡ limit_refusal_of limit → CountsTests limit bytes (Err n)
  answer_refused n e = record { number = e; values = rw (number_outside limit (λ z. above_zero n (e ∙ z))) refl }

  pub answer_tests : limit_refusal_of limit ≡ 0 → (t : ℕ) → t ≡ tests_of limit bytes → CountsTests limit bytes (Ok t)
  answer_tests z t w = record { number = sym z; values = rw (number_allowed limit z) (ap (λ (k : ℕ). k ∷ []) w) }

  pub positive : limit_refusal_of limit ≡ 0 → 0 < limit
  positive z = (allowed_is limit (number_allowed limit z)).0
