-- Marks of SCIDs, one stream more at a time.
-- Assumes nothing.
use mathlib.Core.Bool.{Bool, true, false, ◌||◌}
use mathlib.Core.List.{List, [], ◌∷◌, ◌++◌}
use mathlib.Core.Path.{◌≡◌, refl, sym, subst, ◌∙◌}
use Prim.Native.Nat.{ℕ, ◌+◌, ◌/◌, ◌%◌, ◌<◌}
use native.Mathlib.Omega.{arith}
use borrow.Author.Tests.{lt-ltb, le-ltb, ltb-true, ltb-false, eqb-true, eqb-false}
use lib.Dec.{eqb, ltb}
use lib.ListN.{length, get_or, set, replicate, get_or-replicate}
use lib.Seq.{get_or-set_same, get_or-set_other}
use Rattle.std.proofs.lemmas.List.Sums.{sum_by-set}
use Rattle.std.proofs.lemmas.List.Folds.{sum_by-replicate}
use Rattle.octets.specs.Choice.{pick}
use Rattle.octets.proofs.Deciding.{or-false}
use Rattle.places.specs.declared.Place.{Place}
use Rattle.places.specs.Places.{some, some_pair, same_scid}
use Rattle.profile.specs.ProfileClauses.{place_by, laid_to, total, Tallied}
use Rattle.profile.proofs.Pairs.{some_snoc, pair_snoc}
use Rattle.profile.proofs.Tables.{laid_more}

-- one mark set: one more, unless it was
total_set : (marks : List Bool) (k : ℕ) (b : Bool) → k < length marks → get_or marks k false ≡ b → total (set marks k true) + pick b 1 0 ≡ total marks + 1
total_set marks k b l e =
    subst (λ (x : Bool). total (set marks k true) + pick x 1 0 ≡ total marks + 1) e (sum_by-set (λ (x : Bool). pick x 1 0) marks k true false l)

pub tallied_none : Tallied (replicate 64 false) 0 []
unfolding some some_pair
tallied_none =
    record {
      marks_of = λ (k : ℕ) (l : k < 64). get_or-replicate {A = Bool} 64 k false false l;
      at_most = omega (arith, sum_by-replicate (λ (x : Bool). pick x 1 0) 64 false);
      fewer = le-ltb (total (replicate 64 false)) 0 (omega arith);
    }

module _ (marks : List Bool) (i : ℕ) (ps : List Place) (p : Place) (e : length marks ≡ 64) (h : p.scid < 64) (y : Tallied marks i ps) where
  marks_more : (k : ℕ) → k < 64 → get_or (set marks p.scid true) k false ≡ some (λ (q : Place). eqb q.scid k) (ps ++ (p ∷ []))
  marks_more k l = rw (some_snoc (λ (q : Place). eqb q.scid k) ps p) (go (eqb p.scid k) refl)
    where
      go : (b : Bool) → eqb p.scid k ≡ b → get_or (set marks p.scid true) k false ≡ (some (λ (q : Place). eqb q.scid k) ps || eqb p.scid k)
      go true d =
          let w : get_or (set marks p.scid true) k false ≡ true = rw (← eqb-true p.scid k d) (get_or-set_same marks p.scid true false (omega arith)) in
          rw (d, w) (yes (some (λ (q : Place). eqb q.scid k) ps))
        where
          yes : (b : Bool) → true ≡ (b || true)
          yes true = refl
          yes false = refl
      go false d =
          rw (d, get_or-set_other marks p.scid k true false (λ (z : k ≡ p.scid). eqb-false p.scid k d (sym z)), or-false (some (λ (q : Place). eqb q.scid k) ps)) (y.marks_of k l)

  pub tallied_more : Tallied (set marks p.scid true) (i + 1) (ps ++ (p ∷ []))
  unfolding same_scid
  tallied_more = go (some (λ (q : Place). eqb q.scid p.scid) ps) refl
    where
      go : (b : Bool) → some (λ (q : Place). eqb q.scid p.scid) ps ≡ b → Tallied (set marks p.scid true) (i + 1) (ps ++ (p ∷ []))
      go true d =
          let t = total_set marks p.scid true (omega arith) (y.marks_of p.scid h ∙ d) in
          record {
            marks_of = marks_more;
            at_most = omega (arith, t, y.at_most);
            fewer = rw (pair_snoc same_scid ps p, d, lt-ltb (total (set marks p.scid true)) (i + 1) (omega (arith, t, y.at_most))) (yes (some_pair same_scid ps));
          }
        where
          yes : (b : Bool) → true ≡ (b || true)
          yes true = refl
          yes false = refl
      go false d =
          let t₀ = total_set marks p.scid false (omega arith) (y.marks_of p.scid h ∙ d) in
          let t : total (set marks p.scid true) ≡ total marks + 1 = omega (arith, t₀) in
          record {
            marks_of = marks_more;
            at_most = omega (arith, t, y.at_most);
            fewer = rw (pair_snoc same_scid ps p, d, t, or-false (some_pair same_scid ps)) (both_more (total marks) i ∙ y.fewer);
          }
        where
          both_more : (a b : ℕ) → ltb (a + 1) (b + 1) ≡ ltb a b
          both_more a b = step (ltb a b) refl
            where
              step : (c : Bool) → ltb a b ≡ c → ltb (a + 1) (b + 1) ≡ c
              step true x = lt-ltb (a + 1) (b + 1) (omega (arith, ltb-true a b x))
              step false x = le-ltb (a + 1) (b + 1) (omega (arith, ltb-false a b x))

pub tallied_on : (highs lows : List ℕ) (marks : List Bool) (i : ℕ) → length marks ≡ 64 → Tallied marks i (laid_to highs lows i) → Tallied (set marks (get_or highs i 0 / 1024 % 64) true) (i + 1) (laid_to highs lows (i + 1))
tallied_on highs lows marks i e y =
    rw (laid_more highs lows i) (tallied_more marks i (laid_to highs lows i) (place_by (get_or highs i 0) (get_or lows i 0)) e (omega arith) y)
