-- What demand 3 supposes can be met, its first part cannot promise more, and the definitions compute 01's cases.
-- Assumes nothing.
use Prim.Native.Nat.{ℕ, suc, ◌+◌, ◌-◌, ◌*◌, ◌/◌, ◌%◌, ◌≤◌, ◌<◌}
use mathlib.Core.Path.{◌≡◌, refl, sym, ◌∙◌}
use mathlib.Core.Bool.{Bool, true, false, not, ◌&&◌, ◌||◌}
use mathlib.Core.List.{[], ◌∷◌}
use native.Mathlib.Omega.{arith}
use lib.Dec.{eqb, leb}
use borrow.Author.Tests.{leb-true, eqb-true, eqb-false, le-leb, lt-leb, eq-eqb, ne_eqb}
use Rattle.frame.specs.declared.Header.{Header}
use Rattle.octets.specs.Choice.{pick}
use Rattle.octets.proofs.Deciding.{both}
use Rattle.refusals.specs.declared.Refusal.TheVariants.{Sync}
use Rattle.walk.specs.Walk.{Judged, Frame, Lost, Idle, Done, confirmed, live, item_at, keeps, look_locked, look_hunting, look, left, looks_in, looks, giving, items_of, items, rest_in, rest, step_by, step_in, step_of, calls, begin}
use Rattle.walk.specs.AnyJudging.{Ends}

turn : (x : ℕ) → eqb (suc x % 2) 0 ≡ not (eqb (x % 2) 0)
turn x = go (eqb (x % 2) 0) refl
  where
    go : (b : Bool) → eqb (x % 2) 0 ≡ b → eqb (suc x % 2) 0 ≡ not (eqb (x % 2) 0)
    go true e = rw e (ne_eqb (suc x % 2) 0 (λ w. omega (arith, eqb-true (x % 2) 0 e)))
    go false e = rw e (eq-eqb (suc x % 2) 0 (omega (arith, eqb-false (x % 2) 0 e)))

first_of : (a b : Bool) → b ≡ false → (a || b) ≡ true → a ≡ true
first_of true b f e = refl
first_of false b f e = sym f ∙ e

-- whatever headers reading gives
module _ (header : ℕ → Header) where
  -- THE SUPPOSITIONS CAN BE MET: n intact frames after a damaged bytes, of which any places stand with any sync words or are null transmissions, up to 6,144 bytes before the first frame
  abbrev pub damaged : ℕ → (ℕ → Bool) → (ℕ → Bool) → (ℕ → Bool) → ℕ → ℕ → Judged
  damaged limit stood nulled word a n =
      record {
        len = a + n * 6144;
        period = 6144;
        limit = limit;
        stands = λ q. pick (leb a q) (eqb ((q - a) % 6144) 0) (leb (q + 6144) a && stood q);
        null = λ q. leb (q + 6144) a && nulled q;
        sync = λ q. pick (leb a q) (eqb ((q - a) / 6144 % 2) 0) (word q);
        header = header;
        refusal = λ q. Sync;
      }

  pub damaged_ends : (limit : ℕ) (stood nulled word : ℕ → Bool) (a n : ℕ) → Ends (damaged limit stood nulled word a n) a n
  unfolding keeps
  damaged_ends limit stood nulled word a n =
      record {
        whole = refl;
        intact = λ i h. rw (le-leb a (a + i * 6144) (omega arith), eq-eqb ((a + i * 6144 - a) % 6144) 0 (omega arith));
        alternating = λ i h. rw (le-leb a (a + i * 6144) (omega arith), le-leb a (a + suc i * 6144) (omega arith), let q : (a + suc i * 6144 - a) / 6144 ≡ suc i = omega arith in q, let q : (a + i * 6144 - a) / 6144 ≡ i = omega arith in q) (turn i);
        alone = λ q z room e. go q z room (leb a q) refl (first_of _ _ (rw (lt-leb (q + 6144) a z)) e);
      }
    where
      go : (q : ℕ) → a < q + 6144 → q + 6144 ≤ a + n * 6144 → (b : Bool) → leb a q ≡ b → pick b (eqb ((q - a) % 6144) 0) (leb (q + 6144) a && stood q) ≡ true → (i : ℕ) × (i < n) × (q ≡ a + i * 6144)
      go q z room true l e =
          let h : a ≤ q = leb-true a q l in
          let w : (q - a) % 6144 ≡ 0 = eqb-true ((q - a) % 6144) 0 e in
          ((q - a) / 6144, omega arith, omega arith)
      go q z room false l e = absurd (omega (arith, leb-true (q + 6144) a (both (leb (q + 6144) a) (stood q) e).0))

  -- THE FIRST PART IS SHARP: two false frames at another phase before the intact ones, which begin at 12,388
  abbrev pub off_phase : ℕ → Judged
  off_phase n = damaged 3 (λ q. eqb (q % 6144) 0) (λ q. false) (λ q. eqb (q / 6144 % 2) 0) 12388 n

  pub off_phase_ends : (n : ℕ) → Ends (off_phase n) 12388 n
  off_phase_ends n = damaged_ends 3 (λ q. eqb (q % 6144) 0) (λ q. false) (λ q. eqb (q / 6144 % 2) 0) 12388 n

  -- of four intact frames the first two, at 12,388 and 18,532, are not handed out
  pub first_two_lost : items (off_phase 4) begin ≡ Frame 0 (header 0) ∷ Frame 6144 (header 6144) ∷ Lost 12288 Sync ∷ Lost 18432 Sync ∷ Lost 24576 Sync ∷ Frame 24676 (header 24676) ∷ Frame 30820 (header 30820) ∷ []
  unfolding items items_of giving looks looks_in left look look_locked look_hunting item_at keeps live confirmed
  first_two_lost = refl

  -- and of three none is, so that four must be asked for
  pub three_too_few : items (off_phase 3) begin ≡ Frame 0 (header 0) ∷ Frame 6144 (header 6144) ∷ Lost 12288 Sync ∷ Lost 18432 Sync ∷ Lost 24576 Sync ∷ []
  unfolding items items_of giving looks looks_in left look look_locked look_hunting item_at keeps live confirmed
  three_too_few = refl

  -- NO STRAY NULL TRANSMISSION MUST BE SUPPOSED TOO: the same record, but that 18,432 reads as one; it keeps the false lock past the third of four intact frames, which is at 24,676
  abbrev pub stray : Judged
  stray = let R = off_phase 4 in record { len = R.len; period = R.period; limit = R.limit; stands = R.stands; null = λ q. eqb q 18432; sync = R.sync; header = header; refusal = R.refusal }

  pub stray_null : items stray begin ≡ Frame 0 (header 0) ∷ Frame 6144 (header 6144) ∷ Lost 12288 Sync ∷ Idle 18432 ∷ Lost 24576 Sync ∷ Lost 30720 Sync ∷ []
  unfolding items items_of giving looks looks_in left look look_locked look_hunting item_at keeps live confirmed
  stray_null = refl

  -- SYNC WORDS THAT TAKE TURNS MUST BE SUPPOSED: four frames with one sync word and nothing else, in periods of four places so that it is short
  abbrev pub one_word : Judged
  one_word = record { len = 16; period = 4; limit = 3; stands = λ q. eqb (q % 4) 0; null = λ q. false; sync = λ q. true; header = header; refusal = λ q. Sync }

  pub never_confirmed : items one_word begin ≡ []
  unfolding items items_of giving looks looks_in left look look_locked look_hunting item_at keeps live confirmed
  never_confirmed = refl

  -- WITH LIMIT 1 one miss drops the lock, and of two intact frames at the end the first is handed out
  pub one_miss : items (damaged 1 (λ q. eqb (q % 6144) 0) (λ q. false) (λ q. eqb (q / 6144 % 2) 0) 12388 2) begin ≡ Frame 0 (header 0) ∷ Frame 6144 (header 6144) ∷ Lost 12288 Sync ∷ Frame 12388 (header 12388) ∷ Frame 18532 (header 18532) ∷ []
  unfolding items items_of giving looks looks_in left look look_locked look_hunting item_at keeps live confirmed
  one_miss = refl

  -- THE CASES OF 01: four frames, the third's sync word broken
  abbrev pub four : Judged
  four =
      record {
        len = 24576;
        period = 6144;
        limit = 3;
        stands = λ p. eqb p 0 || (eqb p 6144 || eqb p 18432);
        null = λ p. false;
        sync = λ p. eqb (p / 6144 % 2) 0;
        header = header;
        refusal = λ p. Sync;
      }

  pub listing : items four begin ≡ Frame 0 (header 0) ∷ Frame 6144 (header 6144) ∷ Lost 12288 Sync ∷ Frame 18432 (header 18432) ∷ []
  unfolding items items_of giving looks looks_in left look look_locked look_hunting item_at keeps live confirmed
  listing = refl

  pub listing_end : (rest four begin).place ≡ 24576
  unfolding rest rest_in looks looks_in left look look_locked look_hunting item_at keeps live confirmed
  listing_end = refl

  -- a record of one frame yields only done, at place 1
  abbrev pub one : Judged
  one = record { len = 6144; period = 6144; limit = 3; stands = λ p. eqb p 0; null = λ p. false; sync = λ p. true; header = header; refusal = λ p. Sync }

  pub one_frame : calls one 2 begin ≡ Done 1 ∷ Done 1 ∷ []
  unfolding calls step_of step_in step_by looks looks_in left look look_locked look_hunting item_at keeps live confirmed
  one_frame = refl
