-- What demand 3 supposes is met by records of bytes: any damaged bytes of which the last 6,142 begin no sync word, then any number of intact frames.
-- Assumes nothing.
use Prim.Native.Nat.{ℕ, zero, suc, ◌+◌, ◌-◌, ◌*◌, ◌/◌, ◌%◌, ◌≤◌, ◌<◌}
use mathlib.Core.Path.{◌≡◌, refl, sym, ap, subst, ◌∙◌}
use mathlib.Core.Bool.{Bool, true, false, not, ◌&&◌, ◌||◌}
use mathlib.Core.List.{List, [], ◌∷◌, ◌++◌, map}
use mathlib.Core.Logic.{inl, inr}
use native.Mathlib.Omega.{arith}
use lib.Dec.{lit<, eqb, ltb}
use lib.ListN.{length, get_or, replicate, length-append, length-replicate, get_or-append}
use lib.Seq.{take_at, drop-append-add}
use borrow.Author.Tests.{ltb-true, ltb-false, not-true}
use Rattle.octets.proofs.Deciding.{both}
use Rattle.sum.specs.Sum.{sum_of, bit}
use Rattle.frame.specs.Frame.{err_of, fsync_of, fct_of, ficf_of, nst_of, mid_of, fl_of, ficl_by, streams_to, stl_total, header_sum_of}
use Rattle.frame.specs.Rules.{some_stl_above, refusal_of}
use Rattle.frame.specs.Writing.{Bytes}
use Rattle.frame.proofs.Places.{OneFsync}
use Rattle.frame.proofs.Accepting.{acceptable}
use Rattle.frame.specs.Answers.{header_for}
use Rattle.walk.specs.Records.{part, start, calls_at}
use Rattle.walk.specs.Demand3.{Keeping, EndsIn, out_of, out_since, frames_out, done_out}
use Rattle.walk.proofs.OverBytes.{demand_3_first}
use Rattle.periods.proofs.Marks.{byte_is, synced_marked}

-- THE RECORD
-- what follows the sync word: FCT 0, no FIC, no streams, mode I, FL 1; MNSC, the header sum; the sum of an empty main stream, Rfu; Rfa, no timestamp; the padding
abbrev others : List ℕ
others =
    0x00 ∷ 0x00 ∷ 0x08 ∷ 0x01 ∷ 0xFF ∷ 0xFF ∷ 0x5E ∷ 0x13 ∷ 0x00 ∷ 0x00 ∷ 0xFF ∷ 0xFF ∷ 0xFF ∷ 0xFF ∷ 0xFF ∷ 0xFF ∷ replicate 6124 0x55

-- a frame of level 0, with FSYNC1 or FSYNC0
unfoldable pub plain : Bool → List ℕ
plain true = 0xFF ∷ 0xF8 ∷ 0xC5 ∷ 0x49 ∷ others
plain false = 0xFF ∷ 0x07 ∷ 0x3A ∷ 0xB6 ∷ others

-- n of them, their sync words taking turns
unfoldable pub in_turn : Bool → ℕ → List ℕ
in_turn b zero = []
in_turn b (suc n) = plain b ++ in_turn (not b) n

-- a sync word's first byte
abbrev pub starts : ℕ → Bool
starts x = eqb x 0x07 || eqb x 0xF8

-- what may stand before them: any bytes, but among the last 6,142 no sync word's first
pub record Damaged (junk : List ℕ) : Type 0 where
  pub small : Bytes junk
  pub quiet : (k : ℕ) → length junk < k + 6143 → starts (get_or junk k 0) ≡ false

-- ---- one frame
plain_length : (b : Bool) → length (plain b) ≡ 6144
unfolding plain
plain_length true = refl
plain_length false = refl

plain_accepted : (b : Bool) → refusal_of (plain b) ≡ 0
unfolding plain refusal_of sum_of bit err_of fsync_of fct_of ficf_of nst_of mid_of fl_of ficl_by streams_to stl_total header_sum_of some_stl_above
plain_accepted true = refl
plain_accepted false = refl

plain_word : (b : Bool) → (header_for (plain b)).fsync1 ≡ b
unfolding plain header_for fsync_of
plain_word true = refl
plain_word false = refl

-- all are bytes, and none is a sync word's first
abbrev calm : List ℕ → Bool
calm [] = true
calm (x ∷ l) = (ltb x 256 && not (starts x)) && calm l

calm_at : (l : List ℕ) → calm l ≡ true → (k : ℕ) → (get_or l k 0 < 256) × (starts (get_or l k 0) ≡ false)
calm_at [] e k = (lit< tt, refl)
calm_at (x ∷ l) e zero =
    let p = both (ltb x 256) (not (starts x)) (both _ (calm l) e).0 in
    (ltb-true x 256 p.0, not-true _ p.1)
calm_at (x ∷ l) e (suc k) = calm_at l (both (ltb x 256 && not (starts x)) _ e).1 k

calm_padding : (n : ℕ) → calm (replicate n 0x55) ≡ true
calm_padding zero = refl
calm_padding (suc n) = calm_padding n

-- in a frame a sync word's first byte stands only second
second_at : (x y : ℕ) (l : List ℕ) → calm (x ∷ l) ≡ true → y < 256 → (o : ℕ) → (get_or (x ∷ y ∷ l) o 0 < 256) × (starts (get_or (x ∷ y ∷ l) o 0) ≡ true → o ≡ 1)
second_at x y l e h zero = let (s, q) = calm_at (x ∷ l) e 0 in (s, λ m. cc)
second_at x y l e h (suc zero) = (h, λ m. refl)
second_at x y l e h (suc (suc k)) = let (s, q) = calm_at (x ∷ l) e (suc k) in (s, λ m. cc)

plain_at : (b : Bool) (o : ℕ) → (get_or (plain b) o 0 < 256) × (starts (get_or (plain b) o 0) ≡ true → o ≡ 1)
unfolding plain
plain_at true = second_at 0xFF 0xF8 (0xC5 ∷ 0x49 ∷ others) (calm_padding 6124) (lit< tt)
plain_at false = second_at 0xFF 0x07 (0x3A ∷ 0xB6 ∷ others) (calm_padding 6124) (lit< tt)

-- ---- the frames, one after another
-- which sync word the i-th has
abbrev nth : Bool → ℕ → Bool
nth b zero = b
nth b (suc i) = nth (not b) i

turns : (b : Bool) (i : ℕ) → nth (not b) i ≡ not (nth b i)
turns b zero = refl
turns b (suc i) = turns (not b) i

in_turn_length : (b : Bool) (n : ℕ) → length (in_turn b n) ≡ n * 6144
unfolding in_turn
in_turn_length b zero = refl
in_turn_length b (suc n) = rw (length-append, plain_length b, in_turn_length (not b) n) (omega arith)

in_turn_part : (b : Bool) (n i : ℕ) → i < n → part (in_turn b n) (i * 6144) ≡ plain (nth b i)
unfolding in_turn
in_turn_part b zero i h = absurd (omega arith)
in_turn_part b (suc n) zero h = take_at (plain b) (in_turn (not b) n) 6144 (plain_length b)
in_turn_part b (suc n) (suc i) h =
    rw (let q : suc i * 6144 ≡ length (plain b) + i * 6144 = omega (arith, plain_length b) in q, drop-append-add (plain b) (in_turn (not b) n) (i * 6144))
    (in_turn_part (not b) n i (omega arith))

bytes_append : (f g : List ℕ) → Bytes f → Bytes g → Bytes (f ++ g)
bytes_append [] g s t k = t k
bytes_append (x ∷ f) g s t zero = s 0
bytes_append (x ∷ f) g s t (suc k) = bytes_append f g (λ j. s (suc j)) t k

in_turn_small : (b : Bool) (n : ℕ) → Bytes (in_turn b n)
unfolding in_turn
in_turn_small b zero = λ k. lit< tt
in_turn_small b (suc n) = bytes_append (plain b) (in_turn (not b) n) (λ o. (plain_at b o).0) (in_turn_small (not b) n)

-- ---- the whole record
module _ (junk : List ℕ) (d : Damaged junk) (b : Bool) (n : ℕ) where
  abbrev bytes : List ℕ
  bytes = junk ++ in_turn b n

  whole : length bytes ≡ length junk + n * 6144
  whole = rw (length-append, in_turn_length b n)

  stands_there : (i : ℕ) → i < n → part bytes (length junk + i * 6144) ≡ plain (nth b i)
  stands_there i h = rw (drop-append-add junk (in_turn b n) (i * 6144)) (in_turn_part b n i h)

  -- so from 6,142 bytes before the frames on it stands only second in one of them
  start_found : (q : ℕ) → length junk < q + 6144 → q + 6144 ≤ length bytes → starts (get_or bytes (q + 1) 0) ≡ true → (i : ℕ) × (i < n) × (q ≡ length junk + i * 6144)
  start_found q z room m = go (ltb (q + 1) (length junk)) refl
    where
      go : (t : Bool) → ltb (q + 1) (length junk) ≡ t → (i : ℕ) × (i < n) × (q ≡ length junk + i * 6144)
      go true e =
          let c : starts (get_or junk (q + 1) 0) ≡ true = rw (get_or-append junk (in_turn b n) 0 (q + 1) (ltb-true _ _ e)) at m in
          let y : ◌≡◌ {A = ℕ} 0 1 = cc (d.quiet (q + 1) (omega arith)) in
          absurd (omega arith)
      go false e =
          let w = ltb-false (q + 1) (length junk) e in
          let i = (q + 1 - length junk) / 6144 in
          let o = (q + 1 - length junk) % 6144 in
          let h : i < n = omega (arith, whole) in
          let c : get_or bytes (q + 1) 0 ≡ get_or (plain (nth b i)) o 0 =
          ap (λ (p : ℕ). get_or bytes p 0) (let y : q + 1 ≡ length junk + i * 6144 + o = omega arith in y)
          ∙ sym (byte_is bytes (length junk + i * 6144) o (omega arith))
          ∙ ap (λ (f : List ℕ). get_or f o 0) (stands_there i h) in
          let y : o ≡ 1 = (plain_at (nth b i) o).1 (ap starts (sym c) ∙ m) in
          (i, h, omega arith)

  -- WHAT DEMAND 3 SUPPOSES IS MET
  pub real_ends : EndsIn (junk ++ in_turn b n) (length junk) n
  real_ends =
      record {
        whole = whole;
        intact = λ i h. rw (stands_there i h) (acceptable (plain (nth b i)) (plain_accepted (nth b i)));
        alternating = λ i h. rw (stands_there (suc i) h, stands_there i (omega arith), plain_word (nth (not b) i), plain_word (nth b i)) (turns b i);
        alone = λ q z room ok.
            let small = bytes_append junk (in_turn b n) d.small (in_turn_small b n) in
            start_found q z room (synced_marked bytes q small (starts (get_or bytes (q + 1) 0)) (λ x y z. rw x) (λ x y z. rw x) (synced ok));
      }
    where
      synced : {f : List ℕ} → Keeping f → OneFsync (fsync_of f)
      synced (inl ok) = ok.synced
      synced (inr ok) = ok.synced

  -- and so of four or more of these frames the third and every later one are handed out
  pub real_handed_out : 4 ≤ n → (calls : ℕ) → length (junk ++ in_turn b n) ≤ calls →
      (k : ℕ) × (0 < k) × (out_since (length junk + 2 * 6144) (map out_of (calls_at (junk ++ in_turn b n) calls (start 3))) ≡ frames_out (junk ++ in_turn b n) (length junk + 2 * 6144) (n - 2) ++ replicate k (done_out (length (junk ++ in_turn b n))))
  real_handed_out h = demand_3_first bytes (length junk) n real_ends h

-- there are such damaged bytes, as many as one likes
pub padding_damaged : (k : ℕ) → Damaged (replicate k 0x55)
padding_damaged k = record { small = λ j. (calm_at (replicate k 0x55) (calm_padding k) j).0; quiet = λ j h. (calm_at (replicate k 0x55) (calm_padding k) j).1 }

pub real_ends_at : (k : ℕ) (b : Bool) (n : ℕ) → EndsIn (replicate k 0x55 ++ in_turn b n) k n
real_ends_at k b n = subst (λ (a : ℕ). EndsIn (replicate k 0x55 ++ in_turn b n) a n) (length-replicate k 0x55) (real_ends (replicate k 0x55) (padding_damaged k) b n)
