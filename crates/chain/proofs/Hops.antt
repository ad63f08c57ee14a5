-- One relay: what it leaves of an accepted frame is accepted and reads as that frame did, with the level that reading handed on.
-- Assumes nothing.
use mathlib.Core.Bool.{Bool, true, false, not}
use mathlib.Core.List.{List, [], ◌∷◌}
use mathlib.Core.Path.{◌≡◌, refl, sym, ap, ap₂, subst, ◌∙◌}
use Prim.Native.Nat.{ℕ, ◌+◌, ◌*◌, ◌≤◌, ◌<◌, max}
use native.Mathlib.Nat.{le_of_lt}
use native.Mathlib.Omega.{arith}
use borrow.Author.Tests.{eq-eqb, leb-true, leb-false}
use lib.Dec.{eqb, leb}
use lib.ListN.{length, get_or, take, drop, length-append, length-replicate}
use Rattle.octets.specs.Choice.{pick}
use Rattle.frame.specs.declared.Stream.{Stream}
use Rattle.frame.specs.Frame.{nst_of, ficf_of, ficl_by, ficl_of, stream_of, streams_to, streams_of, stl_total, fic_span, stream_span, cut, main_of, level_by, level_of}
use Rattle.frame.specs.Rules.{◌when◌, first, rules_of, refusal_of, stream_refusal_of, fic_part, stream_part}
use Rattle.frame.specs.Answers.{no_stream, table_by, header_for}
use Rattle.frame.specs.Writing.{frame_in, Returned}
use Rattle.frame.proofs.Accepting.{nothing, acceptable, request_beyond, request_within}
use Rattle.frame.proofs.FirstRule.{first_zero}
use Rattle.frame.proofs.Headers.{digit_of, ficf_lt}
use Rattle.frame.proofs.Streams.{streams_length, streams_take, streams_at}
use Rattle.frame.proofs.Tiling.{granted_refused, granted_given, fic_of_main, stream_of_main}
use Rattle.trips.proofs.Agree.{Agree, agree}
use Rattle.trips.proofs.Fitting.{clean_level}
use Rattle.trips.proofs.Writable.{writable}
use Rattle.trips.proofs.Written.{written_read}
use Rattle.relay.specs.Relaying.{fields_for, relay_refusal_of, Relays}
use Rattle.relay.proofs.Hop.{entries_for, number_for}
use Rattle.chain.specs.Chains.{level_in, sum_right, PassesOn, SameParts}

-- the level handed on is the worse of the level read and what the sum calls for
pub level_worse : (f : List ℕ) → level_of f ≡ max (level_in f) (pick (sum_right f) 0 2)
unfolding level_of level_by
level_worse f = go (level_in f) (sum_right f)
  where
    go : (n : ℕ) (b : Bool) → pick b n (max n 2) ≡ max n (pick b 0 2)
    go n true = omega arith
    go n false = refl

-- into 6,144 bytes it is relayed
pub none : (f : List ℕ) (o : ℕ) → refusal_of f ≡ 0 → o ≡ 6144 → relay_refusal_of f o ≡ 0
unfolding relay_refusal_of
none f o z l = first_zero (rules_of f) ((1 when not (eqb o 6144)) ∷ []) (nothing f z) ∙ (rw l)

-- ---- what a relay leaves of an accepted frame: the level handed on, and what tells where the parts lie
pub record Leaves (f left : List ℕ) : Type 0 where
  pub level : level_in left ≡ level_of f
  pub nst : nst_of left ≡ nst_of f
  pub ficl : ficl_of left ≡ ficl_of f
  pub streams : streams_of left ≡ streams_of f

module _ (f was left : List ℕ) (n : ℕ) (z : refusal_of f ≡ 0) (l : length was ≡ 6144) (r : Relays f was left n) where
  number : relay_refusal_of f (length was) ≡ 0
  number = none f (length was) z l

  written : left ≡ frame_in (fields_for f) (main_of f)
  written = r.output ∙ (rw (eq-eqb (relay_refusal_of f (length was)) 0 number))

  table_whole : length (fields_for f).table ≡ 64
  unfolding fields_for table_by
  table_whole = simp (length-append, length-replicate) (omega (arith, streams_length f (nst_of f), (acceptable f z).streams))

  returned : Returned (fields_for f) (main_of f) left
  returned =
      let w = writable (fields_for f) (length (main_of f)) (length was) (number_for f z (length was) ∙ number) in
      subst (Returned (fields_for f) (main_of f)) (sym written) (written_read (fields_for f) (main_of f) w table_whole)

  g : Agree left (fields_for f)
  g = agree left (fields_for f) returned.values

  pub leaves : Leaves f left
  unfolding fields_for header_for
  leaves =
      record {
        level = sym (clean_level left returned.clean) ∙ g.level;
        nst = g.nst;
        ficl = ap₂ ficl_by (g.ficf ∙ digit_of (ficf_of f) (ficf_lt f)) g.mid;
        streams = returned.streams ∙ entries_for f z;
      }

  pub passes : PassesOn (record { arrived = f; was = was; left = left; number = n })
  unfolding header_for
  passes =
      record {
        number = r.number ∙ number;
        accepted = returned.number;
        level = leaves.level;
        read = clean_level left returned.clean;
        sums = sym returned.clean.sum;
        main = returned.main;
      }

-- ---- two accepted frames with the same entries, FIC length and main stream
module _ (f h : List ℕ) (z : refusal_of f ≡ 0) (y : refusal_of h ≡ 0) (nst : nst_of h ≡ nst_of f) (ficl : ficl_of h ≡ ficl_of f) (streams : streams_of h ≡ streams_of f) (main : main_of h ≡ main_of f) where
  fic_same : cut h (fic_part h) ≡ cut f (fic_part f)
  unfolding fic_part
  fic_same =
      ap (cut h) (sym (granted_given 0 (refusal_of h) (fic_span h) (sym y) refl))
      ∙ fic_of_main h (acceptable h y)
      ∙ (λ j. take (4 * ficl j) (main j))
      ∙ sym (fic_of_main f (acceptable f z))
      ∙ ap (cut f) (granted_given 0 (refusal_of f) (fic_span f) (sym z) refl)

  -- a stream that is there
  module _ (i : ℕ) (l : i < nst_of f) where
    k : i < nst_of h
    k = omega (arith, nst)

    stl_same : (stream_of h i).stl ≡ (stream_of f i).stl
    stl_same =
        ap (λ (s : Stream). s.stl)
        (sym (streams_at h i (nst_of h) k) ∙ ap (λ (ss : List Stream). get_or ss i no_stream) streams ∙ streams_at f i (nst_of f) l)

    total_same : stl_total (streams_to h i) ≡ stl_total (streams_to f i)
    total_same =
        ap stl_total (sym (streams_take h i (nst_of h) (le_of_lt k)) ∙ ap (take i) streams ∙ streams_take f i (nst_of f) (le_of_lt l))

    granted_same : cut h (stream_part h i) ≡ cut f (stream_part f i)
    unfolding stream_part
    granted_same =
        ap (cut h) (sym (granted_given 0 (stream_refusal_of h i) (stream_span h i) (request_within h i 0 (sym y) refl k) refl))
        ∙ stream_of_main h i (acceptable h y) k
        ∙ (λ j. take (8 * stl_same j) (drop (4 * ficl j + 8 * total_same j) (main j)))
        ∙ sym (stream_of_main f i (acceptable f z) l)
        ∙ ap (cut f) (granted_given 0 (stream_refusal_of f i) (stream_span f i) (request_within f i 0 (sym z) refl l) refl)

  -- and one that is not: both are empty
  beyond_same : (i : ℕ) → nst_of f ≤ i → cut h (stream_part h i) ≡ cut f (stream_part f i)
  unfolding stream_part
  beyond_same i l =
      let k : nst_of h ≤ i = omega (arith, nst) in
      ap (cut h) (sym (granted_refused 13 (stream_refusal_of h i) (stream_span h i) (request_beyond h i 0 (sym y) refl k) (λ e. omega arith)))
      ∙ ap (cut f) (granted_refused 13 (stream_refusal_of f i) (stream_span f i) (request_beyond f i 0 (sym z) refl l) (λ e. omega arith))

  stream_same : (i : ℕ) → cut h (stream_part h i) ≡ cut f (stream_part f i)
  stream_same i = go (leb (nst_of f) i) refl
    where
      go : (b : Bool) → leb (nst_of f) i ≡ b → cut h (stream_part h i) ≡ cut f (stream_part f i)
      go true e = beyond_same i (leb-true (nst_of f) i e)
      go false e = granted_same i (leb-false (nst_of f) i e)

  refusal_same : (i : ℕ) → stream_refusal_of h i ≡ stream_refusal_of f i
  unfolding stream_refusal_of
  refusal_same i =
      first_zero (rules_of h) ((13 when leb (nst_of h) i) ∷ []) (nothing h y)
      ∙ ap (λ (n : ℕ). first ((13 when leb n i) ∷ [])) nst
      ∙ sym (first_zero (rules_of f) ((13 when leb (nst_of f) i) ∷ []) (nothing f z))

  pub same_parts : SameParts f h
  same_parts = record { fic = fic_same; stream = stream_same; refusal = refusal_same }
