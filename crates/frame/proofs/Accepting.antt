-- A frame is accepted exactly when it is acceptable, and refused with 4 exactly when it is a null transmission: the rules and the plain words say the same.
-- Assumes nothing.
use mathlib.Core.List.{List, [], ◌∷◌}
use mathlib.Core.Path.{◌≡◌, sym, ◌∙◌}
use Prim.Native.Nat.{ℕ, ◌≤◌, ◌<◌}
use native.Mathlib.Omega.{arith}
use lib.Dec.{lit<, leb}
use lib.ListN.{drop}
use borrow.Author.Tests.{eq-eqb, ne_eqb, le-ltb, le-leb, lt-leb, eqb-true, eqb-false, ltb-false, leb-false, not-false}
use Rattle.octets.proofs.Deciding.{equal}
use Rattle.frame.specs.Frame.{err_of, fsync_of, nst_of}
use Rattle.frame.specs.Rules.{◌when◌, first, rules_of, refusal_of, Acceptable, NullTransmission, stream_refusal_of, NoneHold}
use Rattle.frame.proofs.Places.{fsync_one, fsync_placed, status_one, status_placed}
use Rattle.frame.proofs.Streams.{each_within, none_above}
use Rattle.frame.proofs.FirstRule.{none_hold, none_first, first_zero, first_found, passed_over, holds_there}

pub nothing : (f : List ℕ) → refusal_of f ≡ 0 → NoneHold (rules_of f)
unfolding refusal_of
nothing f e = none_hold (rules_of f) (tt, (tt, (tt, (tt, (tt, (tt, (tt, (tt, (tt, (tt, tt)))))))))) e

pub acceptable : (f : List ℕ) → refusal_of f ≡ 0 → Acceptable f
acceptable f e =
    let p = nothing f e in
    record {
      whole = eqb-true _ _ (not-false _ p.0);
      synced = fsync_one (fsync_of f) (ltb-false _ _ p.1.0);
      status = status_one (err_of f) (ltb-false _ _ p.1.1.0);
      carrying = eqb-false _ _ p.1.1.1.0;
      streams = ltb-false _ _ p.1.1.1.1.0;
      headed = eqb-true _ _ (not-false _ p.1.1.1.1.1.0);
      counted = ltb-false _ _ p.1.1.1.1.1.1.0;
      lengths = each_within 684 f (nst_of f) p.1.1.1.1.1.1.1.0;
      formula = eqb-true _ _ (not-false _ p.1.1.1.1.1.1.1.1.0);
      room = ltb-false _ _ p.1.1.1.1.1.1.1.1.1.0;
    }

-- the same for a caller of the judge
pub judged : (f : List ℕ) (n : ℕ) → n ≡ refusal_of f → n ≡ 0 → Acceptable f
judged f n e z = acceptable f (sym e ∙ z)

pub accepted : (f : List ℕ) → Acceptable f → refusal_of f ≡ 0
unfolding refusal_of
accepted f a =
    none_first (rules_of f) (
      equal a.whole,
      (
        le-ltb _ _ (fsync_placed (fsync_of f) a.synced),
        (
          le-ltb _ _ (status_placed (err_of f) a.status),
          (
            ne_eqb _ _ a.carrying,
            (
              le-ltb _ _ a.streams,
              (
                equal a.headed,
                (le-ltb _ _ a.counted, (none_above 684 f (nst_of f) a.lengths, (equal a.formula, (le-ltb _ _ a.room, tt)))),
              ),
            ),
          ),
        ),
      ),
    )

pub null_transmission : (f : List ℕ) → refusal_of f ≡ 4 → NullTransmission f
unfolding refusal_of
null_transmission f e =
    let (a, p) = passed_over 1 4 _ (drop 1 (rules_of f)) (λ z. omega arith) e in
    let (b, q) = passed_over 2 4 _ (drop 2 (rules_of f)) (λ z. omega arith) p in
    let (c, r) = passed_over 3 4 _ (drop 3 (rules_of f)) (λ z. omega arith) q in
    record {
      whole = eqb-true _ _ (not-false _ a);
      synced = fsync_one (fsync_of f) (ltb-false _ _ b);
      status = status_one (err_of f) (ltb-false _ _ c);
      null = eqb-true _ _ (holds_there 4 _ (drop 4 (rules_of f)) (lit< tt) (tt, (tt, (tt, (tt, (tt, (tt, tt)))))) r);
    }

pub refused_null : (f : List ℕ) → NullTransmission f → refusal_of f ≡ 4
unfolding refusal_of
refused_null f a =
    rw (equal a.whole, le-ltb _ _ (fsync_placed (fsync_of f) a.synced), le-ltb _ _ (status_placed (err_of f) a.status), eq-eqb _ _ a.null)

-- a request for stream i, by reading's refusal n, and in an accepted frame by the count
module _ (f : List ℕ) (i n : ℕ) (e : n ≡ refusal_of f) where
  pub request_refused : (n ≡ 0 → ⊥) → n ≡ stream_refusal_of f i
  unfolding refusal_of stream_refusal_of
  request_refused h = e ∙ sym (first_found (rules_of f) ((13 when leb (nst_of f) i) ∷ []) (λ z. h (e ∙ z)))

  goes_on : n ≡ 0 → stream_refusal_of f i ≡ first ((13 when leb (nst_of f) i) ∷ [])
  unfolding stream_refusal_of
  goes_on z = first_zero (rules_of f) ((13 when leb (nst_of f) i) ∷ []) (nothing f (sym e ∙ z))

  pub request_beyond : n ≡ 0 → nst_of f ≤ i → 13 ≡ stream_refusal_of f i
  request_beyond z h = rw (goes_on z, le-leb (nst_of f) i h)

  pub request_within : n ≡ 0 → i < nst_of f → 0 ≡ stream_refusal_of f i
  request_within z h = rw (goes_on z, lt-leb (nst_of f) i h)

  pub request_granted : n ≡ 0 → stream_refusal_of f i ≡ 0 → i < nst_of f
  request_granted z d = leb-false (nst_of f) i (none_hold ((13 when leb (nst_of f) i) ∷ []) (tt, tt) (sym (goes_on z) ∙ d)).0
