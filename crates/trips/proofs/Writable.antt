-- The fields that writing accepts, in plain words: none of its rules holds.
-- Assumes nothing.
use mathlib.Core.Bool.{false}
use mathlib.Core.List.{List, [], ◌∷◌}
use mathlib.Core.Path.{◌≡◌, refl}
use Prim.Native.Nat.{ℕ, ◌^◌}
use native.Mathlib.Nat.{suc_inj}
use native.Mathlib.Omega.{arith}
use lib.Dec.{leb}
use lib.ListN.{length}
use borrow.Author.Tests.{le-ltb, lt-leb, eqb-true, ltb-false, leb-false, not-false}
use Rattle.frame.specs.declared.Fields.{Fields}
use Rattle.frame.specs.declared.Stream.{Stream}
use Rattle.octets.specs.Words.{Fit}
use Rattle.frame.specs.Frame.{sstc_widths}
use Rattle.frame.specs.Rules.{NoneHold}
use Rattle.frame.specs.Writing.{entries_of, some_wider, stream_values, some_stream_wider, plain_widths, plain_in, wider, writing_rules_of, writing_refusal_of, AllFit, Writable}
use Rattle.octets.proofs.Deciding.{equal, neither}
use Rattle.frame.proofs.FirstRule.{none_hold, none_first}

-- no value is wider, and each is within its width
fit : (ks vs : List ℕ) → length ks ≡ length vs → some_wider ks vs ≡ false → Fit ks vs
fit [] [] l e = tt
fit [] (v ∷ vs) l e = omega arith
fit (k ∷ ks) [] l e = omega arith
fit (k ∷ ks) (v ∷ vs) l e =
    let p = neither (leb (2 ^ k) v) (some_wider ks vs) e in
    (leb-false (2 ^ k) v p.0, fit ks vs (suc_inj l) p.1)

unwider : (ks vs : List ℕ) → Fit ks vs → some_wider ks vs ≡ false
unwider [] [] h = refl
unwider (k ∷ ks) (v ∷ vs) h = rw (lt-leb (2 ^ k) v h.0) (unwider ks vs h.1)
unwider [] (v ∷ vs) h = elim h [ ]
unwider (k ∷ ks) [] h = elim h [ ]

all_fit : (ss : List Stream) → some_stream_wider ss ≡ false → AllFit ss
unfolding some_stream_wider
all_fit [] e = tt
all_fit (s ∷ ss) e =
    let p = neither (some_wider sstc_widths (stream_values s)) (some_stream_wider ss) e in
    (fit sstc_widths (stream_values s) refl p.0, all_fit ss p.1)

all_unwider : (ss : List Stream) → AllFit ss → some_stream_wider ss ≡ false
unfolding some_stream_wider
all_unwider [] h = refl
all_unwider (s ∷ ss) h = rw (unwider sstc_widths (stream_values s) h.0) (all_unwider ss h.1)

nothing : (x : Fields) (main out : ℕ) → writing_refusal_of x main out ≡ 0 → NoneHold (writing_rules_of x main out)
unfolding writing_refusal_of
nothing x main out e = none_hold (writing_rules_of x main out) (tt, (tt, (tt, (tt, (tt, (tt, (tt, tt))))))) e

pub writable : (x : Fields) (main out : ℕ) → writing_refusal_of x main out ≡ 0 → Writable x main
unfolding wider
writable x main out e =
    let p = nothing x main out e in
    let q = neither _ _ p.1.0 in
    let r = neither _ _ q.0 in
    let s = neither _ _ q.1 in
    record {
      level = ltb-false _ _ r.0;
      plain = fit plain_widths (plain_in x) refl r.1;
      time = s.0;
      entries = all_fit (entries_of x) s.1;
      streams = ltb-false _ _ p.1.1.0;
      counted = ltb-false _ _ p.1.1.1.0;
      lengths = p.1.1.1.1.0;
      room = ltb-false _ _ p.1.1.1.1.1.0;
      whole = eqb-true _ _ (not-false _ p.1.1.1.1.1.1.0);
    }

pub written_whole : (x : Fields) (main out : ℕ) → writing_refusal_of x main out ≡ 0 → out ≡ 6144
written_whole x main out e = eqb-true _ _ (not-false _ (nothing x main out e).0)

none_wider : (x : Fields) (main : ℕ) → Writable x main → wider x ≡ false
unfolding wider
none_wider x main w =
    rw (le-ltb _ _ w.level, unwider plain_widths (plain_in x) w.plain, w.time)
    (all_unwider (entries_of x) w.entries)

pub unrefused : (x : Fields) (main : ℕ) → Writable x main → writing_refusal_of x main 6144 ≡ 0
unfolding writing_refusal_of
unrefused x main w =
    none_first (writing_rules_of x main 6144) (
      refl,
      (
        none_wider x main w,
        (le-ltb _ _ w.streams, (le-ltb _ _ w.counted, (w.lengths, (le-ltb _ _ w.room, (equal w.whole, tt))))),
      ),
    )
