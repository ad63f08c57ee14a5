-- The entries of a table, one more at a time.
-- Assumes nothing.
use mathlib.Core.Bool.{false, ◌||◌}
use mathlib.Core.List.{List, [], ◌∷◌, ◌++◌}
use mathlib.Core.Logic.{⊎_elim}
use mathlib.Core.Path.{◌≡◌, refl, sym, ap, ◌∙◌}
use Prim.Native.Nat.{ℕ, zero, suc, ◌+◌, ◌-◌, ◌<◌, ◌≤◌}
use native.Mathlib.Nat.{eq-or-lt_of_le, le_of_suc-le-suc}
use borrow.Author.Tests.{le-ltb, ltb-false}
use native.Mathlib.Numerals.{add-one}
use native.Mathlib.Omega.{arith}
use lib.Dec.{ltb}
use lib.ListN.{length, get_or, take, set, replicate, length-append, get_or-append}
use lib.Seq.{set_at, append_snoc, take_all, take-append-le, get_or_at}
use Rattle.frame.specs.declared.Stream.{Stream}
use Rattle.frame.specs.Frame.{stream_of, streams_to, stl_total}
use Rattle.frame.specs.Rules.{some_stl_above}
use Rattle.frame.specs.Answers.{no_stream, table_by}
use Rattle.octets.proofs.Deciding.{or_assoc, or-false, neither}

pub streams_more : (f : List ℕ) (n : ℕ) → streams_to f (n + 1) ≡ streams_to f n ++ (stream_of f n ∷ [])
unfolding streams_to
streams_more f n = ap (streams_to f) (add-one n)

pub streams_length : (f : List ℕ) (n : ℕ) → length (streams_to f n) ≡ n
unfolding streams_to
streams_length f zero = refl
streams_length f (suc n) = rw (length-append, streams_length f n) (add-one n)

-- the first i of the first n entries, and the one at i
pub streams_take : (f : List ℕ) (i n : ℕ) → i ≤ n → take i (streams_to f n) ≡ streams_to f i
unfolding streams_to
streams_take f i zero h = let e : i ≡ 0 = omega arith in rw e
streams_take f i (suc n) h =
    ⊎_elim
    (λ (e : i ≡ suc n). rw e (take_all (suc n) (streams_to f (suc n)) (omega (arith, streams_length f (suc n)))))
    (λ (l : i < suc n). take-append-le i (streams_to f n) (stream_of f n ∷ []) (omega (arith, streams_length f n)) ∙ streams_take f i n (le_of_suc-le-suc l))
    (eq-or-lt_of_le h)

pub streams_at : (f : List ℕ) (i n : ℕ) → i < n → get_or (streams_to f n) i no_stream ≡ stream_of f i
unfolding streams_to
streams_at f i zero h = absurd (omega arith)
streams_at f i (suc n) h =
    ⊎_elim
    (λ (e : i ≡ n). rw e (get_or_at (streams_to f n) (stream_of f n) [] no_stream n (streams_length f n)))
    (λ (l : i < n). get_or-append (streams_to f n) (stream_of f n ∷ []) no_stream i (omega (arith, streams_length f n)) ∙ streams_at f i n l)
    (eq-or-lt_of_le (le_of_suc-le-suc h))

pub total_append : (ss ts : List Stream) → stl_total (ss ++ ts) ≡ stl_total ss + stl_total ts
unfolding stl_total
total_append [] ts = omega arith
total_append (s ∷ ss) ts = rw (total_append ss ts) (omega arith)

pub total_more : (f : List ℕ) (n : ℕ) → stl_total (streams_to f (n + 1)) ≡ stl_total (streams_to f n) + (stream_of f n).stl
unfolding stl_total
total_more f n = rw (streams_more f n, total_append) (omega arith)

pub some_append : (m : ℕ) (ss ts : List Stream) → some_stl_above m (ss ++ ts) ≡ (some_stl_above m ss || some_stl_above m ts)
unfolding some_stl_above
some_append m [] ts = refl
some_append m (s ∷ ss) ts = rw (some_append m ss ts, or_assoc)

pub some_more : (m : ℕ) (f : List ℕ) (n : ℕ) → some_stl_above m (streams_to f (n + 1)) ≡ (some_stl_above m (streams_to f n) || ltb m (stream_of f n).stl)
unfolding some_stl_above
some_more m f n = rw (streams_more f n, some_append, or-false)

-- none of the first n STLs is above m, told at once and one by one
pub each_within : (m : ℕ) (f : List ℕ) (n : ℕ) → some_stl_above m (streams_to f n) ≡ false → (i : ℕ) → i < n → (stream_of f i).stl ≤ m
each_within m f zero e i h = absurd (omega arith)
each_within m f (suc n) e i h =
    let p = neither (some_stl_above m (streams_to f n)) (ltb m (stream_of f n).stl) (sym (some_more m f n) ∙ ap (λ (k : ℕ). some_stl_above m (streams_to f k)) (add-one n) ∙ e) in
    ⊎_elim (λ (q : i ≡ n). rw q (ltb-false m (stream_of f n).stl p.1)) (λ (l : i < n). each_within m f n p.0 i l) (eq-or-lt_of_le (le_of_suc-le-suc h))

pub none_above : (m : ℕ) (f : List ℕ) (n : ℕ) → ((i : ℕ) → i < n → (stream_of f i).stl ≤ m) → some_stl_above m (streams_to f n) ≡ false
unfolding some_stl_above streams_to
none_above m f zero h = refl
none_above m f (suc n) h =
    ap (λ (k : ℕ). some_stl_above m (streams_to f k)) (sym (add-one n))
    ∙ some_more m f n
    ∙ rw (none_above m f n (λ i l. h i (omega arith)), le-ltb m (stream_of f n).stl (h n (omega arith)))

-- a store of the next entry makes the table of one entry more
pub table_more : (ss : List Stream) (s : Stream) (n : ℕ) → length ss ≡ n → n < 64 → set (table_by ss) n s ≡ table_by (ss ++ (s ∷ []))
unfolding table_by
table_more ss s n e h =
    let m : 64 - length ss ≡ suc (64 - (length ss + 1)) = omega arith in
    rw (ap (λ (k : ℕ). replicate k no_stream) m, set_at ss no_stream (replicate (64 - (length ss + 1)) no_stream) s n e, length-append, append_snoc)
