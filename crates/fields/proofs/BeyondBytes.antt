-- Beyond the bytes lent every word is 0.
-- Assumes nothing.
use mathlib.Core.List.{List}
use mathlib.Core.Path.{◌≡◌}
use Prim.Native.Nat.{ℕ, ◌+◌, ◌*◌, ◌≤◌}
use native.Mathlib.Omega.{arith}
use lib.ListN.{length, get_or-eq_default}
use Rattle.octets.specs.Words.{word_at}
use Rattle.frame.specs.Frame.{stream_by, stream_of}

word_beyond : (f : List ℕ) (p : ℕ) → length f ≤ p → word_at f p ≡ 0
word_beyond f p h =
    rw (get_or-eq_default f 0 {n = p} h, get_or-eq_default f 0 {n = p + 1} (omega arith), get_or-eq_default f 0 {n = p + 2} (omega arith), get_or-eq_default f 0 {n = p + 3} (omega arith))

pub stream_beyond : (f : List ℕ) (i : ℕ) → length f ≤ 4 + (i + 1) * 4 → stream_by 0 ≡ stream_of f i
unfolding stream_of
stream_beyond f i h = rw (word_beyond f (4 + (i + 1) * 4) h)
