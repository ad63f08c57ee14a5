-- A turn of each loop that writes: padding, and the entries.
-- Assumes nothing.
use mathlib.Core.List.{List}
use mathlib.Core.Path.{◌≡◌, refl, ap, ◌∙◌}
use Prim.Native.Nat.{ℕ, ◌+◌, ◌-◌, ◌*◌, ◌≤◌, ◌<◌}
use native.Mathlib.Omega.{arith}
use borrow.Rule.Slice.PartMut.{put_mid}
use Rattle.std.proofs.lemmas.Slice.{put_mid-paste}
use lib.ListN.{length, get_or, take, drop, replicate, length-replicate, length-drop}
use lib.Seq.{take_all, length-take-le}
use Rattle.frame.specs.declared.Stream.{Stream}
use Rattle.octets.specs.Words.{split, join, bytes4}
use Rattle.frame.specs.Frame.{sstc_widths}
use Rattle.frame.specs.Answers.{no_stream}
use Rattle.frame.specs.Writing.{stream_values, stream_bytes, streams_bytes}
use Rattle.octets.specs.Stores.{put}
use Rattle.octets.proofs.Storing.{put_room, each_put}

-- a part filled up to the end
pub filled : (l : List ℕ) (from v : ℕ) (ys : List ℕ) → from ≤ length l → ys ≡ replicate (length (take (length l - from) (drop from l))) v
    → put_mid from (length l - from) l ys ≡ put l from (replicate (length l - from) v)
filled l from v ys h e =
    let n = length l - from in
    let d : length (take n (drop from l)) ≡ n = length-take-le n (drop from l) (rw (length-drop from l) (omega arith)) in
    let zs = replicate n v in
    let z : length zs ≡ n = length-replicate n v in
    let y : ys ≡ zs = e ∙ ap (λ (k : ℕ). replicate k v) d in
    put_mid-paste from n l ys zs (length zs) y z refl ∙ rw (take_all (length zs) zs (omega arith), put_room l from zs (omega arith))

pub streams_more : (l : List ℕ) (t : List Stream) (i w : ℕ) → length l ≡ 6144 → length t ≡ 64 → i < 64
    → w ≡ join sstc_widths (stream_values (get_or t i no_stream))
    → put (put l 8 (streams_bytes (take i t))) (8 + 4 * i) (split bytes4 w) ≡ put l 8 (streams_bytes (take (i + 1) t))
unfolding streams_bytes
streams_more l t i w h k o e = rw e (each_put stream_bytes 4 (λ s. refl) no_stream l 8 t i (omega arith) (omega arith))
