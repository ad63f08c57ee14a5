-- The entries of a table of any length, one more at a time.
-- Assumes nothing.
use mathlib.Core.Bool.{Bool, ◌||◌}
use mathlib.Core.List.{List, [], ◌∷◌, ◌++◌}
use mathlib.Core.Path.{◌≡◌, refl, sym, ap, ◌∙◌}
use Prim.Native.Nat.{ℕ, ◌+◌, ◌*◌, ◌<◌}
use native.Mathlib.Numerals.{add-one}
use native.Mathlib.Omega.{arith}
use lib.Dec.{ltb}
use lib.ListN.{length, get_or, take}
use lib.Seq.{take-suc}
use Rattle.frame.specs.declared.Stream.{Stream}
use Rattle.frame.specs.Frame.{sstc_widths, stl_total}
use Rattle.frame.specs.Rules.{some_stl_above}
use Rattle.frame.specs.Answers.{no_stream}
use Rattle.octets.proofs.Storing.{each_append, each_length}
use Rattle.frame.specs.Writing.{some_wider, stream_values, some_stream_wider, stream_bytes, streams_bytes}
use Rattle.octets.proofs.Deciding.{or_assoc, or-false}
use Rattle.frame.proofs.Streams.{total_append, some_append}

pub wider_append : (ss ts : List Stream) → some_stream_wider (ss ++ ts) ≡ (some_stream_wider ss || some_stream_wider ts)
unfolding some_stream_wider
wider_append [] ts = refl
wider_append (s ∷ ss) ts =
    let w = some_wider sstc_widths (stream_values s) in
    ap (λ (b : Bool). w || b) (wider_append ss ts) ∙ sym (or_assoc w (some_stream_wider ss) (some_stream_wider ts))

pub bytes_append : (ss ts : List Stream) → streams_bytes (ss ++ ts) ≡ streams_bytes ss ++ streams_bytes ts
unfolding streams_bytes
bytes_append ss ts = each_append stream_bytes ss ts

pub bytes_length : (ss : List Stream) → length (streams_bytes ss) ≡ 4 * length ss
unfolding streams_bytes
bytes_length ss = each_length stream_bytes 4 (λ s. refl) ss

module _ (t : List Stream) (i : ℕ) (h : i < length t) where
  abbrev entry : Stream
  entry = get_or t i no_stream

  take_more : take (i + 1) t ≡ take i t ++ (entry ∷ [])
  take_more = ap (λ (k : ℕ). take k t) (add-one i) ∙ take-suc t i no_stream h

  pub total_take : stl_total (take (i + 1) t) ≡ stl_total (take i t) + entry.stl
  unfolding stl_total
  total_take = rw (take_more, total_append) (omega arith)

  pub above_take : (m : ℕ) → some_stl_above m (take (i + 1) t) ≡ (some_stl_above m (take i t) || ltb m entry.stl)
  unfolding some_stl_above
  above_take m = rw (take_more, some_append, or-false)

  pub wider_take : some_stream_wider (take (i + 1) t) ≡ (some_stream_wider (take i t) || some_wider sstc_widths (stream_values entry))
  unfolding some_stream_wider
  wider_take =
      rw (take_more, wider_append) (ap (λ (b : Bool). some_stream_wider (take i t) || b) (or-false (some_wider sstc_widths (stream_values entry))))
