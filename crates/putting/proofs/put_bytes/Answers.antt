-- `putting::put_bytes` meets its contract. The loop's invariant: the first k bytes stand in their place.
use Rattle.std.proofs.Common.{arith, rules, refl, sym, ap, ◌∙◌, ℕ, ◌+◌, ◌≡◌, ◌≤◌, ◌<◌, List, length, take, set, get_or}
use native.Mathlib.Numerals.{add-one}
use lib.Seq.{take_all, take-suc, length-take-le}
use Rattle.octets.specs.Stores.{put}
use Rattle.octets.proofs.Storing.{put_none, put_length, put_more, put_short}
use Rattle.putting.proofs.put_bytes.Goals as goal
use Rattle.putting.proofs.put_bytes.Goals.{else-at-out-via-then-at-out+else-bytes-out, else-at-out-via-else-at-out}

-- a turn of the loop
copy_more : (l : List ℕ) (at : ℕ) (m : List ℕ) (i : ℕ) → at + length m ≤ length l → i < length m → set (put l at (take i m)) (at + i) (get_or m i 0) ≡ put l at (take (i + 1) m)
copy_more l at m i h k =
    let e : length (take i m) ≡ i = length-take-le i m (omega arith) in
    rw (add-one i, take-suc m i 0 k)
    (ap (λ (n : ℕ). set (put l at (take i m)) (at + n) (get_or m i 0)) (sym e) ∙ put_more l at (take i m) (get_or m i 0) (omega arith))

pub loop-k-init : goal.loop-k-init
loop-k-init c = put_none c.args.out.now c.args.at (omega arith)

pub loop-k-preserved : goal.loop-k-preserved
loop-k-preserved c =
    let l = c.args.out.now in
    let m = c.args.bytes.now in
    rw c.loop-k.invariant (copy_more l c.args.at m c.loop-k.k (omega arith) (search rules))

pub returns-after-loop-k : goal.returns-after-loop-k
returns-after-loop-k c =
    c.loop-k.invariant
    ∙ ap (put c.args.out.now c.args.at) (take_all c.loop-k.k c.args.bytes.now (omega arith))

pub returns-else-at-out : goal.returns-else-at-out
returns-else-at-out c =
    elim c.else-at-out.branch [
      | else-at-out-via-then-at-out+else-bytes-out w ↦ put_short _ _ _ (omega arith)
      | else-at-out-via-else-at-out w ↦ put_short _ _ _ (omega arith)
    ]
