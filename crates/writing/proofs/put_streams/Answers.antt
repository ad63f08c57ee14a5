use mathlib.Core.Path.{◌≡◌, refl, ◌∙◌}
use Prim.Native.Nat.{◌+◌}
use native.Mathlib.Omega.{arith}
use borrow.Author.Rules.{rules}
use lib.ListN.{length, take}
use Rattle.octets.specs.Stores.{put}
use Rattle.frame.specs.Writing.{streams_bytes}
use Rattle.octets.proofs.Storing.{put_none}
use Rattle.writing.proofs.Puts.{streams_more}
use Rattle.writing.proofs.put_streams.Goals as goal

pub loop-i-init : goal.loop-i-init
unfolding streams_bytes
loop-i-init c = (refl, put_none c.args.out.now 8 (search rules))

pub loop-i-preserved : goal.loop-i-preserved
loop-i-preserved c =
    let l = c.args.out.now in
    let t = c.args.table in
    let e : length t ≡ 64 = (search rules) in
    let i = c.loop-i.i in
    let stored : c.put4.new.out ≡ put l 8 (streams_bytes (take (i + 1) t)) =
    c.put4.ensures
    ∙ rw c.loop-i.invariant.1 (streams_more l t i _ (search rules) e (omega arith) c.stream_word.ensures) in
    (search rules, stored)
