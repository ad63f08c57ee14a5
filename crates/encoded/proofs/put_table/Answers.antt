use mathlib.Core.Path.{◌≡◌, refl, ◌∙◌}
use Prim.Native.Nat.{◌+◌}
use native.Mathlib.Omega.{arith}
use borrow.Author.Rules.{rules}
use lib.ListN.{length, take}
use Rattle.octets.specs.Stores.{put}
use Rattle.octets.proofs.Storing.{put_none}
use Rattle.encoded.specs.AnswerBytes.{table_bytes}
use Rattle.encoded.proofs.EntryBytes.{table_more}
use Rattle.encoded.proofs.put_table.Goals as goal

pub loop-i-init : goal.loop-i-init
unfolding table_bytes
loop-i-init c = (refl, put_none c.args.out.now 22 (search rules))

pub loop-i-preserved : goal.loop-i-preserved
loop-i-preserved c =
    let l = c.args.out.now in
    let t = c.args.table in
    let i = c.loop-i.i in
    let e : length t ≡ 64 = (search rules) in
    let stored : c.put_bytes.new.out ≡ put l 22 (table_bytes (take (i + 1) t)) =
    c.put_bytes.ensures ∙ rw (c.loop-i.invariant.1, c.entry.ensures) (table_more l t i (search rules) e (omega arith)) in
    (search rules, stored)
