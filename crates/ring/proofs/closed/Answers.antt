-- `ring::closed` meets its contract: what is owed and the last 256 bytes, added, take a blank register where the bytes take the one that the ring stands for.
-- Assumes nothing.
use mathlib.Core.Path.{◌≡◌, refl, sym, ap, ◌∙◌}
use mathlib.Core.List.{List}
use Prim.Native.Nat.{ℕ}
use borrow.Author.Rules.{rules}
use lib.ListN.{length, take, drop}
use Rattle.linear.proofs.Linear.{xors}
use Rattle.sum.specs.Sum.{after, word, load, bit}
use Rattle.stretch.specs.Stretch.{blank}
use Rattle.ring.specs.Ring.{owed}
use Rattle.ring.proofs.Feedback.{closed, all_owed}
use Rattle.ring.proofs.closed.Goals as goal

pub returns : goal.returns
unfolding load bit
returns c = λ q s.
    let w = c.args.w.now in
    let last = c.args.last.now in
    let n : length last ≡ 256 = search rules in
    let e = c.add-3.ensures ∙ ap (λ (v : List ℕ). xors v last) (c.add-2.ensures ∙ ap (λ (v : List ℕ). xors v (take 64 (drop 192 w))) c.add.ensures) in
    c.fed.ensures blank refl ∙ ap (λ (ys : List ℕ). word (after blank ys)) (all_owed w _ last (search rules) e) ∙ ap word (sym (closed (owed w) last s n))
