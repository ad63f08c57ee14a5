use mathlib.Core.Path.{sym, ◌∙◌}
use Prim.Native.Nat.{◌≤◌}
use native.Mathlib.Omega.{arith}
use borrow.Author.Rules.{rules}
use Rattle.items.specs.TagItems.{items_of}
use Rattle.sorting.proofs.OnceMet.{highest_small, value_there, managed_one, once_all, parts_22, parts_none, parts_0}
use Rattle.sorting.proofs.judge.Goals as goal

pub managed-requires : goal.managed-requires
managed-requires c = c.requires.noted.each 0 (omega arith)

pub overflow_add-notes : goal.overflow_add-notes
overflow_add-notes c = omega (arith, c.requires.high, highest_small (items_of c.args.packet.now))

pub slice_bounds-all_once-end : goal.slice_bounds-all_once-end
slice_bounds-all_once-end c =
    let h : c.args.notes.now.highest ≤ 64 = omega (arith, c.requires.high, highest_small (items_of c.args.packet.now)) in
    search rules

pub level-requires : goal.level-requires
level-requires c =
    let y = c.requires.noted.each 0 (omega arith) in
    rw c.span.ensures (value_there _ 0 _ _ y (managed_one _ _ _ y (sym c.managed.ensures ∙ c.if-not-managed.false)))

pub returns-then-not-all_once : goal.returns-then-not-all_once
returns-then-not-all_once c =
    let y = c.requires in
    parts_22 _ y.sound (sym c.managed.ensures ∙ c.if-not-managed.false) (sym (c.all_once.ensures ∙ once_all _ _ y _ (omega arith)) ∙ c.if-not-all_once.true)

pub returns-in-None : goal.returns-in-None
returns-in-None c =
    let y = c.requires in
    parts_none _ y.sound (sym c.managed.ensures ∙ c.if-not-managed.false) (sym (c.all_once.ensures ∙ once_all _ _ y _ (omega arith)) ∙ c.if-not-all_once.false) c.in-None.ensures

pub returns-in-Some : goal.returns-in-Some
returns-in-Some c =
    let y = c.requires in
    parts_0 _ y.sound (sym c.managed.ensures ∙ c.if-not-managed.false) (sym (c.all_once.ensures ∙ once_all _ _ y _ (omega arith)) ∙ c.if-not-all_once.false) _ c.in-Some.ensures.0 c.in-Some.ensures.1
