use mathlib.Core.List.{List}
use mathlib.Core.Path.{refl, ap, ◌∙◌}
use Prim.Native.Nat.{ℕ}
use lib.Dec.{eqb}
use lib.ListN.{length}
use Rattle.tags.specs.TagValues.{length_for}
use Rattle.sorting.proofs.OnceMet.{value_there, never_once, unmanaged, managed_is}
use Rattle.sorting.proofs.managed.Goals as goal

pub returns-in-Once : goal.returns-in-Once
returns-in-Once c =
    let y = rw c.in-Once.is at c.requires in
    c.called.ensures ∙ ap (λ (v : List ℕ). eqb (length v) (length_for v)) (c.value.ensures ∙ (value_there _ 0 _ _ y refl).value) ∙ managed_is _ _ _ y refl

pub returns-in_default : goal.returns-in_default
returns-in_default c = unmanaged _ _ _ c.requires (never_once _ c.in_default.not-Once)
