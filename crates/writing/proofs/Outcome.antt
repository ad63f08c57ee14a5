-- Writing's answer, refused and not.
-- Assumes nothing.
use mathlib.Core.List.{List}
use mathlib.Core.Path.{◌≡◌, sym, ◌∙◌}
use Prim.Native.Nat.{ℕ}
use borrow.Author.Tests.{eq-eqb, ne_eqb}
use lib.ListN.{length}
use Rattle.frame.specs.declared.Fields.{Fields}
use Rattle.frame.specs.Writing.{writing_refusal_of, frame_in, written_of, Writes}
use Rattle.trips.proofs.Writable.{writable, written_whole}
use Rattle.writing.specs.WriteClauses.{Ready}

pub ready : (x : Fields) (m o n : ℕ) → n ≡ writing_refusal_of x m o → n ≡ 0 → Ready x m o
ready x m o n e z =
    let w = writable x m o (sym e ∙ z) in
    record { count = w.streams; room = w.room; main = w.whole; out = written_whole x m o (sym e ∙ z) }

module _ (x : Fields) (main out : List ℕ) (n : ℕ) (e : n ≡ writing_refusal_of x (length main) (length out)) where
  pub write_refused : (n ≡ 0 → ⊥) → Writes x main out out n
  unfolding written_of
  write_refused h = record { number = e; output = rw (ne_eqb (writing_refusal_of x (length main) (length out)) 0 (λ z. h (e ∙ z))) }

  pub write_done : n ≡ 0 → (left : List ℕ) → left ≡ frame_in x main → Writes x main out left 0
  unfolding written_of
  write_done z left p = record { number = sym (sym e ∙ z); output = rw (eq-eqb (writing_refusal_of x (length main) (length out)) 0 (sym e ∙ z)) p }
