-- What `read` puts together is the reading of the frame.
-- Assumes nothing.
use mathlib.Core.List.{List, []}
use mathlib.Core.Path.{◌≡◌, sym, ap, ◌∙◌}
use Prim.Native.Nat.{ℕ}
use borrow.Author.Tests.{eq-eqb, ne_eqb}
use Rattle.std.specs.Prelude.{Ok, Err}
use Rattle.refusals.specs.declared.Refusal.{Refusal}
use Rattle.refusals.specs.Refusals.{refusal_number}
use Rattle.refusals.proofs.Numbers.{above_zero}
use Rattle.frame.specs.declared.Header.{Header}
use Rattle.frame.specs.declared.Stream.{Stream}
use Rattle.frame.specs.Frame.{streams_of}
use Rattle.frame.specs.Rules.{refusal_of}
use Rattle.frame.specs.Answers.{header_values, header_for, table_by, Reads}
use Rattle.frame.proofs.Accepting.{acceptable}
use Rattle.frame.proofs.Headers.{header_values_lem}

pub read_refused : (f : List ℕ) (r : Refusal) (t : List Stream) → refusal_number r ≡ refusal_of f → t ≡ table_by [] → Reads f (record { answer = Err r; table = t })
read_refused f r t e d =
    let z = ne_eqb (refusal_of f) 0 (λ p. above_zero r (e ∙ p)) in
    record { number = e; values = rw z; table = rw z d }

pub read_accepted : (f : List ℕ) (h : Header) (t : List Stream) → 0 ≡ refusal_of f → h ≡ header_for f → t ≡ table_by (streams_of f) → Reads f (record { answer = Ok h; table = t })
read_accepted f h t e p q =
    let y = eq-eqb (refusal_of f) 0 (sym e) in
    record { number = e; values = rw y (ap header_values p ∙ header_values_lem f (acceptable f (sym e))); table = rw y q }
