-- What an export answers and leaves in its answer bytes; those of a part, as docs/BOUNDARY.md lays them out.
-- Assumes nothing.
use Rattle.std.specs.Prelude.{List, [], ◌∷◌, ◌≡◌, ℕ, eqb, length}
use Rattle.octets.specs.Choice.{pick}
use Rattle.frame.specs.declared.Span.{Span}
use Rattle.encoded.specs.AnswerBytes.{encode}

-- a part of a frame: its place and its length
unfoldable pub part_bytes : Span → List ℕ
part_bytes p = encode (2 ∷ 2 ∷ []) (p.start ∷ p.len ∷ [])

-- answer bytes of another length than n are refused with 1; then comes the request's own refusal
abbrev pub lent_refusal : ℕ → ℕ → ℕ → ℕ
lent_refusal n len refusal = pick (eqb len n) refusal 1

-- an export answers r and leaves `left` in its n answer bytes that held `was`: `bytes`, or, refused, what they held
pub record Told (n refusal : ℕ) (bytes was left : List ℕ) (r : ℕ) : Type 0 where
  pub number : r ≡ lent_refusal n (length was) refusal
  pub answer : left ≡ pick (eqb (lent_refusal n (length was) refusal) 0) bytes was
