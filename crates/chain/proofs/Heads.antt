-- What arrives at a relay agrees with what was sent in the length, the first word and the header: so acceptance, status byte and header arrive too.
-- Assumes nothing.
use mathlib.Core.List.{List}
use mathlib.Core.Path.{◌≡◌}
use Prim.Native.Nat.{ℕ, zero, suc, ◌<◌}
use native.Mathlib.Omega.{arith}
use lib.ListN.{get_or}
use Rattle.frame.specs.Frame.{err_of, nst_of, ficl_of, streams_of, main_start}
use Rattle.frame.specs.Rules.{refusal_of}
use Rattle.trips.proofs.Alike as alike
use Rattle.chain.specs.Chains.{Arrives}

module _ (f g : List ℕ) (a : Arrives f g) where
  byte_kept : (k : ℕ) → k < main_start (nst_of f) → get_or g k 0 ≡ get_or f k 0
  byte_kept zero h = a.status
  byte_kept (suc zero) h = a.sync 1 (omega arith) (omega arith)
  byte_kept (suc (suc zero)) h = a.sync 2 (omega arith) (omega arith)
  byte_kept (suc (suc (suc zero))) h = a.sync 3 (omega arith) (omega arith)
  byte_kept (suc (suc (suc (suc k)))) h = a.header (suc (suc (suc (suc k)))) (omega arith) h

  pub err_kept : err_of g ≡ err_of f
  err_kept = alike.err_kept f g a.whole byte_kept

  pub nst_kept : nst_of g ≡ nst_of f
  nst_kept = alike.nst_kept f g a.whole byte_kept

  pub ficl_kept : ficl_of g ≡ ficl_of f
  ficl_kept = alike.ficl_kept f g a.whole byte_kept

  pub streams_kept : streams_of g ≡ streams_of f
  streams_kept = alike.streams_kept f g a.whole byte_kept

  pub same_refusal : refusal_of g ≡ refusal_of f
  same_refusal = alike.same_refusal f g a.whole byte_kept
