-- Pairs stored in the buffer one after another.
-- Assumes nothing.
use mathlib.Core.List.{List, [], ◌∷◌, ◌++◌}
use mathlib.Core.Path.{◌≡◌, ap, ap₂, ◌∙◌}
use Prim.Native.Nat.{ℕ, ◌+◌, ◌/◌, ◌%◌, ◌≤◌, ◌<◌}
use native.Mathlib.Omega.{arith}
use lib.ListN.{length}
use Rattle.sum.specs.Sum.{sent}
use Rattle.octets.specs.Words.{split, bytes2}
use Rattle.octets.specs.Stores.{put}
use Rattle.octets.proofs.Storing.{put_chain}

pub as_sent : (p : ℕ) → p < 65536 → split bytes2 p ≡ sent p
as_sent p h =
    let a : p / 256 % 256 ≡ p / 256 = omega arith in
    let b : p / 1 % 256 ≡ p % 256 = omega arith in
    ap₂ (λ (x y : ℕ). x ∷ y ∷ []) a b

-- a pair, and one behind bytes that stand there
pub pair_put : (l a : List ℕ) (at p : ℕ) → p < 65536 → a ≡ put l at (split bytes2 p) → a ≡ put l at (sent p)
pair_put l a at p h e = e ∙ ap (put l at) (as_sent p h)

pub pair_then : (l a b : List ℕ) (at n p : ℕ) (vs : List ℕ) → p < 65536 → a ≡ put l at vs → b ≡ put a n (split bytes2 p) → n ≡ at + length vs → at + length vs + 2 ≤ length l
    → b ≡ put l at (vs ++ sent p)
pair_then l a b at n p vs h e q k room = put_chain l a b at n vs (sent p) e (pair_put a b n p h q) k room
