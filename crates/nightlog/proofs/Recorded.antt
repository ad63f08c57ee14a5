-- A record, put together.
-- Assumes nothing.
use mathlib.Core.List.{List, [], ◌∷◌, ◌++◌}
use mathlib.Core.Path.{◌≡◌, refl, ◌∙◌}
use Prim.Native.Nat.{ℕ}
use native.Mathlib.Omega.{arith}
use lib.ListN.{length}
use Rattle.octets.specs.Stores.{put}
use Rattle.octets.specs.Words.{split, bytes8}
use Rattle.octets.proofs.Storing.{put_chain, put_all}
use Rattle.nightlog.specs.declared.Entry.{Entry}
use Rattle.nightlog.specs.Log.{record_of}

pub filled : (l a b : List ℕ) (e : Entry) → length l ≡ 16 → a ≡ put l 0 (split bytes8 e.place) → b ≡ put a 8 (e.kind ∷ e.code ∷ e.level ∷ 0 ∷ 0 ∷ 0 ∷ 0 ∷ 0 ∷ []) → b ≡ record_of e
unfolding record_of
filled l a b e h p q =
    let vs : List ℕ = e.kind ∷ e.code ∷ e.level ∷ 0 ∷ 0 ∷ 0 ∷ 0 ∷ 0 ∷ [] in
    put_chain l a b 0 8 (split bytes8 e.place) vs p q refl (omega arith) ∙ put_all l (split bytes8 e.place ++ vs) (omega arith)
