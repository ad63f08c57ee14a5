-- A judged log and an entry in bytes, stored piece by piece.
-- Assumes nothing.
use mathlib.Core.List.{List, [], ◌∷◌, ◌++◌}
use mathlib.Core.Path.{◌≡◌, refl, sym, ap, ◌∙◌}
use Prim.Native.Nat.{ℕ, ◌*◌}
use native.Mathlib.Omega.{arith}
use lib.ListN.{length}
use Rattle.octets.specs.Stores.{put}
use Rattle.octets.specs.Words.{split, bytes8}
use Rattle.octets.proofs.Storing.{put_chain, put_all}
use Rattle.nightlog.specs.declared.Entry.{Entry}
use Rattle.nightlog.specs.Log.{entry_from, Judges, Finds}
use Rattle.logs.specs.LogBytes.{judged_bytes, entry_bytes}

-- ---- a log judged
pub judged_stored : (l was a b : List ℕ) (n k : ℕ) → length was ≡ 9 → Judges l n k → a ≡ put was 0 (n ∷ []) → b ≡ put a 1 (split bytes8 k) → b ≡ judged_bytes l
unfolding judged_bytes
judged_stored l was a b n k h j p q =
    put_chain was a b 0 1 (n ∷ []) (split bytes8 k) p q refl (omega arith)
    ∙ put_all was (n ∷ split bytes8 k) (sym h)
    ∙ (λ i. j.number i ∷ split bytes8 (j.bad i))

-- ---- an entry
pub entry_stored : (e : Entry) (was a b : List ℕ) → length was ≡ 11 → a ≡ put was 0 (split bytes8 e.place) → b ≡ put a 8 (e.kind ∷ e.code ∷ e.level ∷ []) → b ≡ entry_bytes e
unfolding entry_bytes
entry_stored e was a b h p q =
    let vs : List ℕ = e.kind ∷ e.code ∷ e.level ∷ [] in
    put_chain was a b 0 8 (split bytes8 e.place) vs p q refl (omega arith) ∙ put_all was (split bytes8 e.place ++ vs) (sym h)

pub entry_found : (l : List ℕ) (i n : ℕ) (e : Entry) → Finds l i n e → n ≡ 0 → entry_bytes e ≡ entry_bytes (entry_from l (16 * i))
entry_found l i n e f z = ap entry_bytes (f.entry ∙ (rw (sym f.number ∙ z)))
