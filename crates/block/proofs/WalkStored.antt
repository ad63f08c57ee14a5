-- State and what was told, stored in a walk's bytes.
-- Assumes nothing.
use mathlib.Core.List.{List, [], ◌∷◌, ◌++◌}
use mathlib.Core.Path.{◌≡◌, refl, sym, ◌∙◌}
use Prim.Native.Nat.{ℕ, ◌%◌, ◌≤◌, ◌<◌}
use native.Mathlib.Omega.{arith}
use lib.ListN.{length}
use Rattle.octets.specs.Stores.{put}
use Rattle.octets.specs.Words.{split, bytes8}
use Rattle.octets.proofs.Storing.{put_chain, alone, low_byte}
use Rattle.frame.specs.Answers.{digit}
use Rattle.walk.specs.declared.State.{State}
use Rattle.encoded.specs.AnswerBytes.{encode}
use Rattle.encoded.proofs.EntryBytes.{digit_alone}
use Rattle.block.specs.WalkBytes.{marks_counts, marks_values, told_bytes}

pub told_stored : (s : State) (kind number item fct level lock : ℕ) (l a b d e : List ℕ) → 23 ≤ length l → kind < 256 → number < 256 → fct < 256 → level < 256 → lock ≡ digit s.position.lock
    → a ≡ put l 0 (split bytes8 s.position.place)
    → b ≡ put a 8 (s.position.misses % 256 ∷ lock ∷ s.limit % 256 ∷ kind ∷ number ∷ [])
    → d ≡ put b 13 (split bytes8 item)
    → e ≡ put d 21 (fct ∷ level ∷ [])
    → e ≡ put l 0 (told_bytes s kind number item fct level)
unfolding told_bytes
told_stored s kind number item fct level lock l a b d e room k n f v el pa pb pd pe =
    let A = split bytes8 s.position.place in
    let B = s.position.misses % 256 ∷ lock ∷ s.limit % 256 ∷ kind ∷ number ∷ [] in
    let C = split bytes8 item in
    let misses = low_byte s.position.misses in
    let locks = el ∙ sym (digit_alone s.position.lock) in
    let limit = low_byte s.limit in
    let marks : B ≡ encode marks_counts (marks_values s kind number) = λ i. misses i ∷ locks i ∷ limit i ∷ sym (alone kind k) i ∷ sym (alone number n) i ∷ [] in
    let p = put_chain l a b 0 8 A B pa pb refl (omega arith) in
    let q = put_chain l b d 0 13 (A ++ B) C p pd refl (omega arith) in
    let r = put_chain l d e 0 21 ((A ++ B) ++ C) (fct ∷ level ∷ []) q pe refl (omega arith) in
    let frame : fct ∷ level ∷ [] ≡ encode (1 ∷ 1 ∷ []) (fct ∷ level ∷ []) = λ i. sym (alone fct f) i ∷ sym (alone level v) i ∷ [] in
    r ∙ (λ i. put l 0 (((A ++ marks i) ++ C) ++ frame i))
