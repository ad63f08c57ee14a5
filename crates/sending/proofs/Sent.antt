-- End to end: the bytes that `send` leaves, fed to the step pair by pair, give exactly that message.
-- Assumes nothing.
use mathlib.Core.Bool.{Bool}
use mathlib.Core.List.{List, [], ◌∷◌, ◌++◌, append-nil}
use mathlib.Core.Path.{◌≡◌, refl, sym, ap, ◌∙◌}
use Prim.Native.Nat.{ℕ, zero, suc, ◌+◌, ◌*◌, ◌/◌, ◌^◌, ◌≤◌, ◌<◌}
use native.Mathlib.Nat.{mod-lt}
use native.Mathlib.Omega.{arith}
use lib.Dec.{lit<}
use lib.ListN.{length, take, drop, length-drop}
use lib.Seq.{length-take-le, drop_at}
use Rattle.octets.specs.Words.{Octets}
use Rattle.octets.proofs.EachByte.{append_octets, take_octets, drop_octets}
use Rattle.sum.specs.Sum.{sum_of, sent}
use Rattle.sum.proofs.SumLaws.{sum_lt}
use Rattle.signalling.specs.declared.State.{State}
use Rattle.signalling.specs.Feeding.{run}
use Rattle.signalling.specs.Groups.{Frame, gathering}
use Rattle.signalling.specs.Messages.{in_row, Handed, message, items, stringing}
use Rattle.signalling.specs.Following.{Holds, Calls}
use Rattle.signalling.proofs.Holding.{calls_follow}
use Rattle.sending.specs.SentGroups.{start_group, continuation_group, end_group, continuations, before_end, groups_of, gr_nb_for, bytes_of, frames_from, frames_of, SendsMessage}
use Rattle.sending.specs.SendClauses.{Carries}
use Rattle.sending.specs.MessageTrips.{Eights, Padded, at_start, told}
use Rattle.sending.proofs.Stored.{carried}
use Rattle.sending.proofs.GatheredAgain.{end_length, last_four, back_again}

-- ---- the groups' bytes are bytes
sent_bytes : (ns : List ℕ) → Octets (sent (sum_of ns))
sent_bytes ns =
    let h = sum_lt ns in
    let a : sum_of ns / 2 ^ 8 < 256 = omega arith in
    (a, (mod-lt (sum_of ns) (lit< tt), tt))

continued_eights : (n : ℕ) (body last : List ℕ) → 6 * n ≤ length body → Octets body → length last ≡ 8 → Octets last → Eights (continuations n body ++ (last ∷ []))
unfolding continuations
continued_eights zero body last h b e o = Eights.more e o Eights.none
continued_eights (suc n) body last h b e o =
    let k = length-take-le 6 body (omega arith) in
    let d = length-drop 6 body in
    Eights.more {g = continuation_group (take 6 body)} (ap (λ (m : ℕ). suc (suc m)) k) (lit< tt, (lit< tt, take_octets 6 body b)) (continued_eights n (drop 6 body) last (omega arith) (drop_octets 6 body b) e o)

unpadded : (gs : List (List ℕ)) → Padded gs gs
unpadded [] = Padded.none
unpadded (g ∷ gs) = Padded.same (unpadded gs)

no_items : items [] ≡ []
unfolding run
no_items = refl

module _ (type n : ℕ) (body : List ℕ) (h : length body ≡ 8 + 6 * n) (t : type < 256) (m : n < 256) (b : Octets body) where
  pub sent_eights : Eights (groups_of type n body)
  unfolding groups_of
  sent_eights =
      let k = length-take-le 4 body (omega arith) in
      let d = length-drop 4 body in
      let before = in_row (before_end type n body) in
      let last = drop (4 + 6 * n) body in
      Eights.more {g = start_group type n (take 4 body)} (ap (λ (j : ℕ). suc (suc (suc (suc j)))) k) (lit< tt, (lit< tt, (t, (m, take_octets 4 body b))))
      (continued_eights n (drop 4 body) (end_group before last) (omega arith) (drop_octets 4 body b) (end_length before last (last_four type n body h))
      (append_octets (0xCC ∷ 0 ∷ last) (sent (sum_of (before ++ (0xCC ∷ 0 ∷ last)))) (lit< tt, (lit< tt, drop_octets (4 + 6 * n) body b)) (sent_bytes (before ++ (0xCC ∷ 0 ∷ last)))))

  sent_items : (seen : List Frame) (w : Bool) → gathering seen ≡ at_start w → items (seen ++ frames_of (groups_of type n body)) ≡ items seen ++ told (stringing seen) (message type body ∷ [])
  sent_items seen w e =
      ap (λ (x : List Frame). items (seen ++ x)) (sym (append-nil (frames_of (groups_of type n body))))
      ∙ back_again type n body h seen w e (groups_of type n body) (unpadded (groups_of type n body)) sent_eights []
      ∙ ap (λ (l : List Handed). items seen ++ told (stringing seen) (message type body ∷ l)) no_items

-- SENT AND GATHERED: what `send` leaves, in frames, given to calls of the step from any state that holds the frames seen and is at a group's beginning
pub sent_gathered : (type : ℕ) (body l out : List ℕ) → SendsMessage type body l 0 out → type < 256 → Octets body
    → (seen : List Frame) (w : Bool) → gathering seen ≡ at_start w → (s : State) (buffer : List ℕ) → Holds (gathering seen) (stringing seen) s buffer
    → (xs : List Handed) → Calls s buffer (frames_from 0 out) xs → xs ≡ told (stringing seen) (message type body ∷ [])
unfolding bytes_of
sent_gathered type body l out t small b seen w e s buffer h xs c =
    let k : Carries (length body) (length l) = carried (length body) (length l) t.number in
    let n = gr_nb_for (length body) in
    let p : items seen ++ xs ≡ items seen ++ told (stringing seen) (message type body ∷ []) =
    sym (calls_follow seen s buffer (frames_from 0 out) xs h c)
    ∙ ap (λ (x : List ℕ). items (seen ++ frames_from 0 x)) t.bytes
    ∙ sent_items type n body k.exact small (omega (arith, k.most)) b seen w e in
    sym (drop_at (items seen) xs (length (items seen)) refl)
    ∙ ap (drop (length (items seen))) p
    ∙ drop_at (items seen) (told (stringing seen) (message type body ∷ [])) (length (items seen)) refl
