-- The way back: what stands in the output after each store.
-- Assumes nothing.
use mathlib.Core.Bool.{Bool, true, false}
use mathlib.Core.List.{List, [], ◌∷◌, ◌++◌, append_assoc, append-nil}
use mathlib.Core.Path.{◌≡◌, refl, sym, ap, ap₂, ◌∙◌}
use Prim.Native.Nat.{ℕ, zero, suc, ◌+◌, ◌-◌, ◌*◌, ◌/◌, ◌%◌, ◌≤◌}
use native.Mathlib.Nat.{zero-add}
use native.Mathlib.Numerals.{add-one}
use native.Mathlib.Omega.{arith}
use lib.Dec.{eqb, ltb}
use lib.ListN.{length, take, drop, length-append, length-drop}
use lib.Seq.{length-take-le, take_all, drop-drop}
use borrow.Author.Tests.{ltb-false, eqb-true}
use Rattle.sum.specs.Sum.{sum_of, sent}
use Rattle.octets.specs.Choice.{pick}
use Rattle.octets.specs.Stores.{put}
use Rattle.octets.proofs.Storing.{put_chain, put_none, put_all}
use Rattle.signalling.specs.Messages.{in_row}
use Rattle.signalling.proofs.Stringing.{put_take, each_snoc}
use Rattle.sending.specs.SentGroups.{start_group, continuation_group, end_group, continuations, before_end, groups_of, send_refusal, gr_nb_for, bytes_of}
use Rattle.sending.specs.SendClauses.{Carries}

-- two bytes of an end, and the message bytes behind them
pub group_put : (l a r bytes : List ℕ) (at b : ℕ) → at + 2 + length bytes ≤ length l → a ≡ put l at (b ∷ 0 ∷ []) → r ≡ put a (at + 2) bytes → r ≡ put l at (b ∷ 0 ∷ bytes)
group_put l a r bytes at b room p q = put_chain l a r at (at + 2) (b ∷ 0 ∷ []) bytes p q refl (omega arith)

-- six bytes from k on, and all from k on, as the code takes them
pub six_from : (m : List ℕ) (k : ℕ) → take (k + 6 - k) (drop k m) ≡ take 6 (drop k m)
six_from m k = let e : k + 6 - k ≡ 6 = omega arith in ap (λ (j : ℕ). take j (drop k m)) e

pub rest_from : (m : List ℕ) (k : ℕ) → take (length m - k) (drop k m) ≡ drop k m
rest_from m k = let d = length-drop k m in take_all (length m - k) (drop k m) (omega arith)

-- one continuation more
continuations_more : (i : ℕ) (b : List ℕ) → in_row (continuations (suc i) b) ≡ in_row (continuations i b) ++ continuation_group (take 6 (drop (6 * i) b))
unfolding continuations
continuations_more zero b = append-nil (continuation_group (take 6 b))
continuations_more (suc i) b =
    let e : 6 * suc i ≡ 6 + 6 * i = omega arith in
    ap (λ (l : List ℕ). continuation_group (take 6 b) ++ l) (continuations_more i (drop 6 b))
    ∙ sym (append_assoc (continuation_group (take 6 b)) (in_row (continuations i (drop 6 b))) (continuation_group (take 6 (drop (6 * i) (drop 6 b)))))
    ∙ ap (λ (l : List ℕ). (continuation_group (take 6 b) ++ in_row (continuations i (drop 6 b))) ++ continuation_group (take 6 l)) (drop-drop (6 * i) 6 b ∙ ap (λ (k : ℕ). drop k b) (sym e))

continuations_length : (n : ℕ) (b : List ℕ) → 6 * n ≤ length b → length (in_row (continuations n b)) ≡ 8 * n
unfolding continuations
continuations_length zero b h = refl
continuations_length (suc n) b h =
    let a = length-take-le 6 b (omega arith) in
    let c = length-drop 6 b in
    let d = continuations_length n (drop 6 b) (omega arith) in
    rw (length-append (continuation_group (take 6 b)) (in_row (continuations n (drop 6 b)))) (omega arith)

-- the loop of the continuations
pub none_yet : (l : List ℕ) (m : List ℕ) → 8 ≤ length l → l ≡ put l 8 (in_row (continuations 0 (drop 4 m)))
unfolding continuations
none_yet l m h = put_none l 8 h

module _ (l m : List ℕ) (i : ℕ) (a : 8 + 8 * (i + 1) ≤ length l) (b : 4 + 6 * (i + 1) ≤ length m) where
  so_far : length (in_row (continuations i (drop 4 m))) ≡ 8 * i
  so_far = let k = length-drop 4 m in continuations_length i (drop 4 m) (omega arith)

  pub one_more : (out r : List ℕ) → out ≡ put l 8 (in_row (continuations i (drop 4 m))) → r ≡ put out (8 + 8 * i) (continuation_group (take 6 (drop (4 + 6 * i) m)))
      → r ≡ put l 8 (in_row (continuations (i + 1) (drop 4 m)))
  one_more out r p q =
      let k = so_far in
      let d = length-drop (4 + 6 * i) m in
      let t = length-take-le 6 (drop (4 + 6 * i) m) (omega arith) in
      put_chain l out r 8 (8 + 8 * i) (in_row (continuations i (drop 4 m))) (continuation_group (take 6 (drop (4 + 6 * i) m))) p q (omega arith) (omega arith)
      ∙ ap (put l 8)
      (ap (λ (x : List ℕ). in_row (continuations i (drop 4 m)) ++ continuation_group (take 6 x)) (sym (drop-drop (6 * i) 4 m))
      ∙ sym (continuations_more i (drop 4 m))
      ∙ ap (λ (n : ℕ). in_row (continuations n (drop 4 m))) (sym (add-one i)))

-- the end group
pub end_put : (l a b r four pair : List ℕ) (at s : ℕ) → at + 8 ≤ length l → length four ≡ 4
    → a ≡ put l at (0xCC ∷ 0 ∷ []) → b ≡ put a (at + 2) four → s ≡ sum_of (take (at + 6) b) → pair ≡ sent s → r ≡ put b (at + 6) pair → r ≡ put l at (end_group (take at l) four)
end_put l a b r four pair at s room k p q t w u =
    let f : b ≡ put l at (0xCC ∷ 0 ∷ four) = group_put l a b four at 0xCC (omega arith) p q in
    let n : length (0xCC ∷ 0 ∷ four) ≡ 6 = omega arith in
    let g : take (at + 6) b ≡ take at l ++ (0xCC ∷ 0 ∷ four) =
    ap₂ (λ (j : ℕ) (x : List ℕ). take (at + j) x) (sym n) f ∙ put_take l at (0xCC ∷ 0 ∷ four) (omega arith) in
    put_chain l b r at (at + 6) (0xCC ∷ 0 ∷ four) (sent s) f (u ∙ ap (put b (at + 6)) w) (ap (λ (j : ℕ). at + j) (sym n)) (omega arith)
    ∙ ap (λ (x : ℕ). put l at ((0xCC ∷ 0 ∷ four) ++ sent x)) (t ∙ ap sum_of g)

-- all groups
pub all_put : (l a b r m four : List ℕ) (type n : ℕ) → n ≡ gr_nb_for (length m) → Carries (length m) (length l) → four ≡ drop (4 + 6 * n) m
    → a ≡ put l 0 (start_group type n (take 4 m)) → b ≡ put a 8 (in_row (continuations n (drop 4 m))) → r ≡ put b (8 + 8 * n) (end_group (take (8 + 8 * n) b) four)
    → r ≡ bytes_of type m
unfolding bytes_of groups_of
all_put l a b r m tail type n z c w p q t =
    let k = length-drop 4 m in
    let k2 = length-drop (4 + 6 * n) m in
    let four : length (take 4 m) ≡ 4 = length-take-le 4 m (omega (arith, c.exact)) in
    let eights = continuations_length n (drop 4 m) (omega (arith, c.exact)) in
    let front : List ℕ = start_group type n (take 4 m) ++ in_row (continuations n (drop 4 m)) in
    let size : length front ≡ 8 + 8 * n = length-append (start_group type n (take 4 m)) (in_row (continuations n (drop 4 m))) ∙ omega arith in
    let room : length l ≡ 16 + 8 * n = omega (arith, c.room) in
    let f : b ≡ put l 0 front = put_chain l a b 0 8 (start_group type n (take 4 m)) (in_row (continuations n (drop 4 m))) p q (omega arith) (omega arith) in
    let g : take (8 + 8 * n) b ≡ front = ap₂ take (sym size ∙ sym (zero-add (length front))) f ∙ put_take l 0 front (omega arith) in
    let last : List ℕ = end_group front (drop (4 + 6 * n) m) in
    let last-size : length last ≡ 8 = length-append (0xCC ∷ 0 ∷ drop (4 + 6 * n) m) (sent (sum_of (front ++ (0xCC ∷ 0 ∷ drop (4 + 6 * n) m)))) ∙ omega (arith, c.exact) in
    put_chain l b r 0 (8 + 8 * n) front last f (t ∙ ap₂ (λ (x y : List ℕ). put b (8 + 8 * n) (end_group x y)) g w) (sym size ∙ sym (zero-add (length front))) (omega arith)
    ∙ put_all l (front ++ last) (length-append front last ∙ omega arith)
    ∙ sym (each_snoc (λ x. x) (before_end type n m) last)
    ∙ ap (λ (j : ℕ). in_row (before_end type j m ++ (end_group (in_row (before_end type j m)) (drop (4 + 6 * j) m) ∷ []))) z

-- the refusal
none_holds : (len out : ℕ) (a b c d : Bool) → ltb len 8 ≡ a → ltb 1538 len ≡ b → eqb ((len - 8) % 6) 0 ≡ c → eqb out (8 * ((len - 8) / 6 + 2)) ≡ d
    → ◌≡◌ {A = ℕ} 0 (pick a 36 (pick b 36 (pick c (pick d 0 1) 36))) → Carries len out
none_holds len out true b c d p q r s e = absurd (omega arith)
none_holds len out false true c d p q r s e = absurd (omega arith)
none_holds len out false false false d p q r s e = absurd (omega arith)
none_holds len out false false true false p q r s e = absurd (omega arith)
none_holds len out false false true true p q r s e =
    let a = ltb-false len 8 p in
    let b = ltb-false 1538 len q in
    let c = eqb-true ((len - 8) % 6) 0 r in
    record { exact = omega arith; most = omega arith; room = eqb-true out (8 * ((len - 8) / 6 + 2)) s }

pub carried : (len out : ℕ) → 0 ≡ send_refusal len out → Carries len out
unfolding send_refusal
carried len out e = none_holds len out (ltb len 8) (ltb 1538 len) (eqb ((len - 8) % 6) 0) (eqb out (8 * ((len - 8) / 6 + 2))) refl refl refl refl e
