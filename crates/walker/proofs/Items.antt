-- The item of the n-th step is the n-th of the walk's items, and done after the last of them. The step that says done is what every later step hands back.
-- Assumes nothing.
use mathlib.Core.Bool.{true, false}
use mathlib.Core.List.{List, [], ◌∷◌, ◌++◌}
use mathlib.Core.Path.{◌≡◌, refl, sym, ap, ◌∙◌}
use Prim.Native.Nat.{ℕ, zero, suc, ◌+◌, ◌<◌}
use native.Mathlib.Omega.{arith}
use lib.Dec.{lit<}
use lib.ListN.{length, get_or, replicate}
use Rattle.walk.specs.declared.Item.{Item}
use Rattle.walk.specs.declared.Item.TheVariants.{Done}
use Rattle.walk.specs.declared.State.{State}
use Rattle.walk.specs.declared.Position.{Position}
use Rattle.walk.specs.Walk.{Judged, Stepped, begin, items, rest, step_of, calls}
use Rattle.walk.specs.declared.Step.{Step}
use Rattle.walk.specs.Records.{judged, allowed, within, step_with, step_at, state_after}
use Rattle.walk.proofs.Ending.{done_stays, calls_items}
use Rattle.walk.proofs.Limits.{by_limit, step_is, step_outside}
use Rattle.walker.specs.Advance.{start_of, nth_of, item_of}
use Rattle.walker.proofs.Beginnings.{refused_done}

-- of any more than n calls, the n-th
called : (bytes : List ℕ) (m : ℕ) → allowed m ≡ true → (n k : ℕ) (p : Position) (d : Item) → n < k → (step_at bytes (state_after bytes n (within m p))).item ≡ get_or (calls (judged m bytes) k p) n d
unfolding calls state_after step_with
called bytes m ok n zero p d h = absurd (omega (arith, h))
called bytes m ok zero (suc k) p d h = ap (λ (r : Step). r.item) (step_is bytes m ok p)
called bytes m ok (suc n) (suc k) p d h =
    ap (λ (r : Step). (step_at bytes (state_after bytes n r.walk)).item) (step_is bytes m ok p) ∙ called bytes m ok n k (step_of (judged m bytes) p).walk d (omega (arith, h))

-- what is found where there is nothing is the same put behind
padded : (l : List Item) (k n : ℕ) (d : Item) → get_or (l ++ replicate k d) n d ≡ get_or l n d
padded [] zero n d = refl
padded [] (suc k) zero d = refl
padded [] (suc k) (suc n) d = padded [] k n d
padded (x ∷ l) k zero d = refl
padded (x ∷ l) k (suc n) d = padded l k n d

said_again : (bytes : List ℕ) (s : State) (p : ℕ) → (step_at bytes s).item ≡ Done p → step_at bytes (step_at bytes s).walk ≡ step_at bytes s
unfolding judged step_with
said_again bytes s p e = by_limit s.limit _ inside (λ f. ap (λ (r : Step). step_at bytes r.walk) (step_outside bytes s f))
  where
    R : Judged
    R = judged s.limit bytes

    inside : allowed s.limit ≡ true → step_at bytes (step_at bytes s).walk ≡ step_at bytes s
    inside f =
        let q = step_is bytes s.limit f s.position in
        let d = (done_stays R (lit< tt) s.position p (sym (ap (λ (r : Step). r.item) q) ∙ e)).1 in
        ap (λ (r : Step). step_at bytes r.walk) q
        ∙ step_is bytes s.limit f (step_of R s.position).walk
        ∙ ap (λ (r : Stepped). step_with bytes r.item (within s.limit r.walk)) d
        ∙ ap (λ (x : Item). step_with bytes x (within s.limit (step_of R s.position).walk)) (sym e ∙ ap (λ (r : Step). r.item) q)
        ∙ sym q

pub done_on : (bytes : List ℕ) (m : ℕ) (s : State) (p : ℕ) → (step_at bytes s).item ≡ Done p → step_at bytes (state_after bytes m s) ≡ step_at bytes s
unfolding state_after
done_on bytes zero s p e = refl
done_on bytes (suc m) s p e =
    let same = said_again bytes s p e in
    done_on bytes m (step_at bytes s).walk p (ap (λ (x : Step). x.item) same ∙ e) ∙ same

pub nth_item : (m : ℕ) (bytes : List ℕ) (n : ℕ) → (nth_of m bytes n).item ≡ item_of m bytes n
unfolding judged item_of start_of step_with
nth_item m bytes n = by_limit m _ inside outside
  where
    R : Judged
    R = judged m bytes

    inside : allowed m ≡ true → (nth_of m bytes n).item ≡ item_of m bytes n
    inside e =
        let d = Done (rest R begin).place in
        rw e
        (called bytes m e n (length (items R begin) + suc n) begin d (omega arith)
        ∙ ap (λ (l : List Item). get_or l n d) (calls_items R (lit< tt) begin (suc n))
        ∙ padded (items R begin) (suc n) n d)

    outside : allowed m ≡ false → (nth_of m bytes n).item ≡ item_of m bytes n
    outside e =
        let d = refused_done m e bytes in
        ap (λ (r : Step). r.item) (done_on bytes n (start_of m) 0 (ap (λ (r : Step). r.item) d) ∙ d) ∙ (rw e)
