-- The reasons agree with what calls of the step hand out, one after another.
-- Assumes nothing.
use Prim.Native.Nat.{ℕ, zero, suc, ◌-◌, ◌≤◌, ◌<◌}
use mathlib.Core.Path.{◌≡◌, refl, sym, ap, ap₂, subst, ◌∙◌}
use mathlib.Core.Bool.{true}
use mathlib.Core.List.Memᴰ
use mathlib.Core.List.{List, [], ◌∷◌, ◌++◌, Memᴰ}
use mathlib.Core.Logic.{◌⊎◌, inl, inr}
use native.Mathlib.Omega.{arith}
use lib.ListN.{length, replicate}
use Rattle.walk.specs.declared.Item.{Item}
use Rattle.refusals.specs.declared.Refusal.{Refusal}
use Rattle.walk.specs.declared.Item.TheVariants.{Frame, Idle, Done, Lost as LostMark}
use Rattle.walk.specs.declared.Position.{Position}
use Rattle.walk.specs.declared.State.{State}
use Rattle.walk.specs.declared.Step.{Step}
use Rattle.walk.specs.Walk.{begin, items, rest, step_of, calls}
use Rattle.walk.specs.ItemValues.{done_kind, kind_of, place_of}
use Rattle.walk.specs.Records.{judged, allowed, within, start, step_with, calls_at}
use Rattle.walk.proofs.Ending.{items_bounded, calls_end}
use Rattle.walk.proofs.Limits.{step_is}
use Rattle.why.specs.declared.Reason.TheVariants.{HandedOut, Lost, SteppedOver}
use Rattle.why.specs.Why.{SteppedFrom, LastBefore, OutAt, AppliesIn, Applies, items_at}
use Rattle.why.proofs.CalledLooks.{call_looked, look_called}
use Rattle.why.proofs.Reasons.{handed_is_out, lost_is_mark, not_done_lem, last_before, positive}

-- ---- what a list with more behind it has
in_front : {A : Type 0} (x : A) (xs ys : List A) → Memᴰ x xs → Memᴰ x (xs ++ ys)
in_front x [] ys m = absurd (Memᴰ.not-nil m)
in_front x (y ∷ xs) ys m = by (Memᴰ.cases_cons m) (λ n. in_front x xs ys n)
  where
    by : (x ≡ y) ⊎ Memᴰ x xs → (Memᴰ x xs → Memᴰ x (xs ++ ys)) → Memᴰ x (y ∷ (xs ++ ys))
    by (inl e) ih = Memᴰ.head e
    by (inr n) ih = Memᴰ.tail (ih n)

not_behind : {A : Type 0} (x : A) (xs ys : List A) → (Memᴰ x ys → ⊥) → Memᴰ x (xs ++ ys) → Memᴰ x xs
not_behind x [] ys f m = absurd (f m)
not_behind x (y ∷ xs) ys f m = by (Memᴰ.cases_cons m) (λ n. not_behind x xs ys f n)
  where
    by : (x ≡ y) ⊎ Memᴰ x (xs ++ ys) → (Memᴰ x (xs ++ ys) → Memᴰ x xs) → Memᴰ x (y ∷ xs)
    by (inl e) ih = Memᴰ.head e
    by (inr n) ih = Memᴰ.tail (ih n)

none_done : (x : Item) (q n : ℕ) → (x ≡ Done q → ⊥) → Memᴰ x (replicate n (Done q)) → ⊥
none_done x q zero f m = Memᴰ.not-nil m
none_done x q (suc n) f m = by (Memᴰ.cases_cons m) (none_done x q n f)
  where
    by : (x ≡ Done q) ⊎ Memᴰ x (replicate n (Done q)) → (Memᴰ x (replicate n (Done q)) → ⊥) → ⊥
    by (inl e) ih = f e
    by (inr k) ih = ih k

module _ (bytes : List ℕ) (limit place n : ℕ) (ok : allowed limit ≡ true) (enough : length bytes ≤ n) where
  called : (n : ℕ) (p : Position) → items_at bytes n (within limit p) ≡ calls (judged limit bytes) n p
  unfolding calls_at calls step_with
  called zero p = refl
  called (suc n) p =
      let e = step_is bytes limit ok p in
      ap₂ (λ (x : Item) (l : List Item). x ∷ l) (ap (λ (r : Step). r.item) e)
      (ap (λ (r : Step). items_at bytes n r.walk) e ∙ called n (step_of (judged limit bytes) p).walk)

  -- the items of the walk, and done behind them
  behind : items_at bytes n (start limit) ≡ items (judged limit bytes) begin ++ replicate (n - length (items (judged limit bytes) begin)) (Done (rest (judged limit bytes) begin).place)
  unfolding judged
  behind = called n begin ∙ calls_end (judged limit bytes) (omega arith) begin n (omega arith)

  there : (x : Item) → Memᴰ x (items (judged limit bytes) begin) → Memᴰ x (items_at bytes n (start limit))
  there x m = rw behind (in_front x _ _ m)

  here : (x : Item) → (kind_of x ≡ done_kind → ⊥) → Memᴰ x (items_at bytes n (start limit)) → Memᴰ x (items (judged limit bytes) begin)
  here x k m =
      let q = (rest (judged limit bytes) begin).place in
      let more = n - length (items (judged limit bytes) begin) in
      not_behind x (items (judged limit bytes) begin) (replicate more (Done q)) (none_done x q more (λ e. k (ap kind_of e))) (rw behind at m)

  -- HANDED OUT exactly where the calls hand out a frame or an idle item
  pub handed_out_called : (Applies bytes limit place HandedOut → OutAt place (items_at bytes n (start limit))) × (OutAt place (items_at bytes n (start limit)) → Applies bytes limit place HandedOut)
  handed_out_called = (λ a. to ((handed_is_out bytes limit place).0 a), λ o. (handed_is_out bytes limit place).1 (from o))
    where
      to : OutAt place (items (judged limit bytes) begin) → OutAt place (items_at bytes n (start limit))
      to (inl (h, m)) = inl (h, there (Frame place h) m)
      to (inr m) = inr (there (Idle place) m)

      from : OutAt place (items_at bytes n (start limit)) → OutAt place (items (judged limit bytes) begin)
      from (inl (h, m)) = inl (h, here (Frame place h) (λ e. omega arith) m)
      from (inr m) = inr (here (Idle place) (λ e. omega arith) m)

  -- LOST exactly where they hand out a lost mark, with that number
  pub lost_called : (k : Refusal) → (Applies bytes limit place (Lost k) → Memᴰ (LostMark place k) (items_at bytes n (start limit))) × (Memᴰ (LostMark place k) (items_at bytes n (start limit)) → Applies bytes limit place (Lost k))
  lost_called k = (λ a. there (LostMark place k) ((lost_is_mark bytes limit place k).0 a), λ m. (lost_is_mark bytes limit place k).1 (here (LostMark place k) (λ e. omega arith) m))

  -- STEPPED OVER from q exactly where a call hands out an item there, done left aside, and a walk in lock past the place
  pub stepped_called : (q : ℕ) → (Applies bytes limit place (SteppedOver q) → SteppedFrom place q (calls_at bytes n (start limit))) × (SteppedFrom place q (calls_at bytes n (start limit)) → Applies bytes limit place (SteppedOver q))
  unfolding AppliesIn judged
  stepped_called q = (to, from)
    where
      to : Applies bytes limit place (SteppedOver q) → SteppedFrom place q (calls_at bytes n (start limit))
      to a =
          let (r, m, e, t) = look_called bytes limit ok (positive bytes limit place) begin n (omega (arith, items_bounded (judged limit bytes) (positive bytes limit place) begin)) a.state a.item a.looked a.hands in
          record {
            call = r;
            made = m;
            not_done = λ z. not_done_lem (judged limit bytes) a.state a.item a.hands (ap kind_of (sym e) ∙ z);
            its_place = ap place_of e ∙ a.its_place;
            before = a.before;
            locks = ap (λ (w : State). w.position.lock) t ∙ a.locks;
            past = rw t a.past;
          }

      from : SteppedFrom place q (calls_at bytes n (start limit)) → Applies bytes limit place (SteppedOver q)
      from c =
          let (s, m, g, t) = call_looked bytes limit ok (positive bytes limit place) n begin c.call c.made c.not_done in
          record {
            state = s;
            looked = m;
            item = c.call.item;
            hands = g;
            its_place = c.its_place;
            before = c.before;
            locks = ap (λ (w : State). w.position.lock) t ∙ c.locks;
            past = subst (λ (w : State). place < w.position.place) (sym t) c.past;
          }

  -- .. and of what they hand out up to the place, done left aside, that item is the last
  pub stepped_last : (q : ℕ) → Applies bytes limit place (SteppedOver q) → LastBefore place q (items_at bytes n (start limit))
  stepped_last q a =
      let b = last_before (judged limit bytes) (positive bytes limit place) place begin q a in
      record { before = b.before; item = b.item; handed = there b.item b.handed; not_done = b.not_done; its_place = b.its_place; last = λ x m d h. b.last x (here x d m) d h }
