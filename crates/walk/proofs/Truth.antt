-- What a step from any state says is true of the record: frames stand where they are said to, idle items are null transmissions, lost marks are refused with their number, and done is said where the walk can go no further.
-- Assumes nothing.
use mathlib.Core.Bool.{Bool, true, false, not, ◌&&◌}
use mathlib.Core.List.{List, [], ◌∷◌}
use mathlib.Core.Logic.{◌⊎◌, inl, inr, ⊎_elim}
use mathlib.Core.Path.{◌≡◌, refl, sym, ap, subst, ◌∙◌}
use Prim.Native.Nat.{ℕ, suc, ◌+◌, ◌≤◌, ◌<◌}
use native.Mathlib.Omega.{arith}
use lib.Dec.{lit<, leb}
use borrow.Author.Tests.{leb-true, leb-false, eqb-true, eqb-false}
use Rattle.std.specs.Prelude.{Ok}
use Rattle.frame.specs.declared.Header.{Header}
use Rattle.frame.specs.Rules.{refusal_of}
use Rattle.frame.specs.Answers.{header_values, fields_of}
use Rattle.frame.proofs.Accepting.{acceptable, null_transmission}
use Rattle.frame.proofs.Fixed.{answer_fixed}
use Rattle.frame.proofs.Headers.{header_values_lem}
use Rattle.refusals.specs.declared.Refusal.{Refusal}
use Rattle.refusals.specs.Refusals.{refusal_number}
use Rattle.refusals.proofs.Numbers.{above_zero, number_fixed}
use Rattle.walk.specs.Walk.{Judged, Position, Item, Frame, Lost, Idle, Done, Look, Stepped, item_at, keeps, live, look, locked, hunting, step_by, step_of}
use Rattle.walk.specs.ItemValues.{frame_kind, lost_kind, idle_kind, done_kind, kind_of, item_values}
use Rattle.walk.specs.declared.Moved.{Moved}
use Rattle.walk.specs.declared.State.{State}
use Rattle.walk.specs.Records.{part, judged, allowed, within, step_with, step_at}
use Rattle.walk.specs.StepClauses.{moved_with, moved_at}
use Rattle.walk.specs.Truth.{Over, ItemTrue, StepTrue}
use Rattle.walk.proofs.ByRules.{live_fits, by_item, by_rules, confirmed_stands}
use Rattle.walk.proofs.Looks.{step_dead, step_live, walk_ind}
use Rattle.walk.proofs.Limits.{allowed_is, not-allowed, by_limit, step_is, step_outside}
use Rattle.walk.proofs.Numbered.{refusal_told}
use Rattle.walk.proofs.Stepping.{over_done}

-- over any judging
not_live : (a b c : Bool) → (a && not (b && c)) ≡ false → (a ≡ false) ⊎ ((b ≡ true) × (c ≡ true))
not_live false b c e = inl refl
not_live true true true e = inr (refl, refl)
not_live true true false e = inl e
not_live true false c e = inl e

module _ (R : Judged) (positive : 0 < R.period) where
  over : (s : Position) → live R s ≡ false → (R.len < s.place + R.period) ⊎ ((s.lock ≡ true) × (R.limit ≤ s.misses))
  unfolding live
  over s e = go (not_live (leb (s.place + R.period) R.len) s.lock (leb R.limit s.misses) e)
    where
      go : (leb (s.place + R.period) R.len ≡ false) ⊎ ((s.lock ≡ true) × (leb R.limit s.misses ≡ true)) → (R.len < s.place + R.period) ⊎ ((s.lock ≡ true) × (R.limit ≤ s.misses))
      go (inl h) = inl (leb-false (s.place + R.period) R.len h)
      go (inr (h, l)) = inr (h, leb-true R.limit s.misses l)

  -- the item and the walk that a step from s hands back
  abbrev Holds : Position → Item → Position → Type 0
  Holds s (Frame p h) t = (p + R.period ≤ R.len) × (R.stands p ≡ true) × (h ≡ R.header p) × (t ≡ locked (p + R.period) 0)
  Holds s (Lost p n) t = (p + R.period ≤ R.len) × (R.stands p ≡ false) × (R.null p ≡ false) × (n ≡ R.refusal p)
  Holds s (Idle p) t = (p + R.period ≤ R.len) × (R.null p ≡ true) × (t ≡ locked (p + R.period) 0)
  Holds s (Done p) t = (t.place ≡ p) × (live R t ≡ false) × ((t ≡ s) ⊎ (p + R.period ≡ suc R.len))

  in_lock_lem : (s : Position) (p : ℕ) (t : Position) → p + R.period ≤ R.len → (keeps R p ≡ true → t ≡ locked (p + R.period) 0) → Holds s (item_at R p) t
  in_lock_lem s p t room = by_item R p (λ x b. (b ≡ true → t ≡ locked (p + R.period) 0) → Holds s x t) (λ e f. (room, e, refl, f refl)) (λ e f. (room, e, f refl)) (λ e d f. (room, e, d, refl))

  -- hunting on to a place from which no period exists
  hunted : (p k : ℕ) → p + R.period ≤ R.len → (x : Item) (t : Position) → Holds (hunting (p + 1) k) x t → Holds (hunting p k) x t
  hunted p k room (Frame q h) t a = a
  hunted p k room (Lost q n) t a = a
  hunted p k room (Idle q) t a = a
  hunted p k room (Done q) t (e, d, f) = (e, d, inr (go f (over t d)))
    where
      go : (t ≡ hunting (p + 1) k) ⊎ (q + R.period ≡ suc R.len) → (R.len < t.place + R.period) ⊎ ((t.lock ≡ true) × (R.limit ≤ t.misses)) → q + R.period ≡ suc R.len
      go (inr w) o = w
      go (inl w) (inl o) = let z : t.place ≡ p + 1 = ap (λ (u : Position). u.place) w in omega arith
      go (inl w) (inr (l, o)) = absurd (let z : ◌≡◌ {A = ℕ} 0 1 = cc in omega arith)

  -- what a look does to what the steps after it say
  LookHolds : Position → Look → Type 0
  LookHolds s l = live R s ≡ true → (r : Stepped) → Holds l.goes r.item r.walk → Holds s (step_by l.gives l.goes r).item (step_by l.gives l.goes r).walk

  look_holds : (s : Position) → LookHolds s (look R s)
  unfolding LookHolds step_by
  look_holds = by_rules R LookHolds
      (λ p k e v r a. in_lock_lem _ p _ (live_fits R (locked p k) v) (λ w. refl))
      (λ p k e b v r a. in_lock_lem _ p _ (live_fits R (locked p k) v) (λ w. cc))
      (λ p k e v r a. in_lock_lem _ p _ (live_fits R (locked p k) v) (λ w. cc))
      (λ p k e v r a. (live_fits R (hunting p k) v, confirmed_stands R p e, refl, refl))
      (λ p k v r a. hunted p k (live_fits R (hunting p k) v) r.item r.walk a)

  holds : (s : Position) → Holds s (step_of R s).item (step_of R s).walk
  unfolding LookHolds
  holds = walk_ind R positive (λ (s : Position). Holds s (step_of R s).item (step_of R s).walk) dead alive
    where
      dead : (s : Position) → live R s ≡ false → Holds s (step_of R s).item (step_of R s).walk
      dead s e = subst (λ (r : Stepped). Holds s r.item r.walk) (sym (step_dead R positive s e)) (refl, e, inl refl)

      alive : (s : Position) → live R s ≡ true → Holds (look R s).goes (step_of R (look R s).goes).item (step_of R (look R s).goes).walk → Holds s (step_of R s).item (step_of R s).walk
      alive s e ih = subst (λ (r : Stepped). Holds s r.item r.walk) (sym (step_live R positive s e)) (look_holds s e (step_of R (look R s).goes) ih)

module _ (bytes : List ℕ) where
  -- A STEP SAYS WHAT IS TRUE, from any state
  pub step_true : (s : State) → StepTrue bytes s (step_at bytes s)
  unfolding step_with judged
  step_true s = by_limit s.limit _ inside outside
    where
      R : Judged
      R = judged s.limit bytes

      go : (x : Item) (t : Position) → Holds R (lit< tt) s.position x t → ItemTrue bytes s x (within s.limit t)
      go (Frame p h) t (room, e, q, l) =
          record { fits = room; acceptable = acceptable (part bytes p) (eqb-true (refusal_of (part bytes p)) 0 e); header = q; onward = ap (within s.limit) l }
      go (Lost p n) t (room, e, d, q) =
          let number : refusal_number n ≡ refusal_of (part bytes p) = ap refusal_number q ∙ refusal_told (part bytes p) (eqb-false (refusal_of (part bytes p)) 0 e) in
          record { fits = room; number = number; refused = above_zero n; carrying = λ z. eqb-false (refusal_of (part bytes p)) 4 d (sym number ∙ z) }
      go (Idle p) t (room, e, l) = record { fits = room; null = null_transmission (part bytes p) (eqb-true (refusal_of (part bytes p)) 4 e); onward = ap (within s.limit) l }
      go (Done p) t (q, e, f) = record { place = q; over = inr (over R (lit< tt) t e); first = ⊎_elim (λ w. inl (ap (within s.limit) w)) (λ w. inr (omega arith)) f }

      inside : allowed s.limit ≡ true → StepTrue bytes s (step_at bytes s)
      inside e = rw (step_is bytes s.limit e s.position) (go (step_of R s.position).item (step_of R s.position).walk (holds R (lit< tt) s.position))

      outside : allowed s.limit ≡ false → StepTrue bytes s (step_at bytes s)
      outside e = rw (step_outside bytes s e) (record { place = refl; over = inl (not-allowed s.limit e); first = inl refl })

  -- and where the walk can go no further it says done, at its place, and stays as it is
  pub done_there : (s : State) → Over bytes s → step_at bytes s ≡ step_with bytes (Done s.position.place) s
  unfolding moved_at moved_with
  done_there s h = by_limit s.limit _ (inside h) (step_outside bytes s)
    where
      inside : Over bytes s → allowed s.limit ≡ true → step_at bytes s ≡ step_with bytes (Done s.position.place) s
      inside (inl bad) e = absurd (bad (allowed_is s.limit e))
      inside (inr spent) e = step_is bytes s.limit e s.position ∙ ap (λ (r : Moved). step_with bytes r.item (within s.limit r.position)) (sym (over_done s.limit bytes s.position spent s.position refl))

  -- THE VALUES of a step's item are the paper's
  module _ (s : State) where
    said : (x : Item) → (step_at bytes s).item ≡ x → ItemTrue bytes s x (step_at bytes s).walk
    said x e = subst (λ (y : Item). ItemTrue bytes s y (step_at bytes s).walk) e (step_true s)

    pub frame_values : (p : ℕ) (h : Header) → (step_at bytes s).item ≡ Frame p h → item_values (Frame p h) ≡ frame_kind ∷ p ∷ fields_of (part bytes p)
    unfolding item_values
    frame_values p h e = let t = said (Frame p h) e in ap (λ (vs : List ℕ). frame_kind ∷ p ∷ vs) (ap header_values t.header ∙ header_values_lem (part bytes p) t.acceptable)

    pub lost_values : (p : ℕ) (n : Refusal) → (step_at bytes s).item ≡ Lost p n → item_values (Lost p n) ≡ lost_kind ∷ p ∷ refusal_of (part bytes p) ∷ []
    unfolding item_values
    lost_values p n e = ap (λ (v : ℕ). lost_kind ∷ p ∷ v ∷ []) (said (Lost p n) e).number

    pub idle_values : (p : ℕ) → (step_at bytes s).item ≡ Idle p → item_values (Idle p) ≡ idle_kind ∷ p ∷ 4 ∷ []
    unfolding item_values
    idle_values p e = refl

    pub done_values : (p : ℕ) → (step_at bytes s).item ≡ Done p → item_values (Done p) ≡ done_kind ∷ p ∷ []
    unfolding item_values
    done_values p e = refl

-- KIND, PLACE AND VALUES FIX AN ITEM
-- items of different kinds have different values
clash : (x y : Item) → item_values x ≡ item_values y → (kind_of x ≡ kind_of y → ⊥) → ⊥
unfolding item_values
clash x y e h = let z : kind_of x ≡ kind_of y = cc in h z

pub item_fixed : (x y : Item) → item_values x ≡ item_values y → x ≡ y
unfolding item_values
item_fixed (Frame p h) (Frame q k) e =
    let a : p ≡ q = cc in
    let v : header_values h ≡ header_values k = cc in
    let b = answer_fixed (Ok h) (Ok k) refl v in
    let c : h ≡ k = cc in
    λ i. Frame (a i) (c i)
item_fixed (Lost p m) (Lost q n) e =
    let a : p ≡ q = cc in
    let b = number_fixed m n (cc) in
    λ i. Lost (a i) (b i)
item_fixed (Idle p) (Idle q) e = cc
item_fixed (Done p) (Done q) e = cc
item_fixed (Frame p h) (Lost q n) e = absurd (clash (Frame p h) (Lost q n) e (λ z. omega arith))
item_fixed (Frame p h) (Idle q) e = absurd (clash (Frame p h) (Idle q) e (λ z. omega arith))
item_fixed (Frame p h) (Done q) e = absurd (clash (Frame p h) (Done q) e (λ z. omega arith))
item_fixed (Lost p m) (Frame q k) e = absurd (clash (Lost p m) (Frame q k) e (λ z. omega arith))
item_fixed (Lost p m) (Idle q) e = absurd (clash (Lost p m) (Idle q) e (λ z. omega arith))
item_fixed (Lost p m) (Done q) e = absurd (clash (Lost p m) (Done q) e (λ z. omega arith))
item_fixed (Idle p) (Frame q k) e = absurd (clash (Idle p) (Frame q k) e (λ z. omega arith))
item_fixed (Idle p) (Lost q n) e = absurd (clash (Idle p) (Lost q n) e (λ z. omega arith))
item_fixed (Idle p) (Done q) e = absurd (clash (Idle p) (Done q) e (λ z. omega arith))
item_fixed (Done p) (Frame q k) e = absurd (clash (Done p) (Frame q k) e (λ z. omega arith))
item_fixed (Done p) (Lost q n) e = absurd (clash (Done p) (Lost q n) e (λ z. omega arith))
item_fixed (Done p) (Idle q) e = absurd (clash (Done p) (Idle q) e (λ z. omega arith))
