-- The step over the bytes of a record, as the code's proofs cite it.
-- Assumes nothing.
use mathlib.Core.Bool.{Bool, true, false, not, beq, and-false}
use mathlib.Core.List.{List}
use mathlib.Core.Logic.{inl, inr}
use mathlib.Core.Path.{◌≡◌, refl, sym, ap, ap₂, subst, ◌∙◌}
use Prim.Native.Nat.{ℕ, zero, suc, ◌+◌, ◌-◌, ◌≤◌, ◌<◌}
use native.Mathlib.Omega.{arith}
use native.Mathlib.Decide.{dec_le}
use lib.Dec.{lit<, leb}
use lib.ListN.{length}
use borrow.Author.Tests.{eq-eqb, ne_eqb, eqb-true, le-leb}
use Rattle.std.specs.Prelude.{Ok, Err}
use Rattle.frame.specs.declared.Header.{Header}
use Rattle.frame.specs.declared.Reading.{Reading}
use Rattle.frame.specs.Rules.{refusal_of}
use Rattle.frame.specs.Answers.{Reads}
use Rattle.reading.proofs.Answered.{got_header, got_table, got_refused, got_nonzero}
use Rattle.refusals.specs.declared.Refusal.{Refusal}
use Rattle.refusals.specs.Refusals.{refusal_number}
use Rattle.refusals.proofs.Numbers.{above_zero}
use Rattle.walk.specs.declared.Position.{Position}
use Rattle.walk.specs.declared.Moved.{Moved}
use Rattle.walk.specs.Walk.{Item, Frame, Lost, Idle, Done, Stepped, differ, confirmed, item_at, keeps, step_of, hunting, locked}
use Rattle.walk.specs.Records.{part, judged, fsync1_at, frame_in, NoneStands, table_of}
use Rattle.walk.specs.StepClauses.{Spent, bare, moved_with, moved_at}
use Rattle.periods.proofs.Passing.{refused_short}
use Rattle.walk.proofs.ByRules.{confirmed_stands, not-standing, unfollowed, stands_keeps, stands_item}
use Rattle.walk.proofs.Numbered.{refusal_is}
use Rattle.walk.proofs.Laws.{step_short, step_spent, step_kept, step_missed, step_last, step_confirmed, step_passed}

-- an item that is no frame has no table
module _ (bytes : List ℕ) (w : Position) where
  pub lost_bare : (p : ℕ) (n : Refusal) → bare (Lost p n) w ≡ moved_with bytes (Lost p n) w
  unfolding moved_with table_of
  lost_bare p n = refl

  pub idle_bare : (p : ℕ) → bare (Idle p) w ≡ moved_with bytes (Idle p) w
  unfolding moved_with table_of
  idle_bare p = refl

  pub done_bare : (p : ℕ) → bare (Done p) w ≡ moved_with bytes (Done p) w
  unfolding moved_with table_of
  done_bare p = refl

pub as_locked : (s : Position) → s.lock ≡ true → locked s.place s.misses ≡ s
as_locked s e = λ i. record { place = s.place; misses = s.misses; lock = sym e i }

pub as_hunting : (s : Position) → s.lock ≡ false → hunting s.place s.misses ≡ s
as_hunting s e = λ i. record { place = s.place; misses = s.misses; lock = sym e i }

-- the period at p is refused
refused_stands : (limit : ℕ) (bytes : List ℕ) (p n : ℕ) → n ≡ refusal_of (part bytes p) → (n ≡ 0 → ⊥) → (judged limit bytes).stands p ≡ false
unfolding judged
refused_stands limit bytes p n e z = ne_eqb (refusal_of (part bytes p)) 0 (λ q. z (e ∙ q))

-- .. and is no null transmission: a lost mark, and the lock is not kept
module _ (limit : ℕ) (bytes : List ℕ) (p : ℕ) (n : Refusal) (e : refusal_number n ≡ refusal_of (part bytes p)) (c : refusal_number n ≡ 4 → ⊥) where
  refused_misses : keeps (judged limit bytes) p ≡ false
  unfolding judged keeps
  refused_misses = rw (ne_eqb (refusal_of (part bytes p)) 0 (λ q. above_zero n (e ∙ q)), ne_eqb (refusal_of (part bytes p)) 4 (λ q. c (e ∙ q)))

  refused_lost : item_at (judged limit bytes) p ≡ Lost p n
  unfolding judged item_at
  refused_lost =
      rw (ne_eqb (refusal_of (part bytes p)) 0 (λ q. above_zero n (e ∙ q)), ne_eqb (refusal_of (part bytes p)) 4 (λ q. c (e ∙ q))) (ap (λ (r : Refusal). Lost p r) (refusal_is (part bytes p) n e))

module _ (limit : ℕ) (bytes : List ℕ) where
  -- the step over a record, from the walk's step
  as_step : (s : Position) (x : Item) (t : Position) → step_of (judged limit bytes) s ≡ record { item = x; walk = t } → moved_with bytes x t ≡ moved_at limit bytes s
  unfolding moved_at
  as_step s x t e = ap (λ (r : Stepped). moved_with bytes r.item r.walk) (sym e)

  -- where the walk s can go no further
  spent : (s : Position) → s.lock ≡ true → limit ≤ s.misses → moved_with bytes (Done s.place) s ≡ moved_at limit bytes s
  unfolding judged
  spent s l h =
      subst (λ (t : Position). moved_with bytes (Done t.place) t ≡ moved_at limit bytes t) (as_locked s l)
      (as_step (locked s.place s.misses) (Done s.place) (locked s.place s.misses) (step_spent (judged limit bytes) (lit< tt) s.place s.misses h))

  pub over_done : (s : Position) → Spent limit bytes s → (w : Position) → w ≡ s → moved_with bytes (Done w.place) w ≡ moved_at limit bytes s
  unfolding judged
  over_done s (inl h) w e = ap (λ (t : Position). moved_with bytes (Done t.place) t) e ∙ as_step s (Done s.place) s (step_short (judged limit bytes) (lit< tt) s h)
  over_done s (inr (l, h)) w e = ap (λ (t : Position). moved_with bytes (Done t.place) t) e ∙ spent s l h

  module _ (p k : ℕ) where
    module _ (room : p + 6144 ≤ length bytes) where
      -- from the item and the walk of the walk's own step
      to : (x : Item) (t : Position) → step_of (judged limit bytes) (locked p k) ≡ record { item = item_at (judged limit bytes) p; walk = t } → item_at (judged limit bytes) p ≡ x → (w : Position) → w ≡ t → moved_with bytes x w ≡ moved_at limit bytes (locked p k)
      to x t e i w q = ap (moved_with bytes x) q ∙ as_step (locked p k) x t (e ∙ ap (λ (y : Item). record { item = y; walk = t }) i)

      pub lock_stands : k < limit → refusal_of (part bytes p) ≡ 0 → moved_with bytes (frame_in bytes p) (locked (p + 6144) 0) ≡ moved_at limit bytes (locked p k)
      unfolding judged
      lock_stands h e =
          let y : (judged limit bytes).stands p ≡ true = eq-eqb (refusal_of (part bytes p)) 0 e in
          to (frame_in bytes p) (locked (p + 6144) 0) (step_kept (judged limit bytes) (lit< tt) p k room h (stands_keeps (judged limit bytes) p y)) (stands_item (judged limit bytes) p y) _ refl

      pub lock_null : k < limit → refusal_of (part bytes p) ≡ 4 → (w : Position) → w ≡ locked (p + 6144) 0 → moved_with bytes (Idle p) w ≡ moved_at limit bytes (locked p k)
      unfolding judged item_at keeps
      lock_null h e w q =
          to (Idle p) (locked (p + 6144) 0) (step_kept (judged limit bytes) (lit< tt) p k room h (rw e)) (rw e) w q

      module _ (n : Refusal) (e : refusal_number n ≡ refusal_of (part bytes p)) (c : refusal_number n ≡ 4 → ⊥) where
        pub lock_missed : k + 1 < limit → (w : Position) → w ≡ locked (p + 6144) (k + 1) → moved_with bytes (Lost p n) w ≡ moved_at limit bytes (locked p k)
        unfolding judged
        lock_missed h = to (Lost p n) (locked (p + 6144) (k + 1)) (step_missed (judged limit bytes) (lit< tt) p k room h (refused_misses limit bytes p n e c)) (refused_lost limit bytes p n e c)

        pub lock_last : k + 1 ≡ limit → (w : Position) → w ≡ hunting (p + 1) (k + 1) → moved_with bytes (Lost p n) w ≡ moved_at limit bytes (locked p k)
        unfolding judged
        lock_last h = to (Lost p n) (hunting (p + 1) (k + 1)) (step_last (judged limit bytes) (lit< tt) p k room h (refused_misses limit bytes p n e c)) (refused_lost limit bytes p n e c)

      pub hunt_confirmed : confirmed (judged limit bytes) p ≡ true → moved_with bytes (frame_in bytes p) (locked (p + 6144) 0) ≡ moved_at limit bytes (hunting p k)
      unfolding judged
      hunt_confirmed e = as_step (hunting p k) (frame_in bytes p) (locked (p + 6144) 0) (step_confirmed (judged limit bytes) (lit< tt) p k room e)

      hunt_on : confirmed (judged limit bytes) p ≡ false → moved_at limit bytes (hunting p k) ≡ moved_at limit bytes (hunting (p + 1) k)
      unfolding judged moved_at
      hunt_on e = ap (λ (r : Stepped). moved_with bytes r.item r.walk) (step_passed (judged limit bytes) (lit< tt) p k room e)

-- ---- what confirms a place
-- a place that stands has its period
pub stands_whole : (bytes : List ℕ) (p : ℕ) → refusal_of (part bytes p) ≡ 0 → p + 6144 ≤ length bytes
stands_whole bytes p e = go (dec_le (p + 6144) (length bytes))
  where
    go : Dec (p + 6144 ≤ length bytes) → p + 6144 ≤ length bytes
    go (yes l) = l
    go (no l) = absurd (let z : ◌≡◌ {A = ℕ} 1 0 = refused_short bytes p (omega arith) ∙ e in omega arith)

module _ (limit : ℕ) (bytes : List ℕ) (p : ℕ) where
  pub confirmed_accepted : confirmed (judged limit bytes) p ≡ true → refusal_of (part bytes p) ≡ 0
  unfolding judged
  confirmed_accepted e = eqb-true (refusal_of (part bytes p)) 0 (confirmed_stands (judged limit bytes) p e)

  pub unconfirmed : (n : ℕ) → n ≡ refusal_of (part bytes p) → (n ≡ 0 → ⊥) → false ≡ confirmed (judged limit bytes) p
  unconfirmed n e z = sym (not-standing (judged limit bytes) p (refused_stands limit bytes p n e z))

  pub no_second : length bytes < p + 6144 + 6144 → false ≡ confirmed (judged limit bytes) p
  unfolding judged
  no_second h = sym (unfollowed (judged limit bytes) p h)

  -- after one that stands
  module _ (z : refusal_of (part bytes p) ≡ 0) (m : ℕ) (d : m ≡ refusal_of (part bytes (p + 6144))) where
    pub second_refused : (m ≡ 0 → ⊥) → false ≡ confirmed (judged limit bytes) p
    unfolding confirmed judged
    second_refused y =
        rw (eq-eqb (refusal_of (part bytes p)) 0 z, ne_eqb (refusal_of (part bytes (p + 6144))) 0 (λ q. y (d ∙ q)), and-false (leb (p + 6144 + 6144) (length bytes)))

    pub both_stand : m ≡ 0 → (s t : Bool) → s ≡ fsync1_at bytes p → t ≡ fsync1_at bytes (p + 6144) → not (beq s t) ≡ confirmed (judged limit bytes) p
    unfolding confirmed judged
    both_stand y s t es et =
        rw (eq-eqb (refusal_of (part bytes p)) 0 z, le-leb (p + 6144 + 6144) (length bytes) (stands_whole bytes (p + 6144) (sym d ∙ y)), eq-eqb (refusal_of (part bytes (p + 6144))) 0 (sym d ∙ y))
        (differs s t ∙ ap₂ differ es et)
      where
        differs : (a b : Bool) → not (beq a b) ≡ differ a b
        differs true true = refl
        differs true false = refl
        differs false true = refl
        differs false false = refl

-- from a and from b the hunt hands back the same
abbrev pub Same : List ℕ → ℕ → ℕ → Type 0
Same bytes a b = (limit k : ℕ) → moved_at limit bytes (hunting a k) ≡ moved_at limit bytes (hunting b k)

pub unconfirmed_passed : (bytes : List ℕ) (p : ℕ) → p + 6144 ≤ length bytes → ((limit : ℕ) → confirmed (judged limit bytes) p ≡ false) → Same bytes p (p + 1)
unconfirmed_passed bytes p room e limit k = hunt_on limit bytes p k room (e limit)

past_in : (bytes : List ℕ) (n a b : ℕ) → b ≡ a + n → NoneStands bytes a b → Same bytes a b
past_in bytes zero a b e m limit k = ap (λ (p : ℕ). moved_at limit bytes (hunting p k)) (let q : a ≡ b = omega arith in q)
past_in bytes (suc n) a b e m limit k =
    let bad = m.refused a (omega arith) (omega arith) in
    unconfirmed_passed bytes a (m.room a (omega arith) (omega arith)) (λ l. sym (unconfirmed l bytes a (refusal_of (part bytes a)) refl bad)) limit k
    ∙ past_in bytes n (a + 1) b (omega arith) (record { ahead = omega arith; room = λ i x y. m.room i (omega arith) y; refused = λ i x y. m.refused i (omega arith) y }) limit k

-- past places that do not stand the hunt may go on
pub past : (bytes : List ℕ) {a b : ℕ} → NoneStands bytes a b → Same bytes a b
past bytes {a} {b} m = past_in bytes (b - a) a b (omega (arith, m.ahead)) m

-- ---- a frame that reading accepted
pub frame_read : (bytes : List ℕ) (p : ℕ) (r : Reading) (h : Header) (w s : Position) → Reads (part bytes p) r → r.answer ≡ Ok h → w ≡ s
    → ◌≡◌ {A = Moved} (record { item = Frame p h; table = r.table; position = w }) (moved_with bytes (frame_in bytes p) s)
unfolding moved_with table_of
frame_read bytes p r h w s reads e q =
    let a = got_header (part bytes p) r reads h e in
    let b = got_table (part bytes p) r reads h e in
    λ i. record { item = Frame p (a i); table = b i; position = q i }

pub not-refused : (bytes : List ℕ) (p : ℕ) (r : Reading) (n : Refusal) → Reads (part bytes p) r → r.answer ≡ Err n → refusal_of (part bytes p) ≡ 0 → ⊥
not-refused bytes p r n reads e z = got_nonzero (part bytes p) r reads n e (got_refused (part bytes p) r reads n e ∙ z)
