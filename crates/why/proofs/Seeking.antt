-- What one step of the walk says of a place is true of the walk.
-- Assumes nothing.
use Prim.Native.Nat.{ℕ, ◌+◌, ◌≤◌, ◌<◌}
use mathlib.Core.Path.{◌≡◌, refl, sym, ap, ◌∙◌}
use mathlib.Core.Bool.{true, false}
use mathlib.Core.List.{Memᴰ}
use mathlib.Core.Logic.{◌⊎◌, inl, inr}
use mathlib.Core.Option.{Option, none, some}
use native.Mathlib.Omega.{arith}
use native.Mathlib.Nat.{eq-or-lt_of_le}
use Rattle.octets.proofs.Deciding.{clash}
use Rattle.walk.specs.declared.Item.{Item}
use Rattle.walk.specs.declared.Item.TheVariants.{Frame, Idle, Done, Lost as LostMark}
use Rattle.walk.specs.declared.Position.{Position}
use Rattle.walk.specs.Walk.{Judged, Fair, Stepped, live, look, looks, step_by, step_of}
use Rattle.walk.specs.ItemValues.{place_of}
use Rattle.walk.proofs.ByRules.{by_rules, further, never_done}
use Rattle.walk.proofs.Looks.{step_dead, step_live, walk_ind}
use Rattle.why.specs.declared.Reason.{Reason}
use Rattle.why.specs.declared.Reason.TheVariants.{HandedOut, Lost}
use Rattle.why.specs.declared.Found.{Found}
use Rattle.why.specs.declared.Found.TheVariants.{Hunted, At, Later}
use Rattle.why.specs.Why.{Come, AppliesIn}
use Rattle.why.specs.WhyClauses.{hunted_for, SaysAt, Says}
use Rattle.why.proofs.Covers.{Fresh, first_look, later_look, still_live, stays_fresh, gives_place}
use Rattle.why.proofs.Reasons.{here_for, by_look, here_applies, past_applies, look_applies, silent_here, header_here}

-- the walk goes on from s to t, not past p
pub record Onto (R : Judged) (p : ℕ) (s t : Position) : Type 0 where
  pub moves : s.place < t.place
  pub near : t.place ≤ p
  pub fresh : Fresh R t
  pub looks : (u : Position) → Memᴰ u (looks R t) → Memᴰ u (looks R s)

-- what is found is true of the walk from s on, whose step goes to t
abbrev pub True : Judged → ℕ → Position → Position → Found → Type 0
True R p s t Hunted = AppliesIn R p (looks R s) (hunted_for R p)
True R p s t (At r) = AppliesIn R p (looks R s) r
True R p s t Later = Onto R p s t

module _ (R : Judged) (good : Fair R) (p : ℕ) where
  -- what applies to a later part of a walk applies to the walk
  pub widen : (s t : Position) → ((u : Position) → Memᴰ u (looks R t) → Memᴰ u (looks R s)) → (r : Reason) → AppliesIn R p (looks R t) r → AppliesIn R p (looks R s) r
  widen s t f r a =
      let (u, m, c, e) = by_look R good.positive p (looks R t) r a in
      rw e (look_applies R good.positive p (looks R s) u (f u m) c)

  true-later : (s s' t : Position) → s.place < s'.place → ((u : Position) → Memᴰ u (looks R s') → Memᴰ u (looks R s)) → (f : Found) → True R p s' t f → True R p s t f
  true-later s s' t h g Hunted a = widen s s' g (hunted_for R p) a
  true-later s s' t h g (At r) a = widen s s' g r a
  true-later s s' t h g Later a = record { moves = omega (arith, a.moves); near = a.near; fresh = a.fresh; looks = λ u m. g u (a.looks u m) }

  -- a step's item is not before the walk
  ahead : (s : Position) → s.place ≤ place_of (step_of R s).item
  unfolding step_by
  ahead = walk_ind R good.positive (λ s. s.place ≤ place_of (step_of R s).item) (λ s e. rw (step_dead R good.positive s e) (omega arith)) alive
    where
      at : (s : Position) (g : Option Item) → (look R s).gives ≡ g → (look R s).goes.place ≤ place_of (step_of R (look R s).goes).item → s.place ≤ place_of (step_by g (look R s).goes (step_of R (look R s).goes)).item
      at s none q ih = omega (arith, further R good.positive s, ih)
      at s (some x) q ih = omega (arith, gives_place R good.positive s x q)

      alive : (s : Position) → live R s ≡ true → (look R s).goes.place ≤ place_of (step_of R (look R s).goes).item → s.place ≤ place_of (step_of R s).item
      alive s e ih = rw (step_live R good.positive s e) (at s (look R s).gives refl ih)

  -- an item behind p says that p was hunted over
  says_hunted : (x : Item) (next : ℕ) (f : Found) → p < place_of x → Says x next p f → f ≡ Hunted
  unfolding Says SaysAt
  says_hunted x next f h w = by x f h w
    where
      only : (q : ℕ) (here : Reason) (f : Found) → p < q → SaysAt q here next p f → f ≡ Hunted
      only q here Hunted h w = refl
      only q here (At r) h (inl (e, _)) = absurd (omega arith)
      only q here (At r) h (inr (l, _, _)) = absurd (omega arith)
      only q here Later h (l, _) = absurd (omega arith)

      by : (x : Item) (f : Found) → p < place_of x → Says x next p f → f ≡ Hunted
      by (Frame q g) f h w = only q HandedOut f h w
      by (LostMark q n) f h w = only q (Lost n) f h w
      by (Idle q) f h w = only q HandedOut f h w
      by (Done q) f h w = w

  -- a look that hands out nothing is hunting, and goes to the next place
  next_place : (s : Position) → (look R s).gives ≡ none → (look R s).goes.place ≡ s.place + 1
  next_place = by_rules R (λ s l. l.gives ≡ none → l.goes.place ≡ s.place + 1)
      (λ p k e q. let z : ◌≡◌ {A = ℕ} 0 1 = cc in absurd (omega arith)) (λ p k e b q. let z : ◌≡◌ {A = ℕ} 0 1 = cc in absurd (omega arith)) (λ p k e q. let z : ◌≡◌ {A = ℕ} 0 1 = cc in absurd (omega arith))
      (λ p k e q. let z : ◌≡◌ {A = ℕ} 0 1 = cc in absurd (omega arith)) (λ p k q. refl)

  hunted_here : (s : Position) → (look R s).gives ≡ none → s.place ≡ p → here_for R s ≡ hunted_for R p
  unfolding here_for hunted_for
  hunted_here s g e = let q = silent_here R s g in rw (q.0, q.1, e)

  -- an item of the look in the state s, at q, with the reason for its own place
  module _ (s : Position) (e : live R s ≡ true) (h : s.place ≤ p) where
    given_by : (q : ℕ) (here : Reason) → q ≡ s.place → (p ≡ q → AppliesIn R p (looks R s) here) → (f : Found) → SaysAt q here (look R s).goes.place p f → True R p s (look R s).goes f
    unfolding SaysAt
    given_by q here w a Hunted l = absurd (omega arith)
    given_by q here w a (At r) (inl (y, z)) = rw z (a y)
    given_by q here w a (At r) (inr (l, n, z)) = rw (z, w) (past_applies R good.positive p (looks R s) s (first_look R good.positive s e) (omega arith) n)
    given_by q here w a Later (l, n) =
        record { moves = further R good.positive s; near = n; fresh = stays_fresh R good.positive good.patient s; looks = λ u m. later_look R good.positive s u e m }

    given_out : (x : Item) → (look R s).gives ≡ some x → (f : Found) → Says x (look R s).goes.place p f → True R p s (look R s).goes f
    unfolding Says AppliesIn
    given_out x g = by x g
      where
        come : p ≡ s.place → Come p (looks R s) s
        come y = record { looked = first_look R good.positive s e; here = sym y }

        by : (x : Item) → (look R s).gives ≡ some x → (f : Found) → Says x (look R s).goes.place p f → True R p s (look R s).goes f
        by (Frame q k) g =
            let w : q ≡ s.place = gives_place R good.positive s (Frame q k) g in
            let d : k ≡ R.header q = header_here R s q k g ∙ ap R.header (sym w) in
            given_by q HandedOut w (λ y. inl (record { state = s; come = come (y ∙ w); hands = g ∙ ap (λ (j : _). some (Frame q j)) d ∙ ap (λ (i : ℕ). some (Frame i (R.header i))) (sym y) }))
        by (LostMark q n) g =
            let w : q ≡ s.place = gives_place R good.positive s (LostMark q n) g in
            given_by q (Lost n) w (λ y. record { state = s; come = come (y ∙ w); hands = g ∙ ap (λ (i : ℕ). some (LostMark i n)) (sym y) })
        by (Idle q) g =
            let w : q ≡ s.place = gives_place R good.positive s (Idle q) g in
            given_by q HandedOut w (λ y. inr (record { state = s; come = come (y ∙ w); hands = g ∙ ap (λ (i : ℕ). some (Idle i)) (sym y) }))
        by (Done q) g = absurd (never_done R s q g)

  -- WHAT A STEP SAYS IS TRUE
  abbrev Tells : Position → Stepped → Type 0
  Tells s r = (f : Found) → Says r.item r.walk.place p f → True R p s r.walk f

  pub step_tells : p + R.period ≤ R.len → (s : Position) → Fresh R s → s.place ≤ p → Tells s (step_of R s)
  unfolding step_by
  step_tells room = walk_ind R good.positive (λ s. Fresh R s → s.place ≤ p → Tells s (step_of R s)) dead alive
    where
      dead : (s : Position) → live R s ≡ false → Fresh R s → s.place ≤ p → Tells s (step_of R s)
      dead s e o h = clash (sym (still_live R good.positive p room s o h) ∙ e)

      over : (s : Position) → live R s ≡ true → (look R s).gives ≡ none → (s.place ≡ p) ⊎ (s.place < p) → ((look R s).goes.place ≤ p → Tells (look R s).goes (step_of R (look R s).goes)) → Tells s (step_of R (look R s).goes)
      over s e g (inl z) ih f w =
          let t = (look R s).goes in
          rw (says_hunted (step_of R t).item (step_of R t).walk.place f (omega (arith, next_place s g, ahead t)) w, ← hunted_here s g z)
          (here_applies R good.positive p (looks R s) s (first_look R good.positive s e) z)
      over s e g (inr z) ih f w = let t = (look R s).goes in true-later s t (step_of R t).walk (further R good.positive s) (λ u m. later_look R good.positive s u e m) f (ih (omega (arith, next_place s g)) f w)

      at : (s : Position) → live R s ≡ true → s.place ≤ p → (g : Option Item) → (look R s).gives ≡ g → ((look R s).goes.place ≤ p → Tells (look R s).goes (step_of R (look R s).goes)) → Tells s (step_by g (look R s).goes (step_of R (look R s).goes))
      at s e h none q ih = over s e q (eq-or-lt_of_le h) ih
      at s e h (some x) q ih = given_out s e h x q

      alive : (s : Position) → live R s ≡ true → (Fresh R (look R s).goes → (look R s).goes.place ≤ p → Tells (look R s).goes (step_of R (look R s).goes)) → Fresh R s → s.place ≤ p → Tells s (step_of R s)
      alive s e ih o h = rw (step_live R good.positive s e) (at s e h (look R s).gives refl (ih (stays_fresh R good.positive good.patient s)))
