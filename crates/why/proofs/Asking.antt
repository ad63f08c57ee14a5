-- What the code's proofs cite.
-- Assumes nothing.
use Prim.Native.Nat.{ℕ, ◌+◌, ◌≤◌, ◌<◌}
use mathlib.Core.Path.{◌≡◌, refl, sym, ap, subst, ◌∙◌}
use mathlib.Core.Bool.{true, and-false}
use mathlib.Core.List.{List, Memᴰ}
use native.Mathlib.Omega.{arith}
use lib.Dec.{leb}
use lib.ListN.{length}
use borrow.Author.Tests.{eq-eqb, ne_eqb, le-leb, lt-ltb, le-ltb}
use Rattle.octets.proofs.Deciding.{clash}
use Rattle.frame.specs.Rules.{refusal_of}
use Rattle.std.specs.Prelude.{Ok, Err}
use Rattle.refusals.specs.declared.Refusal.{Refusal}
use Rattle.refusals.specs.declared.Refusal.TheVariants.{PlaceOutside}
use Rattle.refusals.specs.Refusals.{refusal_number}
use Rattle.refusals.proofs.Numbers.{above_zero}
use Rattle.walk.specs.declared.Item.{Item}
use Rattle.walk.specs.declared.Position.{Position}
use Rattle.walk.specs.declared.State.{State}
use Rattle.walk.specs.declared.Step.{Step}
use Rattle.walk.specs.Walk.{looks, begin, step_of}
use Rattle.walk.specs.Records.{part, judged, allowed, limit_refusal_of, within, start, Begins, step_with, step_at}
use Rattle.walk.proofs.Beginning.{is_begun, is_refused}
use Rattle.walk.proofs.Numbered.{refusal_is}
use Rattle.walk.proofs.Stepping.{stands_whole}
use Rattle.walk.proofs.Limits.{allowed_is, step_is}
use Rattle.why.specs.declared.Reason.{Reason}
use Rattle.why.specs.declared.Reason.TheVariants.{Refused, NotStanding, SameSync}
use Rattle.why.specs.declared.Found.{Found}
use Rattle.why.specs.declared.Found.TheVariants.{Hunted, At, Later}
use Rattle.why.specs.Why.{followed, Applies, why_refusal_of, Answers}
use Rattle.why.specs.WhyClauses.{hunted_for, Says, Asked}
use Rattle.why.proofs.AnswersFixed.{because, refusing}
use Rattle.why.proofs.Covers.{Fresh}
use Rattle.why.proofs.Reasons.{fair}
use Rattle.why.proofs.Seeking.{Onto, True, widen, step_tells}

-- ---- a place that was hunted over
module _ (bytes : List ℕ) (limit p : ℕ) where
  pub hunted_refused : (n : Refusal) → refusal_number n ≡ refusal_of (part bytes p) → Refused n ≡ hunted_for (judged limit bytes) p
  unfolding hunted_for judged
  hunted_refused n e = rw (ne_eqb (refusal_of (part bytes p)) 0 (λ q. above_zero n (e ∙ q))) (ap (λ (r : Refusal). Refused r) (sym (refusal_is (part bytes p) n e)))

  module _ (z : refusal_of (part bytes p) ≡ 0) where
    pub hunted_alone : (refusal_of (part bytes (p + 6144)) ≡ 0 → ⊥) → NotStanding ≡ hunted_for (judged limit bytes) p
    unfolding hunted_for followed judged
    hunted_alone y = rw (eq-eqb (refusal_of (part bytes p)) 0 z, ne_eqb (refusal_of (part bytes (p + 6144))) 0 y, and-false (leb (p + 6144 + 6144) (length bytes)))

    pub hunted_same : refusal_of (part bytes (p + 6144)) ≡ 0 → SameSync ≡ hunted_for (judged limit bytes) p
    unfolding hunted_for followed judged
    hunted_same y =
        rw (eq-eqb (refusal_of (part bytes p)) 0 z, le-leb (p + 6144 + 6144) (length bytes) (stands_whole bytes (p + 6144) y), eq-eqb (refusal_of (part bytes (p + 6144))) 0 y)

-- ---- the walk with limit m up to the place p: it has come to s, not past the place
pub record Reached (bytes : List ℕ) (m p : ℕ) (s : State) : Type 0 where
  pub patient : allowed m ≡ true
  pub room : p + 6144 ≤ length bytes
  pub kept : s.limit ≡ m
  pub near : s.position.place ≤ p
  pub fresh : Fresh (judged m bytes) s.position
  pub looks : (u : Position) → Memᴰ u (looks (judged m bytes) s.position) → Memᴰ u (looks (judged m bytes) begin)

pub begins : (bytes : List ℕ) (p : ℕ) (s : State) → Asked bytes s p → Reached bytes s.limit p s
begins bytes p s a =
    let q = a.begins in
    record {
      patient = a.patient;
      room = a.room;
      kept = refl;
      near = omega (arith, ap (λ (t : Position). t.place) q);
      fresh = λ z. clash (sym z ∙ ap (λ (t : Position). t.lock) q);
      looks = λ u m. subst (λ (t : Position). Memᴰ u (looks (judged s.limit bytes) t)) q m;
    }

-- a step with limit m
step_of_lem : (bytes : List ℕ) (m : ℕ) (s : State) → allowed m ≡ true → s.limit ≡ m →
    step_at bytes s ≡ step_with bytes (step_of (judged m bytes) s.position).item (within m (step_of (judged m bytes) s.position).walk)
step_of_lem bytes m s ok e = ap (λ (k : ℕ). step_at bytes (within k s.position)) e ∙ step_is bytes m ok s.position

module _ (bytes : List ℕ) (m p : ℕ) (s : State) (o : Reached bytes m p s) (r : Step) (e : r ≡ step_at bytes s) where
  step_item : r.item ≡ (step_of (judged m bytes) s.position).item
  unfolding step_with
  step_item = ap (λ (t : Step). t.item) (e ∙ step_of_lem bytes m s o.patient o.kept)

  step_walk : r.walk ≡ within m (step_of (judged m bytes) s.position).walk
  unfolding step_with
  step_walk = ap (λ (t : Step). t.walk) (e ∙ step_of_lem bytes m s o.patient o.kept)

  module _ (f : Found) (w : Says r.item r.walk.position.place p f) where
    told : True (judged m bytes) p s.position (step_of (judged m bytes) s.position).walk f
    unfolding judged
    told =
        step_tells (judged m bytes) (fair m bytes (allowed_is m o.patient)) p o.room s.position o.fresh o.near f
        (subst (λ (t : State). Says (step_of (judged m bytes) s.position).item t.position.place p f) step_walk (subst (λ (x : Item). Says x r.walk.position.place p f) step_item w))

    found : (g : Found) → f ≡ g → True (judged m bytes) p s.position (step_of (judged m bytes) s.position).walk g
    found g q = subst (True (judged m bytes) p s.position (step_of (judged m bytes) s.position).walk) q told

    pub ends_hunted : (x : Reason) → x ≡ hunted_for (judged m bytes) p → f ≡ Hunted → Applies bytes m p x
    ends_hunted x y q = rw y (widen (judged m bytes) (fair m bytes (allowed_is m o.patient)) p begin s.position o.looks (hunted_for (judged m bytes) p) (found Hunted q))

    pub ends_at : (x : Reason) → f ≡ At x → Applies bytes m p x
    ends_at x q = widen (judged m bytes) (fair m bytes (allowed_is m o.patient)) p begin s.position o.looks x (found (At x) q)

    onto : f ≡ Later → Onto (judged m bytes) p s.position r.walk.position
    onto q = subst (λ (t : State). Onto (judged m bytes) p s.position t.position) (sym step_walk) (found Later q)

    pub goes_on : f ≡ Later → Reached bytes m p r.walk
    goes_on q =
        let t = onto q in
        record { patient = o.patient; room = o.room; kept = ap (λ (t : State). t.limit) step_walk; near = t.near; fresh = t.fresh; looks = λ u m. o.looks u (t.looks u m) }

    pub goes_further : f ≡ Later → s.position.place < r.walk.position.place
    goes_further q = (onto q).moves

-- ---- the answer
module _ (bytes : List ℕ) (limit place : ℕ) where
  pub not_begun : (n : Refusal) → Begins limit (Err n) → Answers bytes limit place (Err n)
  unfolding why_refusal_of limit_refusal_of
  not_begun n w =
      let (y, e) = is_refused limit (Err n) w n refl in
      refusing bytes limit place n (e ∙ (rw y))

  module _ (s : State) (w : Begins limit (Ok s)) where
    begun : (allowed limit ≡ true) × (s ≡ start limit)
    begun = is_begun limit (Ok s) w s refl

    pub outside : length bytes < place + 6144 → Answers bytes limit place (Err PlaceOutside)
    unfolding why_refusal_of
    outside h = refusing bytes limit place PlaceOutside (rw (begun.0, lt-ltb (length bytes) (place + 6144) h))

    pub asked : place + 6144 ≤ length bytes → Asked bytes s place
    asked h = let e = begun.1 in record { patient = rw e begun.0; begins = ap (λ (t : State). t.position) e; room = h }

    pub answered : place + 6144 ≤ length bytes → (r : Reason) → Applies bytes s.limit place r → Answers bytes limit place (Ok r)
    unfolding why_refusal_of
    answered h r a =
        because bytes limit place r (rw (begun.0, le-ltb (length bytes) (place + 6144) h)) (subst (λ (t : State). Applies bytes t.limit place r) begun.1 a)
