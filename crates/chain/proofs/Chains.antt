-- CHAINS OF RELAYS, of any length, with any damage outside length, status byte, sync word and header. Supposed of the first frame: it is acceptable.
-- Assumes nothing.
use mathlib.Core.List.{List, [], ◌∷◌, map}
use mathlib.Core.Logic.{◌⊎◌, inl, inr}
use mathlib.Core.Path.{◌≡◌, refl, sym, ap, subst, ◌∙◌}
use Prim.Native.Nat.{ℕ, zero, suc, ◌≤◌, max}
use native.Mathlib.Omega.{arith}
use borrow.Author.Tests.{ne_eqb}
use denote.Ref.{Bor}
use Rattle.sum.specs.Sum.{sum_of}
use Rattle.octets.specs.Choice.{place_in}
use Rattle.frame.specs.Frame.{statuses, err_of, cut, main_of, main_sum_of}
use Rattle.frame.specs.Rules.{refusal_of, Acceptable, fic_part, stream_part}
use Rattle.frame.specs.Answers.{PartAt, header_for}
use Rattle.frame.specs.Writing.{Clean}
use Rattle.frame.proofs.Accepting.{acceptable, accepted}
use Rattle.frame.proofs.Places.{status_placed}
use Rattle.chain.specs.Chains.{Relay, Link, Chain, end_of, last_of, Each, Some, level_in, MetWrong, called_for, worst, level_due, LevelAtEnd, PassesOn, Unwashed, Undamaged, MainKept, SameParts}
use Rattle.chain.proofs.Heads.{same_refusal, err_kept, nst_kept, ficl_kept, streams_kept}
use Rattle.chain.proofs.Hops.{level_worse, Leaves, leaves, passes, same_parts}

each : (P Q : Relay → Type 0) → ((r : Relay) → P r → Q r) → (rs : List Relay) → Each P rs → Each Q rs
each P Q h [] p = tt
each P Q h (r ∷ rs) p = (h r p.0, each P Q h rs p.1)

-- ---- one link: what is sent to it is accepted
module _ (sent : List ℕ) (r : Relay) (z : refusal_of sent ≡ 0) (k : Link sent r) where
  arrived_accepted : refusal_of r.arrived ≡ 0
  arrived_accepted = same_refusal sent r.arrived k.way ∙ z

  link_passes : PassesOn r
  link_passes = passes r.arrived r.was r.left r.number arrived_accepted k.lent k.relayed

  hop : Leaves r.arrived r.left
  hop = leaves r.arrived r.was r.left r.number arrived_accepted k.lent k.relayed

  -- the level behind it is the worse of the level before it and what the sum that it met calls for
  link_level : level_in r.left ≡ max (level_in sent) (called_for r)
  link_level =
      hop.level
      ∙ level_worse r.arrived
      ∙ ap (λ (e : ℕ). max (place_in statuses e) (called_for r)) (err_kept sent r.arrived k.way)

  link_parts : main_of r.arrived ≡ main_of sent → SameParts sent r.left
  link_parts e =
      same_parts sent r.left z link_passes.accepted
      (hop.nst ∙ nst_kept sent r.arrived k.way)
      (hop.ficl ∙ ficl_kept sent r.arrived k.way)
      (hop.streams ∙ streams_kept sent r.arrived k.way)
      (link_passes.main ∙ e)

-- ---- NO RELAY REFUSES
each_passes : (first : List ℕ) (rs : List Relay) → refusal_of first ≡ 0 → Chain first rs → Each PassesOn rs
each_passes first [] z c = tt
each_passes first (r ∷ rs) z c =
    let p = link_passes first r z c.0 in
    (p, each_passes r.left rs p.accepted c.1)

module _ (first : List ℕ) (rs : List Relay) (a : Acceptable first) (c : Chain first rs) where
  pub all_pass : Each PassesOn rs
  all_pass = each_passes first rs (accepted first a) c

  pub none_refuses : Each (λ r. r.number ≡ 0) rs
  none_refuses = each PassesOn (λ r. r.number ≡ 0) (λ r p. p.number) rs all_pass

-- ---- THE LEVEL AT THE END
worse : (sent left met rest : ℕ) → left ≡ max sent met → max left rest ≡ max sent (max met rest)
worse sent left met rest e = omega arith

level_after : (first : List ℕ) (rs : List Relay) → refusal_of first ≡ 0 → Chain first rs → level_in (end_of first rs) ≡ level_due first rs
level_after first [] z c = best (level_in first)
  where
    best : (n : ℕ) → n ≡ max n 0
    best n = omega arith
level_after first (r ∷ rs) z c =
    level_after r.left rs (link_passes first r z c.0).accepted c.1
    ∙ worse (level_in first) (level_in r.left) (called_for r) (worst (map called_for rs)) (link_level first r z c.0)

last_passes : (first : List ℕ) (r : Relay) (rs : List Relay) → Each PassesOn (r ∷ rs) → PassesOn (last_of r rs) × (end_of first (r ∷ rs) ≡ (last_of r rs).left)
last_passes first r [] p = (p.0, refl)
last_passes first r (q ∷ rs) p = last_passes r.left q rs p.1

-- the worst of the first level and 2 for each wrong sum met
pub level_at_end : (first : List ℕ) (r : Relay) (rs : List Relay) → Acceptable first → Chain first (r ∷ rs) → LevelAtEnd first r rs (level_due first (r ∷ rs))
level_at_end first r rs a c =
    let stands = level_after first (r ∷ rs) (accepted first a) c in
    let p = last_passes first r rs (all_pass first (r ∷ rs) a c) in
    record {
      handed = sym p.0.level ∙ ap level_in (sym p.1) ∙ stands;
      stands = stands;
      read = ap (λ (f : List ℕ). (header_for f).level) p.1 ∙ p.0.read ∙ ap level_in (sym p.1) ∙ stands;
    }

met_called : (r : Relay) → MetWrong r → called_for r ≡ 2
met_called r h = rw (ne_eqb (sum_of (main_of r.arrived)) (main_sum_of r.arrived) h)

some_called : (rs : List Relay) → Some MetWrong rs → 2 ≤ worst (map called_for rs)
some_called (r ∷ rs) (inl h) = within (called_for r) (worst (map called_for rs)) (met_called r h)
  where
    within : (n m : ℕ) → n ≡ 2 → 2 ≤ max n m
    within n m e = omega arith
some_called (r ∷ rs) (inr h) = within (called_for r) (worst (map called_for rs)) (some_called rs h)
  where
    within : (n m : ℕ) → 2 ≤ m → 2 ≤ max n m
    within n m l = omega arith
some_called [] x' = elim x' [ ]

module _ (first : List ℕ) (rs : List Relay) (a : Acceptable first) (c : Chain first rs) where
  e : level_in (end_of first rs) ≡ level_due first rs
  e = level_after first rs (accepted first a) c

  -- no better than the first level
  pub no_better_than_first : level_in first ≤ level_in (end_of first rs)
  no_better_than_first = go (level_in first) (worst (map called_for rs)) (level_in (end_of first rs)) e
    where
      go : (n m k : ℕ) → k ≡ max n m → n ≤ k
      go n m k e = omega arith

  -- and no better than 2 if any relay met a wrong main-stream sum
  pub no_better_than_2 : Some MetWrong rs → 2 ≤ level_in (end_of first rs)
  no_better_than_2 h = go (level_in first) (worst (map called_for rs)) (level_in (end_of first rs)) e (some_called rs h)
    where
      go : (n m k : ℕ) → k ≡ max n m → 2 ≤ m → 2 ≤ k
      go n m k e l = omega arith

-- ---- A FRESH SUM DOES NOT WASH THE LEVEL CLEAN
two_or_three : (n : ℕ) → 2 ≤ n → n ≤ 3 → (n ≡ 2) ⊎ (n ≡ 3)
two_or_three zero l h = absurd (omega arith)
two_or_three (suc zero) l h = absurd (omega arith)
two_or_three (suc (suc zero)) l h = inl refl
two_or_three (suc (suc (suc zero))) l h = inr refl
two_or_three (suc (suc (suc (suc n)))) l h = absurd (omega arith)

raised : (n k m : ℕ) → n ≡ max k m → m ≡ 2 → 2 ≤ n
raised n k m e h = omega arith

unwashed : (r : Relay) → PassesOn r → MetWrong r → Unwashed r.left
unfolding header_for
unwashed r p h =
    let read = p.read in
    let least = raised (level_in r.left) (level_in r.arrived) (called_for r) (p.level ∙ level_worse r.arrived) (met_called r h) in
    let most = status_placed (err_of r.left) (acceptable r.left p.accepted).status in
    record {
      accepted = p.accepted;
      sums = p.sums;
      level = subst (λ (n : ℕ). (n ≡ 2) ⊎ (n ≡ 3)) (sym read) (two_or_three (level_in r.left) least most);
    }

pub not_washed : (first : List ℕ) (rs : List Relay) → Acceptable first → Chain first rs → Each (λ r. MetWrong r → Unwashed r.left) rs
not_washed first rs a c = each PassesOn (λ r. MetWrong r → Unwashed r.left) unwashed rs (all_pass first rs a c)

-- ---- WITH NO DAMAGE AT ALL EVERY STREAM ARRIVES BYTE FOR BYTE
parts_after : (first : List ℕ) (rs : List Relay) → refusal_of first ≡ 0 → Chain first rs → MainKept first rs → SameParts first (end_of first rs)
parts_after first [] z c k = record { fic = refl; stream = λ i. refl; refusal = λ i. refl }
parts_after first (r ∷ rs) z c k =
    let p = link_parts first r z c.0 k.0 in
    let q = parts_after r.left rs (link_passes first r z c.0).accepted c.1 k.1 in
    record { fic = q.fic ∙ p.fic; stream = λ i. q.stream i ∙ p.stream i; refusal = λ i. q.refusal i ∙ p.refusal i }

undamaged_main : (first : List ℕ) (rs : List Relay) → Undamaged first rs → MainKept first rs
undamaged_main first [] u = tt
undamaged_main first (r ∷ rs) u = (ap main_of u.0, undamaged_main r.left rs u.1)

-- a clean frame arrives whole
whole_after : (first : List ℕ) (rs : List Relay) → refusal_of first ≡ 0 → Chain first rs → Undamaged first rs → Clean first → end_of first rs ≡ first
whole_after first [] z c u k = refl
whole_after first (r ∷ rs) z c u k =
    let p = link_passes first r z c.0 in
    let same : r.left ≡ first = c.0.relayed.same p.number (subst Clean (sym u.0) k) ∙ u.0 in
    whole_after r.left rs p.accepted c.1 u.1 (subst Clean (sym same) k) ∙ same

module _ (first : List ℕ) (rs : List Relay) (a : Acceptable first) (c : Chain first rs) where
  -- it is enough that no main stream is damaged
  pub parts_kept : MainKept first rs → SameParts first (end_of first rs)
  parts_kept k = parts_after first rs (accepted first a) c k

  pub parts_arrive : Undamaged first rs → SameParts first (end_of first rs)
  parts_arrive u = parts_kept (undamaged_main first rs u)

  pub clean_arrives : Undamaged first rs → Clean first → end_of first rs ≡ first
  clean_arrives u k = whole_after first rs (accepted first a) c u k

-- what `fic` and `stream` hand out of the frame at the end has the bytes of what they hand out of the first
module _ (first : List ℕ) (rs : List Relay) (a : Acceptable first) (c : Chain first rs) (u : Undamaged first rs) (s t p q : Bor (List ℕ)) (d : s.now ≡ first) (e : t.now ≡ end_of first rs) where
  pub fic_arrives : PartAt s (fic_part s.now) p → PartAt t (fic_part t.now) q → q.now ≡ p.now
  fic_arrives v w =
      w.bytes
      ∙ ap (λ (f : List ℕ). cut f (fic_part f)) e
      ∙ (parts_arrive first rs a c u).fic
      ∙ ap (λ (f : List ℕ). cut f (fic_part f)) (sym d)
      ∙ sym v.bytes

  pub stream_arrives : (i : ℕ) → PartAt s (stream_part s.now i) p → PartAt t (stream_part t.now i) q → q.now ≡ p.now
  stream_arrives i v w =
      w.bytes
      ∙ ap (λ (f : List ℕ). cut f (stream_part f i)) e
      ∙ (parts_arrive first rs a c u).stream i
      ∙ ap (λ (f : List ℕ). cut f (stream_part f i)) (sym d)
      ∙ sym v.bytes
