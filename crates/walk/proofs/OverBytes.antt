-- Demand 3 over a record of bytes, of what repeated calls of the step hand out.
-- Assumes nothing.
use Prim.Native.Nat.{ℕ, zero, suc, ◌+◌, ◌-◌, ◌*◌, ◌≤◌, ◌<◌}
use mathlib.Core.Path.{◌≡◌, refl, ap, ap₂, sym, subst, ◌∙◌}
use mathlib.Core.Bool.{Bool, true, false, not}
use mathlib.Core.Logic.{inl, inr}
use mathlib.Core.List.{List, [], ◌∷◌, ◌++◌, map, append-nil}
use native.Mathlib.Omega.{arith}
use lib.Dec.{lit<, eqb, leb}
use lib.ListN.{length, replicate}
use borrow.Author.Tests.{le-leb, eq-eqb, ne_eqb}
use Rattle.frame.specs.declared.Header.{Header}
use Rattle.octets.specs.Choice.{pick}
use Rattle.frame.specs.Rules.{refusal_of, Acceptable, NullTransmission}
use Rattle.frame.proofs.Accepting.{accepted, acceptable, null_transmission, refused_null}
use Rattle.refusals.specs.Refusals.{refusal_by}
use Rattle.walk.specs.Walk.{Judged, Fair, Position, Item, Frame, Lost, Idle, Done, Stepped, frame_at, item_at, items, rest, step_of, calls, locked, begin}
use Rattle.walk.specs.ItemValues.{place_of}
use Rattle.walk.specs.AnyJudging.{Ends, since, frames, periods, Unbroken}
use Rattle.walk.specs.declared.State.{State}
use Rattle.walk.specs.declared.Step.{Step}
use Rattle.walk.specs.Records.{part, judged, frame_in, table_of, Allowed, within, start, step_with, step_at, calls_at}
use Rattle.walk.specs.Truth.{ItemTrue}
use Rattle.walk.specs.Demand3.{Keeping, EndsIn, UnbrokenIn, Out, out_of, frame_out, lost_out, idle_out, done_out, out_since, frames_out, period_out, periods_out}
use Rattle.walk.proofs.Looks.{rest_dead}
use Rattle.walk.proofs.ByRules.{stands_keeps, stands_item}
use Rattle.walk.proofs.Laws.{no_room, step_kept}
use Rattle.walk.proofs.Ending.{items_bounded, calls_items, calls_first, calls_end, frame_followed}
use Rattle.walk.proofs.First.{intact_handed_out}
use Rattle.walk.proofs.Second.{each_period, length-periods}
use Rattle.walk.proofs.Truth.{step_true}
use Rattle.walk.proofs.Keeping.{sync_given, keeping, kept}
use Rattle.walk.proofs.Limits.{is_allowed, allowed_is, by_limit, step_is, step_outside}

fair : (limit : ℕ) → 0 < limit → (bytes : List ℕ) → Fair (judged limit bytes)
unfolding judged
fair limit h bytes = record { positive = lit< tt; patient = h }

-- ---- what is supposed, of the judging
acceptable_stands : (limit : ℕ) (bytes : List ℕ) (p : ℕ) → Acceptable (part bytes p) → (judged limit bytes).stands p ≡ true
unfolding judged
acceptable_stands limit bytes p ok = eq-eqb (refusal_of (part bytes p)) 0 (accepted (part bytes p) ok)

ends : (limit : ℕ) (bytes : List ℕ) (a n : ℕ) → EndsIn bytes a n → Ends (judged limit bytes) a n
unfolding judged
ends limit bytes a n E =
    record {
      whole = E.whole;
      intact = λ i h. acceptable_stands limit bytes (a + i * 6144) (E.intact i h);
      alternating = λ i h.
          sync_given limit bytes (a + suc i * 6144) (E.intact (suc i) h)
          ∙ E.alternating i h
          ∙ ap not (sym (sync_given limit bytes (a + i * 6144) (E.intact i (omega arith))));
      alone = λ q z room e. E.alone q z room (keeping limit bytes q e);
    }

unbroken : (limit : ℕ) (bytes : List ℕ) (p n : ℕ) → UnbrokenIn limit bytes p n → Unbroken (judged limit bytes) p n
unfolding UnbrokenIn Unbroken judged
unbroken limit bytes p n u i h = let (j, l, ok) = u i h in (j, l, kept limit bytes (p + (i + j) * 6144) ok)

-- ---- lists of items
since_join : (c : ℕ) (xs ys : List Item) → since c (xs ++ ys) ≡ since c xs ++ since c ys
unfolding since
since_join c [] ys = refl
since_join c (x ∷ xs) ys = go (leb c (place_of x)) (since_join c xs ys)
  where
    go : (b : Bool) → since c (xs ++ ys) ≡ since c xs ++ since c ys → pick b (x ∷ since c (xs ++ ys)) (since c (xs ++ ys)) ≡ pick b (x ∷ since c xs) (since c xs) ++ since c ys
    go true e = ap (λ (l : List Item). x ∷ l) e
    go false e = e

since_done : (c p k : ℕ) → c ≤ p → since c (replicate k (Done p)) ≡ replicate k (Done p)
unfolding since
since_done c p zero h = refl
since_done c p (suc k) h = rw (le-leb c p h) (ap (λ (l : List Item). Done p ∷ l) (since_done c p k h))

-- a list whose items since c are frames has the last of them
abbrev Has : Judged → List Item → ℕ → ℕ → Type 0
Has R l n p = (earlier : List Item) × (later : List Item) × (l ≡ earlier ++ (frame_at R (p + n * R.period) ∷ later))

last_of : (R : Judged) (c : ℕ) (l : List Item) (n p : ℕ) → since c l ≡ frames R p (suc n) → Has R l n p
unfolding since frames
last_of R c [] n p e = absurd (let z : ◌≡◌ {A = ℕ} 0 1 = cc in omega arith)
last_of R c (x ∷ l) n p e = go (leb c (place_of x)) n p (λ n p e. last_of R c l n p e) e
  where
    on : (n p : ℕ) → Has R l n p → Has R (x ∷ l) n p
    on n p (earlier, later, q) = (x ∷ earlier, later, ap (λ (m : List Item). x ∷ m) q)

    go : (b : Bool) (n p : ℕ) → ((n p : ℕ) → since c l ≡ frames R p (suc n) → Has R l n p) → pick b (x ∷ since c l) (since c l) ≡ frames R p (suc n) → Has R (x ∷ l) n p
    go false n p ih e = on n p (ih n p e)
    go true zero p ih e = ([], l, ap (λ (y : Item). y ∷ l) (let q : x ≡ frame_at R p = cc in q ∙ ap (frame_at R) (let w : p ≡ p + 0 * R.period = omega arith in w)))
    go true (suc n) p ih e = on (suc n) p (subst (λ (j : ℕ). (earlier : List Item) × (later : List Item) × (l ≡ earlier ++ (frame_at R j ∷ later))) (let w : p + R.period + n * R.period ≡ p + suc n * R.period = omega arith in w) (ih n (p + R.period) (cc)))

-- ---- what the calls hand out: the walk's items, each with its table
module _ (limit : ℕ) (bytes : List ℕ) where
  abbrev with_table : Item → Out
  with_table x = record { item = x; table = table_of bytes x }

  pub calls_out : Allowed limit → (n : ℕ) (p : Position) → map out_of (calls_at bytes n (within limit p)) ≡ map with_table (calls (judged limit bytes) n p)
  unfolding calls_at calls step_with
  calls_out ok zero p = refl
  calls_out ok (suc n) p = rw (step_is bytes limit (is_allowed limit ok) p) (ap (λ (l : List Out). with_table (step_of (judged limit bytes) p).item ∷ l) (calls_out ok n (step_of (judged limit bytes) p).walk))

  since_out : (c : ℕ) (l : List Item) → out_since c (map with_table l) ≡ map with_table (since c l)
  unfolding out_since since
  since_out c [] = refl
  since_out c (x ∷ l) = go (leb c (place_of x)) (since_out c l)
    where
      go : (b : Bool) → out_since c (map with_table l) ≡ map with_table (since c l) → pick b (with_table x ∷ out_since c (map with_table l)) (out_since c (map with_table l)) ≡ map with_table (pick b (x ∷ since c l) (since c l))
      go true e = ap (λ (m : List Out). with_table x ∷ m) e
      go false e = e

  frames_out_lem : (n p k e : ℕ) → map with_table (frames (judged limit bytes) p n ++ replicate k (Done e)) ≡ frames_out bytes p n ++ replicate k (done_out e)
  unfolding frames frames_out judged table_of
  frames_out_lem zero p zero e = refl
  frames_out_lem zero p (suc k) e = ap (λ (l : List Out). done_out e ∷ l) (frames_out_lem zero p k e)
  frames_out_lem (suc n) p k e = ap (λ (l : List Out). frame_out bytes p ∷ l) (frames_out_lem n (p + 6144) k e)

  period_out_lem : (p : ℕ) → with_table (item_at (judged limit bytes) p) ≡ period_out bytes p
  unfolding item_at judged period_out table_of
  period_out_lem p = go (eqb (refusal_of (part bytes p)) 0) (eqb (refusal_of (part bytes p)) 4)
    where
      go : (a b : Bool) → with_table (pick a (frame_at (judged limit bytes) p) (pick b (Idle p) (Lost p (refusal_by (refusal_of (part bytes p)))))) ≡ pick a (frame_out bytes p) (pick b (idle_out p) (lost_out bytes p))
      go true b = refl
      go false true = refl
      go false false = refl

  periods_out_lem : (n p k e : ℕ) → map with_table (periods (judged limit bytes) p n ++ replicate k (Done e)) ≡ periods_out bytes p n ++ replicate k (done_out e)
  unfolding periods periods_out judged table_of
  periods_out_lem zero p zero e = refl
  periods_out_lem zero p (suc k) e = ap (λ (l : List Out). done_out e ∷ l) (periods_out_lem zero p k e)
  periods_out_lem (suc n) p k e = ap₂ (λ (x : Out) (l : List Out). x ∷ l) (period_out_lem p) (periods_out_lem n (p + 6144) k e)

-- ---- the first part
module _ (limit : ℕ) (ok : Allowed limit) (bytes : List ℕ) (a n : ℕ) (E : EndsIn bytes a n) (enough : limit < n) where
  abbrev c : ℕ
  c = a + (limit - 1) * 6144

  intact_items : since c (items (judged limit bytes) begin) ≡ frames (judged limit bytes) c (n - (limit - 1))
  unfolding judged
  intact_items = intact_handed_out (judged limit bytes) (fair limit ok.0 bytes) a n (ends limit bytes a n E) enough

  -- the walk ends in lock behind the last of them
  rest_there : rest (judged limit bytes) begin ≡ locked (length bytes) 0
  unfolding judged
  rest_there =
      let r = n - (limit - 1) - 1 in
      let q : suc r ≡ n - (limit - 1) = omega arith in
      let w : limit - 1 + suc r ≡ n = omega arith in
      let v : (limit - 1 + suc r) * 6144 ≡ n * 6144 = ap (λ (x : ℕ). x * 6144) w in
      let (earlier, later, i) = last_of (judged limit bytes) c (items (judged limit bytes) begin) r c (intact_items ∙ ap (frames (judged limit bytes) c) (sym q)) in
      let z : c + r * 6144 + 6144 ≡ length bytes = omega (arith, E.whole) in
      (frame_followed (judged limit bytes) (lit< tt) begin earlier later (c + r * 6144) _ i).1
      ∙ ap (λ (x : ℕ). rest (judged limit bytes) (locked x 0)) z
      ∙ rest_dead (judged limit bytes) (lit< tt) (locked (length bytes) 0) (no_room (judged limit bytes) (lit< tt) (locked (length bytes) 0) (omega arith))

  -- DEMAND 3, FIRST PART, over the limit m: of at least m + 1 intact frames at the end the m-th and every later one is handed out
  pub intact_out : (calls : ℕ) → length bytes ≤ calls →
      (k : ℕ) × (0 < k) × (out_since (a + (limit - 1) * 6144) (map out_of (calls_at bytes calls (start limit))) ≡ frames_out bytes (a + (limit - 1) * 6144) (n - (limit - 1)) ++ replicate k (done_out (length bytes)))
  unfolding judged
  intact_out m h =
      let R = judged limit bytes in
      let k = m - length (items R begin) in
      let w : limit - 1 + (n - (limit - 1)) ≡ n = omega arith in
      let v : (limit - 1 + (n - (limit - 1))) * 6144 ≡ n * 6144 = ap (λ (x : ℕ). x * 6144) w in
      let b = items_bounded R (lit< tt) begin in (
        k,
        omega (arith, b, E.whole),
        ap (out_since c) (calls_out limit bytes ok m begin)
            ∙ since_out limit bytes c (calls R m begin)
            ∙ ap (λ (l : List Item). map (with_table limit bytes) (since c l)) (calls_end R (lit< tt) begin m (omega arith))
            ∙ ap (map (with_table limit bytes))
            (since_join c (items R begin) (replicate k (Done (rest R begin).place))
            ∙ ap₂ (λ (l : List Item) (s : Position). l ++ since c (replicate k (Done s.place))) intact_items rest_there
            ∙ ap (λ (l : List Item). frames R c (n - (limit - 1)) ++ l) (since_done c (length bytes) k (omega (arith, E.whole))))
            ∙ frames_out_lem limit bytes (n - (limit - 1)) c k (length bytes),
      )

-- DEMAND 3, FIRST PART: whatever damage comes before, of at least four intact frames at the end the third and every later one is handed out.
-- Of as many calls as the record has bytes, or more, those that hand out something at the third frame's place or later hand out exactly these frames, in order, each once, with the header and table that reading gives there, and then only done.
pub demand_3_first : (bytes : List ℕ) (a n : ℕ) → EndsIn bytes a n → 4 ≤ n → (calls : ℕ) → length bytes ≤ calls →
    (k : ℕ) × (0 < k) × (out_since (a + 2 * 6144) (map out_of (calls_at bytes calls (start 3))) ≡ frames_out bytes (a + 2 * 6144) (n - 2) ++ replicate k (done_out (length bytes)))
demand_3_first bytes a n E h = intact_out 3 (lit< tt, lit< tt) bytes a n E h

-- ---- the second part
-- the period at p gives a frame exactly where it is acceptable, and an idle item exactly where it is a null transmission
pub period_accepted : (bytes : List ℕ) (p : ℕ) → Acceptable (part bytes p) → period_out bytes p ≡ frame_out bytes p
unfolding period_out
period_accepted bytes p ok = rw (eq-eqb (refusal_of (part bytes p)) 0 (accepted (part bytes p) ok))

pub period_null : (bytes : List ℕ) (p : ℕ) → NullTransmission (part bytes p) → period_out bytes p ≡ idle_out p
unfolding period_out
period_null bytes p null = rw (refused_null (part bytes p) null)

pub period_refused : (bytes : List ℕ) (p : ℕ) → (Keeping (part bytes p) → ⊥) → period_out bytes p ≡ lost_out bytes p
unfolding period_out
period_refused bytes p bad =
    rw (ne_eqb (refusal_of (part bytes p)) 0 (λ z. bad (inl (acceptable (part bytes p) z))), ne_eqb (refusal_of (part bytes p)) 4 (λ z. bad (inr (null_transmission (part bytes p) z))))

module _ (bytes : List ℕ) (s : State) (q : ℕ) (h : Header) (handed : (step_at bytes s).item ≡ Frame q h)
    (n : ℕ) (room : q + 6144 + n * 6144 ≤ length bytes) (u : UnbrokenIn s.limit bytes (q + 6144) n) where
  -- a walk that hands out a frame has an allowed limit
  ok : Allowed s.limit
  unfolding step_with
  ok = by_limit s.limit _ (allowed_is s.limit) (λ e. let y = step_outside bytes s e in let z : ◌≡◌ {A = ℕ} 0 1 = cc in absurd (omega arith))

  onward : (step_at bytes s).walk ≡ within s.limit (locked (q + 6144) 0)
  onward = (subst (λ (x : Item). ItemTrue bytes s x (step_at bytes s).walk) handed (step_true bytes s)).onward

  -- DEMAND 3, SECOND PART, over the limit
  pub periods_handed_out : map out_of (calls_at bytes n (step_at bytes s).walk) ≡ periods_out bytes (q + 6144) n
  unfolding judged
  periods_handed_out =
      let R = judged s.limit bytes in
      let (t, e, z) = each_period R (fair s.limit ok.0 bytes) n (q + 6144) room (unbroken s.limit bytes (q + 6144) n u) in
      ap (λ (w : State). map out_of (calls_at bytes n w)) onward
      ∙ calls_out s.limit bytes ok n (locked (q + 6144) 0)
      ∙ ap (map (with_table s.limit bytes))
      (ap (λ (m : ℕ). calls R m (locked (q + 6144) 0)) (sym (length-periods R (fair s.limit ok.0 bytes) n (q + 6144)))
      ∙ calls_first R (lit< tt) (locked (q + 6144) 0) (periods R (q + 6144) n) (items R t) e
      ∙ sym (append-nil (periods R (q + 6144) n)))
      ∙ periods_out_lem s.limit bytes n (q + 6144) 0 0
      ∙ append-nil (periods_out bytes (q + 6144) n)

  -- and where the record has no further period, every later call hands back done
  pub periods_then_done : length bytes < q + 6144 + n * 6144 + 6144 → (m : ℕ) →
      (e : ℕ) × (map out_of (calls_at bytes (n + m) (step_at bytes s).walk) ≡ periods_out bytes (q + 6144) n ++ replicate m (done_out e))
  unfolding judged
  periods_then_done end m =
      let R = judged s.limit bytes in
      let (t, e, z) = each_period R (fair s.limit ok.0 bytes) n (q + 6144) room (unbroken s.limit bytes (q + 6144) n u) in
      let i : items R (locked (q + 6144) 0) ≡ periods R (q + 6144) n = e ∙ ap (λ (l : List Item). periods R (q + 6144) n ++ l) (z end) ∙ append-nil (periods R (q + 6144) n) in
      let l : n + m ≡ length (items R (locked (q + 6144) 0)) + m = ap (λ (k : ℕ). k + m) (sym (length-periods R (fair s.limit ok.0 bytes) n (q + 6144)) ∙ ap length (sym i)) in (
        (rest R (locked (q + 6144) 0)).place,
        ap (λ (w : State). map out_of (calls_at bytes (n + m) w)) onward
            ∙ calls_out s.limit bytes ok (n + m) (locked (q + 6144) 0)
            ∙ ap (map (with_table s.limit bytes))
            (ap (λ (k : ℕ). calls R k (locked (q + 6144) 0)) l
            ∙ calls_items R (lit< tt) (locked (q + 6144) 0) m
            ∙ ap (λ (l : List Item). l ++ replicate m (Done (rest R (locked (q + 6144) 0)).place)) i)
            ∙ periods_out_lem s.limit bytes n (q + 6144) m (rest R (locked (q + 6144) 0)).place,
      )

-- what it supposes can be met, by the records of the first part: in lock at the first of n + 1 intact frames, that frame is handed out, and the n periods behind it are there, unbroken
pub second_met : (limit : ℕ) → Allowed limit → (bytes : List ℕ) (a n : ℕ) → EndsIn bytes a (suc n) →
    ((step_at bytes (within limit (locked a 0))).item ≡ frame_in bytes a) × (a + 6144 + n * 6144 ≤ length bytes) × UnbrokenIn limit bytes (a + 6144) n
unfolding UnbrokenIn judged step_with
second_met limit ok bytes a n E =
    let R = judged limit bytes in
    let at : (i q : ℕ) → i < suc n → a + i * 6144 ≡ q → Acceptable (part bytes q) = λ i q h e. subst (λ (p : ℕ). Acceptable (part bytes p)) e (E.intact i h) in
    let y = acceptable_stands limit bytes a (at 0 a (omega arith) (omega arith)) in (
      ap (λ (r : Step). r.item) (step_is bytes limit (is_allowed limit ok) (locked a 0))
          ∙ ap (λ (r : Stepped). r.item) (step_kept R (lit< tt) a 0 (omega (arith, E.whole)) ok.0 (stands_keeps R a y))
          ∙ stands_item R a y,
      omega (arith, E.whole),
      λ i l. (0, ok.0, inl (at (suc i) (a + 6144 + (i + 0) * 6144) (omega arith) (omega arith))),
    )

-- DEMAND 3, SECOND PART: in lock, one item for each period until three in a row are refused for any reason but 4 (or the record ends).
-- After a call that hands out a frame at q, from any state, the next n calls hand out one item for each of the n periods that follow: the frame, with the header and table that reading gives there, if it is acceptable, an idle item if it is a null transmission, and a lost mark with its refusal number if it is neither.
pub demand_3_second : (bytes : List ℕ) (s : State) → s.limit ≡ 3 → (q : ℕ) (h : Header) → (step_at bytes s).item ≡ Frame q h →
    (n : ℕ) → q + 6144 + n * 6144 ≤ length bytes → UnbrokenIn 3 bytes (q + 6144) n →
    map out_of (calls_at bytes n (step_at bytes s).walk) ≡ periods_out bytes (q + 6144) n
demand_3_second bytes s three q h handed n room u = periods_handed_out bytes s q h handed n room (subst (λ (m : ℕ). UnbrokenIn m bytes (q + 6144) n) (sym three) u)

-- .. and where the record has no further period, every later call hands back done
pub demand_3_second_end : (bytes : List ℕ) (s : State) → s.limit ≡ 3 → (q : ℕ) (h : Header) → (step_at bytes s).item ≡ Frame q h →
    (n : ℕ) → q + 6144 + n * 6144 ≤ length bytes → UnbrokenIn 3 bytes (q + 6144) n → length bytes < q + 6144 + n * 6144 + 6144 → (m : ℕ) →
    (e : ℕ) × (map out_of (calls_at bytes (n + m) (step_at bytes s).walk) ≡ periods_out bytes (q + 6144) n ++ replicate m (done_out e))
demand_3_second_end bytes s three q h handed n room u = periods_then_done bytes s q h handed n room (subst (λ (m : ℕ). UnbrokenIn m bytes (q + 6144) n) (sym three) u)
