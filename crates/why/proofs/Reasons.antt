-- To each place of a record exactly one reason applies, and it agrees with the walk's items.
-- Assumes nothing.
use Prim.Native.Nat.{ℕ, ◌+◌, ◌≤◌, ◌<◌}
use mathlib.Core.Path.{◌≡◌, refl, sym, ap, ◌∙◌}
use mathlib.Core.Bool.{Bool, true, false, ◌&&◌}
use mathlib.Core.List.{List, Memᴰ}
use mathlib.Core.Logic.{◌⊎◌, inl, inr}
use mathlib.Core.Option.{Option, none, some}
use native.Mathlib.Omega.{arith}
use native.Mathlib.Nat.{eq-or-lt_of_le}
use native.Mathlib.Decide.{dec_le}
use lib.Dec.{eqb}
use lib.ListN.{length}
use borrow.Author.Tests.{eq-eqb, ne_eqb}
use Rattle.frame.specs.declared.Header.{Header}
use Rattle.octets.specs.Choice.{pick}
use Rattle.octets.proofs.Deciding.{clash}
use Rattle.refusals.specs.declared.Refusal.{Refusal}
use Rattle.walk.specs.declared.Item.{Item}
use Rattle.walk.specs.declared.Item.TheVariants.{Frame, Idle, Done, Lost as LostMark}
use Rattle.walk.specs.declared.Position.{Position}
use Rattle.walk.specs.Walk.{Judged, Fair, Look, differ, fits, confirmed, frame_at, item_at, look_locked, look_hunting, look, looks, items, begin, locked, hunting}
use Rattle.walk.specs.ItemValues.{done_kind, kind_of, place_of}
use Rattle.walk.specs.Records.{judged, Allowed}
use Rattle.walk.proofs.ByRules.{further, never_done}
use Rattle.why.specs.declared.Reason.{Reason}
use Rattle.why.specs.declared.Reason.TheVariants.{HandedOut, Lost, Refused, NotStanding, SameSync, SteppedOver}
use Rattle.why.specs.Why.{Come, HandedAt, HuntedOver, followed, AppliesIn, OutAt, LastBefore, Applies}
use Rattle.why.proofs.Covers.{Covers, Fresh, one_cover, some_cover, gives_place, leaps, given, gives}

-- ---- one look, by what decides it: lock, whether the place stands, is a null transmission, is confirmed, is followed; its header and refusal
abbrev gives_by : Bool → Bool → Bool → Bool → ℕ → Header → Refusal → Option Item
gives_by l a z c p h n = pick l (some (pick a (Frame p h) (pick z (Idle p) (LostMark p n)))) (pick c (some (Frame p h)) none)

abbrev reason_by : Bool → Bool → Bool → Bool → Bool → Refusal → Reason
reason_by l a z c d n = pick l (pick a HandedOut (pick z HandedOut (Lost n))) (pick c HandedOut (pick a (pick d SameSync NotStanding) (Refused n)))

frame_by : (l a z c d : Bool) (p : ℕ) (h : Header) (n : Refusal) (q : ℕ) (g : Header) → gives_by l a z c p h n ≡ some (Frame q g) → HandedOut ≡ reason_by l a z c d n
frame_by true true z c d p h n q g e = refl
frame_by true false true c d p h n q g e = refl
frame_by true false false c d p h n q g e = cc
frame_by false a z true d p h n q g e = refl
frame_by false a z false d p h n q g e = cc

idle_by : (l a z c d : Bool) (p : ℕ) (h : Header) (n : Refusal) (q : ℕ) → gives_by l a z c p h n ≡ some (Idle q) → HandedOut ≡ reason_by l a z c d n
idle_by true true z c d p h n q e = refl
idle_by true false true c d p h n q e = refl
idle_by true false false c d p h n q e = cc
idle_by false a z true d p h n q e = refl
idle_by false a z false d p h n q e = cc

lost_by_lem : (l a z c d : Bool) (p : ℕ) (h : Header) (n : Refusal) (q : ℕ) (m : Refusal) → gives_by l a z c p h n ≡ some (LostMark q m) → Lost m ≡ reason_by l a z c d n
lost_by_lem true true z c d p h n q m e = cc
lost_by_lem true false true c d p h n q m e = cc
lost_by_lem true false false c d p h n q m e = cc
lost_by_lem false a z true d p h n q m e = cc
lost_by_lem false a z false d p h n q m e = cc

silent_by : (l a z c : Bool) (p : ℕ) (h : Header) (n : Refusal) → gives_by l a z c p h n ≡ none → (l ≡ false) × (c ≡ false)
silent_by true a z c p h n e = (cc, cc)
silent_by false a z true p h n e = (refl, cc)
silent_by false a z false p h n e = (refl, refl)

-- the header is the reading's
header_by : (l a z c : Bool) (p : ℕ) (h : Header) (n : Refusal) (q : ℕ) (g : Header) → gives_by l a z c p h n ≡ some (Frame q g) → g ≡ h
header_by true true z c p h n q g e = cc
header_by true false true c p h n q g e = cc
header_by true false false c p h n q g e = cc
header_by false a z true p h n q g e = cc
header_by false a z false p h n q g e = cc

no_such : (q : ℕ) (l a z c d : Bool) (n : Refusal) → SteppedOver q ≡ reason_by l a z c d n → ⊥
no_such q true true z c d n e = let z : ◌≡◌ {A = ℕ} 0 1 = cc in omega arith
no_such q true false true c d n e = let z : ◌≡◌ {A = ℕ} 0 1 = cc in omega arith
no_such q true false false c d n e = let z : ◌≡◌ {A = ℕ} 0 1 = cc in omega arith
no_such q false a z true d n e = let z : ◌≡◌ {A = ℕ} 0 1 = cc in omega arith
no_such q false false z false d n e = let z : ◌≡◌ {A = ℕ} 0 1 = cc in omega arith
no_such q false true z false false n e = let z : ◌≡◌ {A = ℕ} 0 1 = cc in omega arith
no_such q false true z false true n e = let z : ◌≡◌ {A = ℕ} 0 1 = cc in omega arith

-- a place that stands and is followed, and is not confirmed, is followed with its own sync word
unconfirmed_same : (R : Judged) (p : ℕ) → R.stands p ≡ true → followed R p ≡ true → confirmed R p ≡ false → R.sync (p + R.period) ≡ R.sync p
unfolding confirmed followed
unconfirmed_same R p e = rw e (go (fits R (p + R.period)) (R.stands (p + R.period)) (R.sync p) (R.sync (p + R.period)))
  where
    go : (f a s t : Bool) → (f && a) ≡ true → (f && (a && differ s t)) ≡ false → t ≡ s
    go true true true true x y = refl
    go true true true false x y = clash y
    go true true false true x y = clash y
    go true true false false x y = refl
    go true false s t x y = clash (sym x)
    go false a s t x y = clash (sym x)

module _ (R : Judged) where
  abbrev gives_at : Bool → Bool → Bool → Bool → ℕ → Option Item
  gives_at l a z c p = gives_by l a z c p (R.header p) (R.refusal p)

  gives_is : (s : Position) → (look R s).gives ≡ gives_at s.lock (R.stands s.place) (R.null s.place) (confirmed R s.place) s.place
  unfolding look look_locked look_hunting item_at
  gives_is s = go s.place s.misses s.lock
    where
      hunts : (p k : ℕ) (c : Bool) → (pick {A = Look} c (record { gives = some (frame_at R p); goes = locked (p + R.period) 0 }) (record { gives = none; goes = hunting (p + 1) k })).gives ≡ gives_at false (R.stands p) (R.null p) c p
      hunts p k true = refl
      hunts p k false = refl

      go : (p k : ℕ) (l : Bool) → (pick {A = Look} l (look_locked R p k) (look_hunting R p k)).gives ≡ gives_at l (R.stands p) (R.null p) (confirmed R p) p
      go p k true = refl
      go p k false = hunts p k (confirmed R p)

  unfoldable pub here_for : Position → Reason
  here_for s = reason_by s.lock (R.stands s.place) (R.null s.place) (confirmed R s.place) (followed R s.place) (R.refusal s.place)

  module _ (s : Position) where
    frame_here : (q : ℕ) (g : Header) → (look R s).gives ≡ some (Frame q g) → HandedOut ≡ here_for s
    unfolding here_for
    frame_here q g e =
        frame_by s.lock (R.stands s.place) (R.null s.place) (confirmed R s.place) (followed R s.place) s.place (R.header s.place) (R.refusal s.place) q g (sym (gives_is s) ∙ e)

    idle_here : (q : ℕ) → (look R s).gives ≡ some (Idle q) → HandedOut ≡ here_for s
    unfolding here_for
    idle_here q e =
        idle_by s.lock (R.stands s.place) (R.null s.place) (confirmed R s.place) (followed R s.place) s.place (R.header s.place) (R.refusal s.place) q (sym (gives_is s) ∙ e)

    lost_here : (q : ℕ) (n : Refusal) → (look R s).gives ≡ some (LostMark q n) → Lost n ≡ here_for s
    unfolding here_for
    lost_here q n e =
        lost_by_lem s.lock (R.stands s.place) (R.null s.place) (confirmed R s.place) (followed R s.place) s.place (R.header s.place) (R.refusal s.place) q n (sym (gives_is s) ∙ e)

    pub silent_here : (look R s).gives ≡ none → (s.lock ≡ false) × (confirmed R s.place ≡ false)
    silent_here e = silent_by s.lock (R.stands s.place) (R.null s.place) (confirmed R s.place) s.place (R.header s.place) (R.refusal s.place) (sym (gives_is s) ∙ e)

    pub header_here : (q : ℕ) (g : Header) → (look R s).gives ≡ some (Frame q g) → g ≡ R.header s.place
    header_here q g e = header_by s.lock (R.stands s.place) (R.null s.place) (confirmed R s.place) s.place (R.header s.place) (R.refusal s.place) q g (sym (gives_is s) ∙ e)

    not-past : (q : ℕ) → SteppedOver q ≡ here_for s → ⊥
    unfolding here_for
    not-past q e = no_such q s.lock (R.stands s.place) (R.null s.place) (confirmed R s.place) (followed R s.place) (R.refusal s.place) e

  -- the reason for a place that the look in the state s covers
  unfoldable pub reason_for : ℕ → Position → Reason
  reason_for p s = pick (eqb s.place p) (here_for s) (SteppedOver s.place)

  reason_here : (p : ℕ) (s : Position) → s.place ≡ p → reason_for p s ≡ here_for s
  unfolding reason_for
  reason_here p s e = rw (eq-eqb s.place p e)

  reason_past : (p : ℕ) (s : Position) → s.place < p → reason_for p s ≡ SteppedOver s.place
  unfolding reason_for
  reason_past p s h = rw (ne_eqb s.place p (λ e. omega arith))

module _ (R : Judged) (positive : 0 < R.period) (p : ℕ) (l : List Position) where
  -- ---- a reason that applies is that of a look which covers the place
  abbrev By : Reason → Type 0
  By r = (s : Position) × Memᴰ s l × Covers R p s × (r ≡ reason_for R p s)

  covers_here : (s : Position) → s.place ≡ p → Covers R p s
  covers_here s e = record { from = omega arith; to = omega (arith, further R positive s) }

  handed_by_lem : (x : Item) (r : Reason) → ((s : Position) → (look R s).gives ≡ some x → r ≡ here_for R s) → HandedAt R p l x → By r
  handed_by_lem x r f h =
      (h.state, h.come.looked, covers_here h.state h.come.here, f h.state h.hands ∙ sym (reason_here R p h.state h.come.here))

  hunted_by : (r : Reason) → ((s : Position) → s.lock ≡ false → confirmed R s.place ≡ false → s.place ≡ p → r ≡ here_for R s) → HuntedOver R p l → By r
  hunted_by r f h =
      let s = h.state in
      let q = silent_here R s h.silent in
      (s, h.come.looked, covers_here s h.come.here, f s q.0 q.1 h.come.here ∙ sym (reason_here R p s h.come.here))

  pub by_look : (r : Reason) → AppliesIn R p l r → By r
  unfolding AppliesIn here_for
  by_look HandedOut (inl h) = handed_by_lem (frame_at R p) HandedOut (λ s e. frame_here R s p (R.header p) e) h
  by_look HandedOut (inr h) = handed_by_lem (Idle p) HandedOut (λ s e. idle_here R s p e) h
  by_look (Lost n) h = handed_by_lem (LostMark p n) (Lost n) (λ s e. lost_here R s p n e) h
  by_look (Refused n) (h, a, e) = hunted_by (Refused n) (λ s x c q. rw (x, c, q, a, e)) h
  by_look NotStanding (h, a, d) = hunted_by NotStanding (λ s x c q. rw (x, c, q, a, d)) h
  by_look SameSync (h, a, d, e) = hunted_by SameSync (λ s x c q. rw (x, c, q, a, d)) h
  by_look (SteppedOver q) h =
      let s = h.state in
      let w : q ≡ s.place = sym h.its_place ∙ gives_place R positive s h.item h.hands in
      (s, h.looked, record { from = omega (arith, h.before); to = h.past }, ap SteppedOver w ∙ sym (reason_past R p s (omega (arith, h.before))))

  -- ---- and the reason of such a look applies
  pub here_applies : (s : Position) → Memᴰ s l → s.place ≡ p → AppliesIn R p l (here_for R s)
  unfolding AppliesIn here_for
  here_applies s m e = go s.lock refl (R.stands s.place) refl (R.null s.place) refl (confirmed R s.place) refl (followed R s.place) refl
    where
      come : Come p l s
      come = record { looked = m; here = e }

      out : (x : Item) (x₀ a z c : Bool) → s.lock ≡ x₀ → R.stands s.place ≡ a → R.null s.place ≡ z → confirmed R s.place ≡ c → gives_at R x₀ a z c s.place ≡ some x → HandedAt R p l x
      out x x₀ a z c ex ea ez ec q = record { state = s; come = come; hands = gives_is R s ∙ (rw (ex, ea, ez, ec) q) }

      over : s.lock ≡ false → confirmed R s.place ≡ false → HuntedOver R p l
      over ex ec = record { state = s; come = come; hunts = ex; silent = gives_is R s ∙ (rw (ex, ec)) }

      go : (x : Bool) → s.lock ≡ x → (a : Bool) → R.stands s.place ≡ a → (z : Bool) → R.null s.place ≡ z → (c : Bool) → confirmed R s.place ≡ c → (d : Bool) → followed R s.place ≡ d → AppliesIn R p l (reason_by x a z c d (R.refusal s.place))
      go true ex true ea z ez c ec d ed = inl (out (frame_at R p) true true z c ex ea ez ec (ap (λ (q : ℕ). some (frame_at R q)) e))
      go true ex false ea true ez c ec d ed = inr (out (Idle p) true false true c ex ea ez ec (ap (λ (q : ℕ). some (Idle q)) e))
      go true ex false ea false ez c ec d ed = out (LostMark p (R.refusal s.place)) true false false c ex ea ez ec (ap (λ (q : ℕ). some (LostMark q (R.refusal s.place))) e)
      go false ex a ea z ez true ec d ed = inl (out (frame_at R p) false a z true ex ea ez ec (ap (λ (q : ℕ). some (frame_at R q)) e))
      go false ex false ea z ez false ec d ed = (over ex ec, rw e at ea, ap R.refusal e)
      go false ex true ea z ez false ec false ed = (over ex ec, rw e at ea, rw e at ed)
      go false ex true ea z ez false ec true ed = (over ex ec, rw e at ea, rw e at ed, unconfirmed_same R p (rw e at ea) (rw e at ed) (rw e at ec))

  pub past_applies : (s : Position) → Memᴰ s l → s.place < p → p < (look R s).goes.place → AppliesIn R p l (SteppedOver s.place)
  unfolding AppliesIn
  past_applies s m h to =
      let (y, x, g) = leaps R positive s (omega arith) in
      record { state = s; looked = m; item = x; hands = g; its_place = gives_place R positive s x g; before = h; locks = y; past = to }

  pub look_applies : (s : Position) → Memᴰ s l → Covers R p s → AppliesIn R p l (reason_for R p s)
  look_applies s m c = go (eq-or-lt_of_le c.from)
    where
      go : (s.place ≡ p) ⊎ (s.place < p) → AppliesIn R p l (reason_for R p s)
      go (inl e) = rw (reason_here R p s e) (here_applies s m e)
      go (inr h) = rw (reason_past R p s h) (past_applies s m h c.to)

-- EXACTLY ONE REASON, from any state of a walk on
module _ (R : Judged) (positive : 0 < R.period) (p : ℕ) (u : Position) where
  pub only_reason : (r t : Reason) → AppliesIn R p (looks R u) r → AppliesIn R p (looks R u) t → r ≡ t
  only_reason r t a b =
      let (s, m, c, e) = by_look R positive p (looks R u) r a in
      let (s', m', c', e') = by_look R positive p (looks R u) t b in
      e ∙ ap (reason_for R p) (one_cover R positive p u s s' m m' c c') ∙ sym e'

module _ (R : Judged) (good : Fair R) (p : ℕ) (u : Position) where
  pub some_reason : p + R.period ≤ R.len → Fresh R u → u.place ≤ p → (r : Reason) × AppliesIn R p (looks R u) r
  some_reason room o h =
      let (s, m, c) = some_cover R good.positive p good.patient room u o h in
      (reason_for R p s, look_applies R good.positive p (looks R u) s m c)

-- no look hands out done
pub not_done_lem : (R : Judged) (s : Position) (x : Item) → (look R s).gives ≡ some x → kind_of x ≡ done_kind → ⊥
not_done_lem R s (Done q) e d = never_done R s q e
not_done_lem R s (Frame q h) e d = omega arith
not_done_lem R s (LostMark q k) e d = omega arith
not_done_lem R s (Idle q) e d = omega arith

-- AGREEMENT WITH THE ITEMS
module _ (R : Judged) (positive : 0 < R.period) (p : ℕ) (u : Position) where
  item_at_lem : (x : Item) → place_of x ≡ p → Memᴰ x (items R u) → HandedAt R p (looks R u) x
  unfolding items
  item_at_lem x e m =
      let (s, n, g) = given R (looks R u) x m in
      record { state = s; come = record { looked = n; here = sym (gives_place R positive s x g) ∙ e }; hands = g }

  at_item : (x : Item) → HandedAt R p (looks R u) x → Memᴰ x (items R u)
  unfolding items
  at_item x h = gives R (looks R u) x h.state h.come.looked h.hands

  pub handed_out : AppliesIn R p (looks R u) HandedOut → OutAt p (items R u)
  unfolding AppliesIn
  handed_out (inl h) = inl (R.header p, at_item (frame_at R p) h)
  handed_out (inr h) = inr (at_item (Idle p) h)

  pub out_handed : OutAt p (items R u) → AppliesIn R p (looks R u) HandedOut
  unfolding AppliesIn
  out_handed (inr m) = inr (item_at_lem (Idle p) refl m)
  out_handed (inl (h, m)) =
      let a = item_at_lem (Frame p h) refl m in
      let w : h ≡ R.header p = header_here R a.state p h a.hands ∙ ap R.header a.come.here in
      inl (record { state = a.state; come = a.come; hands = a.hands ∙ ap (λ (g : Header). some (Frame p g)) w })

  pub lost_mark : (n : Refusal) → AppliesIn R p (looks R u) (Lost n) → Memᴰ (LostMark p n) (items R u)
  unfolding AppliesIn
  lost_mark n h = at_item (LostMark p n) h

  pub mark_lost : (n : Refusal) → Memᴰ (LostMark p n) (items R u) → AppliesIn R p (looks R u) (Lost n)
  unfolding AppliesIn
  mark_lost n m = item_at_lem (LostMark p n) refl m

  -- a place stepped over is never come to
  pub never_come : (q : ℕ) → AppliesIn R p (looks R u) (SteppedOver q) → (s : Position) → Come p (looks R u) s → ⊥
  never_come q a s k =
      let (t, m, c, e) = by_look R positive p (looks R u) (SteppedOver q) a in
      let o = one_cover R positive p u s t k.looked m (covers_here R positive p (looks R u) s k.here) c in
      not-past R t q (e ∙ reason_here R p t (sym (ap (λ (x : Position). x.place) o) ∙ k.here))

  -- and the place given with it is that of the last item before it
  pub item_before : (q : ℕ) → AppliesIn R p (looks R u) (SteppedOver q) → (q < p) × ((x : Item) → Memᴰ x (items R u) → place_of x ≤ p → place_of x ≤ q)
  unfolding AppliesIn items
  item_before q a = (a.before, λ x m h. last x h (given R (looks R u) x m))
    where
      last : (x : Item) → place_of x ≤ p → (s : Position) × Memᴰ s (looks R u) × ((look R s).gives ≡ some x) → place_of x ≤ q
      last x h (s, m, g) = by (dec_le s.place q)
        where
          by : Dec (s.place ≤ q) → place_of x ≤ q
          by (yes l) = omega (arith, gives_place R positive s x g)
          by (no l) =
              let t = a.state in
              let y : place_of x ≡ s.place = gives_place R positive s x g in
              let w : q ≡ t.place = sym a.its_place ∙ gives_place R positive t a.item a.hands in
              let o : s ≡ t = one_cover R positive s.place u s t m a.looked (record { from = omega arith; to = further R positive s }) (record { from = omega arith; to = omega (arith, a.past) }) in
              let z : s.place ≡ t.place = ap (λ (v : Position). v.place) o in
              absurd (omega arith)

  -- .. which is handed out, and is not done
  pub last_before : (q : ℕ) → AppliesIn R p (looks R u) (SteppedOver q) → LastBefore p q (items R u)
  unfolding AppliesIn items
  last_before q a =
      record {
        before = a.before;
        item = a.item;
        handed = gives R (looks R u) a.item a.state a.looked a.hands;
        not_done = not_done_lem R a.state a.item a.hands;
        its_place = a.its_place;
        last = λ x m d h. (item_before q a).1 x m h;
      }

-- OF A RECORD, with an allowed limit
pub fair : (limit : ℕ) (bytes : List ℕ) → Allowed limit → Fair (judged limit bytes)
unfolding judged
fair limit bytes ok = record { positive = omega arith; patient = omega (arith, ok.0) }

-- to each place from 0 to its length less 6,144 exactly one reason applies
pub one_reason : (bytes : List ℕ) (limit place : ℕ) → Allowed limit → place + 6144 ≤ length bytes →
    (r : Reason) × Applies bytes limit place r × ((t : Reason) → Applies bytes limit place t → r ≡ t)
unfolding judged
one_reason bytes limit place ok room =
    let (r, a) = some_reason (judged limit bytes) (fair limit bytes ok) place begin room (λ e. clash (sym e)) (omega arith) in
    (r, a, λ t b. only_reason (judged limit bytes) (fair limit bytes ok).positive place begin r t a b)

module _ (bytes : List ℕ) (limit place : ℕ) where
  pub positive : 0 < (judged limit bytes).period
  unfolding judged
  positive = omega arith

  -- handed out exactly where the walk's items have a frame or an idle item
  pub handed_is_out : (Applies bytes limit place HandedOut → OutAt place (items (judged limit bytes) begin))
      × (OutAt place (items (judged limit bytes) begin) → Applies bytes limit place HandedOut)
  handed_is_out = (handed_out (judged limit bytes) positive place begin, out_handed (judged limit bytes) positive place begin)

  -- lost exactly where they have a lost mark, with that number
  pub lost_is_mark : (n : Refusal) → (Applies bytes limit place (Lost n) → Memᴰ (LostMark place n) (items (judged limit bytes) begin)) × (Memᴰ (LostMark place n) (items (judged limit bytes) begin) → Applies bytes limit place (Lost n))
  lost_is_mark n = (lost_mark (judged limit bytes) positive place begin n, mark_lost (judged limit bytes) positive place begin n)
