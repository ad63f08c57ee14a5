-- No message is handed on but one whose groups came, in their order, with a closing sum that fits.
-- Assumes nothing.
use mathlib.Core.Bool.{Bool, true, false}
use mathlib.Core.List.{List, [], ◌∷◌, ◌++◌, append_assoc}
use mathlib.Core.Logic.{◌⊎◌, inl, inr, ⊎_elim}
use mathlib.Core.Option.{Option, none, some}
use mathlib.Core.Path.{◌≡◌, refl, subst}
use Prim.Native.Nat.{ℕ, ◌<◌}
use native.Mathlib.Omega.{arith}
use lib.Dec.{eqb, ltb}
use lib.ListN.{length, take}
use borrow.Author.Tests.{eqb-true}
use Rattle.sum.specs.Sum.{sum_of}
use Rattle.signalling.specs.declared.Kind.{Kind}
use Rattle.signalling.specs.declared.Kind.TheVariants.{Start, Continuation, End, Other}
use Rattle.signalling.specs.Feeding.{giving, run}
use Rattle.signalling.specs.Groups.{Frame, Gathered, group, missing, groups}
use Rattle.signalling.specs.Messages.{kind_of, type_of, gr_nb, group_bytes, message_bytes, end_bytes, closing_sum, Strung, shut, opened, message, closed, by_kind, string, items}
use Rattle.sending.specs.MessageTrips.{Continuing, Among, Within, Came}

-- ---- one group
-- an open message with the stated number of continuations, an end, and a closing sum that fits
record Closes (o : Strung) (g : List ℕ) (type : ℕ) (body : List ℕ) : Type 0 where
  start : List ℕ
  continuations : List (List ℕ)
  «open» : o ≡ opened start continuations
  end : kind_of g ≡ End
  count : length continuations ≡ gr_nb start
  sum : sum_of (group_bytes start continuations ++ take 6 g) ≡ closing_sum g
  handed : message type body ≡ message (type_of start) (message_bytes start continuations ++ end_bytes g)

module _ (g : List ℕ) (type : ℕ) (body : List ℕ) where
  fits : (s : List ℕ) (cs : List (List ℕ)) → kind_of g ≡ End → length cs ≡ gr_nb s → (b : Bool) → eqb (sum_of (group_bytes s cs ++ take 6 g)) (closing_sum g) ≡ b
      → some (closed s cs g) ≡ some (message type body) → Closes (opened s cs) g type body
  fits s cs k n true e h =
      record { start = s; continuations = cs; «open» = refl; end = k; count = n; sum = eqb-true (sum_of (group_bytes s cs ++ take 6 g)) (closing_sum g) e; handed = let q = rw e at h in cc }
  fits s cs k n false e h = let q = rw e at h in let z : ◌≡◌ {A = ℕ} 0 1 = cc in absurd (omega arith)

  ending : (s : List ℕ) (cs : List (List ℕ)) → kind_of g ≡ End → (b : Bool) → eqb (length cs) (gr_nb s) ≡ b
      → (by_kind End (opened s cs) g).gives ≡ some (message type body) → Closes (opened s cs) g type body
  unfolding by_kind
  ending s cs k true e h = fits s cs k (eqb-true (length cs) (gr_nb s) e) (eqb (sum_of (group_bytes s cs ++ take 6 g)) (closing_sum g)) refl (rw e at h)
  ending s cs k false e h = let q = rw e at h in let z : ◌≡◌ {A = ℕ} 0 1 = cc in absurd (omega arith)

  going_on : (s : List ℕ) (cs : List (List ℕ)) (b : Bool) → ltb (length cs) (gr_nb s) ≡ b → (by_kind Continuation (opened s cs) g).gives ≡ some (message type body) → ⊥
  unfolding by_kind
  going_on s cs true e h = let q = rw e at h in let z : ◌≡◌ {A = ℕ} 0 1 = cc in omega arith
  going_on s cs false e h = let q = rw e at h in let z : ◌≡◌ {A = ℕ} 0 1 = cc in omega arith

  by_kind_lem : (k : Kind) → kind_of g ≡ k → (o : Strung) → (by_kind k o g).gives ≡ some (message type body) → Closes o g type body
  unfolding by_kind
  by_kind_lem Start e shut h = let z : ◌≡◌ {A = ℕ} 0 1 = cc in absurd (omega arith)
  by_kind_lem Start e (opened s cs) h = let z : ◌≡◌ {A = ℕ} 0 1 = cc in absurd (omega arith)
  by_kind_lem Other e o h = let z : ◌≡◌ {A = ℕ} 0 1 = cc in absurd (omega arith)
  by_kind_lem Continuation e shut h = let z : ◌≡◌ {A = ℕ} 0 1 = cc in absurd (omega arith)
  by_kind_lem Continuation e (opened s cs) h = absurd (going_on s cs (ltb (length cs) (gr_nb s)) refl h)
  by_kind_lem End e shut h = let z : ◌≡◌ {A = ℕ} 0 1 = cc in absurd (omega arith)
  by_kind_lem End e (opened s cs) h = ending s cs e (eqb (length cs) (gr_nb s)) refl h

-- ---- all that was gathered
within_more : {gs : List (List ℕ)} {l : List Gathered} → Within gs l → (m : List Gathered) → Within gs (l ++ m)
within_more Within.none m = Within.none
within_more (Within.next w) m = Within.next (within_more w m)
within_more (Within.past w) m = Within.past (within_more w m)

within_last : (l : List Gathered) (g : List ℕ) → Within (g ∷ []) (l ++ (group g ∷ []))
within_last [] g = Within.next Within.none
within_last (x ∷ l) g = Within.past (within_last l g)

within_snoc : {gs : List (List ℕ)} {l : List Gathered} → Within gs l → (g : List ℕ) → Within (gs ++ (g ∷ [])) (l ++ (group g ∷ []))
within_snoc (Within.none {l}) g = within_last l g
within_snoc (Within.next w) g = Within.next (within_snoc w g)
within_snoc (Within.past w) g = Within.past (within_snoc w g)

continuing_snoc : {cs : List (List ℕ)} (g : List ℕ) → Continuing cs → kind_of g ≡ Continuation → Continuing (cs ++ (g ∷ []))
continuing_snoc g Continuing.none e = Continuing.more e Continuing.none
continuing_snoc g (Continuing.more h c) e = Continuing.more h (continuing_snoc g c e)

-- the open message came, in its order
data Built : Strung → List Gathered → Type 0 where
  unopened : {l : List Gathered} → Built shut l
  built : {s : List ℕ} {cs : List (List ℕ)} {l : List Gathered} → kind_of s ≡ Start → Continuing cs → Within (s ∷ cs) l → Built (opened s cs) l

built_more : {o : Strung} {l : List Gathered} → Built o l → (m : List Gathered) → Built o (l ++ m)
built_more Built.unopened m = Built.unopened
built_more (Built.built e c w) m = Built.built e c (within_more w m)

module _ (l : List Gathered) (g : List ℕ) where
  joined : (s : List ℕ) (cs : List (List ℕ)) → kind_of g ≡ Continuation → (b : Bool) → ltb (length cs) (gr_nb s) ≡ b → Built (opened s cs) l → Built (by_kind Continuation (opened s cs) g).goes (l ++ (group g ∷ []))
  unfolding by_kind
  joined s cs k true e (Built.built p c w) = rw e (Built.built p (continuing_snoc g c k) (within_snoc w g))
  joined s cs k false e b = rw e Built.unopened

  ended : (s : List ℕ) (cs : List (List ℕ)) (b : Bool) → eqb (length cs) (gr_nb s) ≡ b → Built (by_kind End (opened s cs) g).goes (l ++ (group g ∷ []))
  unfolding by_kind
  ended s cs true e = rw e Built.unopened
  ended s cs false e = rw e Built.unopened

  built_kind : (k : Kind) → kind_of g ≡ k → (o : Strung) → Built o l → Built (by_kind k o g).goes (l ++ (group g ∷ []))
  unfolding by_kind
  built_kind Other e o b = built_more b (group g ∷ [])
  built_kind Start e shut b = Built.built e Continuing.none (within_last l g)
  built_kind Start e (opened s cs) b = Built.built e Continuing.none (within_last l g)
  built_kind Continuation e shut b = Built.unopened
  built_kind Continuation e (opened s cs) b = joined s cs e (ltb (length cs) (gr_nb s)) refl b
  built_kind End e shut b = Built.unopened
  built_kind End e (opened s cs) b = ended s cs (eqb (length cs) (gr_nb s)) refl

built_on : (o : Strung) (l : List Gathered) (x : Gathered) → Built o l → Built (string o x).goes (l ++ (x ∷ []))
unfolding string
built_on o l missing b = built_more b (missing ∷ [])
built_on o l (group g) b = built_kind l g (kind_of g) refl o b

among_some : {A : Type 0} {x : A} {l : List A} → Among x l → 0 < length l
among_some Among.here = omega arith
among_some (Among.later a) = omega arith

among_giving : {A : Type 0} (x : A) (o : Option A) (l : List A) → Among x (giving o l) → (o ≡ some x) ⊎ Among x l
among_giving x none l a = inr a
among_giving x (some y) _ Among.here = inl refl
among_giving x (some y) l (Among.later a) = inr a

module _ (type : ℕ) (body : List ℕ) where
  closes_now : (l : List Gathered) (o : Strung) (g : List ℕ) → Built o l → Closes o g type body → Came (l ++ (group g ∷ [])) type body
  closes_now l o g b c = go (subst (λ (q : Strung). Built q l) c.«open» b)
    where
      go : Built (opened c.start c.continuations) l → Came (l ++ (group g ∷ [])) type body
      go (Built.built e h w) =
          record {
            start = c.start;
            continuations = c.continuations;
            end = g;
            within = within_snoc w g;
            sequence = record { start = e; continuing = h; count = c.count; end = c.end };
            sum = c.sum;
            handed = c.handed;
          }

  given : (l : List Gathered) (o : Strung) (x : Gathered) → Built o l → (string o x).gives ≡ some (message type body) → Came (l ++ (x ∷ [])) type body
  unfolding string
  given l o missing b e = let z : ◌≡◌ {A = ℕ} 0 1 = cc in absurd (omega arith)
  given l o (group g) b e = closes_now l o g b (by_kind_lem g type body (kind_of g) refl o e)

  came_more : {l : List Gathered} → Came l type body → (m : List Gathered) → Came (l ++ m) type body
  came_more c m =
      record { start = c.start; continuations = c.continuations; end = c.end; within = within_more c.within m; sequence = c.sequence; sum = c.sum; handed = c.handed }

  came_on : (l todo : List Gathered) (o : Strung) → Built o l → Among (message type body) (run string o todo) → Came (l ++ todo) type body
  unfolding run
  came_on l [] o b a = let z = among_some a in absurd (omega arith)
  came_on l (x ∷ todo) o b a =
      subst (λ (q : List Gathered). Came q type body) (append_assoc l (x ∷ []) todo)
      (⊎_elim
      (λ (e : (string o x).gives ≡ some (message type body)). came_more (given l o x b e) todo)
      (λ (h : Among (message type body) (run string (string o x).goes todo)). came_on (l ++ (x ∷ [])) todo (string o x).goes (built_on o l x b) h)
      (among_giving (message type body) (string o x).gives (run string (string o x).goes todo) a))

  -- WHAT CAME: a message among the items of any frames came from a start, the stated number of continuations and an end among the groups of
  -- these frames, in this order, and its closing sum fits all their bytes
  pub came : (fs : List Frame) → Among (message type body) (items fs) → Came (groups fs) type body
  came fs a = came_on [] (groups fs) shut Built.unopened a
