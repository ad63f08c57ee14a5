-- The way back, then gathering: exactly that message; with other groups put in, the same; with a frame left out, no message.
-- Assumes nothing.
use mathlib.Core.Bool.{Bool, false}
use mathlib.Core.List.{List, [], ◌∷◌, ◌++◌, map, append_assoc, append-nil}
use mathlib.Core.Path.{◌≡◌, refl, sym, ap, ap₂, ◌∙◌}
use Prim.Native.Nat.{ℕ, zero, suc, ◌+◌, ◌*◌, ◌/◌, ◌%◌, ◌≤◌, ◌<◌}
use native.Mathlib.Omega.{arith}
use lib.Arith.{digits_div, digits_mod}
use lib.ListN.{length, take, drop, replicate, length-append, length-drop, take-append-drop}
use lib.Seq.{take-add}
use borrow.Author.Tests.{lt-ltb, eq-eqb, ne_eqb}
use Rattle.sum.specs.Sum.{sum_of, sent}
use Rattle.octets.specs.Stores.{bytes_of_each}
use Rattle.octets.specs.Words.{Octets}
use Rattle.signalling.specs.declared.Kind.TheVariants.{Start, End}
use Rattle.signalling.specs.Feeding.{run, giving}
use Rattle.signalling.specs.Groups.{Frame, Gathering, Gathered, group, missing, sofar, gather, groups, gathering}
use Rattle.signalling.specs.Messages.{kind_in, kind_of, gr_nb, group_bytes, message_bytes, continuation_bytes, end_bytes, closing_sum, in_row, Strung, shut, opened, Handed, message, dropped, closed, by_kind, string, items, stringing}
use Rattle.signalling.proofs.Fed.{run_append}
use Rattle.sending.specs.SentGroups.{start_group, end_group, continuations, before_end, groups_of, frames_from, frames_of}
use Rattle.sending.specs.MessageTrips.{Eights, Continuing, Sequence, Padded, at_start, told, lacking, Lost}

-- ---- frames and groups
-- a group of eight bytes, by its bytes
pub data Eight : List ℕ → Type 0 where
  eight : (b0 b1 b2 b3 b4 b5 b6 b7 : ℕ) → b1 < 256 → b3 < 256 → b5 < 256 → b7 < 256 → Eight (b0 ∷ b1 ∷ b2 ∷ b3 ∷ b4 ∷ b5 ∷ b6 ∷ b7 ∷ [])

pub as_eight : (g : List ℕ) → length g ≡ 8 → Octets g → Eight g
as_eight [] e h = absurd (omega arith)
as_eight (b0 ∷ []) e h = absurd (omega arith)
as_eight (b0 ∷ b1 ∷ []) e h = absurd (omega arith)
as_eight (b0 ∷ b1 ∷ b2 ∷ []) e h = absurd (omega arith)
as_eight (b0 ∷ b1 ∷ b2 ∷ b3 ∷ []) e h = absurd (omega arith)
as_eight (b0 ∷ b1 ∷ b2 ∷ b3 ∷ b4 ∷ []) e h = absurd (omega arith)
as_eight (b0 ∷ b1 ∷ b2 ∷ b3 ∷ b4 ∷ b5 ∷ []) e h = absurd (omega arith)
as_eight (b0 ∷ b1 ∷ b2 ∷ b3 ∷ b4 ∷ b5 ∷ b6 ∷ []) e h = absurd (omega arith)
as_eight (b0 ∷ b1 ∷ b2 ∷ b3 ∷ b4 ∷ b5 ∷ b6 ∷ b7 ∷ []) e h = eight b0 b1 b2 b3 b4 b5 b6 b7 h.1.0 h.1.1.1.0 h.1.1.1.1.1.0 h.1.1.1.1.1.1.1.0
as_eight (b0 ∷ b1 ∷ b2 ∷ b3 ∷ b4 ∷ b5 ∷ b6 ∷ b7 ∷ b8 ∷ g) e h = absurd (omega arith)

pair_back : (a b : ℕ) → b < 256 → sent (a * 256 + b) ≡ a ∷ b ∷ []
pair_back a b h = ap₂ (λ (x y : ℕ). x ∷ y ∷ []) (digits_div a h) (digits_mod a h)

pairs_back : (b0 b1 b2 b3 b4 b5 b6 b7 : ℕ) → b1 < 256 → b3 < 256 → b5 < 256 → b7 < 256
    → sent (b0 * 256 + b1) ++ sent (b2 * 256 + b3) ++ sent (b4 * 256 + b5) ++ sent (b6 * 256 + b7) ≡ b0 ∷ b1 ∷ b2 ∷ b3 ∷ b4 ∷ b5 ∷ b6 ∷ b7 ∷ []
pairs_back b0 b1 b2 b3 b4 b5 b6 b7 h1 h3 h5 h7 = λ i. pair_back b0 b1 h1 i ++ pair_back b2 b3 h3 i ++ pair_back b4 b5 h5 i ++ pair_back b6 b7 h7 i

frames_then : (g l : List ℕ) → Eight g → frames_from 0 (g ++ l) ≡ frames_from 0 g ++ frames_from 0 l
unfolding frames_from
frames_then _ l (eight _ _ _ _ _ _ _ _ _ _ _ _) = refl

one_group : (g : List ℕ) → Eight g → (w : Bool) (fs : List Frame) → run gather (at_start w) (frames_from 0 g ++ fs) ≡ group g ∷ run gather (sofar []) fs
unfolding run gather frames_from
one_group _ (eight b0 b1 b2 b3 b4 b5 b6 b7 h1 h3 h5 h7) w fs = ap (λ (g : List ℕ). group g ∷ run gather (sofar []) fs) (pairs_back b0 b1 b2 b3 b4 b5 b6 b7 h1 h3 h5 h7)

-- the frames of groups are gathered into these groups, also after a drop where there is a group at all
pub all_groups : (gs : List (List ℕ)) → Eights gs → (fs : List Frame) → run gather (sofar []) (frames_of gs ++ fs) ≡ map group gs ++ run gather (sofar []) fs
unfolding frames_from
all_groups [] h fs = refl
all_groups (g ∷ gs) (Eights.more e b h) fs =
    let q = as_eight g e b in
    ap (λ (x : List Frame). run gather (sofar []) (x ++ fs)) (frames_then g (in_row gs) q)
    ∙ ap (run gather (sofar [])) (append_assoc (frames_from 0 g) (frames_of gs) fs)
    ∙ one_group g q false (frames_of gs ++ fs)
    ∙ ap (λ (l : List Gathered). group g ∷ l) (all_groups gs h fs)

pub back_groups : (w : Bool) (g : List ℕ) (gs : List (List ℕ)) → Eights (g ∷ gs) → (fs : List Frame)
    → run gather (at_start w) (frames_of (g ∷ gs) ++ fs) ≡ map group (g ∷ gs) ++ run gather (sofar []) fs
back_groups w g gs (Eights.more e b h) fs =
    let q = as_eight g e b in
    ap (λ (x : List Frame). run gather (at_start w) (x ++ fs)) (frames_then g (in_row gs) q)
    ∙ ap (run gather (at_start w)) (append_assoc (frames_from 0 g) (frames_of gs) fs)
    ∙ one_group g q w (frames_of gs ++ fs)
    ∙ ap (λ (l : List Gathered). group g ∷ l) (all_groups gs h fs)

-- a frame left out of a group that another follows: one drop, and the next group is whole
lacks : (k : ℕ) → k < 4 → (g h : List ℕ) → Eight g → Eight h → (fs : List Frame)
    → run gather (sofar []) (lacking k g ++ (frames_from 0 h ++ fs)) ≡ missing ∷ group h ∷ run gather (sofar []) fs
unfolding run gather frames_from lacking
lacks zero l g _ (eight _ _ _ _ _ _ _ _ _ _ _ _) (eight b0 b1 b2 b3 b4 b5 b6 b7 h1 h3 h5 h7) fs = ap (λ (x : List ℕ). missing ∷ group x ∷ run gather (sofar []) fs) (pairs_back b0 b1 b2 b3 b4 b5 b6 b7 h1 h3 h5 h7)
lacks (suc zero) l g _ (eight _ _ _ _ _ _ _ _ _ _ _ _) (eight b0 b1 b2 b3 b4 b5 b6 b7 h1 h3 h5 h7) fs = ap (λ (x : List ℕ). missing ∷ group x ∷ run gather (sofar []) fs) (pairs_back b0 b1 b2 b3 b4 b5 b6 b7 h1 h3 h5 h7)
lacks (suc (suc zero)) l g _ (eight _ _ _ _ _ _ _ _ _ _ _ _) (eight b0 b1 b2 b3 b4 b5 b6 b7 h1 h3 h5 h7) fs = ap (λ (x : List ℕ). missing ∷ group x ∷ run gather (sofar []) fs) (pairs_back b0 b1 b2 b3 b4 b5 b6 b7 h1 h3 h5 h7)
lacks (suc (suc (suc zero))) l g _ (eight _ _ _ _ _ _ _ _ _ _ _ _) (eight b0 b1 b2 b3 b4 b5 b6 b7 h1 h3 h5 h7) fs = ap (λ (x : List ℕ). missing ∷ group x ∷ run gather (sofar []) fs) (pairs_back b0 b1 b2 b3 b4 b5 b6 b7 h1 h3 h5 h7)
lacks (suc (suc (suc (suc k)))) l g h p q fs = absurd (omega arith)

lost_now : (k : ℕ) (g : List ℕ) (hs : List (List ℕ)) → Lost k g hs → (fs : List Frame)
    → run gather (sofar []) (lacking k g ++ (frames_of hs ++ fs)) ≡ missing ∷ (map group hs ++ run gather (sofar []) fs)
lost_now k g [] q fs = absurd (omega (arith, q.some))
lost_now k g (h ∷ hs) q fs = go q.behind
  where
    go : Eights (h ∷ hs) → run gather (sofar []) (lacking k g ++ (frames_of (h ∷ hs) ++ fs)) ≡ missing ∷ (map group (h ∷ hs) ++ run gather (sofar []) fs)
    go (Eights.more e b r) =
        let t = as_eight h e b in
        ap (λ (x : List Frame). run gather (sofar []) (lacking k g ++ (x ++ fs))) (frames_then h (in_row hs) t)
        ∙ ap (λ (x : List Frame). run gather (sofar []) (lacking k g ++ x)) (append_assoc (frames_from 0 h) (frames_of hs) fs)
        ∙ lacks k q.frame g h (as_eight g q.whole q.bytes) t (frames_of hs ++ fs)
        ∙ ap (λ (x : List Gathered). missing ∷ group h ∷ x) (all_groups hs r fs)

-- what is padded has a group
gathered : {g : List ℕ} {gs : List (List ℕ)} (hs : List (List ℕ)) → Padded (g ∷ gs) hs → Eights hs → (w : Bool) (fs : List Frame)
    → run gather (at_start w) (frames_of hs ++ fs) ≡ map group hs ++ run gather (sofar []) fs
gathered (h ∷ hs) p q w fs = back_groups w h hs q fs
gathered {g = g} {gs = gs} [] p q w fs = elim p [ ]

-- ---- groups and messages
-- other groups are passed over, wherever they stand
pub padding : {gs hs : List (List ℕ)} → Padded gs hs → (o : Strung) (xs : List Gathered) → run string o (map group hs ++ xs) ≡ run string o (map group gs ++ xs)
unfolding run string by_kind
padding Padded.none o xs = refl
padding (Padded.same {g} p) o xs = ap (giving (by_kind (kind_of g) o g).gives) (padding p (by_kind (kind_of g) o g).goes xs)
padding (Padded.other e p) o xs = rw e (padding p o xs)

-- continuations that are due join the open message
joins : (s : List ℕ) (done left : List (List ℕ)) → Continuing left → length done + length left ≤ gr_nb s → (xs : List Gathered)
    → run string (opened s done) (map group left ++ xs) ≡ run string (opened s (done ++ left)) xs
unfolding run string by_kind
joins s done [] c h xs = ap (λ (l : List (List ℕ)). run string (opened s l) xs) (sym (append-nil done))
joins s done (g ∷ left) (Continuing.more e c) h xs =
    let t = lt-ltb (length done) (gr_nb s) (omega arith) in
    let n = length-append done (g ∷ []) in
    rw (e, t)
    (joins s (done ++ (g ∷ [])) left c (omega arith) xs
    ∙ ap (λ (l : List (List ℕ)). run string (opened s l) xs) (append_assoc done (g ∷ []) left))

opens : (o : Strung) (s : List ℕ) → kind_of s ≡ Start → (xs : List Gathered) → run string o (group s ∷ xs) ≡ told o (run string (opened s []) xs)
unfolding run string by_kind
opens shut s e xs = rw e
opens (opened t cs) s e xs = rw e

drops : (o : Strung) (xs : List Gathered) → run string o (missing ∷ xs) ≡ dropped 24 ∷ run string o xs
unfolding run string
drops o xs = refl

ends_early : (s : List ℕ) (cs : List (List ℕ)) (e : List ℕ) → kind_of e ≡ End → length cs < gr_nb s → (xs : List Gathered) → run string (opened s cs) (group e ∷ xs) ≡ dropped 25 ∷ run string shut xs
unfolding run string by_kind
ends_early s cs e q h xs = rw (q, ne_eqb (length cs) (gr_nb s) (λ z. omega arith))

alone : (cs : List (List ℕ)) (e : List ℕ) → Continuing cs → kind_of e ≡ End → (xs : List Gathered)
    → run string shut (map group cs ++ (group e ∷ xs)) ≡ replicate (length cs) (dropped 25) ++ (dropped 25 ∷ run string shut xs)
unfolding run string by_kind
alone [] e c q xs = rw q
alone (g ∷ cs) e (Continuing.more p c) q xs = rw p (ap (λ (l : List Handed). dropped 25 ∷ l) (alone cs e c q xs))

snoc_groups : (cs : List (List ℕ)) (e : List ℕ) (xs : List Gathered) → map group (cs ++ (e ∷ [])) ++ xs ≡ map group cs ++ (group e ∷ xs)
snoc_groups [] e xs = refl
snoc_groups (g ∷ cs) e xs = ap (λ (l : List Gathered). group g ∷ l) (snoc_groups cs e xs)

-- a start and continuations that are due, and then a drop: the message stays open
kept_open : (s : List ℕ) (cs : List (List ℕ)) → kind_of s ≡ Start → Continuing cs → length cs ≤ gr_nb s → (o : Strung) (xs : List Gathered)
    → run string o (group s ∷ (map group cs ++ (missing ∷ xs))) ≡ told o (dropped 24 ∷ run string (opened s cs) xs)
kept_open s cs p c h o xs =
    opens o s p (map group cs ++ (missing ∷ xs))
    ∙ ap (told o) (joins s [] cs c (omega arith) (missing ∷ xs) ∙ drops (opened s cs) xs)

module _ {s : List ℕ} {cs : List (List ℕ)} {e : List ℕ} (q : Sequence s cs e) where
  ends : (xs : List Gathered) → run string (opened s cs) (group e ∷ xs) ≡ closed s cs e ∷ run string shut xs
  unfolding run string by_kind
  ends xs = rw (q.end, eq-eqb (length cs) (gr_nb s) q.count)

  -- a whole sequence gives one item
  pub whole_sequence : (o : Strung) (xs : List Gathered) → run string o (group s ∷ (map group cs ++ (group e ∷ xs))) ≡ told o (closed s cs e ∷ run string shut xs)
  whole_sequence o xs =
      opens o s q.start (map group cs ++ (group e ∷ xs))
      ∙ ap (told o) (joins s [] cs q.continuing (omega (arith, q.count)) (group e ∷ xs) ∙ ends xs)

-- ---- over all the frames seen
-- frames behind those seen
pub items_then : (seen fs : List Frame) → items (seen ++ fs) ≡ items seen ++ run string (stringing seen) (run gather (gathering seen) fs)
items_then seen fs = ap (run string shut) (run_append gather (sofar []) seen fs) ∙ run_append string shut (groups seen) (run gather (gathering seen) fs)

module _ (seen : List Frame) (w : Bool) (begins : gathering seen ≡ at_start w) where
  from : (fs : List Frame) (gs : List Gathered) (xs : List Handed) → run gather (at_start w) fs ≡ gs → run string (stringing seen) gs ≡ xs → items (seen ++ fs) ≡ items seen ++ xs
  from fs gs xs p q =
      items_then seen fs
      ∙ ap (λ (x : List Handed). items seen ++ x) (ap (run string (stringing seen)) (ap (λ (g : Gathering). run gather g fs) begins ∙ p) ∙ q)

  -- THE SEQUENCE: a message's groups, with any passed-over groups put in, from any state at a group's beginning, give what the closing sum
  -- says, an open message before it is told of with 25, and what follows goes on from the beginning
  pub sequence_items : {s : List ℕ} {cs : List (List ℕ)} {e : List ℕ} → Sequence s cs e → (hs : List (List ℕ)) → Padded (s ∷ (cs ++ (e ∷ []))) hs → Eights hs → (fs : List Frame)
      → items (seen ++ (frames_of hs ++ fs)) ≡ items seen ++ told (stringing seen) (closed s cs e ∷ items fs)
  sequence_items {s} {cs} {e} q hs p h fs =
      from (frames_of hs ++ fs) (map group hs ++ groups fs) (told (stringing seen) (closed s cs e ∷ items fs)) (gathered hs p h w fs)
      (padding p (stringing seen) (groups fs)
      ∙ ap (λ (l : List Gathered). run string (stringing seen) (group s ∷ l)) (snoc_groups cs e (groups fs))
      ∙ whole_sequence q (stringing seen) (groups fs))

  -- ONE FRAME LEFT OUT of a continuation: 24, and 25 at the end, which is not due; no message
  pub no_continuation : (s : List ℕ) (cs : List (List ℕ)) (c : List ℕ) (ds : List (List ℕ)) (e : List ℕ)
      → kind_of s ≡ Start → Continuing cs → Continuing ds → kind_of e ≡ End → length cs + 1 + length ds ≡ gr_nb s
      → (hs bs : List (List ℕ)) → Padded (s ∷ cs) hs → Eights hs → Padded (ds ++ (e ∷ [])) bs → (k : ℕ) → Lost k c bs → (fs : List Frame)
      → items (seen ++ (frames_of hs ++ (lacking k c ++ (frames_of bs ++ fs)))) ≡ items seen ++ told (stringing seen) (dropped 24 ∷ dropped 25 ∷ items fs)
  no_continuation s cs c ds e p a b q n hs bs u h v k l fs =
      let len = length-append cs ds in
      from (frames_of hs ++ (lacking k c ++ (frames_of bs ++ fs))) (map group hs ++ (missing ∷ (map group bs ++ groups fs))) (told (stringing seen) (dropped 24 ∷ dropped 25 ∷ items fs))
      (gathered hs u h w (lacking k c ++ (frames_of bs ++ fs)) ∙ ap (λ (x : List Gathered). map group hs ++ x) (lost_now k c bs l fs))
      (padding u (stringing seen) (missing ∷ (map group bs ++ groups fs))
      ∙ kept_open s cs p a (omega arith) (stringing seen) (map group bs ++ groups fs)
      ∙ ap (λ (x : List Handed). told (stringing seen) (dropped 24 ∷ x))
      (padding v (opened s cs) (groups fs)
      ∙ ap (run string (opened s cs)) (snoc_groups ds e (groups fs))
      ∙ joins s cs ds b (omega arith) (group e ∷ groups fs)
      ∙ ends_early s (cs ++ ds) e q (omega arith) (groups fs)))

  -- of the end, where groups follow: 24, and the message stays open
  pub no_end : {s : List ℕ} {cs : List (List ℕ)} {e : List ℕ} → Sequence s cs e
      → (hs bs : List (List ℕ)) → Padded (s ∷ cs) hs → Eights hs → (k : ℕ) → Lost k e bs → (fs : List Frame)
      → items (seen ++ (frames_of hs ++ (lacking k e ++ (frames_of bs ++ fs)))) ≡ items seen ++ told (stringing seen) (dropped 24 ∷ run string (opened s cs) (map group bs ++ groups fs))
  no_end {s} {cs} {e} q hs bs u h k l fs =
      from (frames_of hs ++ (lacking k e ++ (frames_of bs ++ fs))) (map group hs ++ (missing ∷ (map group bs ++ groups fs))) (told (stringing seen) (dropped 24 ∷ run string (opened s cs) (map group bs ++ groups fs)))
      (gathered hs u h w (lacking k e ++ (frames_of bs ++ fs)) ∙ ap (λ (x : List Gathered). map group hs ++ x) (lost_now k e bs l fs))
      (padding u (stringing seen) (missing ∷ (map group bs ++ groups fs))
      ∙ kept_open s cs q.start q.continuing (omega (arith, q.count)) (stringing seen) (map group bs ++ groups fs))

  -- and where the next message follows: 24, 25 at its start, and then what its own closing sum says
  pub no_end_next : {s : List ℕ} {cs : List (List ℕ)} {e : List ℕ} → Sequence s cs e → {t : List ℕ} {ds : List (List ℕ)} {z : List ℕ} → Sequence t ds z
      → (hs bs : List (List ℕ)) → Padded (s ∷ cs) hs → Eights hs → Padded (t ∷ (ds ++ (z ∷ []))) bs → (k : ℕ) → Lost k e bs → (fs : List Frame)
      → items (seen ++ (frames_of hs ++ (lacking k e ++ (frames_of bs ++ fs)))) ≡ items seen ++ told (stringing seen) (dropped 24 ∷ dropped 25 ∷ closed t ds z ∷ items fs)
  no_end_next {s} {cs} {e} q {t} {ds} {z} r hs bs u h v k l fs =
      no_end q hs bs u h k l fs
      ∙ ap (λ (x : List Handed). items seen ++ told (stringing seen) (dropped 24 ∷ x))
      (padding v (opened s cs) (groups fs)
      ∙ ap (λ (x : List Gathered). run string (opened s cs) (group t ∷ x)) (snoc_groups ds z (groups fs))
      ∙ whole_sequence r (opened s cs) (groups fs))

-- of the start, after a whole group and where no message is open: 24, and 25 for each group that follows; no message
pub no_start : (seen : List Frame) → gathering seen ≡ sofar [] → stringing seen ≡ shut → {s : List ℕ} {cs : List (List ℕ)} {e : List ℕ} → Sequence s cs e
    → (bs : List (List ℕ)) → Padded (cs ++ (e ∷ [])) bs → (k : ℕ) → Lost k s bs → (fs : List Frame)
    → items (seen ++ (lacking k s ++ (frames_of bs ++ fs))) ≡ items seen ++ (dropped 24 ∷ (replicate (length cs) (dropped 25) ++ (dropped 25 ∷ items fs)))
no_start seen b z {s} {cs} {e} q bs v k l fs =
    from seen false b (lacking k s ++ (frames_of bs ++ fs)) (missing ∷ (map group bs ++ groups fs)) (dropped 24 ∷ (replicate (length cs) (dropped 25) ++ (dropped 25 ∷ items fs)))
    (lost_now k s bs l fs)
    (ap (λ (o : Strung). run string o (missing ∷ (map group bs ++ groups fs))) z
    ∙ drops shut (map group bs ++ groups fs)
    ∙ ap (λ (x : List Handed). dropped 24 ∷ x)
    (padding v shut (groups fs) ∙ ap (run string shut) (snoc_groups cs e (groups fs)) ∙ alone cs e q.continuing q.end (groups fs)))

-- ---- the way back
continuing : (n : ℕ) (body : List ℕ) → Continuing (continuations n body)
unfolding continuations kind_in
continuing zero body = Continuing.none
continuing (suc n) body = Continuing.more refl (continuing n (drop 6 body))

count : (n : ℕ) (body : List ℕ) → length (continuations n body) ≡ n
unfolding continuations
count zero body = refl
count (suc n) body = ap suc (count n (drop 6 body))

carried : (n : ℕ) (body : List ℕ) → bytes_of_each continuation_bytes (continuations n body) ≡ take (6 * n) body
unfolding continuations
carried zero body = refl
carried (suc n) body =
    let k : 6 * suc n ≡ 6 + 6 * n = omega arith in
    ap (λ (l : List ℕ). take 6 body ++ l) (carried n (drop 6 body)) ∙ sym (take-add 6 (6 * n) body) ∙ ap (λ (m : ℕ). take m body) (sym k)

data Four : List ℕ → Type 0 where
  four : (a b c d : ℕ) → Four (a ∷ b ∷ c ∷ d ∷ [])

as_four : (l : List ℕ) → length l ≡ 4 → Four l
as_four [] e = absurd (omega arith)
as_four (a ∷ []) e = absurd (omega arith)
as_four (a ∷ b ∷ []) e = absurd (omega arith)
as_four (a ∷ b ∷ c ∷ []) e = absurd (omega arith)
as_four (a ∷ b ∷ c ∷ d ∷ []) e = four a b c d
as_four (a ∷ b ∷ c ∷ d ∷ x ∷ l) e = absurd (omega arith)

halves : (x : ℕ) → x ≡ x / 256 * 256 + x % 256
halves x = omega arith

-- the closing sum that is supplied fits
closes : (before l : List ℕ) → Four l → sum_of (before ++ take 6 (end_group before l)) ≡ closing_sum (end_group before l)
closes before _ (four a b c d) = halves (sum_of (before ++ (0xCC ∷ 0 ∷ a ∷ b ∷ c ∷ d ∷ [])))

end_bytes_lem : (before l : List ℕ) → Four l → end_bytes (end_group before l) ≡ l
end_bytes_lem before _ (four a b c d) = refl

pub end_length : (before l : List ℕ) → length l ≡ 4 → length (end_group before l) ≡ 8
end_length before l e = go l (as_four l e)
  where
    go : (l : List ℕ) → Four l → length (end_group before l) ≡ 8
    go _ (four a b c d) = refl

module _ (type n : ℕ) (body : List ℕ) (h : length body ≡ 8 + 6 * n) where
  abbrev s : List ℕ
  s = start_group type n (take 4 body)

  abbrev cs : List (List ℕ)
  cs = continuations n (drop 4 body)

  abbrev last : List ℕ
  last = drop (4 + 6 * n) body

  abbrev e : List ℕ
  e = end_group (in_row (before_end type n body)) last

  pub last_four : length last ≡ 4
  last_four = let k = length-drop (4 + 6 * n) body in omega arith

  pub sequence : Sequence s cs e
  unfolding kind_in
  sequence = record { start = refl; continuing = continuing n (drop 4 body); count = count n (drop 4 body); end = refl }

  together : message_bytes s cs ++ end_bytes e ≡ body
  together =
      ap₂ (λ (x y : List ℕ). take 4 body ++ x ++ y) (carried n (drop 4 body)) (end_bytes_lem (in_row (before_end type n body)) last (as_four last last_four))
      ∙ ap (λ (x : List ℕ). x ++ last) (sym (take-add 4 (6 * n) body))
      ∙ take-append-drop (4 + 6 * n) body

  pub closed_back : closed s cs e ≡ message type body
  closed_back = rw (eq-eqb (sum_of (group_bytes s cs ++ take 6 e)) (closing_sum e) (closes (group_bytes s cs) last (as_four last last_four))) (ap (message type) together)

  -- BACK AGAIN: the frames of a message, with any passed-over groups put in, from any state at a group's beginning, give exactly that message
  pub back_again : (seen : List Frame) (w : Bool) → gathering seen ≡ at_start w → (hs : List (List ℕ)) → Padded (groups_of type n body) hs → Eights hs → (fs : List Frame)
      → items (seen ++ (frames_of hs ++ fs)) ≡ items seen ++ told (stringing seen) (message type body ∷ items fs)
  unfolding groups_of
  back_again seen w b hs p q fs =
      sequence_items seen w b sequence hs p q fs ∙ ap (λ (x : Handed). items seen ++ told (stringing seen) (x ∷ items fs)) closed_back
