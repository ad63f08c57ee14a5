-- The FIC and the streams tile the main stream, and all of it lies within the frame.
-- Assumes nothing.
use mathlib.Core.Bool.{Bool, true, false}
use mathlib.Core.List.{List, [], ◌∷◌, ◌++◌}
use mathlib.Core.Logic.{⊎_elim}
use mathlib.Core.Path.{◌≡◌, refl, sym, ap, subst, ◌∙◌}
use Prim.Native.Nat.{ℕ, zero, suc, ◌+◌, ◌-◌, ◌*◌, ◌≤◌, ◌<◌}
use native.Mathlib.Nat.{zero-add, eq-or-lt_of_le, le_of_suc-le-suc}
use native.Mathlib.Numerals.{add-one}
use native.Mathlib.Omega.{arith}
use lib.Dec.{eqb}
use lib.ListN.{length, take, drop}
use lib.Seq.{take-add, take-take, drop-drop}
use denote.Ref.{Bor}
use borrow.Author.Tests.{eq-eqb, ne_eqb, eqb-true, eqb-false}
use Rattle.frame.specs.declared.Span.{Span}
use Rattle.octets.specs.Choice.{pick}
use Rattle.frame.specs.Frame.{nst_of, fl_of, ficl_of, stream_of, streams_to, stl_total, main_start, main_end, main_span, fic_span, stream_span, spans_to, Tile, cut, cuts, main_of, carried_by, between}
use Rattle.frame.specs.Rules.{refusal_of, Acceptable, stream_refusal_of, granted, main_part, fic_part, stream_part}
use Rattle.frame.specs.Answers.{PartAt}
use Rattle.frame.proofs.Accepting.{acceptable, request_refused, request_granted}
use Rattle.frame.proofs.Streams.{total_more}

pub carried_fits : (f : List ℕ) → Acceptable f → carried_by (fl_of f) ≤ length f
carried_fits f a = omega (arith, a.whole, a.room)

tile_more : (a : ℕ) (ss : List Span) (s : Span) (m : ℕ) → Tile a ss m → s.start ≡ m → Tile a (ss ++ (s ∷ [])) (m + s.len)
tile_more a [] s m t e = (e ∙ sym t, ap (λ (k : ℕ). k + s.len) e)
tile_more a (r ∷ ss) s m t e = (t.0, tile_more (r.start + r.len) ss s m t.1 e)

-- where stream n begins
abbrev begin : List ℕ → ℕ → ℕ
begin f n = (stream_span f n).start

-- the next stream begins where stream n ends
next : (f : List ℕ) (n : ℕ) → begin f n + (stream_span f n).len ≡ begin f (suc n)
next f n = rw (← add-one n) (omega (arith, total_more f n))

tiles_to : (f : List ℕ) (n : ℕ) → Tile (main_start (nst_of f)) (spans_to f n) (begin f n)
unfolding spans_to stl_total streams_to
tiles_to f zero = (refl, omega arith)
tiles_to f (suc n) =
    subst (Tile (main_start (nst_of f)) (spans_to f n ++ (stream_span f n ∷ []))) (next f n)
    (tile_more (main_start (nst_of f)) (spans_to f n) (stream_span f n) (begin f n) (tiles_to f n) refl)

pub tiles : (f : List ℕ) → Acceptable f → Tile (main_start (nst_of f)) (spans_to f (nst_of f)) (main_end (fl_of f))
tiles f a =
    let e : begin f (nst_of f) ≡ main_end (fl_of f) = omega (arith, a.formula) in
    subst (Tile (main_start (nst_of f)) (spans_to f (nst_of f))) e (tiles_to f (nst_of f))

-- the streams up to and with the i-th are within all n
total_within : (f : List ℕ) (i n : ℕ) → i < n → stl_total (streams_to f i) + (stream_of f i).stl ≤ stl_total (streams_to f n)
total_within f i zero l = absurd (omega arith)
total_within f i (suc n) l =
    rw (← add-one n)
    (⊎_elim
    (λ (e : i ≡ n). rw (total_more f n, e) (omega arith))
    (λ (h : i < n). let w = total_within f i n h in omega (arith, total_more f n))
    (eq-or-lt_of_le (le_of_suc-le-suc l)))

pub fic_inside : (f : List ℕ) → Acceptable f → (fic_span f).start + (fic_span f).len ≤ length f
fic_inside f a = omega (arith, a.whole, a.formula, a.room)

pub stream_inside : (f : List ℕ) (i : ℕ) → Acceptable f → i < nst_of f → (stream_span f i).start + (stream_span f i).len ≤ length f
stream_inside f i a l = let w = total_within f i (nst_of f) l in omega (arith, a.whole, a.formula, a.room)

tile_le : (a : ℕ) (ss : List Span) (e : ℕ) → Tile a ss e → a ≤ e
tile_le a [] e t = omega (arith, t)
tile_le a (s ∷ ss) e t = omega (arith, t.0, tile_le (s.start + s.len) ss e t.1)

-- the bytes of spans that tile are the bytes from one end to the other
tile_cuts : (f : List ℕ) (a : ℕ) (ss : List Span) (e : ℕ) → Tile a ss e → cuts f ss ≡ between f a e
unfolding cuts
tile_cuts f a [] e t = let z : e - a ≡ 0 = omega (arith, t) in rw z
tile_cuts f a (s ∷ ss) e t =
    let m = s.start + s.len in
    let h = tile_le m ss e t.1 in
    let z : e - s.start ≡ s.len + (e - m) = omega arith in
    rw (tile_cuts f m ss e t.1, ← t.0, z, take-add, drop-drop)

-- the FIC's bytes and then each stream's are the main stream
pub parts_join : (f : List ℕ) → Acceptable f → cuts f (spans_to f (nst_of f)) ≡ main_of f
parts_join f a = tile_cuts f (main_start (nst_of f)) (spans_to f (nst_of f)) (main_end (fl_of f)) (tiles f a)

-- the FIC and each stream, as parts of the main stream
cut_within : (a n m : ℕ) (l : List ℕ) → a + n ≤ m → take n (drop a (take m l)) ≡ take n (drop a l)
cut_within zero n m l h = take-take n m l (omega arith)
cut_within (suc a) n zero l h = absurd (omega arith)
cut_within (suc a) n (suc m) [] h = refl
cut_within (suc a) n (suc m) (x ∷ l) h = cut_within a n m l (omega arith)

of_main : (f : List ℕ) (p n s : ℕ) → s ≡ main_start (nst_of f) + p → p + n ≤ main_end (fl_of f) - main_start (nst_of f) → take n (drop s f) ≡ take n (drop p (main_of f))
of_main f p n s e h =
    rw e (ap (take n) (sym (drop-drop p (main_start (nst_of f)) f)) ∙ sym (cut_within p n (main_end (fl_of f) - main_start (nst_of f)) (drop (main_start (nst_of f)) f) h))

pub fic_of_main : (f : List ℕ) → Acceptable f → cut f (fic_span f) ≡ take (4 * ficl_of f) (main_of f)
fic_of_main f a = of_main f 0 (4 * ficl_of f) (main_start (nst_of f)) (omega arith) (omega (arith, a.formula))

pub stream_of_main : (f : List ℕ) (i : ℕ) → Acceptable f → i < nst_of f
    → cut f (stream_span f i) ≡ take (8 * (stream_of f i).stl) (drop (4 * ficl_of f + 8 * stl_total (streams_to f i)) (main_of f))
stream_of_main f i a l =
    of_main f (4 * ficl_of f + 8 * stl_total (streams_to f i)) (8 * (stream_of f i).stl) (stream_span f i).start (omega arith)
    (let w = total_within f i (nst_of f) l in omega (arith, a.formula))

-- ---- what a request hands back
module _ (n m : ℕ) (s : Span) (e : n ≡ m) where
  pub granted_refused : (n ≡ 0 → ⊥) → ◌≡◌ {A = Span} (record { start = 0; len = 0 }) (granted m s)
  granted_refused h = rw (ne_eqb m 0 (λ z. h (e ∙ z)))

  pub granted_given : n ≡ 0 → s ≡ granted m s
  granted_given z = rw (eq-eqb m 0 (sym e ∙ z))

granted_inside : (n l : ℕ) (s : Span) → (n ≡ 0 → s.start + s.len ≤ l) → (granted n s).start + (granted n s).len ≤ l
granted_inside n l s h = go (eqb n 0) refl
  where
    go : (b : Bool) → eqb n 0 ≡ b → (pick b s (record { start = 0; len = 0 })).start + (pick b s (record { start = 0; len = 0 })).len ≤ l
    go true e = h (eqb-true n 0 e)
    go false e = omega arith

pub main_after : (f : List ℕ) → Acceptable f → main_start (nst_of f) ≤ main_end (fl_of f)
main_after f a = omega (arith, a.formula)

pub main_part_inside : (f : List ℕ) → (main_part f).start + (main_part f).len ≤ length f
unfolding main_part
main_part_inside f =
    granted_inside (refusal_of f) (length f) (main_span f)
    (λ e. let a = acceptable f e in omega (arith, a.whole, a.room, main_after f a))

pub fic_part_inside : (f : List ℕ) → (fic_part f).start + (fic_part f).len ≤ length f
unfolding fic_part
fic_part_inside f = granted_inside (refusal_of f) (length f) (fic_span f) (λ e. fic_inside f (acceptable f e))

pub stream_granted : (f : List ℕ) (i : ℕ) → stream_refusal_of f i ≡ 0 → Acceptable f × (i < nst_of f)
stream_granted f i e = go (eqb (refusal_of f) 0) refl
  where
    go : (b : Bool) → eqb (refusal_of f) 0 ≡ b → Acceptable f × (i < nst_of f)
    go true d = let r = eqb-true (refusal_of f) 0 d in (acceptable f r, request_granted f i (refusal_of f) refl r e)
    go false d = let h = eqb-false (refusal_of f) 0 d in absurd (h (request_refused f i (refusal_of f) refl h ∙ e))

pub stream_part_inside : (f : List ℕ) (i : ℕ) → (stream_part f i).start + (stream_part f i).len ≤ length f
unfolding stream_part
stream_part_inside f i =
    granted_inside (stream_refusal_of f i) (length f) (stream_span f i)
    (λ e. let g = stream_granted f i e in stream_inside f i g.0 g.1)

-- a refused request hands back an empty part that begins at the lent frame's start
pub refused_part : (n : ℕ) (span : Span) (s r : Bor (List ℕ)) → (n ≡ 0 → ⊥) → PartAt s (granted n span) r → (r.now ≡ []) × (r.ref_ptr ≡ s.ref_ptr)
refused_part n span s r h p =
    let q : PartAt s (record { start = 0; len = 0 }) r = rw (granted_refused n n span refl h) p in
    (q.bytes, q.place ∙ ap (λ (k : ℕ). (s.ref_ptr.0, k)) (zero-add s.ref_ptr.1))
