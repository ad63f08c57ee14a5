-- The pass over a packet: what is noted so far, one item more, and the end.
-- Assumes nothing.
use mathlib.Core.Bool.{Bool, true, false}
use mathlib.Core.List.{List, [], ◌∷◌, ◌++◌, append-nil}
use mathlib.Core.Path.{◌≡◌, refl, sym, ap, ◌∙◌}
use Prim.Native.Nat.{ℕ, ◌+◌, ◌-◌, ◌/◌, ◌≤◌, ◌<◌, min, max}
use native.Mathlib.Omega.{arith}
use borrow.Author.Tests.{eq-eqb, ne_eqb, lt-ltb, le-ltb, ltb-true, ltb-false, eqb-true, eqb-false}
use lib.Dec.{eqb, ltb}
use lib.ListN.{length, get_or, take, drop, set, replicate, length-take, length-drop, length-set, get_or-replicate}
use lib.Seq.{get_or-set_same, get_or-set_other, drop-drop, append_snoc, take_all}
use Rattle.octets.specs.Words.{word_at}
use Rattle.frame.specs.declared.Span.{Span}
use Rattle.items.specs.declared.Seen.{Seen}
use Rattle.items.specs.declared.Met.{Met}
use Rattle.items.specs.declared.Met.TheVariants.{Never, Once, Several}
use Rattle.items.specs.TagItems.{Item, item_in, items_of, part_of, is_bad, some_bad, values_of, number_by, highest_in}
use Rattle.items.specs.PassNotes.{tally_of, tally_by, met_again, bad_by, Shows, Holds, Noted, Finds}
use Rattle.items.proofs.ItemList.{items_none, items_more, bad_append, values_append, highest_append, SoundItem, sound_item}

-- ---- a look: a value that runs past is shorter than its length says
ltb-min : (n l : ℕ) → ltb (min n l) n ≡ ltb l n
ltb-min n l = go (ltb l n) refl
  where
    go : (b : Bool) → ltb l n ≡ b → ltb (min n l) n ≡ ltb l n
    go true e = let h = ltb-true l n e in lt-ltb (min n l) n (omega arith) ∙ sym e
    go false e = let h = ltb-false l n e in le-ltb (min n l) n (omega arith) ∙ sym e

value_length : (q : List ℕ) → length (item_in q).value ≡ min ((item_in q).bits / 8) (length q - 8)
unfolding item_in
value_length q = length-take _ _ ∙ ap (λ (n : ℕ). min (word_at q 4 / 8) n) (length-drop 8 q)

module _ (q : List ℕ) (bits left part : ℕ) (b : bits ≡ word_at q 4) (l : left ≡ length q - 8) (n : part ≡ part_of (word_at q 0)) where
  judged : bad_by bits left part ≡ is_bad (item_in q)
  unfolding item_in is_bad bad_by
  judged = rw (b, l, n, length-take, length-drop, ltb-min (word_at q 4 / 8) (length q - 8))

  pub looked : (s : Seen) → s.part ≡ part → part ≤ 65 → s.len ≡ bits / 8 → false ≡ bad_by bits left part → Shows q s
  unfolding item_in
  looked s e h f g = record { part = e ∙ n; small = omega arith; len = f ∙ ap (λ (k : ℕ). k / 8) b; sound = sym (g ∙ judged) }

  pub looked_bad : true ≡ bad_by bits left part → is_bad (item_in q) ≡ true
  looked_bad g = sym (g ∙ judged)

-- ---- midway: the items done, and those from `at` on
pub record Midway (p : List ℕ) (met : List Met) (highest at : ℕ) : Type 0 where
  pub within : at ≤ length p
  pub done : List Item
  pub all : items_of p ≡ done ++ items_of (drop at p)
  pub sound : some_bad done ≡ false
  pub noted : Noted p done met
  pub high : highest ≡ highest_in done

never : {A : Type 0} → ◌≡◌ {A = ℕ} 0 1 → A
never e = absurd (omega arith)

holds_none : (p : List ℕ) → Holds p [] Never
holds_none p = record { tallied = refl; inside = omega arith; one = λ e. never e }

pub midway_start : (p : List ℕ) → Midway p (replicate 66 Never) 0 0
unfolding some_bad values_of highest_in
midway_start p =
    record {
      within = omega arith;
      done = [];
      all = refl;
      sound = refl;
      noted = record { whole = refl; each = λ k h. rw (get_or-replicate {A = Met} 66 k Never Never h) (holds_none p) };
      high = refl;
    }

tally_more : (m : Met) (s : Span) (vs : List (List ℕ)) (v : List ℕ) → tally_by m ≡ tally_of vs → tally_by (met_again m s) ≡ tally_of (vs ++ (v ∷ []))
tally_more Never s [] v e = refl
tally_more Never s (u ∷ []) v e = absurd (omega arith)
tally_more Never s (u ∷ w ∷ vs) v e = absurd (omega arith)
tally_more (Once r) s [] v e = absurd (omega arith)
tally_more (Once r) s (u ∷ []) v e = refl
tally_more (Once r) s (u ∷ w ∷ vs) v e = absurd (omega arith)
tally_more Several s [] v e = absurd (omega arith)
tally_more Several s (u ∷ []) v e = absurd (omega arith)
tally_more Several s (u ∷ w ∷ vs) v e = refl

one_only : (vs : List (List ℕ)) (v : List ℕ) → tally_of (vs ++ (v ∷ [])) ≡ 1 → vs ++ (v ∷ []) ≡ v ∷ []
one_only [] v e = refl
one_only (u ∷ []) v e = absurd (omega arith)
one_only (u ∷ w ∷ vs) v e = absurd (omega arith)

again_holds : (p : List ℕ) (m : Met) (s : Span) (vs : List (List ℕ)) → s.start + s.len ≤ length p → tally_by (met_again m s) ≡ tally_of vs → (tally_of vs ≡ 1 → vs ≡ take s.len (drop s.start p) ∷ []) → Holds p vs (met_again m s)
again_holds p Never s vs h e f = record { tallied = e; inside = h; one = λ z. f (sym e ∙ z) }
again_holds p (Once r) s vs h e f = record { tallied = e; inside = omega arith; one = λ z. absurd (omega (arith, z)) }
again_holds p Several s vs h e f = record { tallied = e; inside = omega arith; one = λ z. absurd (omega (arith, z)) }

module _ (p : List ℕ) (met : List Met) (highest at : ℕ) (w : Midway p met highest at) (h : 8 ≤ length p - at) where
  abbrev q : List ℕ
  q = drop at p

  abbrev i : Item
  i = item_in (drop at p)

  abbrev after : ℕ
  after = at + (8 + (item_in (drop at p)).bits / 8)

  left : length q ≡ length p - at
  left = length-drop at p

  onward : items_of q ≡ i ∷ items_of (drop after p)
  onward =
      items_more q (omega (arith, left))
      ∙ ap (λ (is : List ℕ). item_in q ∷ items_of is) (drop-drop (8 + (item_in q).bits / 8) at p)

  all_after : items_of p ≡ w.done ++ (i ∷ items_of (drop after p))
  all_after = w.all ∙ ap (λ (is : List Item). w.done ++ is) onward

  pub at_bad : is_bad (item_in (drop at p)) ≡ true → some_bad (items_of p) ≡ true
  unfolding some_bad
  at_bad b = ap some_bad all_after ∙ bad_append w.done (i ∷ items_of (drop after p)) ∙ rw (w.sound, b)

  module _ (r : Seen) (l : Shows q r) where
    sound_i : SoundItem i
    sound_i = sound_item i l.sound

    next : after ≡ at + 8 + r.len
    next = omega (arith, l.len)

    pub inside : at + 8 + r.len ≤ length p
    inside = omega (arith, l.len, left, sound_i.there, value_length q)

    all_more : items_of p ≡ (w.done ++ (i ∷ [])) ++ items_of (drop (at + 8 + r.len) p)
    all_more = all_after ∙ sym (append_snoc w.done i (items_of (drop after p))) ∙ ap (λ (n : ℕ). (w.done ++ (i ∷ [])) ++ items_of (drop n p)) next

    sound_more : some_bad (w.done ++ (i ∷ [])) ≡ false
    unfolding some_bad
    sound_more = bad_append w.done (i ∷ []) ∙ rw (w.sound, l.sound)

    value_here : i.value ≡ take r.len (drop (at + 8) p)
    unfolding item_in
    value_here =
        ap (λ (n : ℕ). take n (drop 8 (drop at p))) (sym l.len) ∙ ap (take r.len) (drop-drop 8 at p)

    abbrev here : Span
    here = record { start = at + 8; len = r.len }

    abbrev noted : Met
    noted = met_again (get_or met r.part Never) (record { start = at + 8; len = r.len })

    abbrev After : ℕ → Type 0
    After k = Holds p (values_of k (w.done ++ (i ∷ []))) (get_or (set met r.part noted) k Never)

    -- the part's own
    values_same : values_of r.part (w.done ++ (i ∷ [])) ≡ values_of r.part w.done ++ (i.value ∷ [])
    unfolding values_of
    values_same = values_append r.part w.done (i ∷ []) ∙ rw (eq-eqb (part_of i.name) r.part (sym l.part))

    tally_same : tally_by noted ≡ tally_of (values_of r.part (w.done ++ (i ∷ [])))
    tally_same =
        tally_more (get_or met r.part Never) here (values_of r.part w.done) i.value (w.noted.each r.part (omega (arith, l.small))).tallied
        ∙ ap tally_of (sym values_same)

    holds_same : Holds p (values_of r.part (w.done ++ (i ∷ []))) noted
    holds_same = again_holds p (get_or met r.part Never) here (values_of r.part (w.done ++ (i ∷ []))) inside tally_same (λ z. values_same ∙ one_only (values_of r.part w.done) i.value (ap tally_of (sym values_same) ∙ z) ∙ ap (λ (v : List ℕ). v ∷ []) value_here)

    holds_other : (k : ℕ) → k < 66 → (k ≡ r.part → ⊥) → After k
    unfolding values_of
    holds_other k b n =
        let y : values_of k (w.done ++ (i ∷ [])) ≡ values_of k w.done =
        values_append k w.done (i ∷ []) ∙ (rw (ne_eqb (part_of i.name) k (λ z. n (sym (l.part ∙ z)))) (append-nil (values_of k w.done))) in
        rw (y, get_or-set_other met r.part k noted Never n) (w.noted.each k b)

    holds_more : (k : ℕ) → k < 66 → After k
    holds_more k b = go (eqb k r.part) refl
      where
        go : (x : Bool) → eqb k r.part ≡ x → After k
        go true z = rw (eqb-true k r.part z, get_or-set_same met r.part noted Never (omega (arith, l.small, w.noted.whole))) holds_same
        go false z = holds_other k b (eqb-false k r.part z)

    pub midway_more : (m : ℕ) → m ≡ max highest (number_by r.part) → Midway p (set met r.part noted) m (at + 8 + r.len)
    unfolding highest_in
    midway_more m em =
        record {
          within = inside;
          done = w.done ++ (i ∷ []);
          all = all_more;
          sound = sound_more;
          noted = record { whole = length-set met r.part noted ∙ w.noted.whole; each = holds_more };
          high =
              let z : number_by (part_of i.name) ≡ number_by r.part = ap number_by (sym l.part) in
              omega (arith, em, w.high, highest_append w.done (i ∷ []), z);
        }

pub pass_done : (p : List ℕ) (met : List Met) (highest at : ℕ) → Midway p met highest at → length p - at < 8 → Finds p (record { highest = highest; met = met })
pass_done p met highest at w h =
    let d = length-drop at p in
    let y : items_of p ≡ w.done = w.all ∙ ap (λ (is : List Item). w.done ++ is) (items_none (drop at p) (omega arith)) ∙ append-nil w.done in
    record { sound = ap some_bad y ∙ w.sound; noted = rw y w.noted; high = w.high ∙ ap highest_in (sym y) }

pub take_rest : (p : List ℕ) (at : ℕ) → take (length p - at) (drop at p) ≡ drop at p
take_rest p at = let d = length-drop at p in take_all (length p - at) (drop at p) (omega arith)
