-- Calls of the step are the looks that hand something out: each call that does not say done is one of them, and each of them is a call.
-- Assumes nothing.
use Prim.Native.Nat.{ℕ, zero, suc, ◌≤◌, ◌<◌}
use mathlib.Core.Path.{◌≡◌, refl, sym, ap, subst, ◌∙◌}
use mathlib.Core.Bool.{true, false}
use mathlib.Core.List.{List, [], ◌∷◌, Memᴰ}
use mathlib.Core.Logic.{◌⊎◌, inl, inr}
use mathlib.Core.Option.{Option, none, some}
use native.Mathlib.Omega.{arith}
use lib.ListN.{length}
use Rattle.walk.specs.declared.Item.{Item}
use Rattle.walk.specs.declared.Position.{Position}
use Rattle.walk.specs.declared.Step.{Step}
use Rattle.walk.specs.Walk.{Judged, Stepped, live, look, looks, giving, items, step_by, step_of}
use Rattle.walk.specs.ItemValues.{done_kind, kind_of}
use Rattle.walk.specs.Records.{judged, allowed, within, step_with, step_at, calls_at}
use Rattle.walk.proofs.Looks.{step_dead, step_live, items_live, walk_ind}
use Rattle.walk.proofs.Limits.{step_is}
use Rattle.why.proofs.Covers.{first_look, later_look, looked, none_looked}

module _ (R : Judged) (positive : 0 < R.period) where
  -- the last look of a step hands out its item and goes to its walk
  abbrev Looked : Position → Stepped → Type 0
  Looked u r = (kind_of r.item ≡ done_kind → ⊥) → (s : Position) × Memᴰ s (looks R u) × ((look R s).gives ≡ some r.item) × ((look R s).goes ≡ r.walk)

  step_looked : (u : Position) → Looked u (step_of R u)
  unfolding step_by
  step_looked = walk_ind R positive (λ u. Looked u (step_of R u)) dead alive
    where
      dead : (u : Position) → live R u ≡ false → Looked u (step_of R u)
      dead u e = rw (step_dead R positive u e) (λ d. absurd (d refl))

      at : (u : Position) → live R u ≡ true → (g : Option Item) → (look R u).gives ≡ g → Looked (look R u).goes (step_of R (look R u).goes) → Looked u (step_by g (look R u).goes (step_of R (look R u).goes))
      at u e none w ih d = let (s, m, g, t) = ih d in (s, later_look R positive u s e m, g, t)
      at u e (some x) w ih d = (u, first_look R positive u e, w, refl)

      alive : (u : Position) → live R u ≡ true → Looked (look R u).goes (step_of R (look R u).goes) → Looked u (step_of R u)
      alive u e ih = rw (step_live R positive u e) (at u e (look R u).gives refl ih)

  -- the looks behind a step are later ones
  abbrev After : Position → Position → Stepped → Type 0
  After s u r = Memᴰ s (looks R r.walk) → Memᴰ s (looks R u)

  looks_after : (s u : Position) → After s u (step_of R u)
  unfolding step_by
  looks_after s = walk_ind R positive (λ u. After s u (step_of R u)) (λ u e. rw (step_dead R positive u e) (λ m. m)) alive
    where
      at : (u : Position) → live R u ≡ true → (g : Option Item) → After s (look R u).goes (step_of R (look R u).goes) → After s u (step_by g (look R u).goes (step_of R (look R u).goes))
      at u e none ih m = later_look R positive u s e (ih m)
      at u e (some x) ih m = later_look R positive u s e m

      alive : (u : Position) → live R u ≡ true → After s (look R u).goes (step_of R (look R u).goes) → After s u (step_of R u)
      alive u e ih = rw (step_live R positive u e) (at u e (look R u).gives ih)

module _ (bytes : List ℕ) (limit : ℕ) (ok : allowed limit ≡ true) (positive : 0 < (judged limit bytes).period) where
  abbrev R : Judged
  R = judged limit bytes

  -- EACH CALL IS A LOOK
  pub call_looked : (n : ℕ) (u : Position) (r : Step) → Memᴰ r (calls_at bytes n (within limit u)) → (kind_of r.item ≡ done_kind → ⊥) →
      (s : Position) × Memᴰ s (looks R u) × ((look R s).gives ≡ some r.item) × (within limit (look R s).goes ≡ r.walk)
  unfolding calls_at step_with
  call_looked zero u r m d = absurd (mathlib.Core.List.Memᴰ.not-nil m)
  call_looked (suc n) u r m d = by (mathlib.Core.List.Memᴰ.cases_cons (rw (step_is bytes limit ok u) at m)) (λ k. call_looked n (step_of R u).walk r k d)
    where
      Found : Type 0
      Found = (s : Position) × Memᴰ s (looks R u) × ((look R s).gives ≡ some r.item) × (within limit (look R s).goes ≡ r.walk)

      here : r ≡ step_with bytes (step_of R u).item (within limit (step_of R u).walk) → Found
      here e =
          let (s, k, g, t) = step_looked R positive u (λ z. d (ap (λ (q : Step). kind_of q.item) e ∙ z)) in
          (s, k, g ∙ ap (λ (q : Step). some q.item) (sym e), ap (within limit) t ∙ ap (λ (q : Step). q.walk) (sym e))

      by : (r ≡ step_with bytes (step_of R u).item (within limit (step_of R u).walk)) ⊎ Memᴰ r (calls_at bytes n (within limit (step_of R u).walk)) →
          (Memᴰ r (calls_at bytes n (within limit (step_of R u).walk)) → (s : Position) × Memᴰ s (looks R (step_of R u).walk) × ((look R s).gives ≡ some r.item) × (within limit (look R s).goes ≡ r.walk)) → Found
      by (inl e) ih = here e
      by (inr k) ih = let (s, l, g, t) = ih k in (s, looks_after R positive s u l, g, t)

  -- AND EACH LOOK THAT HANDS SOMETHING OUT IS A CALL, of as many as there are items
  abbrev Called : ℕ → Position → Position → Item → Type 0
  Called n u s x = (r : Step) × Memᴰ r (calls_at bytes n (within limit u)) × (r.item ≡ x) × (r.walk ≡ within limit (look R s).goes)

  calls_same : (n : ℕ) (u v : Position) → step_of R u ≡ step_of R v → calls_at bytes n (within limit u) ≡ calls_at bytes n (within limit v)
  unfolding calls_at
  calls_same zero u v e = refl
  calls_same (suc n) u v e =
      let q : step_at bytes (within limit u) ≡ step_at bytes (within limit v) = step_is bytes limit ok u ∙ ap (λ (r : Stepped). step_with bytes r.item (within limit r.walk)) e ∙ sym (step_is bytes limit ok v) in
      ap (λ (r : Step). r ∷ calls_at bytes n r.walk) q

  abbrev AllCalled : Position → Type 0
  AllCalled u = (n : ℕ) → length (items R u) ≤ n → (s : Position) (x : Item) → Memᴰ s (looks R u) → (look R s).gives ≡ some x → Called n u s x

  pub look_called : (u : Position) → AllCalled u
  unfolding calls_at step_with step_by giving
  look_called = walk_ind R positive AllCalled (λ u e n h s x m. none_looked R positive u s e m) alive
    where
      -- the step that hands out y
      gave : (u : Position) → live R u ≡ true → (y : Item) → (look R u).gives ≡ some y → step_at bytes (within limit u) ≡ step_with bytes y (within limit (look R u).goes)
      gave u e y w =
          step_is bytes limit ok u
          ∙ ap (λ (r : Stepped). step_with bytes r.item (within limit r.walk)) (step_live R positive u e ∙ ap (λ (g : Option Item). step_by g (look R u).goes (step_of R (look R u).goes)) w)

      some_items : (u : Position) → live R u ≡ true → (y : Item) → (look R u).gives ≡ some y → length (items R u) ≡ suc (length (items R (look R u).goes))
      some_items u e y w = ap length (items_live R positive u e ∙ ap (λ (g : Option Item). giving g (items R (look R u).goes)) w)

      none_items : (u : Position) → live R u ≡ true → (look R u).gives ≡ none → length (items R u) ≡ length (items R (look R u).goes)
      none_items u e w = ap length (items_live R positive u e ∙ ap (λ (g : Option Item). giving g (items R (look R u).goes)) w)

      first : (u : Position) → live R u ≡ true → (n : ℕ) → length (items R u) ≤ n → (s : Position) (x : Item) → s ≡ u → (look R s).gives ≡ some x → Called n u s x
      first u e zero h s x q w = absurd (omega (arith, some_items u e x (ap (λ (t : Position). (look R t).gives) (sym q) ∙ w)))
      first u e (suc n) h s x q w =
          let g = gave u e x (ap (λ (t : Position). (look R t).gives) (sym q) ∙ w) in (
            step_at bytes (within limit u),
            mathlib.Core.List.Memᴰ.head refl,
            ap (λ (r : Step). r.item) g,
            ap (λ (r : Step). r.walk) g ∙ ap (λ (t : Position). within limit (look R t).goes) (sym q),
          )

      later : (u : Position) → live R u ≡ true → AllCalled (look R u).goes → (g : Option Item) → (look R u).gives ≡ g → (n : ℕ) → length (items R u) ≤ n → (s : Position) (x : Item) → Memᴰ s (looks R (look R u).goes) → (look R s).gives ≡ some x → Called n u s x
      later u e ih none w n h s x m v =
          let (r, k, i, t) = ih n (omega (arith, none_items u e w)) s x m v in
          let q = calls_same n u (look R u).goes (step_live R positive u e ∙ ap (λ (g : Option Item). step_by g (look R u).goes (step_of R (look R u).goes)) w) in
          (r, rw q k, i, t)
      later u e ih (some y) w zero h s x m v = absurd (omega (arith, some_items u e y w))
      later u e ih (some y) w (suc n) h s x m v =
          let (r, k, i, t) = ih n (omega (arith, some_items u e y w)) s x m v in
          let l : Memᴰ r (calls_at bytes n (step_at bytes (within limit u)).walk) = subst (λ (q : Step). Memᴰ r (calls_at bytes n q.walk)) (sym (gave u e y w)) k in
          (r, mathlib.Core.List.Memᴰ.tail l, i, t)

      alive : (u : Position) → live R u ≡ true → AllCalled (look R u).goes → AllCalled u
      alive u e ih n h s x m v = by (looked R positive u s e m)
        where
          by : (s ≡ u) ⊎ Memᴰ s (looks R (look R u).goes) → Called n u s x
          by (inl q) = first u e n h s x q v
          by (inr k) = later u e ih (look R u).gives refl n h s x k v
