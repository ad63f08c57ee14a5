-- A run over a line hands out what the walk over all that came hands out, whatever the pieces are.
-- Assumes nothing.
use Prim.Native.Nat.{ℕ, ◌+◌, ◌≤◌, ◌<◌}
use mathlib.Core.Path.{◌≡◌, refl, sym, ap, ap₂, subst, ◌∙◌}
use mathlib.Core.Bool.{Bool, true, false}
use mathlib.Core.List.{List, [], ◌∷◌, ◌++◌, append_assoc, append-nil}
use mathlib.Core.Logic.{inl, inr}
use native.Mathlib.Omega.{arith}
use lib.ListN.{length, length-append}
use Rattle.octets.specs.Choice.{pick}
use Rattle.walk.specs.declared.Item.{Item}
use Rattle.walk.specs.declared.Item.TheVariants.{Done}
use Rattle.walk.specs.declared.State.{State}
use Rattle.walk.specs.declared.Step.{Step}
use Rattle.walk.specs.Records.{Allowed, start, step_at, calls_at, state_after}
use Rattle.walk.specs.Demand3.{Out, out_of}
use Rattle.walk.proofs.Repeated.{done_again, calls_done, calls_join, state_join}
use Rattle.live.specs.declared.LiveStep.{LiveStep}
use Rattle.live.specs.declared.Told.TheVariants.{Got, More}
use Rattle.live.specs.Live.{is_done, telling, waiting, far}
use Rattle.live.proofs.WindowSteps.{is_done_lem}
use Rattle.lasting.specs.LiveRuns.{handed_by, handed, window, called, Run, starts, comes, ends, steps, needed, Right, Faithful, Complete}
use Rattle.lasting.proofs.LiveSteps.{room, live_right, live_end, live_inside, all_done}
use Rattle.lasting.proofs.GoingOn.{Fresh, fresh_wants, live_fresh, progress, kept, kept_place, got_goes, shows_none}

-- ---- one step that is right keeps the run faithful
module _ (m : ℕ) (v : List ℕ) where
  -- where nothing is handed out
  still : (s t : State) (xs : List Out) → step_at v t ≡ step_at v s → Faithful m v s xs → Faithful m v t (xs ++ [])
  still s t xs e F = rw (append-nil xs) (record { outs = F.outs; next = e ∙ F.next })

  -- where an item is
  given : (s : State) (xs : List Out) → Faithful m v s xs → Faithful m v (step_at v s).walk (xs ++ (out_of (step_at v s) ∷ []))
  unfolding calls_at state_after
  given s xs F =
      let n = length xs in
      let l : length (xs ++ (out_of (step_at v s) ∷ [])) ≡ n + 1 = length-append xs (out_of (step_at v s) ∷ []) in
      record {
        outs = rw l (calls_join v n 1 (start m) ∙ ap₂ (λ (a : List Out) (r : Step). a ++ (out_of r ∷ [])) F.outs (sym F.next));
        next = rw l (ap (λ (r : Step). step_at v r.walk) F.next ∙ ap (step_at v) (sym (state_join v n 1 (start m))));
      }

  told : (s : State) (xs : List Out) → Faithful m v s xs → Faithful m v (telling (step_at v s)).walk (xs ++ handed (telling (step_at v s)))
  unfolding telling handed_by
  told s xs F = go (is_done (step_at v s).item) refl
    where
      go : (b : Bool) → is_done (step_at v s).item ≡ b → Faithful m v (step_at v s).walk (xs ++ pick b [] (out_of (step_at v s) ∷ []))
      go true e = let (p, q) = is_done_lem (step_at v s).item e in still s (step_at v s).walk xs (done_again v s p q) F
      go false e = given s xs F

  waited : (s t : State) (xs : List Out) → step_at v t ≡ step_at v s → Faithful m v s xs → Faithful m v (waiting t).walk (xs ++ handed (waiting t))
  unfolding waiting handed_by
  waited s t xs e F = still s t xs e F

  one_step : (s : State) (xs : List Out) (r : LiveStep) → Right v s r → Faithful m v s xs → Faithful m v r.walk (xs ++ handed r)
  one_step s xs r (inl e) F = subst (λ (x : LiveStep). Faithful m v x.walk (xs ++ handed x)) (sym e) (told s xs F)
  one_step s xs r (inr (e, q)) F = subst (λ (x : LiveStep). Faithful m v x.walk (xs ++ handed x)) (sym e) (waited s r.walk xs q F)

  -- where the next step says done, all has been handed out
  complete : (s : State) (xs : List Out) (p : ℕ) → (step_at v s).item ≡ Done p → Faithful m v s xs → Complete m v xs p
  complete s xs p e F k =
      calls_join v (length xs) k (start m)
      ∙ ap₂ (λ (a b : List Out). a ++ b) F.outs (calls_done v k (state_after v (length xs) (start m)) p (ap (λ (r : Step). r.item) (sym F.next) ∙ e))

-- ---- a run, while more may come, whatever comes; and once it has ended
abbrev Holds : ℕ → Bool → List ℕ → State → List Out → Type 0
Holds m true came s xs = (b : List ℕ) → Faithful m (came ++ b) s xs
Holds m false came s xs = Faithful m came s xs

steps_hold : (m : ℕ) (more : Bool) (came : List ℕ) (s : State) (xs : List Out) → s.position.place ≤ length came → length came < far → Holds m more came s xs →
    Holds m more came (called came more s).walk (xs ++ handed (called came more s))
steps_hold m true came s xs i h F = λ b. one_step m (came ++ b) s xs (called came true s) (live_right came s i h b) (F b)
steps_hold m false came s xs i h F = one_step m came s xs (called came false s) (inl (live_end came s i h)) F

record Kept (m : ℕ) (more : Bool) (came : List ℕ) (s : State) (xs : List Out) : Type 0 where
  inside : s.position.place ≤ length came
  holds : Holds m more came s xs

run : (m : ℕ) {more : Bool} {came : List ℕ} {s : State} {xs : List Out} → Run m more came s xs → length came < far → Kept m more came s xs
unfolding calls_at state_after
run m starts h = record { inside = omega arith; holds = λ b. record { outs = refl; next = refl } }
run m (comes {came} {s} {xs} r piece) h =
    let l = length-append came piece in
    let K = run m r (omega arith) in
    record { inside = omega (arith, K.inside); holds = λ b. rw (append_assoc came piece b) (K.holds (piece ++ b)) }
run m (ends {came} {s} {xs} r) h = let K = run m r h in record { inside = K.inside; holds = rw (append-nil came) at (K.holds []) }
run m (steps {more} {came} {s} {xs} r) h =
    let K = run m r h in
    record { inside = live_inside came s K.inside h more; holds = steps_hold m more came s xs K.inside h K.holds }

-- with an allowed limit a run's walk never ends by itself
run_fresh : (m : ℕ) → Allowed m → {more : Bool} {came : List ℕ} {s : State} {xs : List Out} → Run m more came s xs → length came < far → Fresh m s
run_fresh m ok starts h = record { limit = refl; few = λ e. let y : ◌≡◌ {A = ℕ} 0 1 = cc in absurd (omega arith) }
run_fresh m ok (comes {came} {s} {xs} r piece) h = let l = length-append came piece in run_fresh m ok r (omega arith)
run_fresh m ok (ends {came} {s} {xs} r) h = run_fresh m ok r h
run_fresh m ok (steps {more} {came} {s} {xs} r) h =
    live_fresh m ok (window came s) s (omega (arith, room came s (run m r h).inside h)) more (run_fresh m ok r h)

-- WHATEVER THE PIECES ARE: while more may come, what was handed out is what the walk's step, called as often over all that has come and all that will, hands out, and the walk goes on with what that hands out next
pub run_on : {m : ℕ} {came : List ℕ} {s : State} {xs : List Out} → Run m true came s xs → length came < far → (b : List ℕ) → Faithful m (came ++ b) s xs
run_on {m} r h = (run m r h).holds

-- and of all that has come, whether or not more may
pub run_faithful : {m : ℕ} {more : Bool} {came : List ℕ} {s : State} {xs : List Out} → Run m more came s xs → length came < far → Faithful m came s xs
run_faithful {m} {more} {came} {s} {xs} r h = go more (run m r h).holds
  where
    go : (b : Bool) → Holds m b came s xs → Faithful m came s xs
    go true F = rw (append-nil came) at (F [])
    go false F = F

-- THE END: where the line has ended and done is told at p, all that the walk over all that came hands out was handed out, and it says done at p
pub run_out : {m : ℕ} {came : List ℕ} {s : State} {xs : List Out} → Run m false came s xs → length came < far → (p : ℕ) → (called came false s).told ≡ Got (Done p) → Complete m came xs p
unfolding telling
run_out {m} {came} {s} {xs} r h p e =
    let K = run m r h in
    let q : (telling (step_at came s)).told ≡ Got (Done p) = ap (λ (x : LiveStep). x.told) (sym (live_end came s K.inside h)) ∙ e in
    complete m came s xs p (cc) K.holds

-- THE WINDOW BEGINS IN WHAT HAS COME
pub run_inside : {m : ℕ} {more : Bool} {came : List ℕ} {s : State} {xs : List Out} → Run m more came s xs → length came < far → s.position.place ≤ length came
run_inside {m} r h = (run m r h).inside

module _ {m : ℕ} (ok : Allowed m) {came : List ℕ} {s : State} {xs : List Out} (r : Run m true came s xs) (h : length came < far) where
  near : s.position.place + length (window came s) < far
  near = omega (arith, room came s (run_inside r h) h)

  -- NOTHING IS HELD BACK: whenever more bytes are wanted, all that the walk over what has come hands out, as if the line ended there, was handed out
  pub run_even : (q : ℕ) → (called came true s).told ≡ More q → (p : ℕ) × Complete m came xs p
  run_even q e =
      let F : Faithful m came s xs = rw (append-nil came) at ((run m r h).holds []) in
      let (p, d) = is_done_lem (step_at came s).item (all_done came s (run_inside r h) h (shows_none (window came s) s near (fresh_wants m ok s (run_fresh m ok r h)) q e)) in
      (p, complete m came s xs p d F)

  -- PROGRESS: a call over a window of 12,288 bytes goes further, and in lock one over 6,144
  pub run_goes : needed s.position.lock ≤ length (window came s) → s.position.place < (called came true s).walk.position.place
  run_goes = progress (window came s) s near (fresh_wants m ok s (run_fresh m ok r h))

  -- and so does each that tells an item, over any window, and while more may come no item told is done: so calls in a row come to where more bytes are wanted
  pub run_got : (x : Item) → (called came true s).told ≡ Got x → (is_done x ≡ false) × (s.position.place < (called came true s).walk.position.place)
  run_got = got_goes (window came s) s near (fresh_wants m ok s (run_fresh m ok r h))

  -- LITTLE IS KEPT: whenever more bytes are wanted, fewer than 12,288 of those that came are from the walk's place on, and in lock fewer than 6,144: so in lock a period is told with its last byte
  pub run_keeps : (q : ℕ) → (called came true s).told ≡ More q → ((called came true s).walk.position.place ≡ q) × (length came < q + needed s.position.lock)
  run_keeps q e = let (a, b) = kept (window came s) s near (fresh_wants m ok s (run_fresh m ok r h)) q e in (a, omega (arith, room came s (run_inside r h) h))

  -- IN LOCK A PERIOD IS TOLD WITH ITS LAST BYTE: where all its bytes have come, the call tells an item
  pub run_at_once : s.position.lock ≡ true → s.position.place + 6144 ≤ length came → (q : ℕ) → (called came true s).told ≡ More q → ⊥
  unfolding needed
  run_at_once l n q e =
      let (a, b) = run_keeps q e in
      let c = kept_place (window came s) s near (fresh_wants m ok s (run_fresh m ok r h)) l q e in
      let z : length came < q + 6144 = rw l at b in omega arith
