-- Demand 3 of a live line, both parts, with every limit.
-- Assumes nothing.
use Prim.Native.Nat.{ℕ, zero, suc, ◌+◌, ◌-◌, ◌*◌, ◌≤◌, ◌<◌}
use mathlib.Core.Path.{◌≡◌, refl, sym, ap, ap₂, subst, ◌∙◌}
use mathlib.Core.Bool.{Bool, true, false}
use mathlib.Core.List.{List, [], ◌∷◌, ◌++◌, map, append_assoc, append-nil}
use native.Mathlib.Omega.{arith}
use lib.Dec.{lit<, leb, eqb}
use lib.ListN.{length, replicate, length-append}
use Rattle.octets.specs.Choice.{pick}
use Rattle.frame.specs.declared.Header.{Header}
use Rattle.frame.specs.declared.Stream.{Stream}
use Rattle.frame.specs.Rules.{refusal_of}
use Rattle.walk.specs.declared.Item.TheVariants.{Frame}
use Rattle.walk.specs.declared.State.{State}
use Rattle.walk.specs.ItemValues.{place_of}
use Rattle.walk.specs.Records.{part, Allowed, start, step_at, calls_at, state_after}
use Rattle.walk.specs.Demand3.{EndsIn, UnbrokenIn, Out, out_of, frame_out, lost_out, idle_out, done_out, out_since, frames_out, period_out, periods_out}
use Rattle.walk.proofs.OverBytes.{intact_out, periods_handed_out}
use Rattle.walk.proofs.Repeated.{calls_join, limit_stays}
use Rattle.live.specs.declared.Told.{Told}
use Rattle.live.specs.declared.Told.TheVariants.{Got, More}
use Rattle.live.specs.Live.{is_done, far}
use Rattle.lasting.specs.LiveRuns.{handed_by, handed, called, Run, starts, comes, ends, steps}
use Rattle.lasting.proofs.LiveLaws.{run_even}

-- ---- what is handed out but for done
unfoldable carried : List Out → List Out
carried [] = []
carried (x ∷ l) = pick (is_done x.item) (carried l) (x ∷ carried l)

carried_join : (a b : List Out) → carried (a ++ b) ≡ carried a ++ carried b
unfolding carried
carried_join [] b = refl
carried_join (x ∷ a) b = go (is_done x.item) (carried_join a b)
  where
    go : (d : Bool) → carried (a ++ b) ≡ carried a ++ carried b → pick d (carried (a ++ b)) (x ∷ carried (a ++ b)) ≡ pick d (carried a) (x ∷ carried a) ++ carried b
    go true e = e
    go false e = ap (λ (l : List Out). x ∷ l) e

carried_done : (n p : ℕ) → carried (replicate n (done_out p)) ≡ []
unfolding carried is_done
carried_done zero p = refl
carried_done (suc n) p = carried_done n p

carried_frames : (bytes : List ℕ) (n p : ℕ) → carried (frames_out bytes p n) ≡ frames_out bytes p n
unfolding carried is_done frames_out
carried_frames bytes zero p = refl
carried_frames bytes (suc n) p = ap (λ (l : List Out). frame_out bytes p ∷ l) (carried_frames bytes n (p + 6144))

carried_since : (c : ℕ) (l : List Out) → carried (out_since c l) ≡ out_since c (carried l)
unfolding carried out_since
carried_since c [] = refl
carried_since c (x ∷ l) = go (leb c (place_of x.item)) refl (is_done x.item) refl (carried_since c l)
  where
    go : (a : Bool) → leb c (place_of x.item) ≡ a → (d : Bool) → is_done x.item ≡ d → carried (out_since c l) ≡ out_since c (carried l) →
        carried (pick a (x ∷ out_since c l) (out_since c l)) ≡ out_since c (pick d (carried l) (x ∷ carried l))
    go true e true f ih = rw f ih
    go true e false f ih = rw (e, f) (ap (λ (t : List Out). x ∷ t) ih)
    go false e true f ih = ih
    go false e false f ih = rw e ih

handed_carried : (t : Told) (table : List Stream) → carried (handed_by t table) ≡ handed_by t table
unfolding handed_by carried
handed_carried (Got x) table = go (is_done x) refl
  where
    go : (b : Bool) → is_done x ≡ b → carried (pick b [] (record { item = x; table = table } ∷ [])) ≡ pick b [] (record { item = x; table = table } ∷ [])
    go true e = refl
    go false e = rw e refl
handed_carried (More p) table = refl

-- a run hands out no done
run_carried : {m : ℕ} {more : Bool} {came : List ℕ} {s : State} {xs : List Out} → Run m more came s xs → carried xs ≡ xs
unfolding carried
run_carried starts = refl
run_carried (comes r piece) = run_carried r
run_carried (ends r) = run_carried r
run_carried (steps {more} {came} {s} {xs} r) =
    carried_join xs (handed (called came more s)) ∙ ap₂ (λ (a b : List Out). a ++ b) (run_carried r) (handed_carried (called came more s).told (called came more s).table)

but_done : (xs : List Out) (n p : ℕ) → carried xs ≡ xs → carried (xs ++ replicate n (done_out p)) ≡ xs
but_done xs n p e = carried_join xs (replicate n (done_out p)) ∙ ap₂ (λ (a b : List Out). a ++ b) e (carried_done n p) ∙ append-nil xs

-- DEMAND 3, FIRST PART, OF A LIVE LINE, over the limit m: whenever more bytes are wanted and what has come ends with more than m intact frames, the m-th of them and each later one have been handed out, in order, each once, and nothing else from there on
pub live_intact : {m : ℕ} (ok : Allowed m) {came : List ℕ} {s : State} {xs : List Out} → Run m true came s xs → length came < far → (q : ℕ) → (called came true s).told ≡ More q →
    (a n : ℕ) → EndsIn came a n → m < n → out_since (a + (m - 1) * 6144) xs ≡ frames_out came (a + (m - 1) * 6144) (n - (m - 1))
live_intact {m} ok {came} {s} {xs} r h q e a n E enough =
    let c = a + (m - 1) * 6144 in
    let fs = frames_out came c (n - (m - 1)) in
    let (p, all) = run_even ok r h q e in
    let (k, z, f) = intact_out m ok came a n E enough (length xs + length came) (omega arith) in
    ap (out_since c) (sym (but_done xs (length came) p (run_carried r)))
    ∙ sym (carried_since c (xs ++ replicate (length came) (done_out p)))
    ∙ ap (λ (l : List Out). carried (out_since c l)) (sym (all (length came)))
    ∙ ap carried f
    ∙ but_done fs k (length came) (carried_frames came (n - (m - 1)) c)

-- .. in the demand's own words: of at least four the third and every later one
pub live_demand_3_first : {came : List ℕ} {s : State} {xs : List Out} → Run 3 true came s xs → length came < far → (q : ℕ) → (called came true s).told ≡ More q →
    (a n : ℕ) → EndsIn came a n → 4 ≤ n → out_since (a + 2 * 6144) xs ≡ frames_out came (a + 2 * 6144) (n - 2)
live_demand_3_first r h q e a n E f = live_intact (lit< tt, lit< tt) r h q e a n E f

-- ---- the second part
period_not_done : (bytes : List ℕ) (p : ℕ) → is_done (period_out bytes p).item ≡ false
unfolding period_out is_done
period_not_done bytes p = go (eqb (refusal_of (part bytes p)) 0) (eqb (refusal_of (part bytes p)) 4)
  where
    go : (a b : Bool) → is_done (pick a (frame_out bytes p) (pick b (idle_out p) (lost_out bytes p))).item ≡ false
    go true b = refl
    go false true = refl
    go false false = refl

done_differs : (x : Out) (e : ℕ) → is_done x.item ≡ false → x ≡ done_out e → ⊥
unfolding is_done
done_differs x e n q = let z : true ≡ false = sym (ap (λ (y : Out). is_done y.item) q) ∙ n in let y : ◌≡◌ {A = ℕ} 0 1 = cc in omega arith

-- what begins with the items of periods, and ends with done, has them before
prefix : (bytes : List ℕ) (n p : ℕ) (later rest : List Out) (k e : ℕ) → periods_out bytes p n ++ rest ≡ later ++ replicate k (done_out e) → (ys : List Out) × (later ≡ periods_out bytes p n ++ ys)
unfolding periods_out
prefix bytes zero p later rest k e q = (later, refl)
prefix bytes (suc n) p [] rest zero e q = absurd (let z : ◌≡◌ {A = ℕ} 0 1 = cc in omega arith)
prefix bytes (suc n) p [] rest (suc k) e q = absurd (done_differs (period_out bytes p) e (period_not_done bytes p) (cc))
prefix bytes (suc n) p (x ∷ later) rest k e q =
    let (ys, f) = prefix bytes n (p + 6144) later rest k e (cc) in
    let z : x ≡ period_out bytes p = cc in
    (ys, ap₂ (λ (y : Out) (l : List Out). y ∷ l) z f)

length-calls : (v : List ℕ) (n : ℕ) (s : State) → length (map out_of (calls_at v n s)) ≡ n
unfolding calls_at
length-calls v zero s = refl
length-calls v (suc n) s = ap suc (length-calls v n (step_at v s).walk)

behind : (a b c d : List Out) → length a ≡ length c → a ++ b ≡ c ++ d → b ≡ d
behind [] b [] d l e = e
behind [] b (y ∷ c) d l e = absurd (omega arith)
behind (x ∷ a) b [] d l e = absurd (omega arith)
behind (x ∷ a) b (y ∷ c) d l e = behind a b c d (omega arith) (cc)

-- DEMAND 3, SECOND PART, OF A LIVE LINE: whenever more bytes are wanted, a frame that has been handed out is followed by one item for each period that has come, until as many in a row as the limit are refused for another reason than 4
pub live_periods : {m : ℕ} (ok : Allowed m) {came : List ℕ} {s : State} {xs : List Out} → Run m true came s xs → length came < far → (q : ℕ) → (called came true s).told ≡ More q →
    (earlier : List Out) (x : Out) (later : List Out) → xs ≡ earlier ++ (x ∷ later) → (p : ℕ) (head : Header) → x.item ≡ Frame p head →
    (n : ℕ) → p + 6144 + n * 6144 ≤ length came → UnbrokenIn m came (p + 6144) n → (ys : List Out) × (later ≡ periods_out came (p + 6144) n ++ ys)
unfolding calls_at
live_periods {m} ok {came} {s} {xs} r h q e earlier x later i p head f n room u =
    let (d, all) = run_even ok r h q e in
    let at = state_after came (length earlier) (start m) in
    let j = length later in
    let lx : length xs + n ≡ length earlier + suc (j + n) = omega (arith, ap length i, length-append earlier (x ∷ later)) in
    let whole : map out_of (calls_at came (length earlier) (start m)) ++ map out_of (calls_at came (suc (j + n)) at) ≡ earlier ++ (x ∷ (later ++ replicate n (done_out d)))
    = sym (calls_join came (length earlier) (suc (j + n)) (start m)) ∙ ap (λ (k : ℕ). map out_of (calls_at came k (start m))) (sym lx) ∙ all n ∙ ap (λ (l : List Out). l ++ replicate n (done_out d)) i ∙ append_assoc earlier (x ∷ later) (replicate n (done_out d)) in
    let rest : out_of (step_at came at) ∷ map out_of (calls_at came (j + n) (step_at came at).walk) ≡ x ∷ (later ++ replicate n (done_out d)) = behind (map out_of (calls_at came (length earlier) (start m))) (map out_of (calls_at came (suc (j + n)) at)) earlier (x ∷ (later ++ replicate n (done_out d))) (length-calls came (length earlier) (start m)) whole in
    let y : out_of (step_at came at) ≡ x = cc in
    let z : map out_of (calls_at came (j + n) (step_at came at).walk) ≡ later ++ replicate n (done_out d) = cc in
    let P = periods_handed_out came at p head (ap (λ (o : Out). o.item) y ∙ f) n room (subst (λ (k : ℕ). UnbrokenIn k came (p + 6144) n) (sym (limit_stays came (length earlier) (start m))) u) in
    let c : n + j ≡ j + n = omega arith in
    prefix came n (p + 6144) later (map out_of (calls_at came j (state_after came n (step_at came at).walk))) n d
    (ap (λ (l : List Out). l ++ map out_of (calls_at came j (state_after came n (step_at came at).walk))) (sym P)
    ∙ sym (calls_join came n j (step_at came at).walk)
    ∙ ap (λ (k : ℕ). map out_of (calls_at came k (step_at came at).walk)) c
    ∙ z)
