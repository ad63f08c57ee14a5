-- What the methods on a whole group hand back, from the tests that led there.
-- Assumes nothing.
use mathlib.Core.Bool.{true, false}
use mathlib.Core.List.{List}
use mathlib.Core.Logic.{◌⊎◌, inl, inr}
use mathlib.Core.Path.{◌≡◌, refl, sym, ◌∙◌}
use Prim.Native.Nat.{ℕ, ◌+◌, ◌-◌, ◌*◌, ◌%◌, ◌≤◌, ◌<◌}
use native.Mathlib.Omega.{arith}
use lib.ListN.{length, take, drop}
use borrow.Rule.Slice.PartMut.{mid_of}
use borrow.Author.Tests.{eq-eqb, ne_eqb, lt-ltb, le-ltb}
use Rattle.std.proofs.lemmas.Grind.{common_steps}
use Rattle.octets.specs.Stores.{put}
use Rattle.refusals.specs.declared.Refusal.TheVariants.{OutOfTurn, ClosingSum}
use Rattle.signalling.specs.declared.Kind.{Kind}
use Rattle.signalling.specs.declared.Kind.TheVariants.{Start, Continuation, End, Other}
use Rattle.signalling.specs.declared.Group.{Group}
use Rattle.signalling.specs.declared.Opened.{Opened}
use Rattle.signalling.specs.declared.State.{State}
use Rattle.signalling.specs.declared.Item.TheVariants.{Nothing, Message, Drop}
use Rattle.signalling.specs.declared.Taken.{Taken}
use Rattle.signalling.specs.Messages.{SB, kind_in, closing_sum}
use Rattle.signalling.specs.OnNumbers.{fed, no_message, no_group, started_by, not_due, continued_by, ended_by, taken_by, buffer_by, out_item, afresh_by, join_by, whole_group, whole_by, step_by, step_buffer}
use Rattle.signalling.specs.GroupClauses.{Taking, Stepping}

-- ---- a part of a group's eight bytes
pub last_four : (g : List ℕ) → length g ≡ 8 → mid_of 4 4 g ≡ drop 4 g
last_four g e = grind (arith, common_steps)

pub last_six : (g : List ℕ) → length g ≡ 8 → mid_of 2 6 g ≡ drop 2 g
last_six g e = grind (arith, common_steps)

pub mid_four : (g : List ℕ) → mid_of 2 4 g ≡ take 4 (drop 2 g)
mid_four g = grind (arith, common_steps)

pub passes_over : {m : Opened} {g l : List ℕ} (k : Kind) → k ≡ Other → Taking k m g l (record { item = Nothing; message = m }) l
unfolding taken_by buffer_by
passes_over k e = rw e (record { taken = refl; buffer = refl })

module _ {m : Opened} {g l after : List ℕ} where
  pub starts_open : {crc : ℕ} → m.on ≡ true → crc ≡ fed 65535 g → after ≡ put l 0 (drop 4 g)
      → Taking Start m g l (record { item = Drop OutOfTurn; message = record { on = true; kind = SB g 2; grnb = SB g 3; count = 0; crc = crc } }) after
  unfolding started_by taken_by buffer_by
  starts_open h e q = record { taken = rw (h, e); buffer = q }

  pub starts : {crc : ℕ} → m.on ≡ false → crc ≡ fed 65535 g → after ≡ put l 0 (drop 4 g)
      → Taking Start m g l (record { item = Nothing; message = record { on = true; kind = SB g 2; grnb = SB g 3; count = 0; crc = crc } }) after
  unfolding started_by taken_by buffer_by
  starts h e q = record { taken = rw (h, e); buffer = q }

  pub continues : {crc place : ℕ} → m.on ≡ true → m.count < m.grnb → place ≡ m.count → crc ≡ fed m.crc g → after ≡ put l (4 + 6 * place) (drop 2 g)
      → Taking Continuation m g l (record { item = Nothing; message = record { on = m.on; kind = m.kind; grnb = m.grnb; count = m.count + 1; crc = crc } }) after
  unfolding continued_by taken_by buffer_by
  continues h k p e q = record { taken = rw (h, lt-ltb m.count m.grnb k, e); buffer = q ∙ rw (h, lt-ltb m.count m.grnb k, p) }

  pub not_continued : {r : Taken} → ((m.on ≡ true) × (m.grnb ≤ m.count)) ⊎ (m.on ≡ false) → r ≡ not_due → after ≡ l → Taking Continuation m g l r after
  unfolding continued_by taken_by buffer_by
  not_continued (inl h) p q = record { taken = p ∙ rw (h.0, le-ltb m.count m.grnb h.1); buffer = q ∙ rw (h.0, le-ltb m.count m.grnb h.1) }
  not_continued (inr h) p q = record { taken = p ∙ rw h; buffer = q ∙ rw h }

  pub takes_end : {r : Taken} {place : ℕ} → m.on ≡ true → m.count ≡ m.grnb → place ≡ m.count → r ≡ ended_by m g → after ≡ put l (4 + 6 * place) (take 4 (drop 2 g))
      → Taking End m g l r after
  unfolding taken_by buffer_by
  takes_end h k p e q = record { taken = e; buffer = q ∙ rw (h, eq-eqb m.count m.grnb k, p) }

  pub not_ended : {r : Taken} → ((m.on ≡ true) × (m.count ≡ m.grnb → ⊥)) ⊎ (m.on ≡ false) → r ≡ not_due → after ≡ l → Taking End m g l r after
  unfolding ended_by taken_by buffer_by
  not_ended (inl h) p q = record { taken = p ∙ rw (h.0, ne_eqb m.count m.grnb h.1); buffer = q ∙ rw (h.0, ne_eqb m.count m.grnb h.1) }
  not_ended (inr h) p q = record { taken = p ∙ rw h; buffer = q ∙ rw h }

-- ---- an end that is due
module _ (m : Opened) (g : List ℕ) (h : m.on ≡ true) (k : m.count ≡ m.grnb) {sum sent : ℕ} {n : Opened} (e : sum ≡ fed m.crc (take 6 g)) (s : sent ≡ closing_sum g) (z : n ≡ no_message) where
  pub ends_wrong : (65535 - sum ≡ sent → ⊥) → ◌≡◌ {A = Taken} (record { item = Drop ClosingSum; message = n }) (ended_by m g)
  unfolding ended_by
  ends_wrong t = rw (h, eq-eqb m.count m.grnb k, ← e, ← s, ne_eqb (65535 - sum) sent t, z)

  pub ends : {count : ℕ} → 65535 - sum ≡ sent → count ≡ m.count → ◌≡◌ {A = Taken} (record { item = Message m.kind (8 + 6 * count); message = n }) (ended_by m g)
  unfolding ended_by
  ends t p = rw (h, eq-eqb m.count m.grnb k, ← e, ← s, eq-eqb (65535 - sum) sent t, z, p)

-- ---- a frame
module _ (s : State) (fp mnsc : ℕ) (l : List ℕ) where
  pub steps_out : {item : _} {group : Group} → (fp % 4 ≡ s.group.due → ⊥) → item ≡ out_item s.group.waiting → group ≡ afresh_by (fp % 4) mnsc
      → Stepping s fp mnsc l (record { item = item; state = record { group = group; message = s.message } }) l
  unfolding step_by step_buffer
  steps_out h p q = let t = ne_eqb (fp % 4) s.group.due h in record { step = rw (t, p, q); buffer = rw t }

  module _ (h : fp % 4 ≡ s.group.due) where
    pub steps_join : {next : Group} → (fp % 4 ≡ 3 → ⊥) → next ≡ join_by s.group mnsc
        → Stepping s fp mnsc l (record { item = Nothing; state = record { group = next; message = s.message } }) l
    unfolding step_by step_buffer
    steps_join n q =
        let t = eq-eqb (fp % 4) s.group.due h in
        let u = ne_eqb s.group.due 3 (λ e. n (h ∙ e)) in
        record { step = rw (t, u, q); buffer = rw (t, u) }

    pub steps_whole : {r : Taken} {next : Group} {after g : List ℕ} → fp % 4 ≡ 3 → g ≡ whole_group s.group mnsc → Taking (kind_in (SB g 0)) s.message g l r after → next ≡ no_group false
        → Stepping s fp mnsc l (record { item = r.item; state = record { group = next; message = r.message } }) after
    unfolding step_by step_buffer whole_by
    steps_whole n e k q =
        let t = eq-eqb (fp % 4) s.group.due h in
        let u = eq-eqb s.group.due 3 (sym h ∙ n) in
        record { step = rw (t, u, q, k.taken, e); buffer = k.buffer ∙ rw (t, u, e) }
