-- A whole group: the state's numbers and the buffer hold what definition 2 has.
-- Assumes nothing.
use mathlib.Core.Bool.{Bool, true, false}
use mathlib.Core.List.{List, [], ◌∷◌, ◌++◌, append_assoc, append-nil}
use mathlib.Core.Option.{some}
use mathlib.Core.Path.{◌≡◌, refl, sym, ap, ap₂, ◌∙◌}
use Prim.Native.Nat.{ℕ, ◌+◌, ◌-◌, ◌*◌, ◌≤◌, ◌<◌}
use native.Mathlib.Omega.{arith}
use lib.Dec.{eqb, ltb}
use lib.ListN.{length, take, drop, length-append}
use lib.Seq.{length-take-le, take_at}
use borrow.Author.Tests.{ltb-true, eqb-true}
use Rattle.sum.specs.Sum.{ones, word, after, sum_of}
use Rattle.sum.proofs.SumLaws.{after_append}
use Rattle.octets.specs.Choice.{pick}
use Rattle.octets.specs.Stores.{put, bytes_of_each}
use Rattle.octets.proofs.Storing.{put_room, put_length, each_append}
use Rattle.refusals.specs.declared.Refusal.TheVariants.{ClosingSum}
use Rattle.signalling.specs.declared.Kind.{Kind}
use Rattle.signalling.specs.declared.Kind.TheVariants.{Start, Continuation, End, Other}
use Rattle.signalling.specs.declared.Opened.{Opened}
use Rattle.signalling.specs.declared.Item.TheVariants.{Message, Drop}
use Rattle.signalling.specs.declared.Taken.{Taken}
use Rattle.signalling.specs.Feeding.{Took}
use Rattle.signalling.specs.Messages.{in_row, Strung, shut, opened, Handed, message, group_bytes, gr_nb, closing_sum, end_bytes, continuation_bytes, closed, by_kind}
use Rattle.signalling.specs.OnNumbers.{fed, started_by, continued_by, ended_by, taken_by, buffer_by, continuation_due, end_due, place_of}
use Rattle.signalling.specs.Following.{shown, Opens, Strings}
use Rattle.signalling.proofs.Register.{fed_word, load_ones, closing}

pub put_take : (l : List ℕ) (at : ℕ) (vs : List ℕ) → at + length vs ≤ length l → take (at + length vs) (put l at vs) ≡ take at l ++ vs
put_take l at vs h =
    ap (take (at + length vs)) (put_room l at vs h)
    ∙ take_at (take at l ++ vs) (drop (at + length vs) l) (at + length vs) (length-append (take at l) vs ∙ ap (λ (n : ℕ). n + length vs) (length-take-le at l (omega arith)))

-- the bytes of a row of groups, with one group more
pub each_snoc : (f : List ℕ → List ℕ) (gs : List (List ℕ)) (g : List ℕ) → bytes_of_each f (gs ++ (g ∷ [])) ≡ bytes_of_each f gs ++ f g
each_snoc f gs g = each_append f gs (g ∷ []) ∙ ap (λ (r : List ℕ). bytes_of_each f gs ++ r) (append-nil (f g))

-- what is kept by a whole group
pub record Kept (t : Took Strung Handed) (r : Taken) (l : List ℕ) : Type 0 where
  pub gives : shown l r.item ≡ t.gives
  pub goes : Strings t.goes r.message l
  pub room : 1538 ≤ length l

module _ (b0 b1 b2 b3 b4 b5 b6 b7 : ℕ) (m : Opened) (l : List ℕ) (room : 1538 ≤ length l) where
  abbrev g : List ℕ
  g = b0 ∷ b1 ∷ b2 ∷ b3 ∷ b4 ∷ b5 ∷ b6 ∷ b7 ∷ []

  begun : b3 < 256 → Opens g [] (started_by m.on g).message (put l 0 (drop 4 g))
  unfolding started_by fed
  begun h =
      record {
        on = refl;
        kind = refl;
        grnb = refl;
        small = h;
        count = refl;
        within = omega arith;
        crc = rw load_ones;
        bytes = put_take l 0 (b4 ∷ b5 ∷ b6 ∷ b7 ∷ []) (omega arith);
      }

  start : (o : Strung) → b3 < 256 → Strings o m l → Kept (by_kind Start o g) (taken_by Start m g) (buffer_by Start m g l)
  unfolding by_kind taken_by buffer_by started_by Strings
  start shut h e =
      record { gives = rw e; goes = begun h; room = rw (put_length l 0 (b4 ∷ b5 ∷ b6 ∷ b7 ∷ []) (omega arith)) room }
  start (opened s cs) h e =
      record { gives = rw e.on; goes = begun h; room = rw (put_length l 0 (b4 ∷ b5 ∷ b6 ∷ b7 ∷ []) (omega arith)) room }

  other : (o : Strung) → Strings o m l → Kept (by_kind Other o g) (taken_by Other m g) (buffer_by Other m g l)
  unfolding by_kind taken_by buffer_by
  other o e = record { gives = refl; goes = e; room = room }

  module _ (s : List ℕ) (cs : List (List ℕ)) (o : Opens s cs m l) where
    place : m.count < m.grnb → place_of m + 6 ≤ length l
    place h = omega (arith, o.small)

    continues : m.count < m.grnb → Opens s (cs ++ (g ∷ [])) (record { on = true; kind = m.kind; grnb = m.grnb; count = m.count + 1; crc = fed m.crc g }) (put l (place_of m) (drop 2 g))
    continues h =
        let e : 4 + 6 * (m.count + 1) ≡ place_of m + 6 = omega arith in
        record {
          on = refl;
          kind = o.kind;
          grnb = o.grnb;
          small = o.small;
          count = ap (λ (n : ℕ). n + 1) o.count ∙ sym (length-append cs (g ∷ []));
          within = omega arith;
          crc =
              fed_word (after ones (group_bytes s cs)) m.crc g o.crc
              ∙ ap word (sym (after_append ones (group_bytes s cs) g) ∙ ap (after ones) (append_assoc s (in_row cs) g ∙ ap (λ (r : List ℕ). s ++ r) (sym (each_snoc (λ x. x) cs g))));
          bytes =
              ap (λ (n : ℕ). take n (put l (place_of m) (drop 2 g))) e
              ∙ put_take l (place_of m) (drop 2 g) (place h)
              ∙ ap (λ (r : List ℕ). r ++ drop 2 g) o.bytes
              ∙ append_assoc (drop 4 s) (bytes_of_each continuation_bytes cs) (drop 2 g)
              ∙ ap (λ (r : List ℕ). drop 4 s ++ r) (sym (each_snoc continuation_bytes cs g));
        }

    continuation : (b : Bool) → ltb (length cs) (gr_nb s) ≡ b → continuation_due m ≡ b → Kept (by_kind Continuation (opened s cs) g) (taken_by Continuation m g) (buffer_by Continuation m g l)
    unfolding by_kind taken_by buffer_by continued_by Strings
    continuation true p q =
        let h : m.count < m.grnb = rw (o.count, o.grnb) (ltb-true (length cs) (gr_nb s) p) in
        rw (p, q) (record { gives = refl; goes = continues h; room = rw (put_length l (place_of m) (drop 2 g) (place h)) room })
    continuation false p q = rw (p, q) (record { gives = refl; goes = refl; room = room })

    -- "the CRC bytes": the register kept is the sum of all bytes of the groups
    ends : m.count ≡ m.grnb → (c : Bool) → eqb (sum_of (group_bytes s cs ++ take 6 g)) (closing_sum g) ≡ c
        → shown (put l (place_of m) (end_bytes g)) (pick (eqb (65535 - fed m.crc (take 6 g)) (closing_sum g)) (Message m.kind (8 + 6 * m.count)) (Drop ClosingSum)) ≡ some (closed s cs g)
    ends h true e =
        let n : 8 + 6 * m.count ≡ place_of m + 4 = omega arith in
        rw (closing m.crc (group_bytes s cs) (take 6 g) o.crc, e)
        (ap₂ (λ (k : ℕ) (r : List ℕ). some (message k r))
        o.kind
        (ap (λ (k : ℕ). take k (put l (place_of m) (end_bytes g))) n
        ∙ put_take l (place_of m) (end_bytes g) (omega (arith, o.small))
        ∙ ap (λ (r : List ℕ). r ++ end_bytes g) o.bytes))
    ends h false e = rw (closing m.crc (group_bytes s cs) (take 6 g) o.crc, e)

    end : (b : Bool) → eqb (length cs) (gr_nb s) ≡ b → end_due m ≡ b → Kept (by_kind End (opened s cs) g) (taken_by End m g) (buffer_by End m g l)
    unfolding by_kind taken_by buffer_by ended_by Strings
    end true p q =
        let h : m.count ≡ m.grnb = o.count ∙ eqb-true (length cs) (gr_nb s) p ∙ sym o.grnb in
        rw (p, q)
        (record {
          gives = ends h (eqb (sum_of (group_bytes s cs ++ take 6 g)) (closing_sum g)) refl;
          goes = refl;
          room = rw (put_length l (place_of m) (end_bytes g) (omega (arith, o.small))) room;
        })
    end false p q = rw (p, q) (record { gives = refl; goes = refl; room = room })

    due_continuation : continuation_due m ≡ ltb (length cs) (gr_nb s)
    due_continuation = rw (o.on, o.count, o.grnb)

    due_end : end_due m ≡ eqb (length cs) (gr_nb s)
    due_end = rw (o.on, o.count, o.grnb)

  pub whole : (k : Kind) (o : Strung) → b3 < 256 → Strings o m l → Kept (by_kind k o g) (taken_by k m g) (buffer_by k m g l)
  unfolding by_kind taken_by buffer_by continued_by ended_by Strings
  whole Start o h e = start o h e
  whole Other o h e = other o e
  whole Continuation shut h e = rw e (record { gives = refl; goes = refl; room = room })
  whole Continuation (opened s cs) h e = continuation s cs e (ltb (length cs) (gr_nb s)) refl (due_continuation s cs e)
  whole End shut h e = rw e (record { gives = refl; goes = refl; room = room })
  whole End (opened s cs) h e = end s cs e (eqb (length cs) (gr_nb s)) refl (due_end s cs e)
