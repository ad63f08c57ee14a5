-- What is supposed of calls from C can be met: a line begins with every limit that is allowed and goes on at every time; the three calls over a leased line can be made with anything that is lent, and
-- every accepted frame that a variant carries is one that can be sent.
-- Assumes nothing.
use mathlib.Core.Bool.{true}
use mathlib.Core.List.{List, []}
use mathlib.Core.Logic.{◌⊎◌, inl, inr}
use mathlib.Core.Path.{◌≡◌, refl, sym, subst}
use Prim.Native.Nat.{ℕ, ◌≤◌}
use native.Mathlib.Omega.{arith}
use lib.Dec.{eqb}
use lib.ListN.{length, replicate}
use Rattle.octets.specs.Choice.{pick}
use Rattle.frame.specs.Frame.{err_of, fsync_of, status_by, fsync_by}
use Rattle.frame.specs.Rules.{refusal_of}
use Rattle.frame.specs.Writing.{Bytes}
use Rattle.frame.proofs.Accepting.{acceptable}
use Rattle.walk.specs.Records.{allowed}
use Rattle.controller.specs.Boundary.{lent_refusal}
use Rattle.walks.specs.WalkCalls.{begun_bytes}
use Rattle.living.specs.LiveBytes.{live_refusal_of, live_of}
use Rattle.array.specs.CodingArray.{Parts, lent}
use Rattle.array.specs.PartLengths.{Sized}
use Rattle.array.specs.OutputArray.{output_of, parts_of}
use Rattle.line.specs.NetworkOut.{logical_length, with_frame, frame_refusal}
use Rattle.homeward.specs.WayBack.{back_refusal}
use Rattle.remade.specs.Remaking.{frame_made, making_refusal}
use Rattle.lines.specs.LinesBoundary.{digit, variant_refusal, width_by, is_other}
use Rattle.calls.specs.LiveCalls.{lent_of, Calls, LiveLine, begins}
use Rattle.calls.specs.LeasedTrips.{Trip, Lengths, Sendable}
use Rattle.calls.proofs.CLive.{call_is_step}

-- a line is begun
pub begun : (m : ℕ) → allowed m ≡ true → LiveLine m 1 [] (begun_bytes m) []
begun m e = begins {was = replicate 23 0} (record { number = rw e; answer = refl })

-- at every time there is a call that is not refused
pub goes_on : {m more : ℕ} {came w : List ℕ} {ws : List (List ℕ)} → LiveLine m more came w ws → (left : List ℕ) × Calls more came w left 0
goes_on {m} {more} {came} {w} {ws} l =
    let left = pick (eqb (lent_refusal 23 (length w) (live_refusal_of more w)) 0) (live_of (lent_of came w) more w) w in
    let c : Calls more came w left (lent_refusal 23 (length w) (live_refusal_of more w)) = record { number = refl; answer = refl } in
    (left, subst (λ (r : ℕ). Calls more came w left r) (call_is_step l c).0 c)

-- the three calls, with anything that is lent
module _ (variant choice level : ℕ) (f m s g h out : List ℕ) (p : Parts) (room : List ℕ) where
  abbrev n1 : ℕ
  n1 = pick (eqb (variant_refusal variant) 0) (frame_refusal (width_by variant) f (lent [] m s g h []) out) 12

  abbrev o : List ℕ
  o = pick (eqb n1 0) (output_of (width_by variant) (with_frame (width_by variant) f (lent [] m s g h []))) out

  abbrev n2 : ℕ
  n2 = pick (eqb (variant_refusal variant) 0) (back_refusal (width_by variant) o p) 12

  abbrev q : Parts
  q = pick (eqb n2 0) (parts_of (width_by variant) o) p

  abbrev n3 : ℕ
  n3 = pick (eqb (variant_refusal variant) 0) (making_refusal (width_by variant) (is_other choice) level q.information (length room)) 12

  abbrev made : List ℕ
  made = pick (eqb n3 0) (frame_made (is_other choice) level q.information) room

  abbrev pub trip : Trip variant choice level f
  trip =
      record {
        management = m;
        supervision = s;
        synchronising = g;
        signalling = h;
        output_room = out;
        output = o;
        sent = n1;
        out = record { number = refl; bytes = refl };
        parts_room = p;
        parts = q;
        returned = n2;
        back = record { number = refl; parts = refl };
        frame_room = room;
        made = made;
        remade = n3;
        frame = record { number = refl; bytes = refl };
      }

  pub lengths : length m ≡ 24 → length s ≡ 24 → length g ≡ 192 → length h ≡ 192 → length out ≡ 6144 → length p.information ≡ variant → Sized (width_by variant) p → length room ≡ 6144 → Lengths variant choice level f trip
  lengths a b c d e i z k = record { management = a; supervision = b; synchronising = c; signalling = d; output = e; information = i; parts = z; frame = k }

own_level : (n : ℕ) → (n ≡ 0xFF) ⊎ ((n ≡ 0xF0) ⊎ ((n ≡ 0x0F) ⊎ (n ≡ 0x00))) → (level : ℕ) × (level ≤ 3) × (status_by level ≡ n)
own_level n (inl e) = (0, omega arith, sym e)
own_level n (inr (inl e)) = (1, omega arith, sym e)
own_level n (inr (inr (inl e))) = (2, omega arith, sym e)
own_level n (inr (inr (inr e))) = (3, omega arith, sym e)

own_choice : (n : ℕ) → (n ≡ 0x073AB6) ⊎ (n ≡ 0xF8C549) → (choice : ℕ) × (fsync_by (digit (is_other choice)) ≡ n)
own_choice n (inl e) = (0, sym e)
own_choice n (inr e) = (1, sym e)

-- every accepted frame that a variant carries has a sync word and a level of its own
pub sendable : (variant : ℕ) (f : List ℕ) → Bytes f → refusal_of f ≡ 0 → variant_refusal variant ≡ 0 → logical_length f ≤ variant → (choice : ℕ) × (level : ℕ) × Sendable variant choice level f
sendable variant f b z k c =
    let a = acceptable f z in
    let (level, l, e) = own_level (err_of f) a.status in
    let (choice, d) = own_choice (fsync_of f) a.synced in
    (choice, level, record { bytes = b; accepted = z; known = k; carried = c; own = record { status = e; sync = d }; within = l })
