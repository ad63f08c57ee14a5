-- The state's bytes: what is stored, and what is read back of it.
-- Assumes nothing.
use mathlib.Core.Bool.{Bool, true, false}
use mathlib.Core.List.{List, ◌++◌}
use mathlib.Core.Path.{◌≡◌, refl, sym, ap, ap₂, subst, ◌∙◌}
use Prim.Native.Nat.{ℕ, ◌/◌, ◌%◌, ◌^◌, ◌≤◌, ◌<◌}
use native.Mathlib.Omega.{arith}
use borrow.Author.Tests.{eq-eqb, eqb-true, le-ltb, ltb-false}
use lib.Dec.{eqb, ltb}
use lib.ListN.{length, get_or, replicate}
use Rattle.sum.specs.Sum.{digit}
use Rattle.octets.specs.Choice.{pick}
use Rattle.octets.specs.Words.{split, join, Fit, bytes8, eight_at}
use Rattle.octets.specs.Stores.{put}
use Rattle.octets.proofs.SplitJoin.{join_split, split_join, join_lt}
use Rattle.octets.proofs.Storing.{put_chain, put_all}
use Rattle.signalling.specs.declared.Group.{Group}
use Rattle.signalling.specs.declared.Opened.{Opened}
use Rattle.signalling.specs.declared.State.{State}
use Rattle.signalling.specs.declared.Item.{Item}
use Rattle.signalling.specs.OnNumbers.{beginning}
use Rattle.signalling.proofs.StepFixed.{item_by_lem}
use Rattle.signals.specs.SignalBytes.{item_kind, item_number, item_length, group_widths, group_values, message_widths, message_values, signal_bytes, group_in, message_in, state_at, item_by, item_at, signal_refusal, Accepted}
use Rattle.signals.specs.SignalClauses.{Left}

pub low_pair : (w : ℕ) → w % 65536 ≡ w / 1 % 65536
low_pair w = omega arith

bit_back : (b : Bool) → eqb (digit b) 1 ≡ b
bit_back true = refl
bit_back false = refl

group_back : (g : Group) → Fit group_widths (group_values g) → group_in (join group_widths (group_values g)) ≡ g
unfolding group_in
group_back g h =
    let e = split_join group_widths (group_values g) h in
    ap (λ (vs : List ℕ). record { due = get_or vs 0 0; waiting = eqb (get_or vs 1 0) 1; p0 = get_or vs 2 0; p1 = get_or vs 3 0; p2 = get_or vs 4 0 }) e
    ∙ ap (λ (b : Bool). record { due = g.due; waiting = b; p0 = g.p0; p1 = g.p1; p2 = g.p2 }) (bit_back g.waiting)

message_back : (m : Opened) (kind number : ℕ) → Fit message_widths (message_values m kind number) → message_in (join message_widths (message_values m kind number)) ≡ m
unfolding message_in
message_back m kind number h =
    let e = split_join message_widths (message_values m kind number) h in
    ap (λ (vs : List ℕ). record { on = eqb (get_or vs 0 0) 1; kind = get_or vs 1 0; grnb = get_or vs 2 0; count = get_or vs 3 0; crc = get_or vs 4 0 }) e
    ∙ ap (λ (b : Bool). record { on = b; kind = m.kind; grnb = m.grnb; count = m.count; crc = m.crc }) (bit_back m.on)

-- a call with 24 bytes, a buffer that is long enough, and two bits
pub none_holds : (w l : List ℕ) → length w ≡ 24 → 1538 ≤ length l → get_or w 1 0 ≤ 1 → get_or w 8 0 ≤ 1 → signal_refusal w l ≡ 0
unfolding signal_refusal
none_holds w l e long waiting on = rw (eq-eqb (length w) 24 e, le-ltb (length l) 1538 long, le-ltb 1 (get_or w 1 0) waiting, le-ltb 1 (get_or w 8 0) on)

-- and what such a call is known by
pub accepted : (w l : List ℕ) → 0 ≡ signal_refusal w l → (length w ≡ 24) × (1538 ≤ length l)
unfolding signal_refusal
accepted w l e = go (eqb (length w) 24) (ltb (length l) 1538) refl refl e
  where
    go : (a b : Bool) → eqb (length w) 24 ≡ a → ltb (length l) 1538 ≡ b
        → ◌≡◌ {A = ℕ} 0 (pick a (pick b 1 (pick (ltb 1 (get_or w 1 0)) 12 (pick (ltb 1 (get_or w 8 0)) 12 0))) 1) → (length w ≡ 24) × (1538 ≤ length l)
    go true false p q z = (eqb-true (length w) 24 p, ltb-false (length l) 1538 q)
    go true true p q z = absurd (omega arith)
    go false b p q z = absurd (omega arith)

-- ---- what is left
digit_bit : (b : Bool) → digit b ≤ 1
digit_bit true = omega arith
digit_bit false = omega arith

module _ (x : Item) (s : State) (f : Fit group_widths (group_values s.group)) (g : Fit message_widths (message_values s.message (item_kind x) (item_number x))) where
  abbrev first : ℕ
  first = join group_widths (group_values s.group)

  abbrev second : ℕ
  second = join message_widths (message_values s.message (item_kind x) (item_number x))

  second_at : eight_at (signal_bytes x s) 8 ≡ second
  unfolding signal_bytes
  second_at = join_split bytes8 second (join_lt message_widths (message_values s.message (item_kind x) (item_number x)) g)

  -- read back, the state is the one that was left
  pub state_again : state_at (signal_bytes x s) ≡ s
  unfolding state_at signal_bytes
  state_again =
      let a = ap group_in (join_split bytes8 first (join_lt group_widths (group_values s.group) f)) ∙ group_back s.group f in
      let b = ap message_in (join_split bytes8 second (join_lt message_widths (message_values s.message (item_kind x) (item_number x)) g)) ∙ message_back s.message (item_kind x) (item_number x) g in
      λ i. record { group = a i; message = b i }

  -- and so is the item
  pub item_again : item_length x < 2 ^ 64 → item_at (signal_bytes x s) ≡ x
  unfolding item_at signal_bytes
  item_again h =
      let e : split message_widths (eight_at (signal_bytes x s) 8) ≡ message_values s.message (item_kind x) (item_number x) =
      ap (split message_widths) second_at ∙ split_join message_widths (message_values s.message (item_kind x) (item_number x)) g in
      ap₂ (λ (vs : List ℕ) (n : ℕ). item_by (get_or vs 5 0) (get_or vs 6 0) n) e (join_split bytes8 (item_length x) h) ∙ item_by_lem x

  -- waiting and open are bits
  next : Accepted (signal_bytes x s)
  unfolding signal_bytes
  next l h =
      let waiting = ap (λ (vs : List ℕ). get_or vs 1 0) (split_join group_widths (group_values s.group) f) in
      let on = ap (λ (vs : List ℕ). get_or vs 0 0) (split_join message_widths (message_values s.message (item_kind x) (item_number x)) g) in
      none_holds (signal_bytes x s) l refl h (subst (λ (n : ℕ). n ≤ 1) (sym waiting) (digit_bit s.group.waiting)) (subst (λ (n : ℕ). n ≤ 1) (sym on) (digit_bit s.message.on))

  left : (l a b r : List ℕ) (len : ℕ) → length l ≡ 24 → item_length x < 2 ^ 64 → len ≡ item_length x
      → a ≡ put l 0 (split bytes8 first) → b ≡ put a 8 (split bytes8 second) → r ≡ put b 16 (split bytes8 len) → Left x s r
  unfolding signal_bytes
  left l a b r len e h n p q t =
      let two : b ≡ put l 0 (split bytes8 first ++ split bytes8 second) = put_chain l a b 0 8 (split bytes8 first) (split bytes8 second) p q refl (omega arith) in
      let three : r ≡ put l 0 ((split bytes8 first ++ split bytes8 second) ++ split bytes8 (item_length x)) =
      put_chain l b r 0 16 (split bytes8 first ++ split bytes8 second) (split bytes8 (item_length x)) two (t ∙ ap (λ (k : ℕ). put b 16 (split bytes8 k)) n) refl (omega arith) in
      let whole : r ≡ signal_bytes x s = three ∙ put_all l (signal_bytes x s) (sym e) in
      record { bytes = whole; state = ap state_at whole ∙ state_again; item = ap item_at whole ∙ item_again h; next = subst Accepted (sym whole) next }

-- the same from what the code worked out
pub left_by : {x : Item} {s : State} {kind number len : ℕ} {first second : List ℕ} (l : List ℕ) {a b r : List ℕ} → (kind ≡ item_kind x) × (number ≡ item_number x) × (len ≡ item_length x) → len < 2 ^ 64
    → (first ≡ split bytes8 (join group_widths (group_values s.group))) × Fit group_widths (group_values s.group)
    → (second ≡ split bytes8 (join message_widths (message_values s.message kind number))) × Fit message_widths (message_values s.message kind number)
    → length l ≡ 24 → a ≡ put l 0 first → b ≡ put a 8 second → r ≡ put b 16 (split bytes8 len) → Left x s r
left_by {x} {s} {kind} {number} {len} {first} {second} l {a} {b} {r} e h p q whole t u v =
    left x s p.1 (subst (λ (i : ℕ). Fit message_widths (message_values s.message (item_kind x) i)) e.1 (subst (λ (i : ℕ). Fit message_widths (message_values s.message i number)) e.0 q.1))
    l a b r len whole (subst (λ (i : ℕ). i < 2 ^ 64) e.2 h) e.2
    (t ∙ ap (put l 0) p.0)
    (u ∙ ap (put a 8) (q.0 ∙ ap₂ (λ (i j : ℕ). split bytes8 (join message_widths (message_values s.message i j))) e.0 e.1))
    v

pub zero-begins_signal : state_at (replicate 24 0) ≡ beginning
unfolding state_at group_in message_in
zero-begins_signal = refl
