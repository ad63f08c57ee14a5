-- The parts put one after the other are the frame.
-- Assumes nothing.
use mathlib.Core.List.{List, [], ◌∷◌, ◌++◌, append_assoc}
use mathlib.Core.Path.{◌≡◌, refl, ap, ◌∙◌}
use Prim.Native.Nat.{ℕ, ◌+◌, ◌-◌, ◌*◌, ◌≤◌}
use native.Mathlib.Omega.{arith}
use lib.ListN.{length, drop, replicate, length-append, length-replicate}
use lib.Seq.{length-take-le, take_at, drop_at}
use Rattle.sum.specs.Sum.{sum_of}
use Rattle.frame.specs.declared.Fields.{Fields}
use Rattle.octets.specs.Words.{split, join, bytes2, bytes4}
use Rattle.frame.specs.Frame.{between, sync_widths, status_by, fsync_by, fc_widths, tist_widths, carried_by}
use Rattle.frame.specs.Answers.{digit, time_by}
use Rattle.frame.specs.Writing.{entries_of, fl_in, streams_bytes, sync_in, header_in, end_in, frame_in}
use Rattle.frame.proofs.Entries.{bytes_length}
use Rattle.octets.specs.Stores.{put}
use Rattle.writing.specs.WriteClauses.{Ready}
use Rattle.octets.proofs.Storing.{put_chain, put_length, put_room, put_all}

-- a word put is the word that it equals
word_put : (l b : List ℕ) (at v w : ℕ) → b ≡ put l at (split bytes4 v) → v ≡ w → b ≡ put l at (split bytes4 w)
word_put l b at v w p e = p ∙ ap (λ (n : ℕ). put l at (split bytes4 n)) e

pub header_length : (x : Fields) → length x.table ≡ 64 → x.count ≤ 64 → length (header_in x) ≡ 6 + 4 * x.count
unfolding header_in
header_length x t k =
    let e = length-take-le x.count x.table (omega arith) in
    simp (length-append, bytes_length) (omega arith)

sync_length : (x : Fields) → length (sync_in x) ≡ 4
unfolding sync_in
sync_length x = refl

end_length : (x : Fields) (m : List ℕ) → length (end_in x m) ≡ 8
unfolding end_in
end_length x m = refl

-- what follows a main stream with this sum
abbrev pub end_by : Fields → ℕ → List ℕ
end_by x sum = split bytes2 sum ++ split bytes2 x.rfu ++ split bytes4 (join tist_widths (x.rfa ∷ time_by x.timestamp ∷ []))

end_in_lem : (x : Fields) (m d e : List ℕ) (at t : ℕ) → t ≡ sum_of m → e ≡ put d at (end_by x t) → e ≡ put d at (end_in x m)
unfolding end_in
end_in_lem x m d e at t h p = rw (← h) p

-- the carried bytes, by the parts
carried : (x : Fields) (m o : ℕ) → Ready x m o → carried_by (fl_in x) ≡ 10 + 4 * x.count + 2 + m + 8
unfolding fl_in
carried x m o y = omega (arith, y.main)

-- so all of it fits the output
pub fits : (x : Fields) (m o : ℕ) → Ready x m o → 10 + 4 * x.count + 2 + m + 8 ≤ o
fits x m o y = omega (arith, carried x m o y, y.room, y.out)

-- what was put last is what stands there: both sums are taken over the output
part_put : (l S H : List ℕ) → length (S ++ H) ≤ length l → between (put l 0 (S ++ H)) (length S) (length S + length H) ≡ H
part_put l S H h =
    let rest = drop (0 + length (S ++ H)) l in
    let z : length S + length H - length S ≡ length H = omega arith in
    rw (put_room l 0 (S ++ H) (omega arith), append_assoc S H rest, drop_at S (H ++ rest) (length S) refl, z) (take_at H rest (length H) refl)

module _ (x : Fields) (l : List ℕ) where
  -- the main stream's sum, Rfu, Rfa and timestamp
  pub end_puts : (at : ℕ) → at + 8 ≤ length l → (a b d : List ℕ) (s w : ℕ)
      → a ≡ put l at (split bytes2 s)
      → b ≡ put a (at + 2) (split bytes2 x.rfu)
      → d ≡ put b (at + 4) (split bytes4 w)
      → w ≡ join tist_widths (x.rfa ∷ time_by x.timestamp ∷ [])
      → d ≡ put l at (end_by x s)
  end_puts at h a b d s w pa pb pd ew =
      let T = split bytes4 (join tist_widths (x.rfa ∷ time_by x.timestamp ∷ [])) in
      let p2 = put_chain l a b at (at + 2) (split bytes2 s) (split bytes2 x.rfu) pa pb refl (omega arith) in
      put_chain l b d at (at + 4) (split bytes2 s ++ split bytes2 x.rfu) T p2 (word_put b d (at + 4) w _ pd ew) refl (omega arith)

module _ (x : Fields) (l : List ℕ) (room : length l ≡ 6144) where
  -- SYNC, FC, the entries, MNSC
  pub header_puts : length x.table ≡ 64 → x.count ≤ 64 → (a b d e : List ℕ) (v w : ℕ)
      → a ≡ put l 0 (split bytes4 v)
      → v ≡ join sync_widths (status_by x.level ∷ fsync_by (digit x.fsync1) ∷ [])
      → b ≡ put a 4 (split bytes4 w)
      → w ≡ join fc_widths (x.fct ∷ digit x.ficf ∷ x.count ∷ x.fp ∷ x.mid ∷ fl_in x ∷ [])
      → d ≡ put b 8 (streams_bytes (entries_of x))
      → e ≡ put d (8 + 4 * x.count) (split bytes2 x.mnsc)
      → e ≡ put l 0 (sync_in x ++ header_in x)
  unfolding sync_in header_in
  header_puts t k a b d e v w pa ev pb ew pd pe =
      let S = split bytes4 (join sync_widths (status_by x.level ∷ fsync_by (digit x.fsync1) ∷ [])) in
      let F = split bytes4 (join fc_widths (x.fct ∷ digit x.ficf ∷ x.count ∷ x.fp ∷ x.mid ∷ fl_in x ∷ [])) in
      let B = streams_bytes (entries_of x) in
      let n = length-take-le x.count x.table (omega arith) in
      let o = bytes_length (entries_of x) in
      let p1 = word_put l a 0 v _ pa ev in
      let p2 = put_chain l a b 0 4 S F p1 (word_put a b 4 w _ pb ew) refl (omega arith) in
      let p3 = put_chain l b d 0 8 (S ++ F) B p2 pd refl (omega arith) in
      let q : 8 + 4 * x.count ≡ 0 + length ((S ++ F) ++ B) = simp length-append (omega arith) in
      let r : 0 + length ((S ++ F) ++ B) + length (split bytes2 x.mnsc) ≤ length l = simp length-append (omega arith) in
      let p4 = put_chain l d e 0 (8 + 4 * x.count) ((S ++ F) ++ B) (split bytes2 x.mnsc) p3 pe q r in
      p4 ∙ ap (put l 0) (simp append_assoc)

  pub frame_puts : (m a b d e g : List ℕ) (s t : ℕ) → Ready x (length m) (length l) → length (header_in x) ≡ 6 + 4 * x.count
      → a ≡ put l 0 (sync_in x ++ header_in x)
      → s ≡ sum_of (between a 4 (10 + 4 * x.count))
      → b ≡ put a (10 + 4 * x.count) (split bytes2 s)
      → d ≡ put b (10 + 4 * x.count + 2) m
      → t ≡ sum_of (between d (10 + 4 * x.count + 2) (10 + 4 * x.count + 2 + length m))
      → e ≡ put d (10 + 4 * x.count + 2 + length m) (end_by x t)
      → g ≡ put e (10 + 4 * x.count + 2 + length m + 8) (replicate (length e - (10 + 4 * x.count + 2 + length m + 8)) 0x55)
      → g ≡ frame_in x m
  unfolding frame_in
  frame_puts m a b d e g s t y n pa es pb pd et pt pg =
      let S = sync_in x in
      let H = header_in x in
      let U = split bytes2 (sum_of H) in
      let E = end_in x m in
      let k = x.count in
      let i = sync_length x in
      let j = end_length x m in
      let c = carried x (length m) (length l) y in
      let f = y.room in
      let q : 4 + (6 + 4 * k) ≡ 10 + 4 * k = omega arith in
      let l1 : length (S ++ H) ≡ 10 + 4 * k = simp length-append (omega arith) in
      let h : s ≡ sum_of H = es ∙ ap sum_of (ap (λ (r : List ℕ). between r 4 (10 + 4 * k)) pa ∙ (rw (i, n, q) at (part_put l S H (omega arith)))) in
      let l2 : length ((S ++ H) ++ U) ≡ 10 + 4 * k + 2 = simp length-append (omega arith) in
      let l3 : length (((S ++ H) ++ U) ++ m) ≡ 10 + 4 * k + 2 + length m = simp length-append (omega arith) in
      let l4 : length ((((S ++ H) ++ U) ++ m) ++ E) ≡ 10 + 4 * k + 2 + length m + 8 = simp length-append (omega arith) in
      let p2 = put_chain l a b 0 (10 + 4 * k) (S ++ H) U pa (pb ∙ ap (λ (w : ℕ). put a (10 + 4 * k) (split bytes2 w)) h) (omega arith) (omega arith) in
      let p3 = put_chain l b d 0 (10 + 4 * k + 2) ((S ++ H) ++ U) m p2 pd (omega arith) (omega arith) in
      let u : t ≡ sum_of m =
      et ∙ ap sum_of (ap (λ (r : List ℕ). between r (10 + 4 * k + 2) (10 + 4 * k + 2 + length m)) p3 ∙ (rw l2 at (part_put l ((S ++ H) ++ U) m (omega arith)))) in
      let pe = end_in_lem x m d e (10 + 4 * k + 2 + length m) t u pt in
      let p4 = put_chain l d e 0 (10 + 4 * k + 2 + length m) (((S ++ H) ++ U) ++ m) E p3 pe (omega arith) (omega arith) in
      let o : length e ≡ length l = ap length p4 ∙ put_length l 0 ((((S ++ H) ++ U) ++ m) ++ E) (omega arith) in
      let z : length e - (10 + 4 * k + 2 + length m + 8) ≡ 6144 - carried_by (fl_in x) = omega arith in
      let P : List ℕ = replicate (6144 - carried_by (fl_in x)) 0x55 in
      let lp : length P ≡ 6144 - carried_by (fl_in x) = simp length-replicate in
      let p5 =
      put_chain l e g 0 (10 + 4 * k + 2 + length m + 8) ((((S ++ H) ++ U) ++ m) ++ E) P p4
      (pg ∙ ap (λ (w : ℕ). put e (10 + 4 * k + 2 + length m + 8) (replicate w 0x55)) z) (omega arith) (omega arith) in
      p5 ∙ put_all l (((((S ++ H) ++ U) ++ m) ++ E) ++ P) (simp (length-append, length-replicate) (omega arith))
