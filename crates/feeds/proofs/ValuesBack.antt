-- The values of a frame's items hold what the frame does.
-- Assumes nothing.
use mathlib.Core.Bool.{Bool, true, false}
use mathlib.Core.List.{List, [], ◌∷◌, ◌++◌, append_assoc}
use mathlib.Core.Path.{◌≡◌, refl, sym, ap, ap₂, ◌∙◌}
use Prim.Native.Nat.{ℕ, ◌+◌, ◌-◌, ◌*◌, ◌/◌, ◌^◌, ◌<◌}
use native.Mathlib.Omega.{arith}
use lib.Dec.{eqb, lit<}
use lib.ListN.{length, get_or, take, drop, length-append, length-drop}
use lib.Seq.{take_at, drop_at, length-take-le, get_or-append-add}
use Rattle.octets.specs.Choice.{pick}
use Rattle.octets.specs.Words.{split, join, Fit, bytes2, bytes4, bytes8, two_at, word_at, eight_at}
use Rattle.octets.proofs.SplitJoin.{join_split, split_join, split_fit, join_lt}
use Rattle.frame.specs.declared.Stream.{Stream}
use Rattle.frame.specs.declared.Timestamp.TheVariants.{Absent}
use Rattle.frame.specs.Frame.{sync_widths, err_of, fct_of, ficf_of, nst_of, fp_of, mid_of, ficl_of, ficl_by, mnsc_of, rfu_of, rfa_of, time_of, sstc_widths, stream_of, fic_span, stream_span, cut}
use Rattle.frame.specs.Rules.{Acceptable}
use Rattle.frame.specs.Answers.{digit, timestamp_for}
use Rattle.frame.proofs.Headers.{ficf_lt, time_of_lt}
use Rattle.frame.proofs.Tiling.{fic_inside, stream_inside}
use Rattle.trips.proofs.Fitting.{plain_fit}
use Rattle.tags.specs.TagValues.{deti_widths, atst_widths, atstf_in, ficf_in, rfudf_in, fct_in, stat_in, mid_in, fp_in, mnsc_in, tsta_in, timestamp_in, fic_place, fic_in, ficl_in, rfud_place, rfu_in, rfa_in, length_for, entry_by, entry_in}
use Rattle.feeds.specs.Packed.{Free, management_of, stream_item_of}

digit_lt : (b : Bool) → digit b < 2
digit_lt true = lit< tt
digit_lt false = lit< tt

unstamped : Absent ≡ timestamp_for 0xFFFFFF
unfolding timestamp_for
unstamped = refl

-- ---- the management item's value, over its words
module _ (h mn : ℕ) (atst fic rfud : List ℕ) where
  abbrev laid : List ℕ
  laid = split bytes4 h ++ split bytes2 mn ++ atst ++ fic ++ rfud

  laid_word : h < 2 ^ 32 → word_at laid 0 ≡ h
  laid_word l = join_split bytes4 h l

  laid_mnsc : mn < 2 ^ 16 → two_at laid 4 ≡ mn
  laid_mnsc l = join_split bytes2 mn l

  laid_length : length laid ≡ 6 + length atst + length fic + length rfud
  laid_length = omega (arith, length-append (atst ++ fic) rfud, length-append atst fic)

  laid_fic : (n k : ℕ) → n ≡ 6 + length atst → k ≡ length fic → take k (drop n laid) ≡ fic
  laid_fic n k en ek =
      let front = split bytes4 h ++ split bytes2 mn ++ atst in
      ap (λ (l : List ℕ). take k (drop n l)) (append_assoc front fic rfud)
      ∙ ap (take k) (drop_at front (fic ++ rfud) n (omega (arith, en)))
      ∙ take_at fic rfud k (sym ek)

  laid_behind : (n j : ℕ) → n ≡ 6 + length atst + length fic → get_or laid (n + j) 0 ≡ get_or rfud j 0
  laid_behind n j e =
      let front = split bytes4 h ++ split bytes2 mn ++ atst ++ fic in
      let q : n + j ≡ length front + j = omega (arith, e, length-append atst fic) in
      ap (λ (k : ℕ). get_or laid k 0) q ∙ get_or-append-add front rfud j 0

err_lt : (f : List ℕ) → err_of f < 2 ^ 8
unfolding err_of
err_lt f = (split_fit sync_widths (word_at f 0)).0

module _ (f : List ℕ) (a : Acceptable f) (c : Free f) where
  abbrev values : List ℕ
  values = digit c.atst ∷ ficf_of f ∷ digit c.rfud ∷ c.fcth ∷ fct_of f ∷ err_of f ∷ mid_of f ∷ fp_of f ∷ 0 ∷ 0 ∷ []

  abbrev word : ℕ
  word = join deti_widths values

  abbrev atst : List ℕ
  atst = pick c.atst (split bytes8 (join atst_widths (c.utco ∷ c.seconds ∷ time_of f ∷ []))) []

  abbrev rfud : List ℕ
  rfud = pick c.rfud (split bytes2 (rfu_of f) ++ (rfa_of f ∷ [])) []

  abbrev fic : List ℕ
  fic = cut f (fic_span f)

  abbrev m : List ℕ
  m = management_of f c

  fits : Fit deti_widths values
  fits =
      let p = plain_fit f in
      (digit_lt c.atst, (ficf_lt f, (digit_lt c.rfud, (c.fits.0, (p.0, (err_lt f, (p.1.1.0, (p.1.0, (lit< tt, (lit< tt, tt))))))))))

  fic_length : length fic ≡ 4 * ficl_of f
  fic_length =
      let d = length-drop (fic_span f).start f in
      length-take-le (4 * ficl_of f) (drop (fic_span f).start f) (omega (arith, fic_inside f a))

  atst_length : length atst ≡ 8 * digit c.atst
  atst_length = go c.atst
    where
      go : (b : Bool) → length (pick b (split bytes8 (join atst_widths (c.utco ∷ c.seconds ∷ time_of f ∷ []))) []) ≡ 8 * digit b
      go true = refl
      go false = refl

  rfud_length : length rfud ≡ 3 * digit c.rfud
  rfud_length = go c.rfud
    where
      go : (b : Bool) → length (pick b (split bytes2 (rfu_of f) ++ (rfa_of f ∷ [])) []) ≡ 3 * digit b
      go true = refl
      go false = refl

  head : split deti_widths (word_at m 0) ≡ values
  unfolding management_of
  head = ap (split deti_widths) (laid_word word (mnsc_of f) atst fic rfud (join_lt deti_widths values fits)) ∙ split_join deti_widths values fits

  atstf_back : atstf_in m ≡ digit c.atst
  unfolding atstf_in
  atstf_back = ap (λ (l : List ℕ). get_or l 0 0) head

  pub ficf_back : ficf_in m ≡ ficf_of f
  unfolding ficf_in
  ficf_back = ap (λ (l : List ℕ). get_or l 1 0) head

  rfudf_back : rfudf_in m ≡ digit c.rfud
  unfolding rfudf_in
  rfudf_back = ap (λ (l : List ℕ). get_or l 2 0) head

  pub fct_back : fct_in m ≡ fct_of f
  unfolding fct_in
  fct_back = ap (λ (l : List ℕ). get_or l 4 0) head

  pub stat_back : stat_in m ≡ err_of f
  unfolding stat_in
  stat_back = ap (λ (l : List ℕ). get_or l 5 0) head

  pub mid_back : mid_in m ≡ mid_of f
  unfolding mid_in
  mid_back = ap (λ (l : List ℕ). get_or l 6 0) head

  pub fp_back : fp_in m ≡ fp_of f
  unfolding fp_in
  fp_back = ap (λ (l : List ℕ). get_or l 7 0) head

  pub mnsc_back : mnsc_in m ≡ mnsc_of f
  unfolding mnsc_in management_of
  mnsc_back = laid_mnsc word (mnsc_of f) atst fic rfud (plain_fit f).1.1.1.0

  ficl_back : ficl_in m ≡ ficl_of f
  ficl_back = ap₂ ficl_by ficf_back mid_back

  place_back : fic_place m ≡ 6 + length atst
  unfolding fic_place
  place_back = omega (arith, atstf_back, atst_length)

  pub fic_back : fic_in m ≡ cut f (fic_span f)
  unfolding fic_in management_of
  fic_back = laid_fic word (mnsc_of f) atst fic rfud (fic_place m) (4 * ficl_in m) place_back (omega (arith, ficl_back, fic_length))

  behind : rfud_place m ≡ 6 + length atst + length fic
  unfolding rfud_place
  behind = omega (arith, place_back, ficl_back, fic_length)

  pub management_length : length m ≡ 6 + 8 * digit c.atst + 4 * ficl_of f + 3 * digit c.rfud
  unfolding management_of
  management_length =
      laid_length word (mnsc_of f) atst fic rfud ∙ omega (arith, atst_length, fic_length, rfud_length)

  pub length_back : length m ≡ length_for m
  unfolding length_for
  length_back = management_length ∙ omega (arith, behind, rfudf_back, atst_length, fic_length)

  -- TSTA, where there is one
  tsta : (b : Bool) → c.atst ≡ b → timestamp_in m ≡ timestamp_for (time_of f)
  unfolding timestamp_in tsta_in management_of
  tsta true e =
      let q : eqb (atstf_in m) 0 ≡ false = ap (λ (k : ℕ). eqb k 0) (atstf_back ∙ ap digit e) in
      let w = join atst_widths (c.utco ∷ c.seconds ∷ time_of f ∷ []) in
      let fit : Fit atst_widths (c.utco ∷ c.seconds ∷ time_of f ∷ []) = (c.fits.1.0, (c.fits.1.1.0, (time_of_lt f, tt))) in
      let t : eight_at m 6 ≡ w = ap (λ (b : Bool). eight_at (split bytes4 word ++ split bytes2 (mnsc_of f) ++ pick b (split bytes8 w) [] ++ fic ++ rfud) 6) e ∙ join_split bytes8 w (join_lt atst_widths (c.utco ∷ c.seconds ∷ time_of f ∷ []) fit) in
      ap (λ (b : Bool). pick b Absent (timestamp_for (tsta_in m))) q
      ∙ ap timestamp_for (ap (λ (k : ℕ). get_or (split atst_widths k) 2 0) t ∙ ap (λ (l : List ℕ). get_or l 2 0) (split_join atst_widths (c.utco ∷ c.seconds ∷ time_of f ∷ []) fit))
  tsta false e =
      let q : eqb (atstf_in m) 0 ≡ true = ap (λ (k : ℕ). eqb k 0) (atstf_back ∙ ap digit e) in
      ap (λ (b : Bool). pick b Absent (timestamp_for (tsta_in m))) q
      ∙ unstamped ∙ sym (ap timestamp_for (c.untimed e))

  pub time_back : timestamp_in m ≡ timestamp_for (time_of f)
  time_back = tsta c.atst refl

  -- RFUD, where there is one
  rfud_at : (b : Bool) → c.rfud ≡ b → (rfu_in m ≡ rfu_of f) × (rfa_in m ≡ rfa_of f)
  unfolding rfu_in rfa_in management_of
  rfud_at true e =
      let q : eqb (rfudf_in m) 0 ≡ false = ap (λ (k : ℕ). eqb k 0) (rfudf_back ∙ ap digit e) in
      let p = plain_fit f in
      let at : (j : ℕ) → get_or m (rfud_place m + j) 0 ≡ get_or (split bytes2 (rfu_of f) ++ (rfa_of f ∷ [])) j 0 =
      λ j. laid_behind word (mnsc_of f) atst fic rfud (rfud_place m) j behind ∙ ap (λ (b : Bool). get_or (pick b (split bytes2 (rfu_of f) ++ (rfa_of f ∷ [])) []) j 0) e in
      let z : rfud_place m ≡ rfud_place m + 0 = omega arith in
      let first = ap (λ (k : ℕ). get_or m k 0) z ∙ at 0 in
      let second = at 1 in (
        ap (λ (b : Bool). pick b 0xFFFF (two_at m (rfud_place m))) q ∙ (λ i. join bytes2 (first i ∷ second i ∷ [])) ∙ join_split bytes2 (rfu_of f) p.1.1.1.1.0,
        ap (λ (b : Bool). pick b 0xFF (get_or m (rfud_place m + 2) 0)) q ∙ at 2,
      )
  rfud_at false e =
      let q : eqb (rfudf_in m) 0 ≡ true = ap (λ (k : ℕ). eqb k 0) (rfudf_back ∙ ap digit e) in (
        ap (λ (b : Bool). pick b 0xFFFF (two_at m (rfud_place m))) q ∙ sym (c.ones e).0,
        ap (λ (b : Bool). pick b 0xFF (get_or m (rfud_place m + 2) 0)) q ∙ sym (c.ones e).1,
      )

  pub rfu_back : rfu_in m ≡ rfu_of f
  rfu_back = (rfud_at c.rfud refl).0

  pub rfa_back : rfa_in m ≡ rfa_of f
  rfa_back = (rfud_at c.rfud refl).1

-- ---- a stream item of a frame
module _ (f : List ℕ) (a : Acceptable f) (k : ℕ) (h : k < nst_of f) where
  abbrev s : Stream
  s = stream_of f k

  widths : Fit sstc_widths (s.scid ∷ s.sad ∷ s.tpl ∷ s.stl ∷ [])
  unfolding stream_of
  widths = split_fit sstc_widths (word_at f (4 + (k + 1) * 4))

  data_length : length (cut f (stream_span f k)) ≡ 8 * s.stl
  data_length =
      let d = length-drop (stream_span f k).start f in
      length-take-le (8 * s.stl) (drop (stream_span f k).start f) (omega (arith, stream_inside f k a h))

  pub item_length_lem : length (stream_item_of f k) ≡ 3 + 8 * s.stl
  unfolding stream_item_of
  item_length_lem = omega (arith, data_length)

  pub stl_lt : s.stl < 1024
  stl_lt = widths.1.1.1.0

  address : split (6 ∷ 10 ∷ []) (two_at (stream_item_of f k) 0) ≡ s.scid ∷ s.sad ∷ []
  unfolding stream_item_of
  address =
      let fit : Fit (6 ∷ 10 ∷ []) (s.scid ∷ s.sad ∷ []) = (widths.0, (widths.1.0, tt)) in
      ap (split (6 ∷ 10 ∷ [])) (join_split bytes2 (join (6 ∷ 10 ∷ []) (s.scid ∷ s.sad ∷ [])) (join_lt (6 ∷ 10 ∷ []) (s.scid ∷ s.sad ∷ []) fit))
      ∙ split_join (6 ∷ 10 ∷ []) (s.scid ∷ s.sad ∷ []) fit

  protection : get_or (split (6 ∷ 2 ∷ []) (get_or (stream_item_of f k) 2 0)) 0 0 ≡ s.tpl
  unfolding stream_item_of
  protection = ap (λ (l : List ℕ). get_or l 0 0) (split_join (6 ∷ 2 ∷ []) (s.tpl ∷ 0 ∷ []) (widths.1.1.0, (lit< tt, tt)))

  pub entry_back : entry_in (stream_item_of f k) ≡ stream_of f k
  unfolding entry_in entry_by
  entry_back =
      let e = address in
      let t = protection in
      let l : (length (stream_item_of f k) - 3) / 8 ≡ s.stl = omega (arith, item_length_lem) in
      λ i. record { scid = get_or (e i) 0 0; sad = get_or (e i) 1 0; tpl = t i; stl = l i }

  pub data_back : drop 3 (stream_item_of f k) ≡ cut f (stream_span f k)
  unfolding stream_item_of
  data_back = refl
