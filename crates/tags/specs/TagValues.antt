-- Document 002, clauses 5.1.3 and 5.1.5: what the value of a management item and that of a stream item hold.
-- Assumes nothing.
use Rattle.std.specs.Prelude.{Bool, List, [], ◌∷◌, ◌≡◌, ℕ, ◌+◌, ◌-◌, ◌*◌, ◌/◌, eqb, length, get_or, take, drop}
use Rattle.octets.specs.Choice.{pick, place_in}
use Rattle.sum.specs.Sum.{digit}
use Rattle.octets.specs.Words.{split, two_at, word_at, eight_at}
use Rattle.frame.specs.declared.Fields.{Fields}
use Rattle.frame.specs.declared.Stream.{Stream}
use Rattle.frame.specs.declared.Timestamp.{Timestamp}
use Rattle.frame.specs.declared.Timestamp.TheVariants.{Absent}
use Rattle.frame.specs.Frame.{ficl_by, statuses}
use Rattle.frame.specs.Answers.{timestamp_for}
use Rattle.tags.specs.declared.Head.{Head}

-- ---- 5.1.3, the management item's value m: ATSTF, FICF, RFUDF, FCTH, FCT; STAT, MID, FP, rfa, rfu; MNSC
abbrev pub deti_widths : List ℕ
deti_widths = 1 ∷ 1 ∷ 1 ∷ 5 ∷ 8 ∷ 8 ∷ 2 ∷ 3 ∷ 2 ∷ 1 ∷ []

abbrev pub deti_of : List ℕ → List ℕ
deti_of m = split deti_widths (word_at m 0)

unfoldable pub atstf_in : List ℕ → ℕ
atstf_in m = get_or (deti_of m) 0 0

unfoldable pub ficf_in : List ℕ → ℕ
ficf_in m = get_or (deti_of m) 1 0

unfoldable pub rfudf_in : List ℕ → ℕ
rfudf_in m = get_or (deti_of m) 2 0

unfoldable pub fct_in : List ℕ → ℕ
fct_in m = get_or (deti_of m) 4 0

unfoldable pub stat_in : List ℕ → ℕ
stat_in m = get_or (deti_of m) 5 0

unfoldable pub mid_in : List ℕ → ℕ
mid_in m = get_or (deti_of m) 6 0

unfoldable pub fp_in : List ℕ → ℕ
fp_in m = get_or (deti_of m) 7 0

unfoldable pub mnsc_in : List ℕ → ℕ
mnsc_in m = two_at m 4

pub record IsDeti (m : List ℕ) (r : Head) : Type 0 where
  pub atstf : digit r.atstf ≡ atstf_in m
  pub ficf : digit r.ficf ≡ ficf_in m
  pub rfudf : digit r.rfudf ≡ rfudf_in m
  pub fct : r.fct ≡ fct_in m
  pub stat : r.stat ≡ stat_in m
  pub mid : r.mid ≡ mid_in m
  pub fp : r.fp ≡ fp_in m

-- the level by the status byte, 4 where it is none of the four
abbrev pub level_in : List ℕ → ℕ
level_in m = place_in statuses (stat_in m)

-- ATST, eight bytes where its flag is set: UTCO, Seconds, TSTA
abbrev pub atst_widths : List ℕ
atst_widths = 8 ∷ 32 ∷ 24 ∷ []

unfoldable pub tsta_in : List ℕ → ℕ
tsta_in m = get_or (split atst_widths (eight_at m 6)) 2 0

unfoldable pub timestamp_in : List ℕ → Timestamp
timestamp_in m = pick (eqb (atstf_in m) 0) Absent (timestamp_for (tsta_in m))

-- then the FIC where its flag is set, in words of 32 bits
abbrev pub ficl_in : List ℕ → ℕ
ficl_in m = ficl_by (ficf_in m) (mid_in m)

unfoldable pub fic_place : List ℕ → ℕ
fic_place m = 6 + 8 * atstf_in m

unfoldable pub fic_in : List ℕ → List ℕ
fic_in m = take (4 * ficl_in m) (drop (fic_place m) m)

-- then RFUD where its flag is set: Rfu of 16 bits, Rfa of 8; all ones where it is missing
unfoldable pub rfud_place : List ℕ → ℕ
rfud_place m = fic_place m + 4 * ficl_in m

unfoldable pub rfu_in : List ℕ → ℕ
rfu_in m = pick (eqb (rfudf_in m) 0) 0xFFFF (two_at m (rfud_place m))

unfoldable pub rfa_in : List ℕ → ℕ
rfa_in m = pick (eqb (rfudf_in m) 0) 0xFF (get_or m (rfud_place m + 2) 0)

-- the length that its flags and MID call for
unfoldable pub length_for : List ℕ → ℕ
length_for m = rfud_place m + 3 * rfudf_in m

-- ---- 5.1.5, a stream item's value v: SCID, SAD; TPL, rfa; and the data. A.2.3: the data are STL words of 64 bits
abbrev pub address_of : List ℕ → List ℕ
address_of v = split (6 ∷ 10 ∷ []) (two_at v 0)

unfoldable pub entry_by : List ℕ → ℕ → Stream
entry_by v stl =
    record { scid = get_or (address_of v) 0 0; sad = get_or (address_of v) 1 0; tpl = get_or (split (6 ∷ 2 ∷ []) (get_or v 2 0)) 0 0; stl = stl }

unfoldable pub entry_in : List ℕ → Stream
entry_in v = entry_by v ((length v - 3) / 8)

-- ---- A.2: the fields of the frame, with its sync word, NST and table
unfoldable pub fields_by : List ℕ → Bool → ℕ → List Stream → Fields
fields_by m fsync1 count table =
    record {
      level = level_in m;
      fsync1 = fsync1;
      fct = fct_in m;
      ficf = eqb (ficf_in m) 1;
      fp = fp_in m;
      mid = mid_in m;
      mnsc = mnsc_in m;
      rfu = rfu_in m;
      rfa = rfa_in m;
      timestamp = timestamp_in m;
      count = count;
      table = table;
    }
