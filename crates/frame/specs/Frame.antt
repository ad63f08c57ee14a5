-- The network frame, clause 6.2, and the logical frame in it, clause 5, from its list of bytes f. Byte k of the logical frame is byte 4 + k of f.
-- Assumes nothing.
use Rattle.std.specs.Prelude.{Bool, ◌&&◌, List, [], ◌∷◌, ◌++◌, ◌≡◌, ℕ, zero, suc, ◌+◌, ◌-◌, ◌*◌, max, eqb, length, get_or, take, drop}
use Rattle.sum.specs.Sum.{sum_of}
use Rattle.frame.specs.declared.Eof.{Eof}
use Rattle.frame.specs.declared.Eoh.{Eoh}
use Rattle.frame.specs.declared.Fc.{Fc}
use Rattle.frame.specs.declared.Span.{Span}
use Rattle.frame.specs.declared.Stream.{Stream}
use Rattle.frame.specs.declared.Sync.{Sync}
use Rattle.frame.specs.declared.Tist.{Tist}
use Rattle.octets.specs.Choice.{pick, place_in}
use Rattle.octets.specs.Words.{split, word_at}

-- the bytes from a up to e
abbrev pub between : List ℕ → ℕ → ℕ → List ℕ
between f a e = take (e - a) (drop a f)

-- ---- SYNC, clause 6.2.1: ERR of 8 bits, FSYNC of 24. Of a word's fields as one value: r is the SYNC of f, and so on
abbrev pub sync_widths : List ℕ
sync_widths = 8 ∷ 24 ∷ []

unfoldable pub err_of : List ℕ → ℕ
err_of f = get_or (split sync_widths (word_at f 0)) 0 0

unfoldable pub fsync_of : List ℕ → ℕ
fsync_of f = get_or (split sync_widths (word_at f 0)) 1 0

pub record IsSync (f : List ℕ) (r : Sync) : Type 0 where
  pub err : r.err ≡ err_of f
  pub fsync : r.fsync ≡ fsync_of f

-- 5.2, table 2: the status bytes of the levels 0 to 3. The level of a byte is its place here, 4 where it is none of them
abbrev pub statuses : List ℕ
statuses = 0xFF ∷ 0xF0 ∷ 0x0F ∷ 0x00 ∷ []

abbrev pub status_by : ℕ → ℕ
status_by level = get_or statuses level 0

-- table 11: FSYNC0 and FSYNC1. Which one a sync word is: its place here, 2 where it is neither
abbrev pub fsyncs : List ℕ
fsyncs = 0x073AB6 ∷ 0xF8C549 ∷ []

abbrev pub fsync_by : ℕ → ℕ
fsync_by which = get_or fsyncs which 0

-- f is as long as a frame and its sync word is FSYNC1
unfoldable pub is_fsync1 : List ℕ → Bool
is_fsync1 f = eqb (length f) 6144 && eqb (place_in fsyncs (fsync_of f)) 1

-- ---- FC, clause 5.3: FCT, FICF, NST, FP, MID, FL
abbrev pub fc_widths : List ℕ
fc_widths = 8 ∷ 1 ∷ 7 ∷ 3 ∷ 2 ∷ 11 ∷ []

abbrev pub fc_of : List ℕ → List ℕ
fc_of f = split fc_widths (word_at f 4)

unfoldable pub fct_of : List ℕ → ℕ
fct_of f = get_or (fc_of f) 0 0

unfoldable pub ficf_of : List ℕ → ℕ
ficf_of f = get_or (fc_of f) 1 0

unfoldable pub nst_of : List ℕ → ℕ
nst_of f = get_or (fc_of f) 2 0

unfoldable pub fp_of : List ℕ → ℕ
fp_of f = get_or (fc_of f) 3 0

unfoldable pub mid_of : List ℕ → ℕ
mid_of f = get_or (fc_of f) 4 0

unfoldable pub fl_of : List ℕ → ℕ
fl_of f = get_or (fc_of f) 5 0

pub record IsFc (f : List ℕ) (r : Fc) : Type 0 where
  pub fct : r.fct ≡ fct_of f
  pub ficf : r.ficf ≡ ficf_of f
  pub nst : r.nst ≡ nst_of f
  pub fp : r.fp ≡ fp_of f
  pub mid : r.mid ≡ mid_of f
  pub fl : r.fl ≡ fl_of f

-- table 3, in words of 32 bits; 32 belong to mode III, which is MID 3
unfoldable pub ficl_by : ℕ → ℕ → ℕ
ficl_by ficf mid = pick (eqb ficf 0) 0 (pick (eqb mid 3) 32 24)

abbrev pub ficl_of : List ℕ → ℕ
ficl_of f = ficl_by (ficf_of f) (mid_of f)

-- ---- STC, clause 5.4: for each stream, counted from 0, SCID, SAD, TPL, STL
abbrev pub sstc_widths : List ℕ
sstc_widths = 6 ∷ 10 ∷ 6 ∷ 10 ∷ []

abbrev pub stream_by : ℕ → Stream
stream_by w =
    record {
      scid = get_or (split sstc_widths w) 0 0;
      sad = get_or (split sstc_widths w) 1 0;
      tpl = get_or (split sstc_widths w) 2 0;
      stl = get_or (split sstc_widths w) 3 0;
    }

unfoldable pub stream_of : List ℕ → ℕ → Stream
stream_of f i = stream_by (word_at f (4 + (i + 1) * 4))

-- the first n entries
unfoldable pub streams_to : List ℕ → ℕ → List Stream
streams_to f zero = []
streams_to f (suc n) = streams_to f n ++ (stream_of f n ∷ [])

abbrev pub streams_of : List ℕ → List Stream
streams_of f = streams_to f (nst_of f)

unfoldable pub stl_total : List Stream → ℕ
stl_total [] = 0
stl_total (s ∷ ss) = s.stl + stl_total ss

-- ---- clause 5.3.6: the value of FL
abbrev pub fl_by : ℕ → ℕ → ℕ → ℕ
fl_by nst ficl stls = nst + 1 + ficl + 2 * stls

-- ---- EOH, clause 5.5: MNSC, and the header sum over FC, STC and MNSC
abbrev pub eoh_widths : List ℕ
eoh_widths = 16 ∷ 16 ∷ []

abbrev pub eoh_of : List ℕ → List ℕ
eoh_of f = split eoh_widths (word_at f (4 + (nst_of f + 1) * 4))

unfoldable pub mnsc_of : List ℕ → ℕ
mnsc_of f = get_or (eoh_of f) 0 0

unfoldable pub header_sum_of : List ℕ → ℕ
header_sum_of f = get_or (eoh_of f) 1 0

pub record IsEoh (f : List ℕ) (r : Eoh) : Type 0 where
  pub mnsc : r.mnsc ≡ mnsc_of f
  pub sum : r.sum ≡ header_sum_of f

abbrev pub header_bytes_of : List ℕ → List ℕ
header_bytes_of f = between f 4 (4 + ((nst_of f + 1) * 4 + 2))

-- ---- MST, clause 5.6
abbrev pub main_start : ℕ → ℕ
main_start nst = 4 + (nst + 2) * 4

abbrev pub main_end : ℕ → ℕ
main_end fl = 4 + (fl + 1) * 4

abbrev pub main_of : List ℕ → List ℕ
main_of f = between f (main_start (nst_of f)) (main_end (fl_of f))

abbrev pub main_span : List ℕ → Span
main_span f = record { start = main_start (nst_of f); len = main_end (fl_of f) - main_start (nst_of f) }

-- first the FIC, then each stream in table order
abbrev pub fic_span : List ℕ → Span
fic_span f = record { start = main_start (nst_of f); len = 4 * ficl_of f }

abbrev pub stream_span : List ℕ → ℕ → Span
stream_span f i =
    record { start = main_start (nst_of f) + 4 * ficl_of f + 8 * stl_total (streams_to f i); len = 8 * (stream_of f i).stl }

-- the FIC and the first n streams, in order
unfoldable pub spans_to : List ℕ → ℕ → List Span
spans_to f zero = fic_span f ∷ []
spans_to f (suc n) = spans_to f n ++ (stream_span f n ∷ [])

-- the spans follow each other from a up to e, with no gap and no overlap
abbrev pub Tile : ℕ → List Span → ℕ → Type 0
Tile a [] e = a ≡ e
Tile a (s ∷ ss) e = (s.start ≡ a) × Tile (s.start + s.len) ss e

-- the bytes of a span, and those of several in a row
abbrev pub cut : List ℕ → Span → List ℕ
cut f s = take s.len (drop s.start f)

unfoldable pub cuts : List ℕ → List Span → List ℕ
cuts f [] = []
cuts f (s ∷ ss) = cut f s ++ cuts f ss

-- ---- EOF, clause 5.7: the main-stream sum, and Rfu
abbrev pub eof_widths : List ℕ
eof_widths = 16 ∷ 16 ∷ []

abbrev pub eof_of : List ℕ → List ℕ
eof_of f = split eof_widths (word_at f (main_end (fl_of f)))

unfoldable pub main_sum_of : List ℕ → ℕ
main_sum_of f = get_or (eof_of f) 0 0

unfoldable pub rfu_of : List ℕ → ℕ
rfu_of f = get_or (eof_of f) 1 0

pub record IsEof (f : List ℕ) (r : Eof) : Type 0 where
  pub sum : r.sum ≡ main_sum_of f
  pub rfu : r.rfu ≡ rfu_of f

-- ---- TIST, clause 5.8 and annex C.3: Rfa, and the timestamp
abbrev pub tist_widths : List ℕ
tist_widths = 8 ∷ 24 ∷ []

abbrev pub tist_of : List ℕ → List ℕ
tist_of f = split tist_widths (word_at f (4 + (fl_of f + 2) * 4))

unfoldable pub rfa_of : List ℕ → ℕ
rfa_of f = get_or (tist_of f) 0 0

unfoldable pub time_of : List ℕ → ℕ
time_of f = get_or (tist_of f) 1 0

pub record IsTist (f : List ℕ) (r : Tist) : Type 0 where
  pub rfa : r.rfa ≡ rfa_of f
  pub time : r.time ≡ time_of f

-- ---- figure 6: the carried bytes, SYNC and the logical frame; the rest is padding
abbrev pub carried_by : ℕ → ℕ
carried_by fl = 4 + (fl + 3) * 4

-- ---- the level handed on: that read, or the worse of it and 2 where the main-stream sum is wrong
unfoldable pub level_by : ℕ → Bool → ℕ
level_by level right = pick right level (max level 2)

unfoldable pub level_of : List ℕ → ℕ
level_of f = level_by (place_in statuses (err_of f)) (eqb (sum_of (main_of f)) (main_sum_of f))
