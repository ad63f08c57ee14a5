-- A frame put into the tag items of a packet (document 002, clause 5).
-- Assumes nothing.
use Rattle.std.specs.Prelude.{Bool, false, List, [], ◌∷◌, ◌++◌, ◌⊎◌, ◌≡◌, ℕ, zero, suc, ◌+◌, ◌*◌, ◌^◌, ◌<◌, length}
use Rattle.octets.specs.Choice.{pick}
use Rattle.octets.specs.Stores.{bytes_of_each}
use Rattle.octets.specs.Words.{split, join, Fit, bytes2, bytes4, bytes8}
use Rattle.frame.specs.Frame.{err_of, fct_of, ficf_of, nst_of, fp_of, mid_of, mnsc_of, rfu_of, rfa_of, time_of, stream_of, fic_span, stream_span, cut}
use Rattle.frame.specs.Answers.{digit}
use Rattle.items.specs.TagItems.{Item, part_of}
use Rattle.tags.specs.TagValues.{deti_widths, atst_widths}

-- ---- the bytes of items, one after another
abbrev pub item_bytes : Item → List ℕ
item_bytes i = split bytes4 i.name ++ split bytes4 i.bits ++ i.value

abbrev pub items_bytes : List Item → List ℕ
items_bytes is = bytes_of_each item_bytes is

-- name and length are of 32 bits, and the length is the value's
pub record Whole (i : Item) : Type 0 where
  pub name : i.name < 2 ^ 32
  pub bits : i.bits ≡ length i.value * 8
  pub size : i.bits < 2 ^ 32

abbrev pub AllWhole : List Item → Type 0
AllWhole [] = Unit {0}
AllWhole (i ∷ is) = Whole i × AllWhole is

abbrev pub item_of : ℕ → List ℕ → Item
item_of name v = record { name = name; bits = length v * 8; value = v }

-- ---- what is free in the management item of a frame f: FCTH, UTCO and Seconds; and ATST is left out only where no timestamp is given, RFUD only where all its bits are ones
pub record Free (f : List ℕ) : Type 0 where
  pub fcth : ℕ
  pub utco : ℕ
  pub seconds : ℕ
  pub atst : Bool
  pub rfud : Bool
  pub fits : Fit (5 ∷ 8 ∷ 32 ∷ []) (fcth ∷ utco ∷ seconds ∷ [])
  pub untimed : atst ≡ false → time_of f ≡ 0xFFFFFF
  pub ones : rfud ≡ false → (rfu_of f ≡ 0xFFFF) × (rfa_of f ≡ 0xFF)

unfoldable pub management_of : (f : List ℕ) → Free f → List ℕ
management_of f c =
    split bytes4 (join deti_widths (digit c.atst ∷ ficf_of f ∷ digit c.rfud ∷ c.fcth ∷ fct_of f ∷ err_of f ∷ mid_of f ∷ fp_of f ∷ 0 ∷ 0 ∷ []))
    ++ split bytes2 (mnsc_of f)
    ++ pick c.atst (split bytes8 (join atst_widths (c.utco ∷ c.seconds ∷ time_of f ∷ []))) []
    ++ cut f (fic_span f)
    ++ pick c.rfud (split bytes2 (rfu_of f) ++ (rfa_of f ∷ [])) []

-- a stream's item: SCID, SAD; TPL, rfa; the data
unfoldable pub stream_item_of : List ℕ → ℕ → List ℕ
stream_item_of f k =
    split bytes2 (join (6 ∷ 10 ∷ []) ((stream_of f k).scid ∷ (stream_of f k).sad ∷ []))
    ++ (join (6 ∷ 2 ∷ []) ((stream_of f k).tpl ∷ 0 ∷ []) ∷ [])
    ++ cut f (stream_span f k)

-- deti, est1, est2 and so on
unfoldable pub stream_items_to : List ℕ → ℕ → List Item
stream_items_to f zero = []
stream_items_to f (suc n) = stream_items_to f n ++ (item_of (0x65737400 + suc n) (stream_item_of f n) ∷ [])

unfoldable pub items_for : (f : List ℕ) → Free f → List Item
items_for f c = item_of 0x64657469 (management_of f c) ∷ stream_items_to f (nst_of f)

-- ---- the items `is` in any order, with others that are passed over between them
pub record Other (i : Item) : Type 0 where
  pub stranger : part_of i.name ≡ 65
  pub whole : Whole i

pub record Taken (i : Item) (Rest : List Item → Type 0) (is : List Item) : Type 0 where
  pub front : List Item
  pub back : List Item
  pub same : is ≡ front ++ (i ∷ back)
  pub rest : Rest (front ++ back)

abbrev pub Mixed : List Item → List Item → Type 0
Mixed [] is = is ≡ []
Mixed (i ∷ js) is = (Other i × Mixed js is) ⊎ Taken i (Mixed js) is
