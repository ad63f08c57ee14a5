-- T-03: the network frame made again from the information bytes that came back, with the caller's sync word and level.
-- Assumes nothing.
use Rattle.std.specs.Prelude.{Bool, List, [], ◌∷◌, ◌++◌, ◌≡◌, ℕ, ◌+◌, ◌-◌, ◌*◌, eqb, ltb, length, take, replicate}
pub use Rattle.sum.specs.Sum.{digit}
use Rattle.octets.specs.Choice.{pick}
use Rattle.octets.specs.Words.{split, join, bytes4}
use Rattle.frame.specs.Frame.{sync_widths, status_by, fsync_by, err_of, fsync_of}
use Rattle.frame.specs.Rules.{refusal_of}
use Rattle.array.specs.CodingArray.{width_of, carried, filled}
use Rattle.line.specs.NetworkOut.{fl_in, logical_length, logical_of}

-- FL, the lowest field of FC, which is the first word of the information
unfoldable pub fl_within : List ℕ → ℕ
fl_within b = fl_in b 0

abbrev pub logical_within : List ℕ → ℕ
logical_within b = (fl_within b + 3) * 4

-- figure 6, SYNC: the status byte of the level and the sync word
unfoldable pub start_bytes : Bool → ℕ → List ℕ
start_bytes fsync1 level = split bytes4 (join sync_widths (status_by level ∷ fsync_by (digit fsync1) ∷ []))

-- SYNC, the logical frame, and padding of 55 up to 6,144 bytes
unfoldable pub frame_made : Bool → ℕ → List ℕ → List ℕ
frame_made fsync1 level b = start_bytes fsync1 level ++ take (logical_within b) b ++ replicate (6140 - logical_within b) 0x55

-- 1 for another length of the information than the most that the variant carries, or of the output than 6,144; 12 for a level above 3; 23 for more than that
unfoldable pub early_refusal : ℕ → ℕ → ℕ → ℕ → ℕ → ℕ
early_refusal most information output level logical =
    pick (eqb information most) (pick (eqb output 6144) (pick (ltb 3 level) 12 (pick (ltb most logical) 23 0)) 1) 1

-- then reading's number of the frame that would be made
unfoldable pub making_refusal : ℕ → Bool → ℕ → List ℕ → ℕ → ℕ
making_refusal w fsync1 level b output =
    let early = early_refusal (carried w) (length b) output level (logical_within b) in
    pick (eqb early 0) (refusal_of (frame_made fsync1 level b)) early

-- the number, and the output: the frame, or as it was
pub record MakesFrame (fourteen fsync1 : Bool) (level : ℕ) (b before after : List ℕ) (n : ℕ) : Type 0 where
  pub number : n ≡ making_refusal (width_of fourteen) fsync1 level b (length before)
  pub bytes : after ≡ pick (eqb n 0) (frame_made fsync1 level b) before

-- ---- a frame sent and brought back: the information that came back, over the row's information width
abbrev pub came_back : ℕ → List ℕ → List ℕ
came_back w f = filled w (logical_of f)

-- the frame's own sync word, and the level of its own status byte
pub record Own (f : List ℕ) (fsync1 : Bool) (level : ℕ) : Type 0 where
  pub status : status_by level ≡ err_of f
  pub sync : fsync_by (digit fsync1) ≡ fsync_of f

-- the frame, with padding of 55 whatever its own was
unfoldable pub repadded : List ℕ → List ℕ
repadded f = take 4 f ++ logical_of f ++ replicate (6140 - logical_length f) 0x55
