-- A night of five records, its sheet computed: FCT 248 at level 0, a lost mark of refusal 6, FCT 0 at level 1, FCT 0 again at level 1, an idle item.
-- From 248 to 0, the lost mark skipped, one frame is missing; from 0 to 0, 249.
-- Assumes nothing.
use mathlib.Core.List.{List, [], ◌∷◌}
use mathlib.Core.Path.{◌≡◌, refl}
use Rattle.nightlog.specs.declared.Entry.{Entry}
use Rattle.sheet.specs.declared.Sheet.{Sheet}
use Rattle.sheet.specs.Sheets.{count, row_by, totals_to, fcts_of, gaps, gaps_after, last_after, run_by, added, sheet_of}

abbrev night : List Entry
night =
    record { place = 0; kind = 0; code = 248; level = 0 }
    ∷ record { place = 6144; kind = 1; code = 6; level = 255 }
    ∷ record { place = 12288; kind = 0; code = 0; level = 1 }
    ∷ record { place = 18432; kind = 0; code = 0; level = 1 }
    ∷ record { place = 24576; kind = 2; code = 4; level = 255 }
    ∷ []

of_night : ◌≡◌ {A = Sheet} (sheet_of night) (record { totals = 1 ∷ 2 ∷ 0 ∷ 0 ∷ 0 ∷ 0 ∷ 0 ∷ 0 ∷ 0 ∷ 0 ∷ 1 ∷ 0 ∷ 0 ∷ 0 ∷ 0 ∷ 1 ∷ []; run = record { high = 0; low = 250; met = 1; fct = 0 } })
unfolding added totals_to count row_by run_by fcts_of gaps gaps_after last_after
of_night = refl
