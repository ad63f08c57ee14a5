-- Nothing in this file need be believed: clauses between private functions. The rules in two parts.
-- Assumes nothing.
use Rattle.std.specs.Prelude.{Bool, not, List, [], ◌∷◌, ℕ, eqb, ltb}
use Rattle.sum.specs.Sum.{sum_of}
use Rattle.octets.specs.Words.{word_at}
use Rattle.octets.specs.Choice.{place_in}
use Rattle.frame.specs.Frame.{statuses, err_of, fsyncs, fsync_of, fct_of, nst_of, fl_of, ficl_of, streams_of, stl_total, fl_by, header_bytes_of, header_sum_of}
use Rattle.frame.specs.Rules.{Rule, ◌when◌, some_stl_above}

abbrev pub body_rules : ℕ → ℕ → ℕ → Bool → ℕ → ℕ → List Rule
body_rules sum sent fct long fl formula =
    (6 when not (eqb sum sent))
    ∷ (7 when ltb 249 fct)
    ∷ (8 when long)
    ∷ (9 when not (eqb fl formula))
    ∷ (10 when ltb 1532 fl)
    ∷ []

abbrev pub head_rules_of : List ℕ → List Rule
head_rules_of f =
    (2 when ltb 1 (place_in fsyncs (fsync_of f)))
    ∷ (3 when ltb 3 (place_in statuses (err_of f)))
    ∷ (4 when eqb (word_at f 4) 0xFFFFFFFF)
    ∷ (5 when ltb 64 (nst_of f))
    ∷ []

abbrev pub body_rules_of : List ℕ → List Rule
body_rules_of f =
    body_rules (sum_of (header_bytes_of f)) (header_sum_of f) (fct_of f) (some_stl_above 684 (streams_of f)) (fl_of f)
    (fl_by (nst_of f) (ficl_of f) (stl_total (streams_of f)))
