-- Nothing in this file need be believed: clauses between private functions. The rules in two parts.
-- Assumes nothing.
use Rattle.std.specs.Prelude.{Bool, not, List, [], ◌∷◌, ℕ, ◌+◌, ◌*◌, eqb, ltb}
use Rattle.frame.specs.declared.Fields.{Fields}
use Rattle.frame.specs.Frame.{stl_total}
use Rattle.frame.specs.Rules.{Rule, ◌when◌, some_stl_above}
use Rattle.frame.specs.Writing.{ficl_in, fl_in, entries_of}

-- writing's rules, in two parts
abbrev pub head_rules : ℕ → Bool → ℕ → List Rule
head_rules out wide count = (1 when not (eqb out 6144)) ∷ (12 when wide) ∷ (5 when ltb 64 count) ∷ []

abbrev pub body_rules : ℕ → Bool → ℕ → ℕ → ℕ → List Rule
body_rules fct long fl main wanted =
    (7 when ltb 249 fct) ∷ (8 when long) ∷ (10 when ltb 1532 fl) ∷ (11 when not (eqb main wanted)) ∷ []

abbrev pub body_of : Fields → ℕ → List Rule
body_of x main =
    body_rules x.fct (some_stl_above 684 (entries_of x)) (fl_in x) main (4 * ficl_in x + 8 * stl_total (entries_of x))
