-- A frame's values and the fields given are the same list exactly when each is the same.
-- Assumes nothing.
use mathlib.Core.List.{List, ◌∷◌}
use mathlib.Core.Path.{◌≡◌}
use Prim.Native.Nat.{ℕ}
use Rattle.frame.specs.declared.Fields.{Fields}
use Rattle.octets.specs.Choice.{place_in}
use Rattle.frame.specs.Frame.{fsyncs, fsync_of, fct_of, ficf_of, nst_of, fp_of, mid_of, fl_of, mnsc_of, rfu_of, rfa_of, time_of, level_of}
use Rattle.frame.specs.Answers.{digit, timestamp_values, timestamp_for, returning_of}
use Rattle.frame.specs.Writing.{fl_in, values_in}

pub record Agree (f : List ℕ) (x : Fields) : Type 0 where
  pub level : level_of f ≡ x.level
  pub fsync : place_in fsyncs (fsync_of f) ≡ digit x.fsync1
  pub fct : fct_of f ≡ x.fct
  pub ficf : ficf_of f ≡ digit x.ficf
  pub nst : nst_of f ≡ x.count
  pub fp : fp_of f ≡ x.fp
  pub mid : mid_of f ≡ x.mid
  pub fl : fl_of f ≡ fl_in x
  pub mnsc : mnsc_of f ≡ x.mnsc
  pub rfu : rfu_of f ≡ x.rfu
  pub rfa : rfa_of f ≡ x.rfa
  pub timestamp : timestamp_values (timestamp_for (time_of f)) ≡ timestamp_values x.timestamp

pub agree : (f : List ℕ) (x : Fields) → returning_of f ≡ values_in x → Agree f x
unfolding returning_of values_in
agree f x e =
    record {
      level = cc;
      fsync = cc;
      fct = cc;
      ficf = cc;
      nst = cc;
      fp = cc;
      mid = cc;
      fl = cc;
      mnsc = cc;
      rfu = cc;
      rfa = cc;
      timestamp = cc;
    }

pub agreed : (f : List ℕ) (x : Fields) → Agree f x → returning_of f ≡ values_in x
unfolding returning_of values_in
agreed f x a =
    λ i.
    a.level i ∷ a.fsync i ∷ a.fct i ∷ a.ficf i ∷ a.nst i ∷ a.fp i ∷ a.mid i ∷ a.fl i ∷ a.mnsc i ∷ a.rfu i ∷ a.rfa i ∷ a.timestamp i
