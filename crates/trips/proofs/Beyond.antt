-- Entries beyond the count have no effect: the values and the entries below it fix the frame written and the refusal.
-- Assumes nothing.
use mathlib.Core.List.{List, [], ◌∷◌, ◌++◌}
use mathlib.Core.Path.{◌≡◌, refl, sym, ap, ◌∙◌}
use Prim.Native.Nat.{ℕ}
use native.Mathlib.Nat.{le_refl}
use lib.Seq.{take-take}
use Rattle.frame.specs.declared.Fields.{Fields}
use Rattle.std.specs.Prelude.{Ok}
use Rattle.frame.specs.declared.Header.{Header}
use Rattle.frame.specs.Writing.{entries_of, fl_in, values_in, wider, writing_refusal_of, sync_in, header_in, end_in, frame_in}
use Rattle.frame.proofs.Fixed.{answer_fixed}

-- the header that has the values of x, which fix it
abbrev headed : Fields → Header
headed x =
    record {
      level = x.level;
      fsync1 = x.fsync1;
      fct = x.fct;
      ficf = x.ficf;
      nst = x.count;
      fp = x.fp;
      mid = x.mid;
      fl = fl_in x;
      mnsc = x.mnsc;
      rfu = x.rfu;
      rfa = x.rfa;
      timestamp = x.timestamp;
      sent = 0;
      worked = 0;
    }

headed_same : (x y : Fields) → values_in x ≡ values_in y → headed x ≡ headed y
unfolding values_in
headed_same x y e = let a = answer_fixed (Ok (headed x)) (Ok (headed y)) refl (ap (λ (vs : List ℕ). vs ++ (0 ∷ 0 ∷ [])) e) in cc

-- x with its table cut off at the count
abbrev trimmed : Fields → Fields
trimmed x =
    record {
      level = x.level;
      fsync1 = x.fsync1;
      fct = x.fct;
      ficf = x.ficf;
      fp = x.fp;
      mid = x.mid;
      mnsc = x.mnsc;
      rfu = x.rfu;
      rfa = x.rfa;
      timestamp = x.timestamp;
      count = x.count;
      table = entries_of x;
    }

trimmed_frame : (x : Fields) (m : List ℕ) → frame_in (trimmed x) m ≡ frame_in x m
unfolding frame_in sync_in header_in end_in fl_in
trimmed_frame x m = rw (take-take x.count x.count x.table (le_refl x.count))

trimmed_refusal : (x : Fields) (main out : ℕ) → writing_refusal_of (trimmed x) main out ≡ writing_refusal_of x main out
unfolding writing_refusal_of wider fl_in
trimmed_refusal x main out = rw (take-take x.count x.count x.table (le_refl x.count))

module _ (x y : Fields) (e : values_in x ≡ values_in y) (s : entries_of x ≡ entries_of y) where
  trimmed_same : trimmed x ≡ trimmed y
  trimmed_same =
      let h = headed_same x y e in
      λ i.
      record {
        level = (h i).level;
        fsync1 = (h i).fsync1;
        fct = (h i).fct;
        ficf = (h i).ficf;
        fp = (h i).fp;
        mid = (h i).mid;
        mnsc = (h i).mnsc;
        rfu = (h i).rfu;
        rfa = (h i).rfa;
        timestamp = (h i).timestamp;
        count = (h i).nst;
        table = s i;
      }

  pub frame_fixed : (m : List ℕ) → frame_in x m ≡ frame_in y m
  frame_fixed m = sym (trimmed_frame x m) ∙ ap (λ (z : Fields). frame_in z m) trimmed_same ∙ trimmed_frame y m

  pub refusal_fixed : (main out : ℕ) → writing_refusal_of x main out ≡ writing_refusal_of y main out
  refusal_fixed main out =
      sym (trimmed_refusal x main out) ∙ ap (λ (z : Fields). writing_refusal_of z main out) trimmed_same ∙ trimmed_refusal y main out
