use native.Mathlib.Nat.{mod-lt}
use lib.Dec.{lit<}
use Rattle.frame.proofs.Headers.{digit_of}
use Rattle.tags.specs.TagValues.{atstf_in, ficf_in, rfudf_in, fct_in, stat_in, mid_in, fp_in}
use Rattle.tags.proofs.deti.Goals as goal

pub returns : goal.returns
unfolding atstf_in ficf_in rfudf_in fct_in stat_in mid_in fp_in
returns c =
    let e = c.word-w.ensures.0 in
    record {
      atstf = rw e (digit_of _ (mod-lt _ (lit< tt)));
      ficf = rw e (digit_of _ (mod-lt _ (lit< tt)));
      rfudf = rw e (digit_of _ (mod-lt _ (lit< tt)));
      fct = rw e;
      stat = rw e;
      mid = rw e;
      fp = rw e;
    }
