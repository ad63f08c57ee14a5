-- The fields given to writing as 401 bytes, for programs in other languages that hold the proved writing to their own.
-- Assumes nothing.
use Rattle.std.specs.Prelude.{not, List, [], ◌∷◌, ◌++◌, ◌≡◌, ℕ, zero, suc, ◌+◌, ◌*◌, eqb, length, get_or}
use Rattle.frame.specs.declared.Fields.{Fields}
use Rattle.frame.specs.declared.Stream.{Stream}
use Rattle.frame.specs.declared.Timestamp.{Timestamp}
use Rattle.frame.specs.declared.Timestamp.TheVariants.{Absent, Time, Reserved}
use Rattle.octets.specs.Choice.{pick}
use Rattle.octets.specs.Words.{two_at, word_at}
use Rattle.frame.specs.Answers.{table_by}
use Rattle.frame.specs.Writing.{writing_refusal_of, written_of}

-- the timestamp of a sort and a number
unfoldable pub timestamp_by : ℕ → ℕ → Timestamp
timestamp_by sort n = pick (eqb sort 0) Absent (pick (eqb sort 1) (Time n) (Reserved n))

-- entry i: SCID, SAD, TPL, STL
unfoldable pub entry_in : List ℕ → ℕ → Stream
entry_in b i =
    record {
      scid = get_or b (17 + 6 * i) 0;
      sad = two_at b (17 + 6 * i + 1);
      tpl = get_or b (17 + 6 * i + 3) 0;
      stl = two_at b (17 + 6 * i + 4);
    }

unfoldable pub entries_to : List ℕ → ℕ → List Stream
entries_to b zero = []
entries_to b (suc n) = entries_to b n ++ (entry_in b n ∷ [])

-- level, sync word, FCT, FICF, count, FP, MID, MNSC, Rfu, Rfa, the timestamp's sort and number, then 64 entries
unfoldable pub fields_in : List ℕ → Fields
fields_in b =
    record {
      level = get_or b 0 0;
      fsync1 = not (eqb (get_or b 1 0) 0);
      fct = get_or b 2 0;
      ficf = not (eqb (get_or b 3 0) 0);
      fp = get_or b 5 0;
      mid = get_or b 6 0;
      mnsc = two_at b 7;
      rfu = two_at b 9;
      rfa = get_or b 11 0;
      timestamp = timestamp_by (get_or b 12 0) (word_at b 13);
      count = get_or b 4 0;
      table = table_by (entries_to b 64);
    }

-- field bytes of another length are refused with 1, and the output is as it was
pub record Entered (b main was left : List ℕ) (r : ℕ) : Type 0 where
  pub number : r ≡ pick (eqb (length b) 401) (writing_refusal_of (fields_in b) (length main) (length was)) 1
  pub output : left ≡ pick (eqb (length b) 401) (written_of (fields_in b) main was) was
