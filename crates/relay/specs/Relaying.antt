-- A frame read and written again, with the level that reading handed on.
-- Assumes nothing.
use Rattle.std.specs.Prelude.{not, List, [], ◌∷◌, ◌++◌, ◌≡◌, ℕ, eqb, length}
use Rattle.frame.specs.declared.Fields.{Fields}
use Rattle.frame.specs.declared.Header.{Header}
use Rattle.frame.specs.declared.Stream.{Stream}
use Rattle.octets.specs.Choice.{pick}
use Rattle.frame.specs.Frame.{streams_of, main_of}
use Rattle.frame.specs.Rules.{◌when◌, first, rules_of}
use Rattle.frame.specs.Answers.{table_by, header_for}
use Rattle.frame.specs.Writing.{frame_in, Clean}

-- the header and the table that reading handed out, as writing takes them
abbrev pub fields_with : Header → List Stream → Fields
fields_with h table =
    record {
      level = h.level;
      fsync1 = h.fsync1;
      fct = h.fct;
      ficf = h.ficf;
      fp = h.fp;
      mid = h.mid;
      mnsc = h.mnsc;
      rfu = h.rfu;
      rfa = h.rfa;
      timestamp = h.timestamp;
      count = h.nst;
      table = table;
    }

unfoldable pub fields_for : List ℕ → Fields
fields_for f = fields_with (header_for f) (table_by (streams_of f))

-- reading's refusal, then 1 for an output of another length
unfoldable pub relay_refusal_of : List ℕ → ℕ → ℕ
relay_refusal_of f out = first (rules_of f ++ ((1 when not (eqb out 6144)) ∷ []))

-- relaying f answers r and leaves `left` in the output that held `was`; a clean frame comes out as it went in
pub record Relays (f was left : List ℕ) (r : ℕ) : Type 0 where
  pub number : r ≡ relay_refusal_of f (length was)
  pub output : left ≡ pick (eqb (relay_refusal_of f (length was)) 0) (frame_in (fields_for f) (main_of f)) was
  pub same : r ≡ 0 → Clean f → left ≡ f
