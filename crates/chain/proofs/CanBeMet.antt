-- What is supposed of a chain can be met: whatever damage comes on the way, a chain of any length goes on, and any byte from the main stream on may be the damaged one.
-- Assumes nothing.
use mathlib.Core.List.{List}
use mathlib.Core.Path.{◌≡◌, sym, ◌∙◌}
use Prim.Native.Nat.{ℕ, ◌≤◌}
use native.Mathlib.Omega.{arith}
use borrow.Author.Tests.{eq-eqb}
use lib.ListN.{length, set, length-set}
use lib.Seq.{get_or-set_other}
use Rattle.frame.specs.Frame.{nst_of, main_start}
use Rattle.frame.specs.Rules.{refusal_of}
use Rattle.frame.specs.Writing.{Bytes}
use Rattle.relay.specs.Relaying.{relay_refusal_of}
use Rattle.relay.proofs.Hop.{same_for}
use Rattle.chain.specs.Chains.{Arrives, Link, relaying}
use Rattle.chain.proofs.Heads.{same_refusal}
use Rattle.chain.proofs.Hops.{none}

pub goes_on : (sent arrived was : List ℕ) → refusal_of sent ≡ 0 → Arrives sent arrived → Bytes arrived → length was ≡ 6144 → Link sent (relaying arrived was)
goes_on sent arrived was z a b l =
    let y = same_refusal sent arrived a ∙ z in
    let n = none arrived (length was) y l in
    record {
      way = a;
      lent = l;
      relayed =
          record {
            number = sym n;
            output = rw (eq-eqb (relay_refusal_of arrived (length was)) 0 n);
            same = λ e k. same_for arrived y b k;
          };
    }

pub any_byte : (f : List ℕ) (k v : ℕ) → main_start (nst_of f) ≤ k → Arrives f (set f k v)
any_byte f k v h =
    record {
      whole = simp length-set;
      status = get_or-set_other f k 0 v 0 (omega arith);
      sync = λ j l m. get_or-set_other f k j v 0 (omega arith);
      header = λ j l m. get_or-set_other f k j v 0 (omega arith);
    }
