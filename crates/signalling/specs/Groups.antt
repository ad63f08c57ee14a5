-- Clause 5.5.1 and table 7 of ETS 300 799, with T-08: the MNSC bytes of four consecutive frames make a group of eight bytes.
-- Assumes nothing.
use Rattle.std.specs.Prelude.{Bool, true, false, List, [], ◌++◌, ℕ, ◌/◌, ◌%◌, eqb, length}
use Rattle.std.proofs.Math.Option.{none, some}
use Rattle.sum.specs.Sum.{sent}
use Rattle.octets.specs.Choice.{pick}
use Rattle.signalling.specs.Feeding.{Took, run, rest}

-- a frame, as signalling sees it: FP, and the 16 bits of its MNSC
pub record Frame : Type 0 where
  pub fp : ℕ
  pub mnsc : ℕ

-- table 7: the low two bits of FP
abbrev pub phase : Frame → ℕ
phase f = f.fp % 4

-- the byte pair, high byte first
abbrev pub pair : Frame → List ℕ
pair f = sent f.mnsc

-- what is gathered: a group's bytes SB0 to SB7, or that a group with a frame missing was dropped (24)
pub data Gathered : Type 0 where
  group : List ℕ → Gathered
  missing : Gathered

-- between frames: the bytes of the group so far; after a drop, whether a phase 0 is waited for
pub record Gathering : Type 0 where
  pub bytes : List ℕ
  pub waiting : Bool

abbrev pub sofar : List ℕ → Gathering
sofar bytes = record { bytes = bytes; waiting = false }

abbrev pub waits : Gathering
waits = record { bytes = []; waiting = true }

-- a frame in turn joins the group; the fourth makes it whole
abbrev pub joined : List ℕ → Took Gathering Gathered
joined bytes =
    pick (eqb (length bytes) 8)
    (record { gives = some (group bytes); goes = sofar [] })
    (record { gives = none; goes = sofar bytes })

-- a frame out of turn: the group is dropped, once; "the next phase 0, the offending one included, begins afresh"
abbrev pub out_of_turn : Bool → Frame → Took Gathering Gathered
out_of_turn waiting f =
    record {
      gives = pick waiting none (some missing);
      goes = pick (eqb (phase f) 0) (sofar (pair f)) waits;
    }

unfoldable pub gather : Gathering → Frame → Took Gathering Gathered
gather g f = pick (eqb (phase f) (length g.bytes / 2)) (joined (g.bytes ++ pair f)) (out_of_turn g.waiting f)

-- DEFINITION 1: the groups and drops of a list of frames, and what is gathered after them
abbrev pub groups : List Frame → List Gathered
groups fs = run gather (sofar []) fs

abbrev pub gathering : List Frame → Gathering
gathering fs = rest gather (sofar []) fs
