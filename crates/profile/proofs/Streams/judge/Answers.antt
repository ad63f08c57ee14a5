-- `profile::Streams::judge` meets its contract.
-- Assumes nothing.
use mathlib.Core.Path.{sym, ◌∙◌}
use Rattle.profile.proofs.Noting.{told_31, told_32, told_33, told_none, told_ordered}
use Rattle.profile.proofs.Streams.judge.Goals as goal
use Rattle.profile.proofs.Streams.judge.Goals.{else-notes-3-via-then-notes-3+else-some_overlap, else-notes-3-via-else-notes-3}

pub returns-then-notes : goal.returns-then-notes
returns-then-notes c = told_31 _ c.args.self.now.differ _ c.notes-notes.ensures c.if-notes.true

pub returns-then-notes-2 : goal.returns-then-notes-2
returns-then-notes-2 c = told_32 _ c.args.self.now.differ _ c.notes-notes.ensures c.if-notes.false c.if-notes-2.true

pub some_overlap-requires : goal.some_overlap-requires
some_overlap-requires c = sym c.notes-notes.ensures.within ∙ c.if-notes-2.false

pub returns-then-some_overlap : goal.returns-then-some_overlap
returns-then-some_overlap c = told_33 _ c.args.self.now.differ _ c.notes-notes.ensures c.if-notes.false c.if-notes-2.false _ c.some_overlap.ensures c.if-some_overlap.true

pub returns : goal.returns
returns c =
    elim c.else-notes-3.branch [
      | else-notes-3-via-then-notes-3+else-some_overlap w ↦ told_none _ c.args.self.now.differ _ c.notes-notes.ensures c.if-notes.false c.if-notes-2.false _ w.some_overlap.ensures w.if-some_overlap.false
      | else-notes-3-via-else-notes-3 w ↦ told_ordered _ c.args.self.now.differ _ c.notes-notes.ensures c.if-notes.false c.if-notes-2.false w.if-notes-3.false
    ]
