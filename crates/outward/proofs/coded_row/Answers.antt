use borrow.Author.Rules.{rules}
use Rattle.outward.proofs.CodedOut.{row_split, taken_ok}
use Rattle.outward.proofs.coded_row.Goals as goal

pub unwrap-requires : goal.unwrap-requires
unwrap-requires c =
    let s = c.split_at_mut-information.ensures in
    taken_ok c.args.fourteen _ c.args.row _ _ (search rules) c.width.ensures.0 (rw (s.front, s.back) at c.check_bytes.ensures)

pub returns : goal.returns
returns c =
    let s = c.split_at_mut-information.ensures in
    rw s.front (row_split c.args.fourteen _ _ c.args.row _ (search rules) c.width.ensures.0 (rw (s.front, s.back) at c.check_bytes.ensures))
