use borrow.Author.Rules.{rules}
use mathlib.Core.Path.{◌≡◌, sym, ◌∙◌}
use native.Mathlib.Omega.{arith}
use Rattle.frame.specs.Rules.{refusal_of}
use Rattle.walk.specs.Records.{part}
use Rattle.walk.proofs.Numbered.{ok_number, err_number}
use Rattle.looks.proofs.Tallies.{over_end, over_refused, over_last, over_taken, over_both}
use Rattle.looks.proofs.look_hunting.Goals as goal
use Rattle.looks.proofs.look_hunting.Goals.{then-is_err-via-then-is_err, then-is_err-via-else-is_err+then-not-whole-2, then-confirms, else-confirms}

pub returns-then-not-whole : goal.returns-then-not-whole
returns-then-not-whole c limit b = over_end limit _ _ _ _ c.next_mark-q.ensures _ (omega arith) (search rules) c.hunting.ensures

pub returns-then-is_err : goal.returns-then-is_err
returns-then-is_err c limit b =
    elim c.then-is_err.branch [
      | then-is_err-via-then-is_err w ↦
          over_refused limit _ _ _ _ c.next_mark-q.ensures _ (search rules) (λ z. err_number c.judge_at.result (search rules) (c.judge_at.ensures ∙ z)) c.hunting-then-is_err.ensures
      | then-is_err-via-else-is_err+then-not-whole-2 w ↦
          over_last limit _ _ _ _ c.next_mark-q.ensures _ (search rules) (w.whole-else-is_err.ensures.1 w.if-not-whole-2.true) c.hunting-then-is_err.ensures
    ]

pub returns : goal.returns
returns c limit b =
    let stands : refusal_of (part c.args.bytes.now c.next_mark-q.result) ≡ 0 = sym c.judge_at.ensures ∙ ok_number c.judge_at.result (search rules) in
    elim c.if-confirms.branch [
      | then-confirms w ↦
          over_taken limit _ _ _ _ c.next_mark-q.ensures _ (search rules) stands (search rules) b (sym (c.confirms.ensures limit) ∙ w.if-confirms.true) (w.position-is ∙ w.locked-position.ensures)
      | else-confirms w ↦
          over_both limit _ _ _ _ c.next_mark-q.ensures _ (search rules) stands (search rules) (sym (c.confirms.ensures limit) ∙ w.if-confirms.false) (w.position-is ∙ w.hunting-position.ensures)
    ]
