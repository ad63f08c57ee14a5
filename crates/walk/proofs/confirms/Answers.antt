use mathlib.Core.Path.{sym, ◌∙◌}
use Rattle.walk.proofs.Numbered.{ok_number, err_number}
use Rattle.walk.proofs.Stepping.{unconfirmed, stands_whole}
use Rattle.walk.proofs.confirms.Goals as goal

pub followed-requires : goal.followed-requires
followed-requires c =
    let z = sym c.judge_at.ensures ∙ ok_number c.judge_at.result (sym c.is_ok.ensures.value ∙ c.if-is_ok.true) in
    (stands_whole _ _ z, z)

pub returns-else-is_ok : goal.returns-else-is_ok
returns-else-is_ok c = λ limit.
    c.if-is_ok.false ∙ unconfirmed limit _ _ _ c.judge_at.ensures (err_number c.judge_at.result (sym c.is_ok.ensures.value ∙ c.if-is_ok.false))
