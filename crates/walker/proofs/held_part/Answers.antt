-- `walker::held_part` meets its contract.
-- Assumes nothing.
use mathlib.Core.Path.{refl, sym}
use Rattle.walker.proofs.Beginnings.{held_whole, held_none, whole_part}
use Rattle.walker.proofs.held_part.Goals as goal

pub returns-in-Ok : goal.returns-in-Ok
returns-in-Ok c =
    let args = c.args in
    rw (held_whole args.limit args.«record».now (sym c.in-Ok.ensures)) (record { bytes = whole_part args.«record».now; place = refl })

pub returns-in-Err : goal.returns-in-Err
returns-in-Err c =
    let args = c.args in
    rw (held_none args.limit args.«record».now _ c.in-Err.ensures) (record { bytes = refl; place = refl })
