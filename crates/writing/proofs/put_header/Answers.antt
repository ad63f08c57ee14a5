use Rattle.writing.proofs.Filled.{header_puts, header_length}
use Rattle.writing.proofs.put_header.Goals as goal

pub returns : goal.returns
returns c =
    let x = c.args.x in
    let t = c.put_streams.ensures.1 in (
      header_puts x c.args.out.now c.requires.3 t c.requires.0 _ _ _ _ _ _
          c.put4.ensures
          c.sync.ensures
          c.put4-2.ensures
          (rw (c.fc_word.ensures, c.requires.1))
          c.put_streams.ensures.0
          c.put2.ensures,
      header_length x t c.requires.0,
    )
