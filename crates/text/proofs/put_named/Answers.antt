-- `text::put_named` meets its contract: three pieces. Assumes nothing.
use Rattle.text.proofs.Lines.{left-named}
use Rattle.text.proofs.Left.{left_step, left-bounded, left-done}
use Rattle.text.proofs.put_named.Goals as goal

pub put_bytes-i-requires : goal.put_bytes-i-requires
put_bytes-i-requires c =
    left-bounded (left-named {l = c.args.out.now} _ _) c.requires

pub put_byte-j-requires : goal.put_byte-j-requires
put_byte-j-requires c =
    left-bounded (left_step (left-named _ _) c.put_bytes-i.ensures) c.requires

pub put_field-requires : goal.put_field-requires
put_field-requires c =
    left-bounded (left_step (left_step (left-named _ _) c.put_bytes-i.ensures) c.put_byte-j.ensures) c.requires

pub returns : goal.returns
returns c =
    left-done (left_step (left_step (left_step (left-named _ _) c.put_bytes-i.ensures) c.put_byte-j.ensures) c.put_field.ensures)
