-- `text::put_field` meets its contract: two pieces. Assumes nothing.
use Rattle.text.proofs.Lines.{left-field}
use Rattle.text.proofs.Left.{left_step, left-bounded, left-done}
use Rattle.text.proofs.put_field.Goals as goal

pub put_number-next-requires : goal.put_number-next-requires
put_number-next-requires c = left-bounded (left-field {l = c.args.out.now} _ _) c.requires

pub put_byte-requires : goal.put_byte-requires
put_byte-requires c = left-bounded (left_step (left-field _ _) c.put_number-next.ensures) c.requires

pub returns : goal.returns
returns c = left-done (left_step (left_step (left-field _ _) c.put_number-next.ensures) c.put_byte.ensures)
