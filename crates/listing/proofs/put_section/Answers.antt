-- `put_section` meets its contract: two pieces. Assumes nothing.
use Rattle.listing.proofs.Rows.{left-section}
use Rattle.text.proofs.Left.{left_step, left-done}
use Rattle.listing.proofs.put_section.Goals as goal

pub returns : goal.returns
returns c =
    left-done (left_step (left_step (left-section _ _ c.count_rows-rows.ensures) c.put_named-next.ensures) c.put_rows.ensures)
