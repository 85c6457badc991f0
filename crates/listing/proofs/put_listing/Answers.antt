-- `put_listing` meets its contract: three pieces. Assumes nothing.
use Rattle.listing.proofs.Lengths.{listing-bounded}
use Rattle.listing.proofs.Rows.{left-sections}
use Rattle.text.proofs.Left.{left_step, left-bounded, left-done}
use Rattle.model.specs.Ascii.{ascii}
use Rattle.listing.proofs.put_listing.Goals as goal

pub put_section-direct-requires : goal.put_section-direct-requires
unfolding ascii
put_section-direct-requires c =
    let h = c.args.pages.now.held in left-bounded (left-sections {l = c.args.out.now} _ h.sound) (listing-bounded h)

pub put_section-zones-requires : goal.put_section-zones-requires
unfolding ascii
put_section-zones-requires c =
    let h = c.args.pages.now.held in left-bounded (left_step (left-sections _ h.sound) c.put_section-direct.ensures) (listing-bounded h)

pub put_section-requires : goal.put_section-requires
unfolding ascii
put_section-requires c =
    let h = c.args.pages.now.held in
    left-bounded (left_step (left_step (left-sections _ h.sound) c.put_section-direct.ensures) c.put_section-zones.ensures) (listing-bounded h)

pub returns : goal.returns
unfolding ascii
returns c =
    left-done (left_step (left_step (left_step (left-sections _ c.args.pages.now.held.sound) c.put_section-direct.ensures) c.put_section-zones.ensures) c.put_section.ensures)
