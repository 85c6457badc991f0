-- `list_into` meets its contract: what was measured has room, or nothing is written. Assumes nothing.
use Rattle.listing.proofs.Into.{listed}
use Rattle.listing.proofs.Lengths.{listing-length}
use mathlib.Core.Path.{sym, ◌∙◌}
use native.Mathlib.Omega.{arith}
use Rattle.listing.proofs.list_into.Goals as goal

pub overflow_cast-result : goal.overflow_cast-result
overflow_cast-result c = omega (arith, c.put_listing-len.ensures.next, listing-length c.args.pages.now.held)

pub returns-clause-out_after : goal.returns-clause-out_after
returns-clause-out_after c =
    (listed _ c.put_listing-len.ensures c.put_listing.ensures (sym c.has_room.ensures ∙ c.if-not-has_room.false)).1
