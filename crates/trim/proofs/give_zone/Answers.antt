-- `give_zone` meets its contract. Assumes nothing.
use Rattle.model.specs.Arena.{run}
use Rattle.trim.proofs.Words.{given-here, given-listed, given-after, give-asks, size-asks, run-there}
use Rattle.trim.proofs.give_zone.Goals as goal

pub unlist-requires : goal.unlist-requires
unlist-requires c = let h = c.requires in (h.lent.0, given-here h.lent.0 h.apart h.placed.2)

pub give_back-requires : goal.give_back-requires
give_back-requires c =
    let h = c.requires in
    let k = give-asks h.lent.0 h.apart h.placed.2 _ h.lent.1 (given-listed h.lent.0 h.apart h.placed.2 c.unlist.ensures) in
    record { lent = k.0; apart = k.1.0; stands = k.1.1 }

pub size_at-requires : goal.size_at-requires
size_at-requires c =
    let h = c.requires in
    let k = size-asks h.lent.0 h.apart h.placed.2 _ h.lent.1
    (given-after h.lent.0 h.apart h.placed.2 (given-listed h.lent.0 h.apart h.placed.2 c.unlist.ensures) c.give_back.ensures) in
    record { lent = k.0; placed = k.1 }

pub returns : goal.returns
returns c =
    λ a z t. let h = c.requires in
    let k = given-after h.lent.0 h.apart t (given-listed h.lent.0 h.apart t c.unlist.ensures) c.give_back.ensures in
    (c.size_at.ensures 0 (run _) (run-there h.lent.0 h.apart t k), k.words)
