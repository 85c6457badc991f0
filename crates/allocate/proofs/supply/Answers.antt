-- `supply` meets its contract. Assumes nothing.
use mathlib.Core.Path.{◌∙◌}
use native.Mathlib.Omega.{arith}
use Rattle.classes.proofs.Rule.{class_for-chunk}
use Rattle.model.proofs.Sizes.{classed}
use Rattle.allocate.proofs.supply.Goals as goal

pub supply_chunk-requires : goal.supply_chunk-requires
supply_chunk-requires c =
    let h = c.requires in
    let r = h.legal_request in
    let t = c.if-size-lt-LARGE_SIZE.true in
    record { good = h.good; class = omega (arith, (classed _ r.0 t).below, r.2 ∙ class_for-chunk _ r.0 t) }
