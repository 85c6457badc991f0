-- `set_up` meets its contract. Assumes nothing.
use native.Mathlib.Omega.{arith}
use mathlib.Core.Path.{sym}
use lib.Seq.{length-take-le}
use Rattle.figures.specs.Encoding.{at_ceiling}
use Rattle.figures.proofs.Encoded.{started}
use Rattle.figures.proofs.set_up.Goals as goal

pub slice_bounds-fill-end-2 : goal.slice_bounds-fill-end-2
slice_bounds-fill-end-2 c = sym (length-take-le at_ceiling c.args.words.now (omega (arith, c.requires)))

pub returns : goal.returns
returns c =
    started c.args.words.now _ _ _ c.requires (c.fill.ensures.after (λ y e. e)) (c.fill-2.ensures.after (λ y e. e)) (c.fill-3.ensures.after (λ y e. e))
