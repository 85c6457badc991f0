-- `check::zone_size` meets its contract. Assumes nothing.
use lib.Seq.{length-take-le}
use mathlib.Core.Path.{sym}
use native.Mathlib.Omega.{arith}
use Rattle.zone.specs.Encoding.{zone_words}
use Rattle.pages.proofs.check.zone_size.Goals as goal

pub slice_bounds-check-end : goal.slice_bounds-check-end
slice_bounds-check-end c = sym (length-take-le zone_words c.args.words.now (omega (arith, c.requires.0, c.if-left-lt-ZONE_PAGES.false)))
