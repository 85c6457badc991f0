-- `add_stretch` meets its contract. The loop's invariant: the chunks of the groups so far are added. Assumes nothing.
use mathlib.Core.List.{map}
use Rattle.lemmas.specs.Times.{times}
use Rattle.zone.specs.Decoding.{owner_in}
use Rattle.tally.specs.Figures.{Added}
use Rattle.tally.proofs.Adding.{up_to}
use Rattle.tally.proofs.add_stretch.Given as goal

abbrev pub invariant-loop-group : goal.invariant-loop-group
invariant-loop-group l = Added (up_to l.group (λ g. times g (map owner_in l.slots))) l.room l.initial.figures l.figures
