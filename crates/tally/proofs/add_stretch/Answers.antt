-- `add_stretch` meets its contract. The loop's invariant: the chunks of the groups so far are added. Assumes nothing.
use Prim.Native.Nat.{ℕ, ◌≤◌, ◌<◌}
use mathlib.Core.List.{map}
use native.Mathlib.Omega.{arith}
use mathlib.Core.Path.{◌≡◌, ◌∙◌}
use lib.ListN.{length-map}
use Rattle.lemmas.specs.Times.{times}
use Rattle.model.specs.Numbers.{most_group}
use Rattle.zone.specs.Decoding.{owner_in}
use Rattle.tally.specs.Figures.{stretch}
use Rattle.tally.proofs.Adding.{up_more, count_most, stretch-within}
use Rattle.tally.proofs.Squeezed.{times-squeezed}
use Rattle.tally.proofs.add_stretch.Goals as goal
use Rattle.tally.proofs.add_stretch.Goals.{At-loop-group}

-- The count is that of the chunks: nothing else in the bytes is a group.
counted : (c : At-loop-group) (g : ℕ) → 0 < g → g ≤ most_group → times g c.squeeze.new.bytes ≡ times g (map owner_in c.args.slots.now)
counted c g p q = times-squeezed g p q c.args.slots.now _ stretch c.squeeze.ensures

pub add_blocks-requires : goal.add_blocks-requires
add_blocks-requires c =
    let few : c.from-count.result ≤ stretch = omega (arith, c.from-count.ensures, c.count_byte.ensures.1) in (
      omega arith,
      omega arith,
      few,
      count_most _ _ few c.requires.1,
      stretch-within _ _ (map owner_in c.args.slots.now) _ _ (simp length-map c.requires.0) c.requires.1 c.requires.2 c.loop-group.invariant,
    )

pub loop-group-preserved : goal.loop-group-preserved
loop-group-preserved c =
    let n : ℕ → ℕ = λ g. times g (map owner_in c.args.slots.now) in
    let same = c.from-count.ensures ∙ c.count_byte.ensures.0 ∙ counted (goal.at.loop-group-preserved c).At-loop-group _ (omega arith) (omega arith) in
    up_more n _ _ _ _ _ _ same c.loop-group.invariant c.add_blocks.ensures
