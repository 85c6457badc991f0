-- `uplink::Reader::hold` meets its contract. Assumes nothing.
use mathlib.Core.Path.{◌≡◌, sym}
use lib.ListN.{length}
use borrow.Author.Rules.{rules}
use Rattle.uplink.specs.Fragments.{most_line, held}
use Rattle.uplink.proofs.Steps.{holds-more, holds-all}
use Rattle.uplink.proofs.Reader.hold.Goals as goal

pub returns-then-taken-bytes : goal.returns-then-taken-bytes
unfolding held
returns-then-taken-bytes c =
    let h : length c.args.self.now.line ≡ most_line = search rules in
    holds-more _ _ _ _ (sym h) c.args.self.now.sound c.min-taken.ensures _ c.if-taken-bytes.true

pub returns-else-taken-bytes : goal.returns-else-taken-bytes
unfolding held
returns-else-taken-bytes c =
    let h : length c.args.self.now.line ≡ most_line = search rules in
    holds-all _ _ _ _ (sym h) c.args.self.now.sound c.min-taken.ensures _ _ c.copy_from_slice.ensures.after c.if-taken-bytes.false
