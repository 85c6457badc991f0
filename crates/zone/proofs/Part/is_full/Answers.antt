-- `Part::is_full` meets its contract. Assumes nothing.
use mathlib.Core.Path.{sym, ◌∙◌}
use borrow.Author.Rules.{rules}
use borrow.Author.Tests.{ltb-false}
use Rattle.zone.proofs.Figures.{zone-size, class-small, class-read, touched-few, touched-read, full-chain}
use Rattle.zone.proofs.Part.is_full.Goals as goal

pub has_chunk-requires : goal.has_chunk-requires
has_chunk-requires c = let e = c.args.self.valid in rw (c.class.ensures, c.touched.ensures, ← class-read _ e, ← touched-read _ e) (class-small _ e, touched-few _ e)

pub bounds-self-3 : goal.bounds-self-3
bounds-self-3 c = let size = zone-size _ c.args.self.valid in search rules

pub returns-then-not-has_chunk : goal.returns-then-not-has_chunk
returns-then-not-has_chunk c = full-chain _ c.args.self.valid (ltb-false _ _ (rw (c.class.ensures, c.touched.ensures) at (sym c.has_chunk.ensures ∙ c.if-not-has_chunk.true)))
