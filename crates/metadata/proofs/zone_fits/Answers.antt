-- `zone_fits` meets its contract. Assumes nothing.
use Rattle.model.specs.Numbers.{class_count}
use Rattle.header.specs.Encoding.{spare_in, lists_in}
use Rattle.zone.specs.Decoding.{zone_of}
use Rattle.metadata.proofs.Here.{fits-full, fits-spare, fits-listed, class_low}
use Rattle.header.specs.Front.{stands}
use lib.ListN.{get_or}
use mathlib.Core.List.{[]}
use Prim.Native.Nat.{◌<◌}
use mathlib.Core.Path.{sym, ap, ◌∙◌, subst}
use Rattle.metadata.proofs.zone_fits.Goals as goal

pub returns-then-is_full : goal.returns-then-is_full
returns-then-is_full c =
    fits-full (spare_in c.args.lists.now.words.now) (lists_in c.args.lists.now.words.now) c.args.page (zone_of c.args.part.now.words.now) (sym c.is_full.ensures ∙ c.if-is_full.true)

pub returns-then-spare_contains : goal.returns-then-spare_contains
returns-then-spare_contains c =
    c.is_idle.ensures ∙ fits-spare (spare_in c.args.lists.now.words.now) (lists_in c.args.lists.now.words.now) c.args.page (zone_of c.args.part.now.words.now) (sym c.is_full.ensures ∙ c.if-is_full.false)
    (sym c.spare_contains.ensures ∙ c.if-spare_contains.true)

pub contains-requires : goal.contains-requires
contains-requires c =
    (subst (λ k. k < class_count) (sym c.class.ensures) (class_low _ c.args.part.now.valid), c.requires)

pub returns : goal.returns
returns c =
    c.contains.ensures ∙ ap (λ k. stands c.args.page (get_or (lists_in c.args.lists.now.words.now) k [])) c.class.ensures ∙ fits-listed (spare_in c.args.lists.now.words.now)
    (lists_in c.args.lists.now.words.now) c.args.page (zone_of c.args.part.now.words.now) (sym c.is_full.ensures ∙ c.if-is_full.false)
    (sym c.spare_contains.ensures ∙ c.if-spare_contains.false)
