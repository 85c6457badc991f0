-- `put_row` meets its contract: by the kind, what is told of the segment at the page is its row. Assumes nothing.
use Rattle.lemmas.proofs.Cases.{clash}
use Rattle.listing.proofs.Here.{text-none, text-zone, text-run, text-direct, bounded-as, wrote_nothing}
use Rattle.text.proofs.Left.{wrote_as}
use Rattle.pages.proofs.Inverse.{stands-zone, stands-direct}
use Rattle.pages.specs.contracts.Kind.{the_type}
use denote.Enum.Bare.{differs_true, differs_false}
use mathlib.Core.Path.{◌≡◌, sym, ◌∙◌}
use Prim.Native.Nat.{ℕ}
use Rattle.model.specs.Arena.{Segment, direct, pages}
use Rattle.model.specs.Zone.{Zone}
use Rattle.pages.specs.Decoding.{segments_of}
use Rattle.pages.specs.Places.{kind_in, Stands}
use Rattle.pages.specs.declared.Kind.TheVariants as kind
use Rattle.listing.proofs.put_row.Goals as goal
use Rattle.listing.proofs.put_row.Goals.{Else-ne}

-- The segment that stands at the page is of the kind.
of-kind : (c : Else-ne) {b : ℕ} {x : Segment Zone} → Stands (segments_of c.args.pages.now.words.now) c.args.p b x → kind_in x ≡ c.args.kind
of-kind c s = sym (c.kind.ensures _ _ s) ∙ differs_false the_type tt _ _ (sym c.if-ne.ensures)

-- A direct block, if that is the kind.
is-direct : (c : Else-ne) {b : ℕ} {x : Segment Zone} → Stands (segments_of c.args.pages.now.words.now) c.args.p b x → c.args.kind ≡ kind.Direct →
    (g : ℕ) × (x ≡ direct (pages x) g) × Stands (segments_of c.args.pages.now.words.now) c.args.p b (direct (pages x) g)
is-direct c s d = let e = of-kind c s ∙ d in stands-direct s (λ q. clash (cc (e, q))) (λ q. clash (cc (e, q)))

pub returns-then-ne : goal.returns-then-ne
returns-then-ne c = λ b x s. wrote_as (text-none _ _ _ (λ e. differs_true the_type _ _ (sym c.if-ne.ensures) (c.kind.ensures _ _ s ∙ e))) wrote_nothing

pub put_line-requires : goal.put_line-requires
put_line-requires c =
    let s = c.requires.2 in
    bounded-as _ (text-run _ _ _ (of-kind (goal.at.put_line-requires c).Else-ne s) (c.size.ensures _ _ s) c.in-Run.is) c.requires.3

pub returns-in-Run : goal.returns-in-Run
returns-in-Run c =
    λ b x s. wrote_as (text-run _ _ _ (of-kind (goal.at.returns-in-Run c).Else-ne s) (c.size.ensures _ _ s) c.in-Run.is) c.put_line.ensures

pub group-requires : goal.group-requires
group-requires c = let i = is-direct (goal.at.group-requires c).Else-ne c.requires.2 c.in-Direct.is in (_, _, i.0, i.2)

pub put_line-requires-in-Direct : goal.put_line-requires-in-Direct
put_line-requires-in-Direct c =
    let s = c.requires.2 in
    let i = is-direct (goal.at.put_line-requires-in-Direct c).Else-ne s c.in-Direct.is in
    bounded-as _ (text-direct _ _ _ (of-kind (goal.at.put_line-requires-in-Direct c).Else-ne s) (c.size-in-Direct.ensures _ _ s) (c.from.ensures ∙ c.group.ensures _ _ _ i.2) i.1) c.requires.3

pub returns-in-Direct : goal.returns-in-Direct
returns-in-Direct c =
    λ b x s. let i = is-direct (goal.at.returns-in-Direct c).Else-ne s c.in-Direct.is in
    wrote_as (text-direct _ _ _ (of-kind (goal.at.returns-in-Direct c).Else-ne s) (c.size-in-Direct.ensures _ _ s) (c.from.ensures ∙ c.group.ensures _ _ _ i.2) i.1) c.put_line-in-Direct.ensures

pub zone-requires : goal.zone-requires
zone-requires c =
    let i = stands-zone c.requires.2 (of-kind (goal.at.zone-requires c).Else-ne c.requires.2 ∙ c.in-Zone.is) in (_, i.0, i.2)

pub put_zone-requires : goal.put_zone-requires
put_zone-requires c =
    let s = c.requires.2 in
    let e = of-kind (goal.at.put_zone-requires c).Else-ne s in
    let i = stands-zone s (e ∙ c.in-Zone.is) in
    bounded-as _ (text-zone _ _ _ e (c.zone.ensures _ _ i.2) i.1) c.requires.3

pub returns-in-Zone : goal.returns-in-Zone
returns-in-Zone c =
    λ b x s. let e = of-kind (goal.at.returns-in-Zone c).Else-ne s in
    let i = stands-zone s (e ∙ c.in-Zone.is) in
    wrote_as (text-zone _ _ _ e (c.zone.ensures _ _ i.2) i.1) c.put_zone.ensures
