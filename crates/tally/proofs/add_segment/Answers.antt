-- `add_segment` meets its contract. Assumes nothing.
use Prim.Native.Nat.{ℕ, ◌≤◌}
use mathlib.Core.Path.{◌≡◌, sym, ◌∙◌}
use native.Mathlib.Omega.{arith}
use Rattle.model.specs.Numbers.{most_pages}
use Rattle.model.specs.Arena.{Segment, direct, zone, pages}
use Rattle.model.specs.Zone.{Zone}
use Rattle.pages.specs.declared.Kind.TheVariants as kind
use Rattle.pages.specs.Decoding.{segments_of}
use Rattle.pages.specs.Places.{kind_in, Stands}
use Rattle.pages.proofs.Walk.{read_at}
use Rattle.pages.proofs.Inverse.{stands-zone, stands-direct}
use Rattle.lemmas.proofs.Cases.{clash}
use Rattle.tally.proofs.Adding.{within_more}
use Rattle.tally.proofs.Segments.{run-adds, direct-adds, zone-adds}
use Rattle.tally.proofs.add_segment.Goals as goal
use Rattle.tally.proofs.add_segment.Goals.{After-kind}

-- The segment at page p, in the terms of the code.
abbrev At : After-kind → ℕ → Segment Zone → Type 0
At c b x = Stands (segments_of c.args.pages.now.words.now) c.args.p b x

module _ (c : After-kind) {b : ℕ} {x : Segment Zone} (s : At c b x) where
  few : pages x ≤ most_pages
  few = let r = read_at c.args.pages.now.held s in omega (arith, r.inside, r.few)

  as-zone : c.kind.result ≡ kind.Zone → ((z : Zone) × (x ≡ zone z) × At c b (zone z))
  as-zone e = stands-zone s (sym (c.kind.ensures _ _ s) ∙ e)

  as-direct : c.kind.result ≡ kind.Direct → ((g : ℕ) × (x ≡ direct (pages x) g) × At c b (direct (pages x) g))
  as-direct e = let k : kind_in x ≡ kind.Direct = sym (c.kind.ensures _ _ s) ∙ e in stands-direct s (λ q. clash (cc)) (λ q. clash (cc))

pub returns-in-Run : goal.returns-in-Run
returns-in-Run c = λ b x s. run-adds x (sym (c.kind.ensures _ _ s) ∙ c.in-Run.is) c.requires.within.long

pub zone-requires : goal.zone-requires
zone-requires c = let i = as-zone (goal.at.zone-requires c).After-kind c.requires.placed.2 c.in-Zone.is in (_, i.0, i.2)

pub returns-in-Zone : goal.returns-in-Zone
returns-in-Zone c =
    λ b x s. let i = as-zone (goal.at.returns-in-Zone c).After-kind s c.in-Zone.is in
    zone-adds x i.0 i.1 _ c.zone.result.valid (c.zone.ensures _ _ i.2) c.add_zone.ensures

pub overflow_cast-bytes : goal.overflow_cast-bytes
overflow_cast-bytes c =
    let s = c.requires.placed.2 in omega (arith, c.size.ensures _ _ s, few (goal.at.overflow_cast-bytes c).After-kind s)

pub overflow_mul-bytes : goal.overflow_mul-bytes
overflow_mul-bytes c =
    let s = c.requires.placed.2 in omega (arith, c.size.ensures _ _ s, few (goal.at.overflow_mul-bytes c).After-kind s)

pub group-requires : goal.group-requires
group-requires c = let i = as-direct (goal.at.group-requires c).After-kind c.requires.placed.2 c.in-Direct.is in (_, _, i.0, i.2)

pub add_blocks-requires : goal.add_blocks-requires
add_blocks-requires c =
    let s = c.requires.placed.2 in
    let i = as-direct (goal.at.add_blocks-requires c).After-kind s c.in-Direct.is in
    let ok = (read_at c.args.pages.now.held i.2).ok.1 in
    let e = c.group.ensures _ _ _ i.2 in (
      omega (arith, e, ok.1),
      omega (arith, e, ok.2),
      omega arith,
      omega (arith, c.size.ensures _ _ s, few (goal.at.add_blocks-requires c).After-kind s),
      within_more 4 (omega arith) c.requires.within,
    )

pub returns-in-Direct : goal.returns-in-Direct
returns-in-Direct c =
    λ b x s. let i = as-direct (goal.at.returns-in-Direct c).After-kind s c.in-Direct.is in
    direct-adds x _ i.0 i.1 (c.size.ensures _ _ s) (c.group.ensures _ _ _ i.2) c.add_blocks.ensures
