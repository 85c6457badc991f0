-- `take_zone` meets its contract. Assumes nothing.
use native.Mathlib.Omega.{arith}
use mathlib.Core.Path.{refl}
use Prim.Native.Nat.{ℕ, ◌<◌, ◌≤◌}
use Rattle.pages.specs.Places.{Stands}
use Rattle.model.specs.Numbers.{zone_pages}
use Rattle.model.specs.Pages.{carve}
use Rattle.model.specs.Zone.{new_zone}
use Rattle.model.specs.Arena.{run, zone}
use Rattle.steps.proofs.Body.{body-holds, in_body, body_back, carve-total}
use Rattle.steps.proofs.take_zone.Goals as goal

pub take_zone-requires : goal.take_zone-requires
take_zone-requires c =
    let h = c.requires in record {
      holds = body-holds h.lent.0 _ h.lent.1;
      placed = in_body h.lent.0 (λ m. (b : ℕ) × Stands m c.args.free.at b (run c.args.free.len) × (zone_pages ≤ c.args.free.len) × (0 < c.args.group)) h.placed;
    }

pub returns : goal.returns
returns c =
    let h = c.requires in
    body_back h.lent.0 _ (λ m. carve (record { page = c.args.free.at; size = c.args.free.len }) zone_pages (zone (new_zone c.args.class c.args.group)) m)
    (carve-total h.placed.1 zone_pages (zone (new_zone c.args.class c.args.group)) refl (omega arith) h.placed.2) c.take_zone.ensures
