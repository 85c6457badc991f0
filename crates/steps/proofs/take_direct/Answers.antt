-- `take_direct` meets its contract. Assumes nothing.
use mathlib.Core.Path.{refl}
use Prim.Native.Nat.{ℕ, ◌<◌, ◌≤◌}
use Rattle.pages.specs.Places.{Stands}
use Rattle.model.specs.Pages.{carve}
use Rattle.model.specs.Arena.{run, direct}
use Rattle.steps.proofs.Body.{body-holds, in_body, body_back, carve-total}
use Rattle.steps.proofs.take_direct.Goals as goal

pub take_direct-requires : goal.take_direct-requires
take_direct-requires c =
    let h = c.requires in record {
      holds = body-holds h.lent.0 _ h.lent.1;
      placed = in_body h.lent.0 (λ m. (b : ℕ) × Stands m c.args.free.at b (run c.args.free.len) × (0 < c.args.need) × (c.args.need ≤ c.args.free.len)) h.placed;
    }

pub returns : goal.returns
returns c =
    let h = c.requires in
    body_back h.lent.0 _ (λ m. carve (record { page = c.args.free.at; size = c.args.free.len }) c.args.need (direct c.args.need c.args.group) m)
    (carve-total h.placed.1 c.args.need (direct c.args.need c.args.group) refl h.placed.2 h.placed.3) c.take_direct.ensures
