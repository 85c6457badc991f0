-- `give_back` meets its contract. Assumes nothing.
use Rattle.steps.proofs.Body.{has-pages, body-holds, in_body, body_back, release-total}
use mathlib.Core.Bool.{false}
use mathlib.Core.Path.{◌≡◌}
use Prim.Native.Nat.{◌*◌}
use Rattle.pages.specs.Places.{Stands, run_pages}
use Rattle.model.specs.Numbers.{page_bytes}
use Rattle.model.specs.Valid.{Apart}
use Rattle.model.specs.Pages.{release}
use Rattle.model.specs.Zone.{Zone}
use Rattle.model.specs.Arena.{Segment, pages}
use Rattle.steps.proofs.give_back.Goals as goal

pub give_back-requires : goal.give_back-requires
give_back-requires c =
    let h = c.requires in
    let l = h.lent.0 in
    let there = in_body l (λ m. (x : Segment Zone) × Stands m c.args.start.at c.args.start.before x × (pages x ≡ c.args.len) × (run_pages x ≡ 0)) h.stands in record {
      holds = body-holds l _ h.lent.1;
      apart = in_body l (λ m. Apart false m) h.apart;
      stands = there;
    }

pub returns : goal.returns
returns c =
    let h = c.requires in body_back h.lent.0 _ (λ m. release (c.args.start.at * page_bytes) m) (release-total h.stands.1 (has-pages h.lent.0 h.stands.1)) c.give_back.ensures
