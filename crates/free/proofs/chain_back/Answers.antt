-- `chain_back` meets its contract. Assumes nothing.
use native.Mathlib.Omega.{arith}
use mathlib.Core.Path.{sym, ◌∙◌}
use Rattle.free.proofs.Live.{live_here, live-owner, live-class, live-page, mid-lent, mid-room, mid-front}
use Rattle.free.proofs.chain_back.Goals as goal

pub zone_full-full-requires : goal.zone_full-full-requires
zone_full-full-requires c = let h = c.requires in (h.0.lent, live_here h.0 h.1)

pub zone_class-class-requires : goal.zone_class-class-requires
zone_class-class-requires c =
    let h = c.requires in (h.0.lent, live_here h.0 h.1)

pub zone_put_back-requires : goal.zone_put_back-requires
zone_put_back-requires c =
    let h = c.requires in (h.0.lent, live_here h.0 h.1, live-owner h.0 h.1)

pub overflow_cast-start : goal.overflow_cast-start
overflow_cast-start c =
    let h = c.requires in omega (arith, live-page h.0 h.1)

pub list_front-requires : goal.list_front-requires
list_front-requires c =
    let h = c.requires in
    let e = c.zone_put_back.ensures in record {
      lent = mid-lent h.0 h.1 e;
      in_range = (omega (arith, c.zone_class-class.ensures, live-class h.0 h.1), live-page h.0 h.1, mid-room h.0 h.1 e (sym c.zone_full-full.ensures ∙ c.if-full.true));
    }

pub returns-then-full : goal.returns-then-full
returns-then-full c =
    let h = c.requires in mid-front h.0 h.1 c.zone_put_back.ensures (sym c.zone_full-full.ensures ∙ c.if-full.true) _ c.zone_class-class.ensures _ c.list_front.ensures

pub zone_put_back-requires-2 : goal.zone_put_back-requires-2
zone_put_back-requires-2 c =
    let h = c.requires in (h.0.lent, live_here h.0 h.1, live-owner h.0 h.1)
