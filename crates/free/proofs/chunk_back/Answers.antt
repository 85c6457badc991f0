-- `chunk_back` meets its contract. Assumes nothing.
use native.Mathlib.Omega.{arith}
use Rattle.free.proofs.Settled.{back-busy, back-only, back-gone}
use Rattle.free.proofs.Live.{live_here, live-class, chained-good, back-stands, back-here}
use Rattle.free.proofs.chunk_back.Goals as goal

pub zone_class-class-requires : goal.zone_class-class-requires
zone_class-class-requires c = let h = c.requires in (h.0.lent, live_here h.0 h.1)

pub zone_idle-requires : goal.zone_idle-requires
zone_idle-requires c =
    let h = c.requires in let e = c.chain_back.ensures in ((chained-good h.0 h.1 e).lent, back-here h.0 h.1 e)

pub returns-then-not-zone_idle : goal.returns-then-not-zone_idle
returns-then-not-zone_idle c =
    let h = c.requires in let b = back-busy h.0 h.1 c.chain_back.ensures _ c.zone_idle.ensures c.if-not-zone_idle.true in record { words_after = b.0; remains = b.1 }

pub list_count-requires : goal.list_count-requires
list_count-requires c =
    let h = c.requires in ((chained-good h.0 h.1 c.chain_back.ensures).lent, omega (arith, c.zone_class-class.ensures, live-class h.0 h.1))

pub returns-then-list_count-lt2 : goal.returns-then-list_count-lt2
returns-then-list_count-lt2 c =
    let h = c.requires in let b = back-only h.0 h.1 c.chain_back.ensures _ c.zone_class-class.ensures _ c.list_count.ensures c.if-list_count-lt2.true in record { words_after = b.0; remains = b.1 }

pub retire-requires : goal.retire-requires
retire-requires c =
    let h = c.requires in let e = c.chain_back.ensures in (chained-good h.0 h.1 e, (_, back-stands h.0 h.1 e, c.zone_class-class.ensures))

pub returns : goal.returns
returns c =
    let h = c.requires in
    let b = back-gone h.0 h.1 c.chain_back.ensures _ c.zone_idle.ensures c.if-not-zone_idle.false _ c.zone_class-class.ensures _ c.list_count.ensures c.if-list_count-lt2.false _ _ c.retire.ensures in
    record { words_after = b.0; remains = b.1 }
