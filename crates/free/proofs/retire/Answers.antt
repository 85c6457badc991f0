-- `retire` meets its contract. Assumes nothing.
use native.Mathlib.Omega.{arith}
use Prim.Native.Nat.{◌<◌}
use lib.ListN.{length}
use Rattle.model.specs.Numbers.{most_spare}
use Rattle.metadata.specs.Decoding.{decode}
use Rattle.free.proofs.Retired.{zone-page, zone-class, off-lent, off-count, off-room, off-spared, off-stands, off-apart, off-total, off-released}
use Rattle.free.proofs.retire.Goals as goal

pub overflow_cast-start : goal.overflow_cast-start
overflow_cast-start c = let h = c.requires in omega (arith, zone-page h.0 h.1.0 h.1.1 h.1.2)

pub list_without-requires : goal.list_without-requires
list_without-requires c = let h = c.requires in record {
  lent = h.0.lent;
  in_range = (zone-class h.0 h.1.0 h.1.1 h.1.2, zone-page h.0 h.1.0 h.1.1 h.1.2);
}

pub spare_count-requires : goal.spare_count-requires
spare_count-requires c =
    let h = c.requires in off-lent h.0 h.1.0 h.1.1 h.1.2 c.list_without.ensures

pub overflow_cast-start-then-spare_count-lt-MOST_SPARE : goal.overflow_cast-start-then-spare_count-lt-MOST_SPARE
overflow_cast-start-then-spare_count-lt-MOST_SPARE c =
    let h = c.requires in omega (arith, zone-page h.0 h.1.0 h.1.1 h.1.2)

pub spare_front-requires : goal.spare_front-requires
spare_front-requires c =
    let h = c.requires in
    let e = c.list_without.ensures in
    let few : length (decode c.args.words.now).spare < most_spare = omega (arith, off-count h.0 h.1.0 h.1.1 h.1.2 e _ c.spare_count.ensures, c.if-spare_count-lt-MOST_SPARE.true) in record {
      lent = off-lent h.0 h.1.0 h.1.1 h.1.2 e;
      in_range = (zone-page h.0 h.1.0 h.1.1 h.1.2, off-room h.0 h.1.0 h.1.1 h.1.2 e few);
    }

pub returns-then-spare_count-lt-MOST_SPARE : goal.returns-then-spare_count-lt-MOST_SPARE
returns-then-spare_count-lt-MOST_SPARE c =
    let h = c.requires in
    let e = c.list_without.ensures in
    off-spared h.0 h.1.0 h.1.1 h.1.2 e (omega (arith, off-count h.0 h.1.0 h.1.1 h.1.2 e _ c.spare_count.ensures, c.if-spare_count-lt-MOST_SPARE.true)) _
    c.spare_front.ensures

pub give_back-requires : goal.give_back-requires
give_back-requires c =
    let h = c.requires in
    let e = c.list_without.ensures in record {
      lent = (off-lent h.0 h.1.0 h.1.1 h.1.2 e, off-total h.0 h.1.0 h.1.1 h.1.2 e);
      apart = off-apart h.0 h.1.0 h.1.1 h.1.2 e;
      stands = off-stands h.0 h.1.0 h.1.1 h.1.2 e;
    }

pub returns : goal.returns
returns c =
    let h = c.requires in
    let e = c.list_without.ensures in
    off-released h.0 h.1.0 h.1.1 h.1.2 e (omega (arith, off-count h.0 h.1.0 h.1.1 h.1.2 e _ c.spare_count.ensures, c.if-spare_count-lt-MOST_SPARE.false)) _
    c.give_back.ensures
