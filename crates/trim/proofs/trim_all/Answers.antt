-- `trim_all` meets its contract. Assumes nothing.
use Rattle.trim.proofs.Trimming.{trim_start, stands, trim-inside, between, trim-bound, trim-given, trim-past, trim_end}
use mathlib.Core.Path.{sym, ◌∙◌}
use native.Mathlib.Omega.{arith}
use Rattle.trim.proofs.trim_all.Goals as goal

pub loop-at-init : goal.loop-at-init
loop-at-init c = trim_start c.requires c.spare_none.ensures

pub idle_at-requires : goal.idle_at-requires
idle_at-requires c = let i = c.loop-at.invariant in record {
  lent = i.lent;
  placed = (_, _, stands i c.loop-at-test.true);
}

pub give_zone-len-requires : goal.give_zone-len-requires
give_zone-len-requires c =
    let i = c.loop-at.invariant in
    let h = c.loop-at-test.true in record {
      lent = (i.lent, i.sweep.size);
      apart = i.sweep.apart;
      placed = (_, _, between i h (sym (c.idle_at.ensures _ _ (stands i h)) ∙ c.if-idle_at.true));
    }

pub overflow_add-at : goal.overflow_add-at
overflow_add-at c =
    let i = c.loop-at.invariant in
    let h = c.loop-at-test.true in
    let f = sym (c.idle_at.ensures _ _ (stands i h)) ∙ c.if-idle_at.true in
    omega (arith, trim-bound i h f, c.give_zone-len.ensures _ _ (between i h f))

pub loop-at-smaller-then-idle_at : goal.loop-at-smaller-then-idle_at
loop-at-smaller-then-idle_at c =
    let i = c.loop-at.invariant in
    let h = c.loop-at-test.true in
    let f = sym (c.idle_at.ensures _ _ (stands i h)) ∙ c.if-idle_at.true in
    omega (arith, trim-bound i h f, c.give_zone-len.ensures _ _ (between i h f))

pub loop-at-preserved-then-idle_at : goal.loop-at-preserved-then-idle_at
loop-at-preserved-then-idle_at c =
    let i = c.loop-at.invariant in
    let h = c.loop-at-test.true in
    let f = sym (c.idle_at.ensures _ _ (stands i h)) ∙ c.if-idle_at.true in
    trim-given i h f _ _ (c.give_zone-len.ensures _ _ (between i h f))

pub size_at-len-requires : goal.size_at-len-requires
size_at-len-requires c =
    let i = c.loop-at.invariant in record {
      lent = (i.lent, i.sweep.size);
      placed = (_, _, stands i c.loop-at-test.true);
    }

pub run_at-before-requires : goal.run_at-before-requires
run_at-before-requires c =
    let i = c.loop-at.invariant in record {
      lent = (i.lent, i.sweep.size);
      placed = (_, _, stands i c.loop-at-test.true);
    }

pub overflow_add-at-in-loop-at : goal.overflow_add-at-in-loop-at
overflow_add-at-in-loop-at c =
    let i = c.loop-at.invariant in
    let h = c.loop-at-test.true in
    omega (arith, trim-inside i h, c.size_at-len.ensures _ _ (stands i h), i.most)

pub loop-at-smaller : goal.loop-at-smaller
loop-at-smaller c =
    let i = c.loop-at.invariant in
    let h = c.loop-at-test.true in
    omega (arith, trim-inside i h, c.size_at-len.ensures _ _ (stands i h))

pub loop-at-preserved : goal.loop-at-preserved
loop-at-preserved c =
    let i = c.loop-at.invariant in
    let h = c.loop-at-test.true in
    let s = stands i h in
    trim-past i h (sym (c.idle_at.ensures _ _ s) ∙ c.if-idle_at.false) _ _ (c.size_at-len.ensures _ _ s) (c.run_at-before.ensures _ _ s)

pub returns : goal.returns
returns c = trim_end c.requires c.spare_none.ensures c.loop-at.invariant c.loop-at-test.false
