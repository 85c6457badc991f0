-- `count_byte` meets its contract. The loop's invariant: the count is that of the bytes so far. Assumes nothing.
use Prim.Native.Nat.{ℕ, ◌<◌}
use mathlib.Core.List.{List}
use mathlib.Core.Path.{sym, ◌∙◌}
use native.Mathlib.Omega.{arith}
use lib.ListN.{length}
use borrow.Author.Tests.{eq-eqb, ne_eqb}
use Rattle.lemmas.specs.Times.{times}
use Rattle.lemmas.proofs.Every.{count-nil, count-pass, count-fail, count-done}
use Rattle.tally.proofs.count_byte.Goals as goal
use Rattle.tally.proofs.count_byte.Goals.{then-byte-group, else-byte-group}

pub loop-byte-init : goal.loop-byte-init
loop-byte-init c = (omega arith, sym (count-nil _))

pub loop-byte-preserved : goal.loop-byte-preserved
loop-byte-preserved c =
    let s : List ℕ = c.args.bytes.now in
    let i : ℕ = c.loop-byte.byte-index in
    let h : i < length s = omega arith in
    elim c.if-byte-group.branch [
      | then-byte-group w ↦ (omega arith, w.count-is ∙ count-pass _ s i 0 h (eq-eqb _ _ (sym w.if-byte-group.true)) c.loop-byte.invariant.1)
      | else-byte-group w ↦ (omega arith, w.count-is ∙ count-fail _ s i 0 h (ne_eqb _ _ (λ e. w.if-byte-group.false (sym e))) c.loop-byte.invariant.1)
    ]

pub returns : goal.returns
unfolding times
returns c = (count-done _ _ _ c.loop-byte-test.false c.loop-byte.invariant.1, omega arith)
