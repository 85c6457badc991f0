-- `slots::survey` meets its contract. Assumes nothing.
use Prim.Native.Nat.{ℕ}
use mathlib.Core.List.{List}
use mathlib.Core.Path.{sym, ◌∙◌}
use native.Mathlib.Omega.{arith}
use Rattle.lemmas.proofs.Every.{every-nil, count-nil, count-pass, count-fail}
use Rattle.lemmas.proofs.Bits.{or-below-more}
use Rattle.zone.specs.Decoding.{is_live, is_bare, is_near}
use Rattle.zone.proofs.slots.survey.Goals as goal
use Rattle.zone.proofs.slots.survey.Goals.{then-is_live, else-is_live}

pub loop-slot-init : goal.loop-slot-init
loop-slot-init c = (omega arith, sym (count-nil is_live), sym (every-nil is_bare), sym (every-nil is_near))

pub loop-slot-preserved : goal.loop-slot-preserved
loop-slot-preserved c =
    let s : List ℕ = c.args.slots.now in
    let turn = c.loop-slot in
    let h = c.loop-slot-test.true in
    let was = turn.invariant in
    let found = sym c.is_live.ensures in (
      elim c.if-is_live.branch [ then-is_live w ↦ omega arith | else-is_live w ↦ omega arith ],
      elim c.if-is_live.branch [
        | then-is_live w ↦ w.live-is ∙ count-pass is_live s turn.slot-index 0 h (found ∙ w.if-is_live.true) was.1
        | else-is_live w ↦ w.live-is ∙ count-fail is_live s turn.slot-index 0 h (found ∙ w.if-is_live.false) was.1
      ],
      or-below-more 16 s turn.slot-index turn.seen h was.2,
      or-below-more 28 s turn.slot-index turn.seen h was.3,
    )
