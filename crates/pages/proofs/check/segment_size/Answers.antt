-- `check::segment_size` meets its contract. Assumes nothing.
use Rattle.pages.proofs.Legal.{tested, size-zone, size-other, size-zero, size-large, size-run, size-group, size-direct}
use Rattle.std.proofs.Common.{inl, inr}
use mathlib.Core.Path.{refl, sym, ◌∙◌}
use Rattle.pages.proofs.check.segment_size.Goals as goal

pub returns-then-kind-eq-KIND_ZONE : goal.returns-then-kind-eq-KIND_ZONE
returns-then-kind-eq-KIND_ZONE c = c.zone_size.ensures ∙ size-zone _ _ c.if-kind-eq-KIND_ZONE.true

pub returns-then-len-eq0 : goal.returns-then-len-eq0
returns-then-len-eq0 c = elim c.then-len-eq0.either [
  | inl zero ↦ size-zero _ _ c.if-kind-eq-KIND_ZONE.false zero
  | inr some ↦ size-large _ _ c.if-kind-eq-KIND_ZONE.false some.1
]

pub returns-then-kind-eq-KIND_RUN : goal.returns-then-kind-eq-KIND_RUN
returns-then-kind-eq-KIND_RUN c =
    tested 2 c.args.words.now _ _ _ c.pages_if.ensures refl c.is_zero.ensures ∙ size-run _ _ c.if-len-eq0.false
    c.if-left-len.false c.if-kind-eq-KIND_RUN.true

pub returns-then-kind-ne-KIND_DIRECT : goal.returns-then-kind-ne-KIND_DIRECT
returns-then-kind-ne-KIND_DIRECT c =
    size-other _ _ c.if-kind-eq-KIND_ZONE.false c.if-kind-eq-KIND_RUN.false c.if-kind-ne-KIND_DIRECT.true

pub returns-then-not-group_ok : goal.returns-then-not-group_ok
returns-then-not-group_ok c =
    size-group _ _ c.if-len-eq0.false c.if-left-len.false c.if-kind-ne-KIND_DIRECT.false (sym c.group_ok.ensures ∙ c.if-not-group_ok.true)

pub returns : goal.returns
returns c =
    tested 3 c.args.words.now _ _ _ c.pages_if-2.ensures refl c.is_zero-2.ensures ∙ size-direct _ _ c.if-len-eq0.false
    c.if-left-len.false c.if-kind-ne-KIND_DIRECT.false (sym c.group_ok.ensures ∙ c.if-not-group_ok.false)
