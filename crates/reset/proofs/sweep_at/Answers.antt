-- `sweep_at` meets its contract. Assumes nothing.
use denote.Enum.Bare.{same_true, same_false}
use native.Mathlib.Omega.{arith}
use mathlib.Core.Path.{refl, sym, ap, ◌∙◌}
use Rattle.pages.specs.contracts.Kind.{the_type}
use Rattle.pages.specs.Places.{kind_in}
use Rattle.reset.proofs.Steps.{step-zone, step-direct, step-stands, step-past, step-on, step-inside}
use Rattle.reset.proofs.Sweeps.{here, here-stands}
use Rattle.reset.proofs.sweep_at.Goals as goal
use Rattle.reset.proofs.sweep_at.Goals.{else-eq-2-via-then-eq-2+else-group_at-group, else-eq-2-via-else-eq-2}

pub kind_at-kind-requires-clause-placed : goal.kind_at-kind-requires-clause-placed
kind_at-kind-requires-clause-placed c = let h = c.requires in let S = h.1.3 in (_, _, here-stands S (here S h.0))

pub sweep_zone-requires : goal.sweep_zone-requires
sweep_zone-requires c =
    let h = c.requires in
    let S = h.1.3 in
    let H = here S h.0 in
    (_, _, _, step-zone S H (sym (c.kind_at-kind.ensures _ _ (here-stands S H)) ∙ same_true the_type tt _ _ (sym c.if-eq.ensures)))

pub returns-then-eq : goal.returns-then-eq
returns-then-eq c =
    let h = c.requires in (
      λ t x k i. let H = here i h.0 in
          c.sweep_zone.ensures.0 t x k (step-zone i H (sym (c.kind_at-kind.ensures _ _ (here-stands i H)) ∙ same_true the_type tt _ _ (sym c.if-eq.ensures))),
      c.sweep_zone.ensures.1,
    )

pub size_at-len-requires-clause-placed : goal.size_at-len-requires-clause-placed
size_at-len-requires-clause-placed c = let h = c.requires in let S = h.1.3 in (_, _, here-stands S (here S h.0))

pub group_at-requires-clause-placed : goal.group_at-requires-clause-placed
group_at-requires-clause-placed c =
    let h = c.requires in
    let S = h.1.3 in
    let H = here S h.0 in
    let d = step-direct S H (sym (c.kind_at-kind.ensures _ _ (here-stands S H)) ∙ same_true the_type tt _ _ (sym c.if-eq-2.ensures)) in (_, _, _, step-stands S H _ _ _ refl d.1 refl)

pub sweep_direct-requires : goal.sweep_direct-requires
sweep_direct-requires c =
    let h = c.requires in
    let S = h.1.3 in
    let H = here S h.0 in
    let d = step-direct S H (sym (c.kind_at-kind.ensures _ _ (here-stands S H)) ∙ same_true the_type tt _ _ (sym c.if-eq-2.ensures)) in
    (S.good, step-stands S H _ _ _ (c.size_at-len.ensures _ _ (here-stands S H)) d.1 (sym (c.group_at.ensures _ _ _ (step-stands S H _ _ _ refl d.1 refl)) ∙ c.if-group_at-group.true))

pub overflow_add-next : goal.overflow_add-next
overflow_add-next c =
    let h = c.requires in let S = h.1.3 in let H = here S h.0 in let r = step-inside S H in omega (arith, c.size_at-len.ensures _ _ (here-stands S H))

pub returns : goal.returns
returns c =
    let h = c.requires in
    let S = h.1.3 in
    let H = here S h.0 in (
      λ t x k i. let G = here i h.0 in
          let e = c.kind_at-kind.ensures _ _ (here-stands i G) in
          step-past i G _ _ _ _ e (c.size_at-len.ensures _ _ (here-stands i G)) refl c.run_len.ensures (same_false the_type _ _ (sym c.if-eq.ensures))
          (λ y is mine. elim c.else-eq-2.branch [
            | else-eq-2-via-then-eq-2+else-group_at-group b ↦ b.if-group_at-group.false (b.group_at.ensures _ _ _ (step-stands i G _ _ _ refl is refl) ∙ mine)
            | else-eq-2-via-else-eq-2 b ↦ same_false the_type _ _ (sym b.if-eq-2.ensures) (e ∙ ap kind_in is)
          ]),
      step-on S H _ _ (c.size_at-len.ensures _ _ (here-stands S H)) refl,
    )
