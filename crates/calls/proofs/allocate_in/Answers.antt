-- `allocate_in` meets its contract. Assumes nothing.
use native.Mathlib.Omega.{arith}
use Prim.Native.Nat.{◌-◌}
use mathlib.Core.Path.{◌≡◌, refl, sym, ap, subst, ◌∙◌}
use lib.Seq.{length-take-le}
use Rattle.std.specs.Prelude.{Err}
use Rattle.std.proofs.lemmas.Result.{err_from_is_err_and}
use Rattle.model.specs.Numbers.{figure_words}
use Rattle.model.specs.Calls.{request_answer}
use Rattle.model.specs.PageMap.{page_map}
use Rattle.model.specs.Holdings.{ceiling_of}
use Rattle.model.specs.Ceilings.{within}
use Rattle.model.specs.declared.Denial.{Denial}
use Rattle.model.specs.declared.Answer.TheVariants.{Denied}
use Rattle.account.specs.Decoding.{account_in}
use Rattle.account.proofs.Accounts.{has-figures, figures-are}
use Rattle.calls.specs.Arena.{Accepted}
use Rattle.calls.proofs.Acting.{arena-valid, arena-denied}
use Rattle.calls.proofs.Granting.{call, bad-group, bad-size, over-ceiling, within-needs, within-is}
use Rattle.calls.proofs.allocate_in.Goals as goal
use Rattle.calls.proofs.allocate_in.Goals.{After-within}

-- A refusal, as the answer tells it.
denied : {d e : Denial} → d ≡ e → Denied d.refusal d.looked ≡ Denied e.refusal e.looked
denied e = ap (λ d. Denied d.refusal d.looked) e

pub returns-in_err-group : goal.returns-in_err-group
returns-in_err-group c =
    let a = account_in c.args.meta.now in
    let p = err_from_is_err_and c.from_residual.result c.from_residual.ensures.1 in
    let k = arena-denied c.requires (call a c.args.group c.args.size) _ (bad-group a c.args.group c.args.size c.in_err-group.ensures.1) refl in
    record { value = ap request_answer (p.1 ∙ ap Err p.2) ∙ ap (λ k. Denied k 0) c.in_err-group.ensures.0 ∙ k.0; meta_after = k.1 }

pub returns-then-not-size_ok : goal.returns-then-not-size_ok
returns-then-not-size_ok c =
    let a = account_in c.args.meta.now in
    let d = denied c.from.ensures in
    let k = arena-denied c.requires (call a c.args.group c.args.size) _ (d ∙ bad-size a c.args.group c.args.size c.in_ok-group.ensures.1 (sym c.if-not-size_ok.ensures)) refl in
    record { value = k.0; meta_after = k.1 }

pub slice_bounds-within-end : goal.slice_bounds-within-end
slice_bounds-within-end c = omega (arith, has-figures c.args.meta.now c.requires.account)

pub slice_bounds-within-end-2 : goal.slice_bounds-within-end-2
slice_bounds-within-end-2 c = sym (length-take-le figure_words c.args.meta.now (omega (arith, has-figures c.args.meta.now c.requires.account)))

-- What the test of the ceiling is told.
pub within-requires : goal.within-requires
within-requires c =
    let words = figures-are c.args.meta.now c.requires.account in
    let k = within-needs (account_in c.args.meta.now) (arena-valid c.requires) c.args.group c.args.size c.in_ok-group.ensures.1 (sym c.if-not-size_ok.ensures) _ words _ (ap (λ k. k - 1) c.in_ok-group.ensures.0) _ c.room_for-room.ensures in
    record { long = k.0; bounded_bytes = k.1 }

within-told : (c : After-within) → c.within.result ≡ within (ceiling_of (account_in c.args.meta.now) c.args.group) c.args.group c.args.size (page_map (account_in c.args.meta.now).state)
within-told c =
    c.within.ensures
    ∙ within-is (account_in c.args.meta.now) (arena-valid c.requires) c.args.group c.args.size
    c.in_ok-group.ensures.1 (sym c.if-not-size_ok.ensures) _ (figures-are c.args.meta.now c.requires.account) _ (ap (λ k. k - 1) c.in_ok-group.ensures.0) _ c.room_for-room.ensures

pub returns-then-not-within : goal.returns-then-not-within
returns-then-not-within c =
    let a = account_in c.args.meta.now in
    let told = within-told (goal.at.returns-then-not-within c).After-within in
    let d = denied c.from-then-not-within.ensures in
    let over = over-ceiling a c.args.group c.args.size c.in_ok-group.ensures.1 (sym c.if-not-size_ok.ensures) (sym told ∙ c.if-not-within.true) in
    let k = arena-denied c.requires (call a c.args.group c.args.size) _ (d ∙ over) refl in
    record { value = k.0; meta_after = k.1 }

pub grant_in-requires-clause-arena : goal.grant_in-requires-clause-arena
grant_in-requires-clause-arena c =
    let told = within-told (goal.at.grant_in-requires-clause-arena c).After-within in
    let accepted : Accepted (account_in c.args.meta.now) c.args.group c.args.size = record { group = c.in_ok-group.ensures.1; size = sym c.if-not-size_ok.ensures; ceiling = sym told ∙ c.if-not-within.false } in
    (c.requires, subst (λ g. Accepted (account_in c.args.meta.now) g c.args.size) (sym c.in_ok-group.ensures.0) accepted)
