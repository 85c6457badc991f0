-- `grant_in` meets its contract. Assumes nothing.
use mathlib.Core.Path.{◌≡◌, refl, ap, ◌∙◌}
use mathlib.Core.Bool.{false}
use Prim.Native.Nat.{ℕ, ◌-◌}
use Rattle.std.specs.Prelude.{Err}
use Rattle.std.proofs.lemmas.Result.{err_from_is_err_and}
use Rattle.lemmas.specs.Parts.{mid}
use Rattle.model.specs.Numbers.{figure_words}
use Rattle.model.specs.declared.Operation.TheVariants.{Allocate}
use Rattle.model.specs.Calls.{Action, group, is_refused, request_answer}
use Rattle.model.specs.Allocate.{supplied}
use Rattle.metadata.specs.Encoding.{encode}
use Rattle.metadata.specs.Decoding.{decode}
use Rattle.account.specs.Decoding.{account_in}
use Rattle.calls.proofs.Acting.{arena-few, arena-valid, arena-inside, arena-good, arena-told, figures-there, figures-count, arena-refuses, arena-serves}
use Rattle.calls.proofs.Granting.{supply-is, grant-needs, grant-done}
use Rattle.calls.proofs.grant_in.Goals as goal
use Rattle.calls.proofs.grant_in.Goals.{In_ok-grant}

-- What is asked.
abbrev call : ℕ → ℕ → Action
call g n = group (record { group = g; operation = Allocate n })

-- The words that it left. They are asked for before the answer.
left : (c : In_ok-grant) → c.supply.new.words ≡ encode (supplied c.args.group.number c.args.size (decode (mid figure_words (c.words_for-e.result - figure_words) c.args.meta.now))).after
left c = c.in_ok-grant.ensures.1

-- It was not refused.
done : (c : In_ok-grant) → is_refused (supplied c.args.group.number c.args.size (account_in c.args.meta.now).state).answer ≡ false
done c = arena-told c.requires.arena.0 _ c.words_for-e.ensures (supplied c.args.group.number c.args.size) c.in_ok-grant.ensures.0

pub words_for-e-requires : goal.words_for-e-requires
words_for-e-requires c = arena-few c.requires.arena.0

pub slice_bounds-supply-end : goal.slice_bounds-supply-end
slice_bounds-supply-end c = arena-inside c.requires.arena.0 _ c.words_for-e.ensures

pub supply-requires-clause-good : goal.supply-requires-clause-good
supply-requires-clause-good c = arena-good c.requires.arena.0 _ c.words_for-e.ensures

pub returns-in_err-grant : goal.returns-in_err-grant
returns-in_err-grant c =
    let h = c.requires.arena in
    let p = err_from_is_err_and c.from_residual.result c.from_residual.ensures.1 in
    let k = arena-refuses h.0 _ c.words_for-e.ensures (call c.args.group.number c.args.size) (supplied c.args.group.number c.args.size) (supply-is _ _ _ h.1) c.in_err-grant.ensures refl in
    record { value = ap request_answer (p.1 ∙ ap Err p.2) ∙ k.0; meta_after = k.1 }

pub slice_bounds-add-end-2 : goal.slice_bounds-add-end-2
slice_bounds-add-end-2 c = figures-count c.requires.arena.0 _ c.words_for-e.ensures c.supply.new.words

pub add-requires : goal.add-requires
add-requires c =
    let h = c.requires.arena in
    let yes = done (goal.at.add-requires c).In_ok-grant in
    let k = grant-needs _ (arena-valid h.0) c.args.group.number c.args.size h.1 yes _ (figures-there h.0 _ c.words_for-e.ensures _) _ refl _ c.requires.size_told.1 in
    record { long = k.0; bounded_bytes = k.1 }

pub returns : goal.returns
returns c =
    let h = c.requires.arena in
    let yes = done (goal.at.returns c).In_ok-grant in
    let figures = grant-done _ (arena-valid h.0) c.args.group.number c.args.size h.1 yes _ (figures-there h.0 _ c.words_for-e.ensures c.supply.new.words) _ refl _ c.requires.size_told.1 _ c.add.ensures in
    let k = arena-serves h.0 _ c.words_for-e.ensures (call c.args.group.number c.args.size) (supplied c.args.group.number c.args.size) (supply-is _ _ _ h.1) (c.in_ok-grant.ensures.0, left (goal.at.returns c).In_ok-grant) figures in
    record { value = k.0; meta_after = k.1 }
