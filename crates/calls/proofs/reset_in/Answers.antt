-- `reset_in` meets its contract. Assumes nothing.
use mathlib.Core.Path.{◌≡◌, refl, sym, ap, ◌∙◌}
use mathlib.Core.Bool.{false}
use Prim.Native.Nat.{ℕ, ◌-◌}
use Rattle.std.specs.Prelude.{Err}
use Rattle.std.proofs.lemmas.Result.{err_from_is_err_and}
use Rattle.lemmas.specs.Parts.{mid}
use Rattle.model.specs.Numbers.{figure_words}
use Rattle.model.specs.declared.Operation.TheVariants.{Reset}
use Rattle.model.specs.declared.Refusal.TheVariants.{BadGroup}
use Rattle.model.specs.declared.Answer.TheVariants.{Refused}
use Rattle.model.specs.Calls.{Action, group, is_refused, count_answer}
use Rattle.model.specs.Free.{reset}
use Rattle.metadata.specs.Encoding.{encode}
use Rattle.metadata.specs.Decoding.{decode}
use Rattle.account.specs.Decoding.{account_in}
use Rattle.calls.proofs.Acting.{arena-denied, arena-few, arena-valid, arena-inside, arena-good, arena-told, figures-there, figures-count, arena-serves}
use Rattle.calls.proofs.Resetting.{reset-done}
use Rattle.calls.proofs.reset_in.Goals as goal
use Rattle.calls.proofs.reset_in.Goals.{In_ok-count}

-- What is asked.
abbrev call : ℕ → Action
call g = group (record { group = g; operation = Reset })

-- The words that it left. They are asked for before the answer.
left : (c : In_ok-count) → c.reset.new.words ≡ encode (reset c.args.group (decode (mid figure_words (c.words_for-e.result - figure_words) c.args.meta.now))).after
left c = c.in_ok-count.ensures.1

-- It was not refused.
done : (c : In_ok-count) → is_refused (reset c.args.group (account_in c.args.meta.now).state).answer ≡ false
done c = arena-told c.requires _ c.words_for-e.ensures (reset c.args.group) c.in_ok-count.ensures.0

pub returns-in_err-asker : goal.returns-in_err-asker
returns-in_err-asker c =
    let p = err_from_is_err_and c.from_residual.result c.from_residual.ensures.1 in
    let k = arena-denied c.requires (call c.args.group) (Refused BadGroup) (rw c.in_err-asker.ensures.1) refl in
    record { value = ap count_answer (p.1 ∙ ap Err (p.2 ∙ c.in_err-asker.ensures.0)) ∙ k.0; meta_after = k.1 }

pub words_for-e-requires : goal.words_for-e-requires
words_for-e-requires c = arena-few c.requires

pub slice_bounds-reset-end : goal.slice_bounds-reset-end
slice_bounds-reset-end c = arena-inside c.requires _ c.words_for-e.ensures

pub reset-requires : goal.reset-requires
reset-requires c = arena-good c.requires _ c.words_for-e.ensures

pub slice_bounds-clear-end-2 : goal.slice_bounds-clear-end-2
slice_bounds-clear-end-2 c = figures-count c.requires _ c.words_for-e.ensures c.reset.new.words

pub clear-requires : goal.clear-requires
clear-requires c = sym (figures-count c.requires _ c.words_for-e.ensures c.reset.new.words)

pub returns : goal.returns
returns c =
    let yes = done (goal.at.returns c).In_ok-count in
    let figures = reset-done _ (arena-valid c.requires) c.args.group yes _ (figures-there c.requires _ c.words_for-e.ensures c.reset.new.words) _ (ap (λ k. k - 1) c.in_ok-asker.ensures.0) _ c.clear.ensures in
    let k = arena-serves c.requires _ c.words_for-e.ensures (call c.args.group) (reset c.args.group) refl (c.in_ok-count.ensures.0, left (goal.at.returns c).In_ok-count) figures in
    record { value = k.0; meta_after = k.1 }
