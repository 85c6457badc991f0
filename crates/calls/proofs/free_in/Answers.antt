-- `free_in` meets its contract. (That a block that came back was told of, the check finds alone.) Assumes nothing.
use mathlib.Core.Path.{◌≡◌, refl, ap, ◌∙◌}
use mathlib.Core.Bool.{false}
use Prim.Native.Nat.{ℕ, ◌-◌}
use Rattle.std.specs.Prelude.{Err}
use Rattle.std.proofs.lemmas.Result.{err_from_is_err_and}
use Rattle.lemmas.specs.Parts.{mid}
use Rattle.model.specs.Numbers.{figure_words}
use Rattle.model.specs.declared.Operation.TheVariants.{Free}
use Rattle.model.specs.declared.Refusal.TheVariants.{BadGroup}
use Rattle.model.specs.declared.Answer.TheVariants.{Refused}
use Rattle.model.specs.PageMap.{page_map, block_at}
use Rattle.model.specs.Trim.{described}
use Rattle.model.specs.Calls.{Action, group, is_refused, plain_answer}
use Rattle.model.specs.Free.{free}
use Rattle.metadata.specs.Encoding.{encode}
use Rattle.metadata.specs.Decoding.{decode}
use Rattle.account.specs.Decoding.{account_in}
use Rattle.calls.proofs.Acting.{arena-denied, arena-few, arena-valid, arena-inside, arena-good, arena-told, figures-there, figures-count, arena-refuses, arena-serves, told-room}
use Rattle.calls.proofs.Returning.{room_told, return-needs, return-done}
use Rattle.calls.proofs.free_in.Goals as goal
use Rattle.calls.proofs.free_in.Goals.{In_ok-free, In_ok-told}

-- What is asked.
abbrev call : ℕ → ℕ → Action
call g o = group (record { group = g; operation = Free o })

-- The words that it left. They are asked for before the answer.
left : (c : In_ok-free) → c.free.new.words ≡ encode (free c.args.group c.args.offset (decode (mid figure_words (c.words_for-e.result - figure_words) c.args.meta.now))).after
left c = c.in_ok-free.ensures.1

-- It was not refused.
done : (c : In_ok-free) → is_refused (free c.args.group c.args.offset (account_in c.args.meta.now).state).answer ≡ false
done c = arena-told c.requires _ c.words_for-e.ensures (free c.args.group c.args.offset) c.in_ok-free.ensures.0

-- The room that was told before the block came back.
told : (c : In_ok-told) → c.in_ok-told.field-0.room ≡ room_told (described (block_at (page_map (account_in c.args.meta.now).state) c.args.offset))
told c = told-room c.requires _ c.words_for-e.ensures _ _ c.in_ok-told.ensures

pub returns-in_err-asker : goal.returns-in_err-asker
returns-in_err-asker c =
    let p = err_from_is_err_and c.from_residual.result c.from_residual.ensures.1 in
    let k = arena-denied c.requires (call c.args.group c.args.offset) (Refused BadGroup) (rw c.in_err-asker.ensures.1) refl in
    record { value = ap plain_answer (p.1 ∙ ap Err (p.2 ∙ c.in_err-asker.ensures.0)) ∙ k.0; meta_after = k.1 }

pub words_for-e-requires : goal.words_for-e-requires
words_for-e-requires c = arena-few c.requires

pub slice_bounds-describe-end : goal.slice_bounds-describe-end
slice_bounds-describe-end c = arena-inside c.requires _ c.words_for-e.ensures

pub describe-told-requires : goal.describe-told-requires
describe-told-requires c = arena-good c.requires _ c.words_for-e.ensures

pub slice_bounds-free-end : goal.slice_bounds-free-end
slice_bounds-free-end c = arena-inside c.requires _ c.words_for-e.ensures

pub free-requires : goal.free-requires
free-requires c = arena-good c.requires _ c.words_for-e.ensures

pub returns-in_err-free : goal.returns-in_err-free
returns-in_err-free c =
    let p = err_from_is_err_and c.from_residual-in_err-free.result c.from_residual-in_err-free.ensures.1 in
    let k = arena-refuses c.requires _ c.words_for-e.ensures (call c.args.group c.args.offset) (free c.args.group c.args.offset) refl c.in_err-free.ensures refl in
    record { value = ap plain_answer (p.1 ∙ ap Err p.2) ∙ k.0; meta_after = k.1 }

pub slice_bounds-meta-end-2 : goal.slice_bounds-meta-end-2
slice_bounds-meta-end-2 c = figures-count c.requires _ c.words_for-e.ensures c.free.new.words

pub take-requires : goal.take-requires
take-requires c =
    let yes = done (goal.at.take-requires c).In_ok-free in
    let k = return-needs _ (arena-valid c.requires) c.args.group c.args.offset yes _ (figures-there c.requires _ c.words_for-e.ensures _) _ (ap (λ k. k - 1) c.in_ok-asker.ensures.0) _ (told c) in
    record { long = k.0; holds_block = k.1 }

pub returns : goal.returns
returns c =
    let yes = done (goal.at.returns c).In_ok-free in
    let room = told (goal.at.returns c).In_ok-told in
    let figures = return-done _ (arena-valid c.requires) c.args.group c.args.offset yes _ (figures-there c.requires _ c.words_for-e.ensures c.free.new.words) _ (ap (λ k. k - 1) c.in_ok-asker.ensures.0) _ room _ c.take.ensures in
    let k = arena-serves c.requires _ c.words_for-e.ensures (call c.args.group c.args.offset) (free c.args.group c.args.offset) refl (c.in_ok-free.ensures.0, left (goal.at.returns c).In_ok-free) figures in
    record { value = k.0; meta_after = k.1 }
