-- `call` meets its contract. Assumes nothing.
use mathlib.Core.Path.{◌∙◌}
use Rattle.model.specs.Calls.{group}
use Rattle.calls.proofs.Acting.{refused-answer, refused-words, arena-of, same-call}
use Rattle.calls.proofs.call.Goals as goal

pub returns-in_default : goal.returns-in_default
returns-in_default c =
    let none = c.in_default.ensures in record {
      value = c.no_state.ensures ∙ refused-answer _ none (group c.args.call);
      meta_after = refused-words _ none (group c.args.call);
    }

pub allocate_in-requires : goal.allocate_in-requires
allocate_in-requires c = arena-of _ _ c.in-Some.ensures

pub free_in-requires : goal.free_in-requires
free_in-requires c = arena-of _ _ c.in-Some.ensures

pub reset_in-requires : goal.reset_in-requires
reset_in-requires c = arena-of _ _ c.in-Some.ensures

pub returns-in-Allocate : goal.returns-in-Allocate
returns-in-Allocate c = let k = same-call _ c.args.call _ c.in-Allocate.is _ _ (c.from.ensures ∙ c.allocate_in.ensures.value, c.allocate_in.ensures.meta_after) in record { value = k.0; meta_after = k.1 }

pub returns-in-Free : goal.returns-in-Free
returns-in-Free c = let k = same-call _ c.args.call _ c.in-Free.is _ _ (c.from-in-Free.ensures ∙ c.free_in.ensures.value, c.free_in.ensures.meta_after) in record { value = k.0; meta_after = k.1 }

pub returns-in-Reset : goal.returns-in-Reset
returns-in-Reset c = let k = same-call _ c.args.call _ c.in-Reset.is _ _ (c.from-in-Reset.ensures ∙ c.reset_in.ensures.value, c.reset_in.ensures.meta_after) in record { value = k.0; meta_after = k.1 }
