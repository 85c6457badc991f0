-- What a call answers and leaves, by an equation with its rule. Assumes nothing.
use mathlib.Core.Path.{◌≡◌, sym, ap, ◌∙◌}
use mathlib.Core.List.{List}
use Prim.Native.Nat.{ℕ}
use Rattle.model.specs.declared.Answer.{Answer}
use Rattle.model.specs.State.{State}
use Rattle.model.specs.Calls.{Outcome, answers}
use Rattle.metadata.specs.Encoding.{encode}
use Rattle.steps.specs.Outcomes.{Makes}

pub by-rule : {u : List ℕ} (r : Outcome State) (t : State) (a : Answer) → r ≡ answers t a → u ≡ encode t → Makes r a u
by-rule {u} r t a e f = (ap (λ k. k.answer) (sym e), f ∙ ap (λ k. encode k.after) (sym e))
