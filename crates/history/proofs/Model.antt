-- Demand 3 about the rules themselves: the words are what the rules see of them. And its hypotheses can be met: a stretch that
-- takes a direct block and a chunk of a new zone and gives both back, with refused calls between; in which ceilings are set to what they
-- are, settings are refused, and one ceiling is lowered and set back. Assumes nothing.
use Prim.Native.Nat.{ℕ}
use mathlib.Core.Path.{◌≡◌, refl}
use mathlib.Core.List.{[], ◌∷◌}
use mathlib.Core.Option.{none}
use lib.Dec.{eqb}
use borrow.Author.Tests.{ne_eqb}
use Rattle.lemmas.proofs.Cases.{bool, by-eq}
use Rattle.lemmas.specs.Keep.{keep}
use Rattle.lemmas.specs.Every.{count}
use Rattle.lemmas.specs.Times.{times, remove}
use Rattle.model.specs.Numbers.{zone_bytes}
use Rattle.model.specs.declared.Operation.{Operation}
use Rattle.model.specs.declared.Operation.TheVariants.{Allocate, Free, Reset}
use Rattle.model.specs.declared.Answer.{Answer}
use Rattle.model.specs.Sizes.{step, rounded, class_of, room, chunks}
use Rattle.model.specs.Pages.{claim}
use Rattle.model.specs.Allocate.{sought}
use Rattle.model.specs.Calls.{trim, query, ceiling, Command, init, act}
use Rattle.model.specs.Perform.{Metadata, perform}
use Rattle.history.specs.Demand.{History, after_all, begun, SameCeilings, asks, Demand3}
use Rattle.history.proofs.Theorem.{demand-3}

abbrev self : Metadata → Metadata
self m = m

abbrev leaves : Metadata → Command → Metadata
leaves m c = (perform m c).after

abbrev says : Metadata → Command → Answer
says m c = (perform m c).answer

pub rules-demand-3 : Demand3 Metadata self leaves says
rules-demand-3 = demand-3 Metadata self leaves says (λ b c. refl) (λ b c. refl)

abbrev ask : ℕ → Operation → Command
ask = asks Metadata self leaves says

pub at_split : History Metadata self leaves says
at_split = after_all Metadata self leaves says (begun Metadata self leaves says (record { words = 13568; account = none }) 24) (act (ceiling 4 9000) ∷ ask 1 (Allocate 100) ∷ [])

pub at-end : History Metadata self leaves says
at-end = after_all Metadata self leaves says at_split (ask 2 (Allocate 9000) ∷ ask 3 (Allocate 8000) ∷ init 300 ∷ ask 4 (Free zone_bytes) ∷ ask 2 (Free zone_bytes) ∷ act (query 0) ∷ ask 3 Reset ∷ act trim
    ∷ act (ceiling 4 9000) ∷ act (ceiling 13 0) ∷ act (ceiling 4 1048577) ∷ act (ceiling 1 0) ∷ ask 1 (Allocate 8192) ∷ act (ceiling 1 1048576) ∷ [])

pub can-be-met : (at_split.live ≡ record { serial = 2; offset = 0; group = 1; room = 104 } ∷ []) × (at-end.live ≡ record { serial = 2; offset = 0; group = 1; room = 104 } ∷ [])
unfolding step rounded class_of room chunks claim sought keep remove times count at_split at-end
can-be-met = (refl, refl)

-- Every ceiling is at the end what it was at the split point; group 4's is 9,000.
pub same-ceilings : (at_split.ceiling 4 ≡ 9000) × SameCeilings Metadata self leaves says at_split at-end
unfolding step rounded class_of room chunks claim sought keep remove times count at_split at-end
same-ceilings = (refl, λ g _. by-eq g 1 (λ e. rw e refl) (λ e. rw (ne_eqb g 1 e) (bool (eqb g 4) (λ t. rw t) (λ t. rw t))))
