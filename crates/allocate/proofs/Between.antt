-- Words between the steps of one call: the state need not be valid there, but its segments are those of the state that the call
-- makes, and its lists fit a header. So the next step may be taken. Assumes nothing.
use Prim.Native.Nat.{ℕ}
use mathlib.Core.Path.{◌≡◌, ap, ◌∙◌}
use mathlib.Core.Bool.{false}
use mathlib.Core.List.{List}
use Rattle.model.specs.State.{State}
use Rattle.model.specs.Valid.{Valid}
use Rattle.header.specs.Encoding.{Fits}
use Rattle.metadata.specs.Encoding.{encode}
use Rattle.metadata.specs.Decoding.{decode}
use Rattle.metadata.proofs.States.{all-writable}
use Rattle.steps.specs.Lent.{Encodes}
use Rattle.steps.specs.Moves.{laid}
use Rattle.steps.proofs.Lent.{lent-decoded}

-- A step on the words of a state leaves the words of the state that the step makes.
pub follows : {w w' : List ℕ} {s : State} (f : State → State) → Encodes w s → w' ≡ encode (f (decode w)) → w' ≡ encode (f s)
follows f h e = e ∙ ap (λ x. encode (f x)) (lent-decoded h)

-- Words of the segments of a valid state t, and of lists that fit a header.
pub between : {w : List ℕ} {n : ℕ} (s t : State) → Fits n s.spare s.lists → Valid t → w ≡ encode (laid t.segments s) → Encodes w (laid t.segments s)
between s t f v e = record {
  words = e;
  fits = record { least = v.least; most = v.most; few = f.few; classes = f.classes; room = f.room; spare-pages = f.spare-pages; list-pages = f.list-pages };
  sound = all-writable false t.segments v.apart v.sound;
}
