-- What serving a fragment of the input leaves. Assumes nothing.
use Rattle.std.specs.Prelude.{ℕ, ◌≡◌, List}
use Rattle.uplink.specs.Fragments.{Held, held_after, lines_by}
use Rattle.desk.specs.Session.{words_after_all}

-- The fragment s was served, where k was held and the words were w: its lines were served one after another, and h, which is held
-- then, is what stands behind the last of them; v are the words then.
pub record ServedAll (k : Held) (w s : List ℕ) (h : Held) (v : List ℕ) : Type 0 where
  pub after : h ≡ held_after k s
  pub words : v ≡ words_after_all w (lines_by k s)
