-- What is asked where a chunk is asked for. Assumes nothing.
use Rattle.std.specs.Prelude.{ℕ, ◌<◌, List}
use Rattle.model.specs.Numbers.{class_count}
use Rattle.steps.specs.Lent.{Good}

-- A chunk of class c is asked for, of a valid state of n pages.
pub record Asked (w : List ℕ) (n c : ℕ) : Type 0 where
  pub good : Good w n
  pub class : c < class_count
