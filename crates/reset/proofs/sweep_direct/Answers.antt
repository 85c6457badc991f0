-- `sweep_direct` meets its contract. Assumes nothing.
use Rattle.reset.proofs.Steps.{direct_good, direct-low, direct-run, direct-gone}
use Rattle.reset.proofs.sweep_direct.Goals as goal

pub overflow_sub-start : goal.overflow_sub-start
overflow_sub-start c =
    let h = c.requires in direct-low h.0 h.1 c.give_back.ensures

pub behind_run-requires : goal.behind_run-requires
behind_run-requires c =
    let h = c.requires in let e = c.give_back.ensures in record {
      good = direct_good h.0 h.1 e;
      placed = direct-run h.0 h.1 e;
    }

pub returns : goal.returns
returns c =
    let h = c.requires in direct-gone h.0 h.1 c.give_back.ensures _ _ _ c.behind_run.ensures
