-- `desk::serve_last` meets its contract. Assumes nothing.
use mathlib.Core.Path.{sym}
use Rattle.desk.proofs.Turns.{followed-line, followed-none}
use Rattle.desk.proofs.serve_last.Goals as goal

pub returns-in-Some : goal.returns-in-Some
returns-in-Some c =
    let e = c.serve.ensures in
    let s = followed-line c.args.meta.now c.args.out.now (sym c.in-Some.ensures.line) (e.meta_after, e.replied) in record {
      ready = c.finish.ensures.ready;
      meta_after = s.0;
      replied = s.1;
    }

pub returns-in-None : goal.returns-in-None
returns-in-None c =
    let s = followed-none c.args.meta.now c.args.out.now (sym c.in-None.ensures.line) in record {
      ready = c.finish.ensures.ready;
      meta_after = s.0;
      replied = s.1;
    }
