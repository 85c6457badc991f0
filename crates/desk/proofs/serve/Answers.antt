-- `desk::serve` meets its contract, kind of line by kind of line. Assumes nothing.
use mathlib.Core.Path.{◌∙◌}
use Rattle.model.specs.Calls.{init, act, group, trim, query}
use Rattle.desk.proofs.Replies.{ServedBy, performs-init, performs-group, performs-trim, performs-query, served-call, served-bad, served-listing}
use Rattle.desk.proofs.serve.Goals as goal
use Rattle.desk.proofs.serve.Goals.{in-Init, in-Group, in-Trim, in-Query}

-- The lines that are calls.
pub returns : goal.returns
returns c =
    let p = c.put_answer.ensures in
    let s : ServedBy c.args.meta.now c.args.out.now c.args.line c.put_answer.result c.match-line.meta c.put_answer.new.out =
    elim c.match-line.branch [
      | in-Init w ↦
          let e = w.init-answer.ensures in
          served-call _ _ _ (init _) w.in-Init.is (performs-init _ _ _) (w.answer-is ∙ e.value, w.meta-is ∙ e.meta_after) (p.wrote, p.upper_bound)
      | in-Group w ↦
          let e = w.call-answer.ensures in
          served-call _ _ _ (act (group _)) w.in-Group.is (performs-group _ _ _) (w.answer-is ∙ e.value, w.meta-is ∙ e.meta_after) (p.wrote, p.upper_bound)
      | in-Trim w ↦
          let e = w.trim-answer.ensures in
          served-call _ _ _ (act trim) w.in-Trim.is (performs-trim _ _) (w.answer-is ∙ e.value, w.meta-is ∙ e.meta_after) (p.wrote, p.upper_bound)
      | in-Query w ↦
          let e = w.query-answer.ensures in
          served-call _ _ _ (act (query _)) w.in-Query.is (performs-query _ _ _) (w.answer-is ∙ e.value, w.meta-is ∙ e.meta_after) (p.wrote, p.upper_bound)
    ] in record {
      meta_after = s.0;
      replied = s.1;
    }

pub returns-in-Listing : goal.returns-in-Listing
returns-in-Listing c =
    let e = c.serve_listing.ensures in
    let s = served-listing c.args.meta.now c.args.out.now c.args.line c.in-Listing.is (e.meta_unchanged, e.replied) in record {
      meta_after = s.0;
      replied = s.1;
    }

pub returns-in-Bad : goal.returns-in-Bad
returns-in-Bad c =
    let s = served-bad c.args.meta.now c.args.out.now c.args.line c.in-Bad.is c.put_bad.ensures in record {
      meta_after = s.0;
      replied = s.1;
    }
