-- `desk::serve_listing` meets its contract. Assumes nothing.
use mathlib.Core.Path.{◌∙◌}
use Rattle.calls.proofs.Promises.{listing-unchanged}
use Rattle.desk.proofs.Replies.{listing-counted, listing-refused}
use Rattle.desk.proofs.serve_listing.Goals as goal

pub returns-in-Counted : goal.returns-in-Counted
returns-in-Counted c =
    let e = c.listing.ensures in record {
      meta_unchanged = e.meta_after ∙ listing-unchanged _ _;
      replied =
          listing-counted c.args.meta.now c.args.out.now (e.value, e.text_after) c.in-Counted.is;
    }

pub returns-in_default : goal.returns-in_default
returns-in_default c =
    let e = c.listing.ensures in
    let p = c.put_answer.ensures in record {
      meta_unchanged = e.meta_after ∙ listing-unchanged _ _;
      replied =
          listing-refused c.args.meta.now c.args.out.now (e.value, e.text_after) c.in_default.not-Counted
          (p.wrote, p.upper_bound);
    }
