-- What the calls share: the check of the lent words tells the arena's pages. Assumes nothing.
use Rattle.std.specs.Prelude.{ℕ, ◌≡◌, List, true, Option, Some, None}
use Rattle.std.proofs.Math.Option as maybe
use Rattle.model.specs.Arena.{total}
use Rattle.model.specs.State.{State}
use Rattle.model.specs.PageMap.{page_map}
use Rattle.model.specs.Holdings.{Account, ceiling_of}
use Rattle.model.specs.Calls.{group_ok, size_ok}
use Rattle.model.specs.Ceilings.{within}
use Rattle.account.specs.Decoding.{account_in, is_account}

-- The pages of the arena, if there is one.
abbrev pub pages_of : maybe.Option State → Option ℕ
pages_of maybe.none = None
pages_of (maybe.some s) = Some (total s.segments)

-- The words begin with those of a valid account of n pages.
pub record Arena (w : List ℕ) (n : ℕ) : Type 0 where
  pub account : is_account w ≡ true
  pub pages : n ≡ total (account_in w).state.segments

-- A request of n bytes by the group g, on the account x, that no test refuses before the pages are looked for.
pub record Accepted (x : Account) (g n : ℕ) : Type 0 where
  pub group : group_ok g ≡ true
  pub size : size_ok n ≡ true
  pub ceiling : within (ceiling_of x g) g n (page_map x.state) ≡ true
