-- A request of whole pages. Assumes nothing.
use Prim.Native.Nat.{ℕ, ◌*◌, ◌<◌}
use mathlib.Core.Path.{◌≡◌, sym, ap, ◌∙◌, subst}
use mathlib.Core.List.{List}
use native.Mathlib.Omega.{arith}
use Rattle.model.specs.Numbers.{page_bytes, most_pages}
use Rattle.std.specs.Prelude.{Some}
use Rattle.model.specs.declared.Answer.{Answer}
use Rattle.model.specs.declared.Answer.TheVariants.{Granted}
use Rattle.model.specs.Arena.{direct}
use Rattle.model.specs.State.{State}
use Rattle.model.specs.Calls.{Outcome}
use Rattle.model.specs.Allocate.{sought, direct_from, whole_pages}
use Rattle.pages.specs.declared.Choice.{Choice}
use Rattle.pages.specs.declared.Run.{Run}
use Rattle.metadata.specs.Encoding.{encode}
use Rattle.metadata.specs.Decoding.{decode}
use Rattle.steps.specs.Lent.{Good}
use Rattle.steps.specs.Moves.{carved}
use Rattle.steps.specs.Outcomes.{Makes}
use Rattle.allocate.specs.Finds.{Finds}
use Rattle.allocate.proofs.Sourced.{Sourced, sourced}
use Rattle.allocate.proofs.Places.{Free, free}

-- What makes an outcome makes one that is the same.
pub made : {o o' : Outcome State} {r : Answer} {w : List ℕ} → o ≡ o' → Makes o r w → Makes o' r w
made {r} {w} e k = subst (λ o. Makes o r w) e k

-- Whole pages.
module _ {w : List ℕ} {n need : ℕ} (h : Good w n) (pos : 0 < need) (g : ℕ) where
  abbrev s : State
  s = decode w

  module _ {v : List ℕ} {r : Choice} {f : Run} (told : r.run ≡ Some f) (e : Finds s (sought need s) r v) where
    from : Sourced h need v f.at f.len r.looked
    from = sourced h need told e

    pub pages-good : Good v n
    pages-good = from.good

    pub pages-free : Free (decode v).segments need f.at f.len
    pages-free = free (decode v).segments need f.at f.len pos from.claimed

    pub pages-page : f.at < most_pages
    pages-page = omega (arith, pages-free.inside, pages-free.enough, pages-good.lent.fits.most)

    pub pages-taken : {w₁ : List ℕ} → w₁ ≡ encode (carved (record { page = f.at; size = f.len }) need (direct need g) (decode v)) → Makes (whole_pages need g s) (Granted (f.at * page_bytes) r.looked) w₁
    pages-taken k = made (ap (λ l. direct_from need g s l.looked l.chosen) (sym from.is)) (
      ap (λ x. Granted (x.page * page_bytes) r.looked) (sym from.free),
      k ∙ ap (λ u. encode (carved (record { page = f.at; size = f.len }) need (direct need g) u)) from.decoded ∙ ap (λ x. encode (carved x need (direct need g) from.source.state)) (sym from.free),
    )
