-- The row of the segment at a page, in the words that the code reads there. Assumes nothing.
use Prim.Native.Nat.{ℕ}
use mathlib.Core.Path.{◌≡◌, refl, sym, ap, ◌∙◌, subst}
use mathlib.Core.List.{List, [], ◌∷◌}
use native.Mathlib.Omega.{arith}
use Rattle.model.specs.Arena.{Segment, run, direct, zone, pages}
use Rattle.model.specs.Zone.{Zone}
use Rattle.model.specs.Text.{line, lines}
use Rattle.zone.specs.Live.{live_chunks}
use Rattle.pages.specs.declared.Kind.{Kind}
use Rattle.pages.specs.declared.Kind.TheVariants as kind
use Rattle.pages.specs.Places.{kind_in, kind_number}
use Rattle.pages.proofs.Inverse.{run-by-kind}
use Rattle.text.specs.Writing.{Bounded, Wrote}
use Rattle.listing.specs.Rows.{row_of, rows_at}
use Rattle.listing.proofs.Rows.{rows-of-kind, rows-of-another, lines-one}

-- ---- the text of the rows of the kind k at the page p

module _ (k : Kind) (p : ℕ) (x : Segment Zone) where
  pub text-none : (kind_in x ≡ k → ⊥) → [] ≡ lines (rows_at (kind_number k) p x)
  unfolding lines
  text-none f = ap lines (sym (rows-of-another k p x f))

  text-row : kind_in x ≡ k → {row : List ℕ} → row ≡ row_of p x → line row ≡ lines (rows_at (kind_number k) p x)
  text-row e q = ap line q ∙ sym (lines-one (row_of p x)) ∙ ap lines (sym (rows-of-kind k p x e))

  -- A zone, which the code has read as y.
  pub text-zone : kind_in x ≡ k → {y z : Zone} → y ≡ z → x ≡ zone z → line (p ∷ y.class ∷ live_chunks y ∷ []) ≡ lines (rows_at (kind_number k) p x)
  text-zone e read is = text-row e (ap (λ v. row_of p (zone v)) read ∙ ap (row_of p) (sym is))

  pub text-run : kind_in x ≡ k → {len : ℕ} → len ≡ pages x → k ≡ kind.Run → line (p ∷ len ∷ []) ≡ lines (rows_at (kind_number k) p x)
  text-run e s q = text-row e (ap (λ n. row_of p (run n)) s ∙ ap (row_of p) (sym (run-by-kind x (e ∙ q))))

  pub text-direct : kind_in x ≡ k → {len group g : ℕ} → len ≡ pages x → group ≡ g → x ≡ direct (pages x) g → line (p ∷ len ∷ group ∷ []) ≡ lines (rows_at (kind_number k) p x)
  text-direct e s t is = text-row e ((λ i. p ∷ s i ∷ t i ∷ []) ∙ ap (row_of p) (sym is))

-- What a writer of one of these texts requires, and what it did where there is nothing to write.
pub bounded-as : (at : ℕ) {t u : List ℕ} → t ≡ u → Bounded at u → Bounded at t
bounded-as at e h = subst (Bounded at) (sym e) h

pub wrote_nothing : {l : List ℕ} {at : ℕ} → Wrote l at [] at l
wrote_nothing = record { next = omega arith; bytes = refl }
