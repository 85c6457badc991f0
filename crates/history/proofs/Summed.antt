-- The figures of a page map, told by a ledger whose entries are its live blocks. Assumes nothing.
use Prim.Native.Nat.{ℕ, ◌+◌, ◌*◌, ◌<◌}
use mathlib.Core.Path.{◌≡◌, refl, sym, ◌∙◌, ap}
use mathlib.Core.List.{List, [], ◌∷◌, map}
use mathlib.Core.Option.{Option, some}
use mathlib.Core.Bool.{cond}
use native.Mathlib.Omega.{arith}
use lib.Dec.{eqb}
use borrow.Author.Tests.{eq-eqb, ne_eqb}
use Rattle.lemmas.specs.Below.{sum_below}
use Rattle.lemmas.proofs.Cases.{by-eq, none-some}
use Rattle.lemmas.proofs.Below.{sum-eq, sum-zero, sum-changed}
use Rattle.model.specs.Numbers.{page_bytes}
use Rattle.model.specs.Arena.{total, Each}
use Rattle.model.specs.PageMap.{PageMap, Block, group_of, room_of, block_at}
use Rattle.model.specs.Holdings.{figure_of, blocks_of, held_of}
use Rattle.model.proofs.Blocks.{Sized}
use Rattle.model.proofs.Sums.{Measure, by_one, by-room, share, begins-inside, figure-sum}
use Rattle.history.specs.Holdings.{blocks_held, bytes_held}
use Rattle.history.proofs.Ledger.{Entry, told, find, Single}

module _ (f : Measure) (g : ℕ) (pos : 0 < g) where
  abbrev part : Option Block → ℕ
  part b = share f g pos b

  -- What the entries come to.
  sum : List Entry → ℕ
  sum [] = 0
  sum (e ∷ l) = cond (eqb (group_of e.block) g) (f.worth e.block) 0 + sum l

  -- All entries lie below n: their blocks are added up there.
  entries-sum : (n : ℕ) (l : List Entry) → Single l → ((o : ℕ) (b : Block) → find o l ≡ some b → o < n) → sum_below (λ o. part (find o l)) n ≡ sum l
  unfolding sum
  entries-sum n [] s h = sum-zero (λ o. 0) n (λ o _. refl)
  entries-sum n (e ∷ l) s h =
      let here : find e.offset (e ∷ l) ≡ some e.block = rw (eq-eqb e.offset e.offset refl) in
      let changed = sum-changed (λ o. part (find o (e ∷ l))) (λ o. part (find o l)) n e.offset (h e.offset e.block here)
      (λ o ne. rw (ne_eqb e.offset o (λ q. ne (sym q)))) in
      let later = entries-sum n l s.1 (λ o b at. by-eq e.offset o
      (λ q. none-some (sym s.0 ∙ ap (λ k. find k l) q ∙ at))
      (λ q. h o b (rw (ne_eqb e.offset o q) at))) in
      omega (arith, changed, later, ap (λ b. part b) here, ap (λ b. part b) s.0)

  figure-told : (m : PageMap) → Each Sized m → (l : List Entry) → Single l → ((o : ℕ) → block_at m o ≡ find o l) → figure_of f.each g m ≡ sum l
  figure-told m h l s agree =
      figure-sum f g pos m h
      ∙ sum-eq (λ o. part (block_at m o)) (λ o. part (find o l)) (total m * page_bytes) (λ o _. ap (λ b. part b) (agree o))
      ∙ entries-sum (total m * page_bytes) l s (λ o b e. begins-inside m o b (agree o ∙ e))

module _ (g : ℕ) (pos : 0 < g) (m : PageMap) (h : Each Sized m) (l : List Entry) (s : Single l) (agree : (o : ℕ) → block_at m o ≡ find o l) where
  pub blocks-told : blocks_of g m ≡ blocks_held g (map told l)
  unfolding sum
  blocks-told = figure-told by_one g pos m h l s agree ∙ same l
    where
      same : (l : List Entry) → sum by_one g pos l ≡ blocks_held g (map told l)
      same [] = refl
      same (e ∷ l) = ap (λ k. cond (eqb (group_of e.block) g) 1 0 + k) (same l)

  pub held-told : held_of g m ≡ bytes_held g (map told l)
  unfolding sum
  held-told = figure-told by-room g pos m h l s agree ∙ same l
    where
      same : (l : List Entry) → sum by-room g pos l ≡ bytes_held g (map told l)
      same [] = refl
      same (e ∷ l) = ap (λ k. cond (eqb (group_of e.block) g) (room_of e.block) 0 + k) (same l)
