-- A group's figure is a sum over the bytes of the arena: each live block counts at the byte where it begins. So what is known of the
-- blocks after a call says what becomes of the figures. Assumes nothing.
use Prim.Native.Nat.{ℕ, zero, suc, ◌+◌, ◌-◌, ◌*◌, ◌/◌, ◌%◌, ◌≤◌, ◌<◌}
use mathlib.Core.Path.{◌≡◌, refl, sym, ◌∙◌, ap}
use mathlib.Core.List.{[], ◌∷◌}
use mathlib.Core.Option.{Option, none, some}
use mathlib.Core.Bool.{Bool, true, false, cond}
use native.Mathlib.Omega.{arith}
use native.Mathlib.Nat.{mul-add-div_right, mul-add-mod_self_right, mod-eq_of_lt, div-eq_of_lt, le-div_iff_mul-le}
use lib.Dec.{eqb}
use lib.ListN.{length, get_or, get_or-eq_default}
use borrow.Author.Tests.{lt-ltb, le-ltb, eq-eqb, ne_eqb}
use Rattle.lemmas.specs.Below.{sum_below}
use Rattle.lemmas.specs.Times.{times}
use Rattle.lemmas.proofs.Cases.{bool, by_eqb, by-lt, cond_same, none-some}
use Rattle.lemmas.proofs.Below.{sum-eq, sum-zero, sum-split, sum_one, sum-scale, sum-stride, sum-changed, count-below}
use Rattle.model.specs.Numbers.{page_bytes, zone_bytes}
use Rattle.model.specs.Sizes.{room, chunks}
use Rattle.model.specs.Arena.{Segment, run, direct, zone, bytes, total, Each}
use Rattle.model.specs.PageMap.{Occupancy, PageMap, Block, whole, chunk, group_of, room_of, chunk_of, block_in, block_there, block_at}
use Rattle.model.specs.Holdings.{blocks_in, room_in, figure_of, one}
use Rattle.model.proofs.Sizes.{room-pos}
use Rattle.model.proofs.Arena.{locate-past}
use Rattle.model.proofs.Blocks.{Sized, Only, Still}
use Rattle.model.proofs.Held.{rooms-most}
use Rattle.model.proofs.Reset.{is_of, without}

-- A block begins inside the arena.
pub begins-inside : (m : PageMap) (o : ℕ) (b : Block) → block_at m o ≡ some b → o < total m * page_bytes
begins-inside m o b e = by-lt o (total m * page_bytes) (λ h. h) (λ h. none-some (sym (ap block_there (locate-past m o h)) ∙ e))

-- What a block counts for in a figure: told of its segment, as the rules do, and the same told of the block.
pub record Measure : Type 0 where
  pub each : Segment Occupancy → ℕ
  pub worth : Block → ℕ
  pub of-direct : (n h : ℕ) → worth (whole n h) ≡ each (direct n h)
  pub of-chunk : (l : Occupancy) (i h : ℕ) → worth (chunk l.class i h) ≡ each (zone l)

-- The two figures: live blocks, and held bytes.
abbrev pub by_one : Measure
by_one = record { each = one; worth = λ _. 1; of-direct = λ _ _. refl; of-chunk = λ _ _ _. refl }

abbrev pub by-room : Measure
by-room = record { each = room_in; worth = room_of; of-direct = λ _ _. refl; of-chunk = λ _ _ _. refl }

module _ (f : Measure) (g : ℕ) (pos : 0 < g) where
  abbrev each : Segment Occupancy → ℕ
  each = f.each

  -- What the block counts for the group.
  abbrev pub share : Option Block → ℕ
  share none = 0
  share (some b) = cond (eqb (group_of b) g) (f.worth b) 0

  -- ---- one segment

  times-cond : (t : Bool) (e : ℕ) → cond t e 0 ≡ cond t 1 0 * e
  times-cond true e = omega arith
  times-cond false e = omega arith

  direct-sum : (n h : ℕ) → 0 < n → sum_below (λ o. share (block_in o (direct n h))) (n * page_bytes) ≡ blocks_in g (direct n h) * each (direct n h)
  direct-sum n h k =
      let v = cond (eqb h g) (f.worth (whole n h)) 0 in
      sum-eq (λ o. share (block_in o (direct n h))) (λ o. cond (eqb o 0) v 0) (n * page_bytes) (λ o _. bool (eqb o 0) (λ t. rw t) (λ t. rw t))
      ∙ sum_one 0 v (n * page_bytes) (omega arith)
      ∙ times-cond (eqb h g) (f.worth (whole n h))
      ∙ ap (λ e. cond (eqb h g) 1 0 * e) (f.of-direct n h)

  chunk-share : (l : Occupancy) (i k : ℕ) → share (chunk_of l.class i k) ≡ cond (eqb g k) 1 0 * each (zone l)
  chunk-share l i zero = rw (ne_eqb g 0 (λ e. omega arith)) (omega arith)
  chunk-share l i (suc k) = by_eqb (λ t. cond t (f.worth (chunk l.class i (suc k))) 0 ≡ cond (eqb g (suc k)) 1 0 * each (zone l)) (suc k) g
      (λ e. rw (eq-eqb g (suc k) (sym e)) (f.of-chunk l i (suc k) ∙ omega arith))
      (λ e. rw (ne_eqb g (suc k) (λ q. e (sym q))) (omega arith))

  module _ (l : Occupancy) (sized : length l.groups ≡ chunks l.class) where
    abbrev r : ℕ
    r = room l.class

    abbrev here : ℕ → ℕ
    here o = share (block_in o (zone l))

    abbrev by_number : ℕ → ℕ
    by_number i = share (chunk_of l.class i (get_or l.groups i 0))

    at-chunk : (j i : ℕ) → i < r → here (j * r + i) ≡ cond (eqb i 0) (by_number j) 0
    at-chunk j i h =
        let m : (j * r + i) % r ≡ i = mul-add-mod_self_right j r i ∙ mod-eq_of_lt h in
        let d : (j * r + i) / r ≡ j = mul-add-div_right (room-pos l.class) j i ∙ omega (arith, div-eq_of_lt h) in
        rw (m, d) (bool (eqb i 0) (λ t. rw t) (λ t. rw t))

    past-chunks : (o : ℕ) → chunks l.class * r ≤ o → here o ≡ 0
    past-chunks o h =
        let far : chunks l.class ≤ o / r = (le-div_iff_mul-le (room-pos l.class)).1 h in
        rw (get_or-eq_default l.groups 0 {n = o / r} (omega arith)) (ap (λ b. share b) (cond_same (eqb (o % r) 0) none))

    zone-sum : sum_below here zone_bytes ≡ times g l.groups * each (zone l)
    unfolding times
    zone-sum =
        let k = chunks l.class in
        let few = rooms-most l.class k (omega arith) in
        let in-front = sum-stride here by_number r k (room-pos l.class) at-chunk in
        let behind = sum-zero (λ i. here (k * r + i)) (zone_bytes - k * r) (λ i _. past-chunks (k * r + i) (omega arith)) in
        ap (sum_below here) (let e : zone_bytes ≡ k * r + (zone_bytes - k * r) = omega arith in e)
        ∙ sum-split here (k * r) (zone_bytes - k * r)
        ∙ (let e : sum_below here (k * r) + sum_below (λ i. here (k * r + i)) (zone_bytes - k * r) ≡ sum_below by_number k = omega arith in e)
        ∙ ap (sum_below by_number) (sym sized)
        ∙ sum-eq by_number (λ i. cond (eqb g (get_or l.groups i 0)) 1 0 * each (zone l)) (length l.groups) (λ i _. chunk-share l i (get_or l.groups i 0))
        ∙ sum-scale (λ i. cond (eqb g (get_or l.groups i 0)) 1 0) (each (zone l)) (length l.groups)
        ∙ ap (λ n. n * each (zone l)) (sym (count-below (λ x. eqb g x) l.groups 0))

  segment-sum : (x : Segment Occupancy) → Sized x → sum_below (λ o. share (block_in o x)) (bytes x) ≡ blocks_in g x * each x
  segment-sum (run n) h = sum-zero (λ o. 0) (n * page_bytes) (λ i _. refl) ∙ omega arith
  segment-sum (direct n k) h = direct-sum n k h
  segment-sum (zone l) h = zone-sum l h

  -- ---- all of them

  pub figure-sum : (m : PageMap) → Each Sized m → figure_of each g m ≡ sum_below (λ o. share (block_at m o)) (total m * page_bytes)
  figure-sum [] h = sym (sum-zero (λ o. 0) 0 (λ i _. refl))
  figure-sum (x ∷ r) h =
      let at : ℕ → ℕ = λ o. share (block_at (x ∷ r) o) in
      let first = sum-eq at (λ o. share (block_in o x)) (bytes x) (λ o k. rw (lt-ltb o (bytes x) k)) in
      let others = sum-eq (λ i. at (bytes x + i)) (λ o. share (block_at r o)) (total r * page_bytes)
      (λ i _. rw (le-ltb (bytes x + i) (bytes x) (omega arith)) (ap (λ o. share (block_at r o)) (let e : bytes x + i - bytes x ≡ i = omega arith in e))) in
      let both = sum-split at (bytes x) (total r * page_bytes) in
      omega (arith, first, others, both, segment-sum x h.0, figure-sum r h.1, ap (sum_below at) (let e : bytes x + total r * page_bytes ≡ total (x ∷ r) * page_bytes = omega arith in e))

  -- ---- what becomes of it

  module _ (m m' : PageMap) (h : Each Sized m) (h' : Each Sized m') where
    -- Where one block changes.
    pub figure-only : (o : ℕ) (b : Option Block) → o < total m * page_bytes → Only m m' o b → figure_of each g m' + share (block_at m o) ≡ figure_of each g m + share b
    figure-only o b inside k =
        let changed = sum-changed (λ q. share (block_at m' q)) (λ q. share (block_at m q)) (total m * page_bytes) o inside (λ q ne. ap (λ c. share c) (k.1 q ne)) in
        omega (
          arith,
          changed,
          figure-sum m h,
          figure-sum m' h',
          ap (λ n. sum_below (λ q. share (block_at m' q)) (n * page_bytes)) k.2,
          ap (λ c. share c) k.0,
        )

    -- Where none does.
    pub figure-still : Still m m' → figure_of each g m' ≡ figure_of each g m
    figure-still k =
        figure-sum m' h'
        ∙ sum-eq (λ q. share (block_at m' q)) (λ q. share (block_at m q)) (total m' * page_bytes) (λ q _. ap (λ c. share c) (k.0 q))
        ∙ ap (λ n. sum_below (λ q. share (block_at m q)) (n * page_bytes)) k.1
        ∙ sym (figure-sum m h)

    -- Where all blocks of the group j are gone.
    module _ (j : ℕ) (gone : (q : ℕ) → block_at m' q ≡ without (is_of j (block_at m q)) (block_at m q)) (size : total m' ≡ total m) where
      left : (b : Option Block) → share (without (is_of j b) b) ≡ cond (eqb j g) 0 (share b)
      left none = sym (cond_same (eqb j g) 0)
      left (some b) = by_eqb (λ t. share (without t (some b)) ≡ cond (eqb j g) 0 (share (some b))) (group_of b) j
          (λ e. by_eqb (λ t. 0 ≡ cond t 0 (share (some b))) j g (λ f. refl) (λ f. sym (rw (ne_eqb (group_of b) g (λ q. f (sym e ∙ q))))))
          (λ e. by_eqb (λ t. share (some b) ≡ cond t 0 (share (some b))) j g (λ f. rw (ne_eqb (group_of b) g (λ q. e (q ∙ sym f)))) (λ f. refl))

      pub figure-gone : figure_of each g m' ≡ cond (eqb j g) 0 (figure_of each g m)
      figure-gone =
          figure-sum m' h'
          ∙ sum-eq (λ q. share (block_at m' q)) (λ q. cond (eqb j g) 0 (share (block_at m q))) (total m' * page_bytes) (λ q _. ap (λ c. share c) (gone q) ∙ left (block_at m q))
          ∙ ap (λ n. sum_below (λ q. cond (eqb j g) 0 (share (block_at m q))) (n * page_bytes)) size
          ∙ bool (eqb j g)
          (λ t. rw t (sum-zero (λ q. 0) (total m * page_bytes) (λ q _. refl)))
          (λ t. rw t (sym (figure-sum m h)))
