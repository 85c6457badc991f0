-- Laws of a part of a list and of the list with another part in its place. Assumes nothing.
use Prim.Native.Nat.{ℕ, ◌+◌, ◌≤◌, ◌<◌}
use mathlib.Core.Path.{◌≡◌, sym, ◌∙◌}
use mathlib.Core.List.{List, ◌++◌}
use native.Mathlib.Omega.{arith}
use lib.ListN.{length, take, drop, get_or, length-append, length-drop, take-append-drop}
use lib.Seq.{length-take-le, take_at, drop_at, drop-drop, get_or-take, get_or-drop}
use Rattle.lemmas.specs.Parts.{mid, put_mid}
-- The toolchain's own: the part put back as it was gives the list, and a store in the part is a store in the list.
pub use borrow.Rule.Slice.PartMut.{put_same, set_mid_at}

module _ {ℓ} {A : Type ℓ} where
  -- ---- where the list is given in three pieces

  pub mid_at : (x y z : List A) (a k : ℕ) → length x ≡ a → length y ≡ k → mid a k (x ++ (y ++ z)) ≡ y
  mid_at x y z a k h e = cc (drop_at x (y ++ z) a h, take_at y z k e)

  pub put-at : (x y z v : List A) (a k : ℕ) → length x ≡ a → length y ≡ k → put_mid a k (x ++ (y ++ z)) v ≡ x ++ (v ++ z)
  put-at x y z v a k h e =
      cc (take_at x (y ++ z) a h, drop_at x (y ++ z) a h, drop_at y z k e)

  -- Any list is in three pieces.
  pub mid-split : (a k : ℕ) (w : List A) → w ≡ take a w ++ (mid a k w ++ drop (a + k) w)
  mid-split a k w =
      sym
      (cc (drop-drop k a w, take-append-drop k (drop a w), take-append-drop a w))

  -- ---- the part

  pub length-mid : (a k : ℕ) (w : List A) → a + k ≤ length w → length (mid a k w) ≡ k
  length-mid a k w h = length-take-le k (drop a w) (simp length-drop (omega arith))

  pub get_or-mid : (a k : ℕ) (w : List A) (i : ℕ) (d : A) → i < k → get_or (mid a k w) i d ≡ get_or w (a + i) d
  get_or-mid a k w i d h = get_or-take k (drop a w) i d h ∙ get_or-drop a w i d

  -- ---- the list with another part in its place

  module _ (a k : ℕ) (w v : List A) (fits : a + k ≤ length w) (same : length v ≡ k) where
    front : length (take a w) ≡ a
    front = length-take-le a w (omega arith)

    pub length-put : length (put_mid a k w v) ≡ length w
    length-put = let e = front in simp (length-append, length-drop) (omega arith)

    pub mid-put : mid a k (put_mid a k w v) ≡ v
    mid-put = mid_at (take a w) v _ a k front same

    -- An element of the part.
    pub get_or-put : (i : ℕ) (d : A) → i < k → get_or (put_mid a k w v) (a + i) d ≡ get_or v i d
    get_or-put i d h = cc (get_or-mid a k _ i d h, mid-put)
