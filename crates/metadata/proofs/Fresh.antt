-- The words of a fresh state: the header's, then those of one free run. Assumes nothing.
use Prim.Native.Nat.{ℕ, ◌-◌}
use mathlib.Core.Path.{◌≡◌, ap, ◌∙◌}
use mathlib.Core.List.{List, [], ◌∷◌, ◌++◌, append-nil}
use native.Mathlib.Omega.{arith}
use lib.ListN.{length, drop, replicate, length-append}
use lib.Seq.{take_at, drop_at, drop-length}
use Rattle.lemmas.specs.Parts.{put_mid}
use Rattle.model.specs.Numbers.{class_count, header_words}
use Rattle.model.specs.Arena.{run, total}
use Rattle.model.specs.State.{fresh_state}
use Rattle.header.specs.Encoding.{header_encoding}
use Rattle.header.proofs.Encoded.{length-header}
use Rattle.pages.specs.Encoding.{segments_encoding}
use Rattle.metadata.specs.Encoding.{encode}

-- Words h, of a words, and g in the place of all that stood behind them.
pub put-behind : (a : ℕ) (w h g : List ℕ) → length h ≡ a → put_mid a (length (h ++ drop a w) - a) (h ++ drop a w) g ≡ h ++ g
put-behind a w h g l = (λ i. take_at h (drop a w) a l i ++ (g ++ none i)) ∙ ap (λ r. h ++ r) (append-nil g)
  where
    none : drop (length (h ++ drop a w) - a) (drop a (h ++ drop a w)) ≡ []
    none =
        let e : length (h ++ drop a w) - a ≡ length (drop a w) = omega (arith, length-append h (drop a w)) in
        (λ i. drop (e i) (drop_at h (drop a w) a l i)) ∙ drop-length (drop a w)

pub fresh-set-up : (n : ℕ) (w h g : List ℕ) → h ≡ header_encoding n [] (replicate class_count []) → g ≡ segments_encoding (run n ∷ []) →
    put_mid header_words (length (h ++ drop header_words w) - header_words) (h ++ drop header_words w) g ≡ encode (fresh_state n)
unfolding encode
fresh-set-up n w h g p q =
    put-behind header_words w h g (ap length p ∙ length-header n [] (replicate class_count []))
    ∙ (λ i. p i ++ q i)
    ∙ ap (λ k. header_encoding k [] (replicate class_count []) ++ segments_encoding (run n ∷ [])) (let e : n ≡ total (fresh_state n).segments = omega arith in e)
