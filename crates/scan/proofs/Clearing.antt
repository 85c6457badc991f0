-- Clearing: i words are zero, the others as they were. Assumes nothing.
use Prim.Native.Nat.{ℕ, ◌+◌, ◌<◌}
use mathlib.Core.Path.{◌≡◌, ap, ◌∙◌}
use mathlib.Core.List.{List, ◌++◌, append-nil}
use lib.ListN.{length, set, drop}
use lib.Seq.{drop-length}
use borrow.Author.Fill.{fill_none, fill_more}
use Rattle.lemmas.specs.Zeros.{zeros}

pub clear_none : (s : List ℕ) → s ≡ zeros 0 ++ drop 0 s
unfolding zeros
clear_none s = fill_none s 0

pub clear-more : (s₀ s : List ℕ) (i : ℕ) → i < length s₀ → s ≡ zeros i ++ drop i s₀ → set s i 0 ≡ zeros (i + 1) ++ drop (i + 1) s₀
unfolding zeros
clear-more s₀ s i h e = ap (λ (l : List ℕ). set l i 0) e ∙ fill_more i 0 s₀ h

pub clear-done : (s₀ s : List ℕ) (i : ℕ) → i ≡ length s₀ → s ≡ zeros i ++ drop i s₀ → s ≡ zeros (length s₀)
clear-done s₀ s i h e =
    e
    ∙ ap (λ (k : ℕ). zeros k ++ drop k s₀) h
    ∙ ap (λ (l : List ℕ). zeros (length s₀) ++ l) (drop-length s₀)
    ∙ append-nil (zeros (length s₀))
