-- What a run over the whole blocks of a list says of its words. Assumes nothing.
use Prim.Native.Nat.{ℕ, zero, suc, ◌+◌, ◌*◌, ◌-◌, ◌%◌, ◌≤◌, ◌<◌}
use Rattle.std.proofs.Common.{subst, ◌&&◌, slice_index_or}
use Rattle.std.proofs.lemmas.Nat.{div-add-mod'}
use Rattle.std.proofs.lemmas.Option.{none-some}
use mathlib.Core.Path.{◌≡◌, sym, ap, ◌∙◌}
use mathlib.Core.Bool.{true, false}
use mathlib.Core.List.{List}
use native.Mathlib.Nat.{zero-mul}
use native.Mathlib.Omega.{arith}
use lib.ListN.{length, take, drop}
use Rattle.std.specs.Prelude.{Option, Some, None, IfSome, IsSomeAnd}
use Rattle.std.specs.Option.{option_map}
use Rattle.std.specs.List.{IsSubsliceAt}
use Rattle.std.specs.Iterator.Runs.{Run, AllItems, AnyItem, IsChunksExactRun}
use denote.Ref.{Bor}
use Rattle.lemmas.specs.Every.{every}
use Rattle.lemmas.specs.Zeros.{is_zero}
use Rattle.lemmas.proofs.Every.{every-nil, every-block, every-block-not, every-split}

-- The words of the first m blocks.
every-blocks : (s : List ℕ) (n m : ℕ) → ((k : ℕ) → k < m → every is_zero (take n (drop (k * n) s)) ≡ true) → every is_zero (take (m * n) s) ≡ true
every-blocks s n zero h = rw (zero-mul n) (every-nil is_zero)
every-blocks s n (suc m) h = every-block is_zero s (m * n) n (suc m * n) (omega arith) (every-blocks s n m (λ k l. h k (omega arith))) (h m (omega arith))

module _ {S : Type 0} {steps : S → Option (Bor (List ℕ)) → S → Type 0} (p : Run steps) (n : ℕ) (r : Bor (List ℕ)) (blocks : IsChunksExactRun p n r.now) where
  -- The run has a block at each place, of the words that stand there.
  block-at : (k : ℕ) → k < p.len → {P : Bor (List ℕ) → Type 0} → IfSome (p.at k) P → {Goal : Type 0} → ((x : Bor (List ℕ)) → x.now ≡ take n (drop (k * n) r.now) → P x → Goal) → Goal
  block-at k l {P} held {Goal} use_it =
      elim (p.at k) as (λ o. option_map (λ y. y) o ≡ Some (slice_index_or p.items k r) → IfSome o (λ x. (length x.now ≡ n) × (k * n + n ≤ length r.now) × IsSubsliceAt n r.now (k * n) x.now) → IfSome o P → Goal) [
        | None ↦ λ e b h. absurd (none-some _ e)
        | Some x ↦ λ e b h. use_it x b.2.0 h
      ] (p.reads k r l) (blocks.2 k) held

  -- All of them are zero: what is left is whether the words behind them are.
  pub blocks-zero : {Q : Bor (List ℕ) → Type 0} → p.whole ≡ true → AllItems p Q → ((x : Bor (List ℕ)) → Q x → true ≡ every is_zero x.now) → every is_zero (drop (length r.now - length r.now % n) r.now) ≡ every is_zero r.now
  blocks-zero w all q =
      let front = every-blocks r.now n p.len (λ k l. block-at k l (all k) (λ x e h. sym (q x h ∙ ap (every is_zero) e))) in
      let e : p.len * n ≡ length r.now - length r.now % n = rw (blocks.1 w) (let d = div-add-mod' (length r.now) n in omega arith) in
      let f : every is_zero (take (length r.now - length r.now % n) r.now) ≡ true = subst (λ m. every is_zero (take m r.now) ≡ true) e front in
      sym (every-split is_zero r.now (length r.now - length r.now % n) ∙ ap (λ b. b && every is_zero (drop (length r.now - length r.now % n) r.now)) f)

  -- One of them is not.
  pub block-wrong : {Q : Bor (List ℕ) → Type 0} → AnyItem p Q → ((x : Bor (List ℕ)) → Q x → false ≡ every is_zero x.now) → false ≡ every is_zero r.now
  block-wrong {Q} (k, l, h) q =
      block-at k l (held (p.at k) h) (λ x e g. sym (every-block-not is_zero r.now (k * n) n (sym (q x g ∙ ap (every is_zero) e))))
    where
      held : (o : Option (Bor (List ℕ))) → IsSomeAnd o Q → IfSome o Q
      held None g = absurd g
      held (Some x) g = g
