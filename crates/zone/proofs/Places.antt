-- The chain that slots hold: where the chunk at each position has that position, no chunk stands on it twice; and where the live
-- chunks are all but its length, it has every other one. And a chain that slots were written from is read again. Assumes nothing.
use Prim.Native.Nat.{ℕ, zero, suc, ◌+◌, ◌-◌, ◌≤◌, ◌<◌}
use mathlib.Core.Path.{◌≡◌, refl, sym, ap, ◌∙◌}
use mathlib.Core.Bool.{true, false, cond}
use mathlib.Core.List.{List, [], ◌∷◌}
use native.Mathlib.Nat.{not-suc-le-zero}
use native.Mathlib.Omega.{arith}
use lib.Dec.{ltb}
use lib.ListN.{length, get_or, take}
use lib.Seq.{get_or-take, length-take-le}
use borrow.Author.Tests.{eq-eqb, ne_eqb, lt-ltb, le-ltb, ltb-true}
use Rattle.lemmas.specs.Below.{sum_below}
use Rattle.lemmas.specs.Every.{count}
use Rattle.lemmas.specs.Times.{times}
use Rattle.lemmas.proofs.Cases.{by_eqb, and_both, and_left, and_right, bool, one-most, by-eq}
use Rattle.lemmas.proofs.Below.{sum-eq, sum-add, sum-const, sum-tight, count-below}
use Rattle.lemmas.proofs.Tests.{false_right}
use Rattle.lemmas.proofs.Times.{times-nil, times-here, times-there, sum-times}
use Rattle.zone.specs.Encoding.{position_on, chunk_at, position_base}
use Rattle.zone.specs.Decoding.{state_in, entry_in, is_live, chain_from}

-- ---- live or not

pub live-is : (x : ℕ) → 0 < state_in x → state_in x < position_base → is_live x ≡ true
live-is x a b = and_both _ _ (lt-ltb 0 (state_in x) a) (lt-ltb (state_in x) position_base b)

pub live_of : (x : ℕ) → is_live x ≡ true → (0 < state_in x) × (state_in x < position_base)
live_of x e = (
  ltb-true 0 (state_in x) (and_left (ltb 0 (state_in x)) (ltb (state_in x) position_base) e),
  ltb-true (state_in x) position_base (and_right (ltb 0 (state_in x)) (ltb (state_in x) position_base) e),
)

pub live-not : (x : ℕ) → position_base ≤ state_in x → is_live x ≡ false
live-not x a = false_right (ltb 0 (state_in x)) (le-ltb (state_in x) position_base a)

-- ---- positions on a chain

pub position-less : (c : ℕ) (cs : List ℕ) → 0 < times c cs → position_on c cs < length cs
position-less c [] h = absurd (omega (arith, times-nil c))
position-less c (d ∷ cs) h =
    by_eqb (λ t. cond t (length cs) (position_on c cs) < suc (length cs)) c d (omega arith)
    (λ q. let a = position-less c cs (omega (arith, times-there c cs q)) in omega arith)

pub chunk-past : (i : ℕ) (cs : List ℕ) → length cs ≤ i → chunk_at i cs ≡ 0
chunk-past i [] h = refl
chunk-past i (c ∷ cs) h = rw (ne_eqb i (length cs) (omega arith)) (chunk-past i cs (omega arith))

pub chunk-on : (i : ℕ) (cs : List ℕ) → i < length cs → 0 < times (chunk_at i cs) cs
chunk-on i [] h = absurd (not-suc-le-zero h)
chunk-on i (c ∷ cs) h =
    by_eqb (λ t. 0 < times (cond t c (chunk_at i cs)) (c ∷ cs)) i (length cs) (omega (arith, times-here c cs refl))
    (λ q. let a = chunk-on i cs (omega arith) in
    by-eq (chunk_at i cs) c (λ e. omega (arith, times-here _ cs e)) (λ e. omega (arith, times-there _ cs e)))

-- On a chain without a chunk twice the chunk at a position has that position.
pub position-chunk : (i : ℕ) (cs : List ℕ) → i < length cs → ((c : ℕ) → times c cs ≤ 1) → position_on (chunk_at i cs) cs ≡ i
position-chunk i [] h once = absurd (not-suc-le-zero h)
position-chunk i (c ∷ cs) h once =
    by_eqb (λ t. position_on (cond t c (chunk_at i cs)) (c ∷ cs) ≡ i) i (length cs) (λ q. rw (eq-eqb c c refl) (sym q))
    (λ q. let a = chunk-on i cs (omega arith) in
    let away : chunk_at i cs ≡ c → ⊥ = λ e. let o = once (chunk_at i cs) in omega (arith, times-here _ cs e) in
    let rest : (d : ℕ) → times d cs ≤ 1 = λ d. let o = once d in by-eq d c (λ e. omega (arith, times-here d cs e)) (λ e. omega (arith, times-there d cs e)) in
    rw (ne_eqb _ c away) (position-chunk i cs (omega arith) rest))

module _ (s : List ℕ) where
  -- ---- the chain read from slots

  pub length-chain : (n : ℕ) → length (chain_from s n) ≡ n
  unfolding chain_from
  length-chain zero = refl
  length-chain (suc n) = ap suc (length-chain n)

  pub chunk-chain : (n i : ℕ) → i < n → chunk_at i (chain_from s n) ≡ entry_in (get_or s i 0)
  unfolding chain_from
  chunk-chain zero i h = absurd (not-suc-le-zero h)
  chunk-chain (suc n) i h =
      rw (length-chain n)
      (by_eqb (λ t. cond t (entry_in (get_or s n 0)) (chunk_at i (chain_from s n)) ≡ entry_in (get_or s i 0)) i n
      (λ q. cc) (λ q. chunk-chain n i (omega arith)))

  pub chain-again : (cs : List ℕ) → ((i : ℕ) → i < length cs → entry_in (get_or s i 0) ≡ chunk_at i cs) → chain_from s (length cs) ≡ cs
  unfolding chain_from
  chain-again [] h = refl
  chain-again (c ∷ cs) h =
      let top : entry_in (get_or s (length cs) 0) ≡ c = h (length cs) (omega arith) ∙ rw (eq-eqb (length cs) (length cs) refl) in
      let rest = chain-again cs (λ i l. h i (omega arith) ∙ rw (ne_eqb i (length cs) (omega arith))) in
      rw (top, rest)

  -- ---- each chunk in its place

  -- The chunk at each position below n has that position.
  abbrev pub Placed : ℕ → Type 0
  Placed n = (i : ℕ) → i < n → state_in (get_or s (entry_in (get_or s i 0)) 0) ≡ position_base + i

  -- So a chunk of the chain says where it stands there,
  pub chain-state : (n c : ℕ) → Placed n → 0 < times c (chain_from s n) → state_in (get_or s c 0) ≡ position_base + position_on c (chain_from s n)
  unfolding chain_from
  chain-state zero c p h = absurd (omega (arith, times-nil c))
  chain-state (suc n) c p h =
      let r : List ℕ = chain_from s n in
      by_eqb (λ t. state_in (get_or s c 0) ≡ position_base + cond t (length r) (position_on c r)) c (entry_in (get_or s n 0))
      (λ q. cc (p n (omega arith), length-chain n))
      (λ q. chain-state n c (λ i l. p i (omega arith)) (omega (arith, times-there c r q)))

  -- and stands there once.
  pub chain-once : (n c : ℕ) → Placed n → times c (chain_from s n) ≤ 1
  unfolding chain_from
  chain-once zero c p = omega (arith, times-nil c)
  chain-once (suc n) c p =
      let r : List ℕ = chain_from s n in
      let below : Placed n = λ i l. p i (omega arith) in
      by-eq c (entry_in (get_or s n 0))
      (λ q.
      by-eq (times c r) 0 (omega (arith, times-here c r q))
      (λ z.
      let a = chain-state n c below (omega arith) in
      let b = position-less c r (omega arith) in
      let d : state_in (get_or s c 0) ≡ position_base + n = ap (λ d. state_in (get_or s d 0)) q ∙ p n (omega arith) in
      absurd (omega (arith, length-chain n))))
      (λ q. let a = chain-once n c below in omega (arith, times-there c r q))

  -- ---- and all others live

  module _ (k m : ℕ) (p : Placed m) (few : m ≤ k) (size : k ≤ length s) (past : (i : ℕ) → k ≤ i → get_or s i 0 ≡ 0) (live : count is_live (take k s) ≡ k - m) where
    pub chain-past : (c : ℕ) → k ≤ c → times c (chain_from s m) ≡ 0
    chain-past c h =
        by-eq (times c (chain_from s m)) 0 (λ q. q)
        (λ q. let a = chain-state m c p (omega arith) in let z = past c h in absurd (omega arith))

    live_at : ℕ → ℕ
    live_at c = cond (is_live (get_or s c 0)) 1 0

    at_most : (c : ℕ) → times c (chain_from s m) + live_at c ≤ 1
    unfolding live_at
    at_most c =
        let o = chain-once m c p in
        by-eq (times c (chain_from s m)) 0
        (λ q. let a = one-most (is_live (get_or s c 0)) in rw q (omega arith))
        (λ q. let a = chain-state m c p (omega arith) in rw (live-not (get_or s c 0) (omega arith)) (omega arith))

    live-sum : sum_below live_at k ≡ k - m
    unfolding live_at
    live-sum =
        let long : length (take k s) ≡ k = length-take-le k s size in
        sum-eq live_at (λ i. cond (is_live (get_or (take k s) i 0)) 1 0) k (λ i l. cc (get_or-take k s i 0 l))
        ∙ ap (sum_below (λ i. cond (is_live (get_or (take k s) i 0)) 1 0)) (sym long)
        ∙ sym (count-below is_live (take k s) 0)
        ∙ live

    -- Each chunk handed out is live, or once on the chain.
    pub chain-has : (c : ℕ) → c < k → times c (chain_from s m) + cond (is_live (get_or s c 0)) 1 0 ≡ 1
    unfolding live_at
    chain-has =
        sum-tight (λ c. times c (chain_from s m) + live_at c) (λ c. 1) k (λ c l. at_most c)
        (let a = sum-times _ k chain-past in
        let b = length-chain m in
        omega (arith, sum-add (λ c. times c (chain_from s m)) live_at k, live-sum, sum-const 1 k))

    -- So what holds of a live chunk and of one on the chain holds of each.
    pub by-chunk {ℓ} : {P : Type ℓ} (c : ℕ) → c < k → (0 < state_in (get_or s c 0) → state_in (get_or s c 0) < position_base → times c (chain_from s m) ≡ 0 → P) → (state_in (get_or s c 0) ≡ position_base + position_on c (chain_from s m) → times c (chain_from s m) ≡ 1 → P) → P
    by-chunk c l f g =
        let e = chain-has c l in
        bool (is_live (get_or s c 0))
        (λ b. let a : times c (chain_from s m) + 1 ≡ 1 = rw b at e in let d = live_of _ b in f d.0 d.1 (omega arith))
        (λ b. let a : times c (chain_from s m) + 0 ≡ 1 = rw b at e in g (chain-state m c p (omega arith)) (omega arith))
