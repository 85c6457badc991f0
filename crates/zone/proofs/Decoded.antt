-- Words that pass the test are those of a valid zone. Assumes nothing.
use Prim.Native.Nat.{ℕ, ◌+◌, ◌-◌, ◌≤◌, ◌<◌}
use mathlib.Core.Path.{◌≡◌, refl, sym, ap, ◌∙◌}
use mathlib.Core.Bool.{cond}
use mathlib.Core.List.{List}
use native.Mathlib.Omega.{arith}
use lib.Dec.{eqb}
use lib.ListN.{length, get_or, take, length-drop, length-map, get_or-map, get_or-eq_default}
use lib.Seq.{get_or-drop, get_or-take, length-take-le}
use borrow.Author.Tests.{ne_eqb, eqb-true, ltb-true, lt-ltb, le-ltb}
use Rattle.lemmas.specs.Every.{count}
use Rattle.lemmas.specs.Times.{times}
use Rattle.lemmas.specs.Zeros.{zeros, is_zero}
use Rattle.lemmas.specs.Parts.{mid}
use Rattle.lemmas.proofs.Cases.{by-ltb, by-lt}
use Rattle.lemmas.proofs.Every.{every-at}
use Rattle.lemmas.proofs.Parts.{length-mid, get_or-mid}
use Rattle.lemmas.proofs.Zeros.{mid-zero, zeros-every}
use Rattle.model.specs.Numbers.{most_group}
use Rattle.model.specs.Zone.{Zone, touched}
use Rattle.model.specs.Valid.{ValidZone}
use Rattle.zone.specs.Encoding.{position_on, chunk_at, state_for, state_of, slot_of, head_words, head_numbers, head_zeros, slot_count, zone_words, position_base, half}
use Rattle.zone.specs.Decoding.{slots_in, state_in, entry_in, is_live, is_bare, owner_in, chain_from, zone_of, class_in, touched_in, chained_in}
use Rattle.zone.proofs.Chains.{returned-in, returned-past}
use Rattle.zone.proofs.Facts.{Facts, head-most}
use Rattle.zone.proofs.Places.{Placed, chunk-past, length-chain, chunk-chain, chain-past, by-chunk}
use Rattle.zone.proofs.Words.{Words}

-- ---- the slots as a part

module _ (w : List ℕ) (size : length w ≡ zone_words) where
  pub length-slots : length (slots_in w) ≡ slot_count
  length-slots = length-mid head_words slot_count w (omega arith)

  pub slot_at : (i : ℕ) → i < slot_count → get_or (slots_in w) i 0 ≡ get_or w (head_words + i) 0
  slot_at i l = get_or-mid head_words slot_count w i 0 l

-- ---- one slot

owner-most : (x : ℕ) → owner_in x ≤ most_group
owner-most x = by-ltb (λ t. cond t (state_in x) 0 ≤ most_group) (state_in x) position_base (omega arith) (omega arith)

-- A state below 13 is the owner; a chunk with another has none.
pub owner-live : (x : ℕ) → state_in x < position_base → owner_in x ≡ state_in x
owner-live x l = rw (lt-ltb (state_in x) position_base l)

pub owner-none : (x : ℕ) → position_base ≤ state_in x → owner_in x ≡ 0
owner-none x l = rw (le-ltb (state_in x) position_base l)

-- ---- the zone

module _ (w : List ℕ) (h : Facts w) where
  s : List ℕ
  s = slots_in w

  abbrev k : ℕ
  k = touched_in w

  abbrev m : ℕ
  m = chained_in w

  chain : List ℕ
  chain = chain_from s m

  size : length w ≡ zone_words
  size = h.head.size

  most : k ≤ slot_count
  most = head-most w h.head

  long : length s ≡ slot_count
  unfolding s
  long = length-slots w size

  few : m ≤ k
  few = h.head.few

  untouched-zero : (i : ℕ) → k ≤ i → i < slot_count → get_or w (head_words + i) 0 ≡ 0
  untouched-zero i l b =
      let a = every-at is_zero _ (i - touched_in w) 0 h.untouched (simp length-drop (let n = size in omega arith)) in
      let e : head_words + i ≡ head_words + touched_in w + (i - touched_in w) = omega arith in
      ap (λ n. get_or w n 0) e ∙ sym (get_or-drop _ w _ 0) ∙ eqb-true _ 0 a

  slot_is : (i : ℕ) → i < slot_count → get_or s i 0 ≡ get_or w (head_words + i) 0
  unfolding s
  slot_is i l = slot_at w size i l

  past : (i : ℕ) → k ≤ i → get_or s i 0 ≡ 0
  past i l =
      by-lt i slot_count (λ b. slot_is i b ∙ untouched-zero i l b)
      (λ b. get_or-eq_default s 0 {n = i} (let a = long in omega arith))

  placed : Placed s m
  unfolding s
  placed = h.slots.placed

  live : count is_live (take k s) ≡ k - m
  unfolding s
  live = h.slots.live

  within : k ≤ length s
  within = let a = long in let b = most in omega arith

  -- A chunk that was handed out: live, or once on the chain.
  chunk {ℓ} : {P : Type ℓ} (c : ℕ) → c < k → (0 < state_in (get_or s c 0) → state_in (get_or s c 0) < position_base → times c chain ≡ 0 → P) → (state_in (get_or s c 0) ≡ position_base + position_on c chain → times c chain ≡ 1 → P) → P
  unfolding chain
  chunk = by-chunk s k m placed few within past live

  chain-out : (c : ℕ) → k ≤ c → times c chain ≡ 0
  unfolding chain
  chain-out = chain-past s k m placed few within past live

  z : Zone
  z = zone_of w

  parts : (z.class ≡ class_in w) × (z.chain ≡ chain)
  unfolding z zone_of s chain
  parts = (refl, refl)

  length-owners : touched z ≡ k
  unfolding z zone_of s
  length-owners = length-map (take k s) owner_in ∙ length-take-le k s within

  owner-get : (i : ℕ) → i < k → get_or z.owners i 0 ≡ owner_in (get_or s i 0)
  unfolding z zone_of s
  owner-get i l = cc (get_or-map owner_in (take k s) i 0, get_or-take k s i 0 l)

  owner-low : (i : ℕ) → get_or z.owners i 0 ≤ most_group
  owner-low i =
      by-lt i k (λ l. rw (owner-get i l) (owner-most (get_or s i 0)))
      (λ l. omega (arith, get_or-eq_default z.owners 0 {n = i} (omega (arith, length-owners))))

  returned : (i : ℕ) → i < k → times i chain ≡ cond (eqb (owner_in (get_or s i 0)) 0) 1 0
  returned i l =
      chunk i l (λ a b e. e ∙ rw (owner-live _ b, ne_eqb (state_in (get_or s i 0)) 0 (omega arith)))
      (λ a e. e ∙ rw (owner-none (get_or s i 0) (omega arith)))

  pub decoded-valid : ValidZone (zone_of w)
  unfolding z
  decoded-valid =
      let n : touched z ≡ touched_in w = length-owners in
      let c : z.class ≡ class_in w = parts.0 in
      record {
        class = rw c h.head.class;
        fits = rw (n, c) h.head.fits;
        groups = owner-low;
        chained = λ i. ap (times i) parts.1 ∙ by-lt i k
            (λ l. cc (returned i l, returned-in z.owners i (omega (arith, length-owners)), owner-get i l))
            (λ l. chain-out i l ∙ sym (returned-past z.owners i (omega arith)));
      }

  -- ---- and its words

  state-same : (i : ℕ) → state_in (get_or s i 0) ≡ state_of z i
  unfolding state_of
  state-same i =
      rw (length-owners, parts.1)
      (by-ltb (λ t. state_in (get_or s i 0) ≡ cond t (state_for (get_or z.owners i 0) (position_on i chain)) 0) i k
      (λ l. rw (owner-get i l)
      (chunk i l (λ a b e. rw (owner-live _ b, ne_eqb (state_in (get_or s i 0)) 0 (omega arith)))
      (λ a e. rw (owner-none (get_or s i 0) (omega arith)) a)))
      (λ l. let a = past i l in omega arith))

  bare : (i : ℕ) → m ≤ i → get_or s i 0 < half
  unfolding s
  bare i l =
      by-lt i k
      (λ b.
      let j : i - m < k - m = omega arith in
      let n : length (mid m (k - m) s) ≡ k - m = length-mid m (k - m) s (let f = few in let g = within in omega arith) in
      let a = every-at is_bare _ (i - m) 0 h.slots.bare (omega arith) in
      let e : m + (i - m) ≡ i = omega arith in
      let q : get_or (mid m (k - m) s) (i - m) 0 ≡ get_or s i 0 = get_or-mid m (k - m) s (i - m) 0 j ∙ ap (λ n. get_or s n 0) e in
      let r = ltb-true (get_or (mid m (k - m) s) (i - m) 0) half a in omega arith)
      (λ b. let a = past i b in omega arith)

  entry-same : (i : ℕ) → entry_in (get_or s i 0) ≡ chunk_at i z.chain
  unfolding chain
  entry-same i =
      rw parts.1
      (by-lt i m (λ l. sym (chunk-chain s m i l))
      (λ l. let b = bare i l in omega (arith, chunk-past i chain (omega (arith, length-chain s m)))))

  slot_same : (i : ℕ) → i < slot_count → get_or w (head_words + i) 0 ≡ slot_of z i
  unfolding slot_of
  slot_same i b = sym (slot_is i b) ∙ omega (arith, state-same i, entry-same i)

  pub decoded-words : Words w (zone_of w)
  unfolding z chain
  decoded-words =
      record {
        size = size;
        kind = h.head.kind;
        class = sym parts.0;
        handed = sym length-owners;
        chained = sym (cc (parts.1, length-chain s m));
        rest = mid-zero head_numbers head_words (zeros-every _ h.rest ∙ ap zeros (length-mid head_numbers head_zeros w (let b = size in omega arith)));
        slots = slot_same;
      }
