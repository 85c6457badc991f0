-- What is read of, and done to, words that pass the test, in the terms of their zone. Assumes nothing.
use Prim.Native.Nat.{ℕ, suc, ◌+◌, ◌-◌, ◌≤◌, ◌<◌}
use mathlib.Core.Path.{◌≡◌, refl, ap, ◌∙◌}
use mathlib.Core.Bool.{true, false}
use mathlib.Core.List.{List, [], ◌∷◌}
use native.Mathlib.Omega.{arith}
use lib.Dec.{eqb}
use lib.ListN.{length, get_or, set, get_or-eq_default}
use borrow.Author.Tests.{ne_eqb, le-leb}
use Rattle.lemmas.specs.Parts.{mid, put_mid}
use Rattle.lemmas.specs.Zeros.{zeros}
use Rattle.lemmas.proofs.Cases.{by-lt}
use Rattle.lemmas.proofs.Parts.{length-mid, length-put, get_or-put}
use Rattle.lemmas.proofs.Zeros.{length-zeros, get_or-zeros}
use Rattle.model.specs.Numbers.{most_group, class_count}
use Rattle.model.specs.Sizes.{chunks}
use Rattle.model.specs.Zone.{Zone, touched, is_nil, full, new_zone, next_chunk, granted, put_back}
use Rattle.model.specs.PageMap.{idle_zone}
use Rattle.model.specs.Valid.{ValidZone}
use Rattle.zone.specs.Encoding.{zone_encoding, head_words, slot_count, zone_words, head_numbers}
use Rattle.zone.specs.Decoding.{owner_in, is_zone, zone_of, class_in, touched_in, chained_in}
use Rattle.zone.specs.Stores.{handed_out, last_put}
use Rattle.zone.specs.Live.{live_chunks}
use Rattle.zone.proofs.Chains.{touched-most, chain-live, idle-live}
use Rattle.zone.proofs.Words.{Words, words-encoding}
use Rattle.zone.proofs.Encoded.{owner-half, zone-valid, zone-words}
use Rattle.zone.proofs.Steps.{put-asks, put-words, hand-out, Takes, take_last, set-up-words}

module _ (w : List ℕ) (e : is_zone w ≡ true) where
  z : Zone
  z = zone_of w

  h : Words w z
  unfolding z
  h = zone-words w e

  v : ValidZone z
  unfolding z
  v = zone-valid w e

  -- ---- the head

  pub zone-size : length w ≡ zone_words
  zone-size = h.size

  pub class-read : class_in w ≡ (zone_of w).class
  unfolding z
  class-read = h.class

  pub class-small : class_in w < class_count
  class-small = rw h.class v.class

  pub touched-read : touched_in w ≡ touched (zone_of w)
  unfolding z
  touched-read = h.handed

  pub touched-few : touched_in w ≤ slot_count
  touched-few = rw h.handed (touched-most z v)

  counts : chained_in w + live_chunks z ≡ touched_in w
  counts = rw (h.chained, h.handed) (chain-live z v)

  pub chain-within : chained_in w ≤ touched_in w
  chain-within = let a = counts in omega arith

  pub live-read : touched_in w - chained_in w ≡ live_chunks (zone_of w)
  unfolding z
  live-read = let a = counts in omega arith

  pub idle-read : eqb (live_chunks (zone_of w)) 0 ≡ idle_zone (zone_of w)
  unfolding z
  idle-read = idle-live z v

  -- ---- full

  nil-length : (l : List ℕ) → eqb (length l) 0 ≡ is_nil l
  nil-length [] = refl
  nil-length (x ∷ l) = ne_eqb (suc (length l)) 0 (omega arith)

  -- Where no chunk is untouched, the zone is full just if the chain is empty.
  pub full-chain : chunks (zone_of w).class ≤ touched (zone_of w) → eqb (chained_in w) 0 ≡ full (zone_of w)
  unfolding z
  full-chain l = rw (le-leb _ (touched z) l, h.chained) (nil-length z.chain)

  -- ---- one chunk

  pub owner-read : (i : ℕ) → owner_in (get_or w (head_words + i) 0) ≡ get_or (zone_of w).owners i 0
  unfolding z
  owner-read i =
      by-lt i slot_count (λ l. rw (h.slots i l) (owner-half z v i))
      (λ l. let a = touched-most z v in rw (get_or-eq_default w 0 {n = head_words + i} (let s = zone-size in omega arith), get_or-eq_default z.owners 0 {n = i} (omega arith)))

  -- ---- the steps

  pub put-back-asks : (i : ℕ) → 0 < get_or (zone_of w).owners i 0 → (length w ≡ zone_words) × (i < slot_count) × (chained_in w < slot_count)
  unfolding z
  put-back-asks i p = put-asks h v i p

  pub put-back-words : (i : ℕ) → 0 < get_or (zone_of w).owners i 0 → last_put i w ≡ zone_encoding (put_back i (zone_of w))
  unfolding z
  put-back-words i p = words-encoding (put-words h v i p)

  module _ (g : ℕ) (p : 0 < g) (q : g ≤ most_group) where
    pub hand-out-words : touched_in w < chunks (class_in w)
        → (touched_in w < slot_count) × (touched_in w ≡ next_chunk (zone_of w)) × (handed_out (touched_in w) g w ≡ zone_encoding (granted g (zone_of w)))
    unfolding z
    hand-out-words l =
        let r = hand-out h v g p q (rw (h.handed, h.class) at l) in (r.0, r.1, words-encoding r.2)

    pub taken : full (zone_of w) ≡ false → chunks (class_in w) ≤ touched_in w → Takes w g (next_chunk (zone_of w)) (granted g (zone_of w))
    unfolding z
    taken n l = take_last h v g p q n (rw (h.handed, h.class) at l)

-- ---- a zone is set up on any words, of which those from 4 on were cleared

pub set-up-encoding : (w : List ℕ) (c g : ℕ) (u : List ℕ) → length w ≡ zone_words → 0 < g → u ≡ zeros (length (mid head_numbers (length w - head_numbers) w))
    → set (set (set (set (set (put_mid head_numbers (length w - head_numbers) w u) 0 3) 1 c) 2 1) 3 0) head_words g ≡ zone_encoding (new_zone c g)
set-up-encoding w c g u size p e =
    let n : length (mid head_numbers (length w - head_numbers) w) ≡ length w - head_numbers = length-mid head_numbers _ w (omega arith) in
    let s : length u ≡ length w - head_numbers = ap length e ∙ length-zeros _ ∙ n in
    words-encoding
    (set-up-words (put_mid head_numbers (length w - head_numbers) w u) c g (length-put head_numbers _ w u (omega arith) s ∙ size)
    (record {
      at = λ i l k.
          let q : i ≡ head_numbers + (i - head_numbers) = omega arith in
          ap (λ j. get_or (put_mid head_numbers (length w - head_numbers) w u) j 0) q
          ∙ get_or-put head_numbers _ w u (omega arith) s _ 0 (omega arith)
          ∙ ap (λ l. get_or l (i - head_numbers) 0) e
          ∙ get_or-zeros _ _;
    }) p)
