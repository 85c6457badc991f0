-- The words of a valid zone pass the test and are read back as the zone; so the test is exact, and a valid zone has one encoding.
-- Assumes nothing.
use Prim.Native.Nat.{ℕ, ◌+◌, ◌-◌, ◌≤◌, ◌<◌}
use mathlib.Core.Path.{◌≡◌, sym, ap, ◌∙◌}
use mathlib.Core.Logic.{◌↔◌}
use mathlib.Core.Bool.{true, cond}
use mathlib.Core.List.{List, map}
use native.Mathlib.Omega.{arith}
use lib.Dec.{ltb}
use lib.ListN.{length, get_or, take, drop, length-drop, length-map, get_or-map, get_or-eq_default}
use lib.Seq.{ext_get_or, get_or-drop, get_or-take, length-take-le}
use borrow.Author.Tests.{eq-eqb, ne_eqb, lt-ltb, le-ltb}
use Rattle.lemmas.specs.Below.{sum_below}
use Rattle.lemmas.specs.Every.{every, count}
use Rattle.lemmas.specs.Parts.{mid}
use Rattle.lemmas.specs.Times.{times}
use Rattle.lemmas.specs.Zeros.{is_zero}
use Rattle.lemmas.proofs.Cases.{by-eq, by-lt}
use Rattle.lemmas.proofs.Every.{every_of}
use Rattle.lemmas.proofs.Below.{sum-eq, count-below}
use Rattle.lemmas.proofs.Parts.{length-mid, get_or-mid}
use Rattle.lemmas.proofs.Zeros.{zero-mid, every-zeros}
use Rattle.model.specs.Zone.{Zone, touched}
use Rattle.model.specs.Valid.{ValidZone}
use Rattle.zone.specs.Encoding.{position_on, chunk_at, state_of, slot_of, zone_encoding, head_words, head_zeros, slot_count, zone_words, position_base, half, head_numbers}
use Rattle.zone.specs.Decoding.{slots_in, state_in, entry_in, is_live, is_bare, owner_in, chain_from, is_zone, zone_of, touched_in, chained_in}
use Rattle.zone.specs.Live.{is_group, live_chunks}
use Rattle.zone.proofs.Chains.{returned-in, touched-most, on_chain, chain-once, chain-live}
use Rattle.zone.proofs.Facts.{Facts, facts-of, of-facts}
use Rattle.zone.proofs.Places.{Placed, live-is, live-not, position-less, chunk-past, chunk-on, position-chunk, chain-again}
use Rattle.zone.proofs.Words.{Words, encoding-words, words-encoding}
use Rattle.zone.proofs.Decoded.{length-slots, slot_at, decoded-valid, decoded-words}

-- ---- the state of a chunk: live, returned, untouched

module _ (z : Zone) (i : ℕ) where
  pub state-live : i < touched z → 0 < get_or z.owners i 0 → state_of z i ≡ get_or z.owners i 0
  unfolding state_of
  state-live l p = rw (lt-ltb i (touched z) l, ne_eqb (get_or z.owners i 0) 0 (omega arith))

  pub state-returned : i < touched z → get_or z.owners i 0 ≡ 0 → state_of z i ≡ position_base + position_on i z.chain
  unfolding state_of
  state-returned l e = rw (lt-ltb i (touched z) l, eq-eqb _ 0 e)

  pub state-untouched : touched z ≤ i → state_of z i ≡ 0
  unfolding state_of
  state-untouched l = rw (le-ltb i (touched z) l)

  -- A claim about the state of a chunk that was handed out.
  pub by_state : (P : ℕ → Type 0) → i < touched z → (0 < get_or z.owners i 0 → P (get_or z.owners i 0)) → (get_or z.owners i 0 ≡ 0 → P (position_base + position_on i z.chain)) → P (state_of z i)
  by_state P l f g =
      by-eq (get_or z.owners i 0) 0 (λ e. rw (state-returned l e) (g e))
      (λ n. let p : 0 < get_or z.owners i 0 = omega arith in rw (state-live l p) (f p))

-- ---- the halves of a slot of a valid zone

module _ (z : Zone) (v : ValidZone z) where
  pub chain-few : length z.chain ≤ touched z
  chain-few = omega (arith, chain-live z v)

  -- A returned chunk stands on the chain.
  pub returned-on : (i : ℕ) → i < touched z → get_or z.owners i 0 ≡ 0 → 0 < times i z.chain
  returned-on i l e = rw (v.chained i, returned-in z.owners i l, eq-eqb _ 0 e) (omega arith)

  pub state-most : (i : ℕ) → state_of z i < position_base + slot_count
  state-most i =
      by-lt i (touched z)
      (λ l. by_state z i (λ x. x < position_base + slot_count) l (λ p. let g = v.groups i in omega arith)
      (λ e. let a = position-less i z.chain (returned-on i l e) in let b = chain-few in let d = touched-most z v in omega arith))
      (λ l. omega (arith, state-untouched z i l))

  pub state-half : (i : ℕ) → state_in (slot_of z i) ≡ state_of z i
  unfolding slot_of
  state-half i = let a = state-most i in omega arith

  pub entry-half : (i : ℕ) → entry_in (slot_of z i) ≡ chunk_at i z.chain
  unfolding slot_of
  entry-half i = let a = state-most i in omega arith

  pub owner-half : (i : ℕ) → owner_in (slot_of z i) ≡ get_or z.owners i 0
  owner-half i =
      rw (state-half i)
      (by-lt i (touched z)
      (λ l. by_state z i (λ x. cond (ltb x position_base) x 0 ≡ get_or z.owners i 0) l (λ p. let g = v.groups i in rw (lt-ltb (get_or z.owners i 0) position_base (omega arith)))
      (λ e. rw (le-ltb (position_base + position_on i z.chain) position_base (omega arith)) (sym e)))
      (λ l. rw (state-untouched z i l) (sym (get_or-eq_default z.owners 0 {n = i} l))))

  pub slot-past : (i : ℕ) → touched z ≤ i → slot_of z i ≡ 0
  unfolding slot_of
  slot-past i l = let b = chain-few in omega (arith, state-untouched z i l, chunk-past i z.chain (omega arith))

  pub slot-bare : (i : ℕ) → length z.chain ≤ i → slot_of z i ≡ state_of z i
  unfolding slot_of
  slot-bare i l = omega (arith, chunk-past i z.chain l)

-- ---- the words of a valid zone

module _ (w : List ℕ) (z : Zone) (h : Words w z) (v : ValidZone z) where
  s : List ℕ
  s = slots_in w

  abbrev k : ℕ
  k = touched_in w

  abbrev m : ℕ
  m = chained_in w

  most : touched z ≤ slot_count
  most = touched-most z v

  few : m ≤ k
  few = omega (arith, chain-few z v)

  long : length s ≡ slot_count
  unfolding s
  long = length-slots w h.size

  slot-get : (i : ℕ) → i < slot_count → get_or s i 0 ≡ slot_of z i
  unfolding s
  slot-get i l = slot_at w h.size i l ∙ h.slots i l

  state-get : (i : ℕ) → i < slot_count → state_in (get_or s i 0) ≡ state_of z i
  state-get i l = rw (slot-get i l) (state-half z v i)

  entry-get : (i : ℕ) → i < slot_count → entry_in (get_or s i 0) ≡ chunk_at i z.chain
  entry-get i l = rw (slot-get i l) (entry-half z v i)

  owner-get : (i : ℕ) → i < slot_count → owner_in (get_or s i 0) ≡ get_or z.owners i 0
  owner-get i l = rw (slot-get i l) (owner-half z v i)

  bare : every is_bare (mid m (k - m) s) ≡ true
  bare =
      every_of is_bare _ 0
      (λ i l.
      let f = few in let a = most in let q = h.handed in let r = h.chained in
      let j : i < k - m = let n = length-mid m (k - m) s (let b = long in omega arith) in omega arith in
      let e : get_or (mid m (k - m) s) i 0 ≡ state_of z (m + i) = get_or-mid m (k - m) s i 0 j ∙ slot-get (m + i) (omega arith) ∙ slot-bare z v (m + i) (omega arith) in
      lt-ltb (get_or (mid m (k - m) s) i 0) half (omega (arith, state-most z v (m + i))))

  live-get : (i : ℕ) → i < touched z → is_live (get_or s i 0) ≡ is_group (get_or z.owners i 0)
  live-get i l =
      let a = state-get i (let b = most in omega arith) in
      by-eq (get_or z.owners i 0) 0
      (λ e. live-not (get_or s i 0) (omega (arith, state-returned z i l e)) ∙ sym (le-ltb 0 (get_or z.owners i 0) (omega arith)))
      (λ n. let g = v.groups i in let q = state-live z i l (omega arith) in live-is (get_or s i 0) (omega arith) (omega arith) ∙ sym (lt-ltb 0 (get_or z.owners i 0) (omega arith)))

  live : count is_live (take k s) ≡ k - m
  unfolding live_chunks
  live =
      let n : length (take k s) ≡ touched z = length-take-le k s (let a = long in let b = most in let q = h.handed in omega arith) ∙ h.handed in
      let a : count is_live (take k s) ≡ count is_group z.owners =
      count-below is_live (take k s) 0
      ∙ ap (sum_below (λ i. cond (is_live (get_or (take k s) i 0)) 1 0)) n
      ∙ sum-eq (λ i. cond (is_live (get_or (take k s) i 0)) 1 0) (λ i. cond (is_group (get_or z.owners i 0)) 1 0) (touched z)
      (λ i l. cc (get_or-take k s i 0 (let q = h.handed in omega arith), live-get i l))
      ∙ sym (count-below is_group z.owners 0) in
      omega (arith, chain-live z v)

  placed : Placed s m
  placed i l =
      let j : i < length z.chain = let r = h.chained in omega arith in
      let f = few in let b = most in let q = h.handed in
      let c = chunk_at i z.chain in
      let on = on_chain z v c (chunk-on i z.chain j) in
      let d = on.0 in
      rw (entry-get i (omega arith))
      (cc (state-get c (omega arith), state-returned z c d on.1, position-chunk i z.chain j (chain-once z v)))

  untouched : every is_zero (drop (head_words + touched_in w) w) ≡ true
  untouched =
      every_of is_zero _ 0
      (λ i l.
      let n : length w ≡ zone_words = h.size in
      let k : touched_in w ≡ touched z = h.handed in
      let b : i < length w - (head_words + touched_in w) = rw length-drop at l in
      let q : head_words + touched_in w + i ≡ head_words + (touched z + i) = omega arith in
      eq-eqb _ 0
      (get_or-drop (head_words + touched_in w) w i 0 ∙ ap (λ (j : ℕ). get_or w j 0) q ∙ h.slots (touched z + i) (omega arith) ∙ slot-past z v (touched z + i) (omega arith)))

  pub words-facts : Facts w
  unfolding s
  words-facts =
      record {
        head = record {
          size = h.size;
          kind = h.kind;
          class = rw h.class v.class;
          fits = rw (h.handed, h.class) v.fits;
          few = few;
        };
        rest = rw (zero-mid {w = w} {a = head_numbers} {b = head_words} (let b = h.size in omega arith) h.rest) (every-zeros head_zeros);
        untouched = untouched;
        slots = record { bare = bare; live = live; placed = placed };
      }

  pub words-zone : is_zone w ≡ true
  words-zone = of-facts w words-facts

  pub words-decoded : zone_of w ≡ z
  unfolding zone_of s
  words-decoded =
      let few = chain-few z v in
      let c : chain_from s m ≡ z.chain = rw h.chained (chain-again s z.chain (λ i l. entry-get i (let b = most in omega arith))) in
      let n : length (map owner_in (take k s)) ≡ touched z = cc (length-map (take k s) owner_in, length-take-le k s (let a = long in let b = most in let q = h.handed in omega arith)) in
      let o : map owner_in (take k s) ≡ z.owners =
      ext_get_or 0 _ z.owners n
      (λ i l. cc (get_or-map owner_in (take k s) i 0, get_or-take k s i 0 (let q = h.handed in omega arith), owner-get i (let b = most in omega arith))) in
      λ i. record { class = h.class i; owners = o i; chain = c i }

-- ---- the encoding

-- The test passes exactly where the words are the encoding of a valid zone.
pub zone-iff : (w : List ℕ) → (is_zone w ≡ true) ↔ ((z : Zone) × ValidZone z × (w ≡ zone_encoding z))
zone-iff w = (
  λ e. let h = facts-of w e in (zone_of w, decoded-valid w h, words-encoding (decoded-words w h)),
  λ s. rw s.2 (words-zone _ s.0 (encoding-words s.0) s.1),
)

-- A valid zone's encoding is read back as the zone.
pub zone-decoded : (z : Zone) → ValidZone z → zone_of (zone_encoding z) ≡ z
zone-decoded z v = words-decoded _ z (encoding-words z) v

pub encoding-zone : (z : Zone) → ValidZone z → is_zone (zone_encoding z) ≡ true
encoding-zone z v = words-zone _ z (encoding-words z) v

-- Words that pass the test, and their zone.
module _ (w : List ℕ) (e : is_zone w ≡ true) where
  pub zone-valid : ValidZone (zone_of w)
  zone-valid = decoded-valid w (facts-of w e)

  pub zone-words : Words w (zone_of w)
  zone-words = decoded-words w (facts-of w e)
