-- What the test of a zone's words says, as facts: from the test to the facts and back. Assumes nothing.
use Prim.Native.Nat.{ℕ, ◌+◌, ◌-◌, ◌≤◌, ◌<◌}
use mathlib.Core.Path.{◌≡◌}
use mathlib.Core.Bool.{Bool, true, ◌&&◌}
use mathlib.Core.List.{List}
use native.Mathlib.Omega.{arith}
use lib.ListN.{length, get_or, take, drop}
use borrow.Author.Tests.{eq-eqb, eqb-true, lt-ltb, ltb-true, le-leb, leb-true}
use Rattle.lemmas.specs.Every.{every, count}
use Rattle.lemmas.specs.Parts.{mid}
use Rattle.lemmas.specs.Zeros.{is_zero}
use Rattle.lemmas.proofs.Below.{all-at, all_of}
use Rattle.lemmas.proofs.Cases.{and_left, and_right}
use Rattle.model.specs.Numbers.{class_count}
use Rattle.model.specs.Sizes.{chunks}
use Rattle.zone.specs.Decoding.{slots_in, is_live, is_bare, in_place, slots_legal, head_legal, body_legal, is_zone, class_in, touched_in, chained_in}
use Rattle.zone.proofs.Places.{Placed}
use Rattle.zone.proofs.Rooms.{chunks-most}
use Rattle.zone.specs.Encoding.{head_words, head_numbers, head_zeros, slot_count, zone_words, kind_zone}

pub record Head (w : List ℕ) : Type 0 where
  pub size : length w ≡ zone_words
  pub kind : get_or w 0 0 ≡ kind_zone
  pub class : class_in w < class_count
  pub fits : touched_in w ≤ chunks (class_in w)
  pub few : chained_in w ≤ touched_in w

-- The first k slots and a chain of m.
pub record Slots (s : List ℕ) (k m : ℕ) : Type 0 where
  pub bare : every is_bare (mid m (k - m) s) ≡ true
  pub live : count is_live (take k s) ≡ k - m
  pub placed : Placed s m

pub record Facts (w : List ℕ) : Type 0 where
  pub head : Head w
  pub rest : every is_zero (mid head_numbers head_zeros w) ≡ true
  pub untouched : every is_zero (drop (head_words + touched_in w) w) ≡ true
  pub slots : Slots (slots_in w) (touched_in w) (chained_in w)

both : (a b : Bool) → (a && b) ≡ true → (a ≡ true) × (b ≡ true)
both a b e = (and_left a b e, and_right a b e)

-- ---- the head

pub head_of : (w : List ℕ) → head_legal w ≡ true → Head w
unfolding head_legal
head_of w e =
    let a = both _ _ e in
    let b = both _ _ a.0 in
    let c = both _ _ b.0 in
    let d = both _ _ c.0 in
    record {
      size = eqb-true (length w) zone_words d.0;
      kind = eqb-true _ 3 d.1;
      class = ltb-true (class_in w) class_count c.1;
      fits = leb-true _ _ b.1;
      few = leb-true _ _ a.1;
    }

pub of-head : (w : List ℕ) → Head w → head_legal w ≡ true
unfolding head_legal
of-head w h =
    simp (eq-eqb (length w) zone_words h.size, eq-eqb _ 3 h.kind, lt-ltb (class_in w) class_count h.class, le-leb _ _ h.fits, le-leb _ _ h.few)

pub head-most : (w : List ℕ) → Head w → touched_in w ≤ slot_count
head-most w h = let a = chunks-most (class_in w) in let b = h.fits in omega arith

-- ---- the slots

pub slots-of : (s : List ℕ) (k m : ℕ) → slots_legal s k m ≡ true → Slots s k m
unfolding slots_legal
slots-of s k m e =
    let a = both _ _ e in
    let b = both _ _ a.0 in
    record {
      bare = b.0;
      live = eqb-true _ (k - m) b.1;
      placed = λ i l. eqb-true _ _ (all-at (in_place s) m a.1 i l);
    }

pub of_slots : (s : List ℕ) (k m : ℕ) → Slots s k m → slots_legal s k m ≡ true
unfolding slots_legal
of_slots s k m h =
    rw (h.bare, eq-eqb _ (k - m) h.live)
    (all_of (in_place s) m (λ i l. eq-eqb _ _ (h.placed i l)))

-- ---- the whole

pub facts-of : (w : List ℕ) → is_zone w ≡ true → Facts w
unfolding is_zone body_legal
facts-of w e =
    let rest = every is_zero (mid head_numbers head_zeros w) in
    let slots = slots_legal (slots_in w) (touched_in w) (chained_in w) in
    let a = both _ _ e in
    let b = both _ _ a.1 in
    let c = both rest slots b.0 in
    record { head = head_of w a.0; rest = c.0; untouched = b.1; slots = slots-of (slots_in w) _ _ c.1 }

pub of-facts : (w : List ℕ) → Facts w → is_zone w ≡ true
unfolding is_zone body_legal
of-facts w h = rw (of-head w h.head, h.rest, of_slots (slots_in w) _ _ h.slots) h.untouched
