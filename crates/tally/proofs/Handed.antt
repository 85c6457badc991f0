-- The slots of the chunks of a zone that were handed out, as the code lends them: their groups are the zone's owners, and their rooms fit
-- in the zone. A zone without a live chunk adds nothing. Assumes nothing.
use Prim.Native.Nat.{ℕ, suc, ◌+◌, ◌-◌, ◌*◌, ◌≤◌, ◌<◌}
use mathlib.Core.Path.{◌≡◌, sym, ap, ◌∙◌, subst}
use mathlib.Core.Bool.{Bool, true}
use mathlib.Core.List.{List, map}
use native.Mathlib.Omega.{arith}
use lib.ListN.{length, take, drop}
use lib.Seq.{take-take}
use Rattle.lemmas.specs.Parts.{mid}
use Rattle.lemmas.specs.Times.{times}
use Rattle.lemmas.proofs.Parts.{length-mid}
use Rattle.lemmas.proofs.Times.{times-zeros}
use Rattle.model.specs.Numbers.{zone_bytes, large_size, most_group}
use Rattle.model.specs.Sizes.{room, chunks}
use Rattle.model.specs.Zone.{touched}
use Rattle.model.specs.PageMap.{padded, idle_zone}
use Rattle.model.proofs.Blocks.{all_zero-get_or}
use Rattle.model.proofs.Sizes.{room-pos, room_most}
use Rattle.model.proofs.Held.{times-padded, rooms-most}
use Rattle.zone.specs.Encoding.{head_words, slot_count}
use Rattle.zone.specs.Decoding.{owner_in, is_zone, zone_of, touched_in}
use Rattle.zone.proofs.Chains.{touched-most}
use Rattle.zone.proofs.Encoded.{zone-valid}
use Rattle.zone.proofs.Figures.{zone-size, touched-read}
use Rattle.tally.specs.Figures.{Added}
use Rattle.tally.proofs.Adding.{chunks_in, added-as, added_none}

-- The first n slots.
abbrev pub handed : ℕ → List ℕ → List ℕ
handed n w = mid head_words (head_words + n - head_words) w

module _ (w : List ℕ) (e : is_zone w ≡ true) {n : ℕ} (same : n ≡ touched (zone_of w)) where
  few : n ≤ slot_count
  few = omega (arith, touched-most (zone_of w) (zone-valid w e))

  pub handed-inside : head_words + n ≤ length w
  handed-inside = let a = few in omega (arith, zone-size w e)

  long : length (handed n w) ≡ n
  long = let a = handed-inside in length-mid head_words (head_words + n - head_words) w (omega arith) ∙ omega arith

  owners : map owner_in (handed n w) ≡ (zone_of w).owners
  unfolding zone_of
  owners =
      let a = few in
      let t : head_words + n - head_words ≡ touched_in w = omega (arith, touched-read w e) in
      ap (λ k. map owner_in (take k (drop head_words w))) t
      ∙ ap (map owner_in) (sym (take-take (touched_in w) slot_count (drop head_words w) (omega (arith, touched-read w e))))

  module _ {r c : ℕ} (class : c ≡ (zone_of w).class) (bytes : r ≡ room c) where
    rooms : r ≡ room (zone_of w).class
    rooms = bytes ∙ ap room class

    pub handed-asks : (length (handed n w) * r ≤ zone_bytes) × (r ≤ large_size) × (0 < r)
    handed-asks =
        let v = zone-valid w e in
        let k : length (handed n w) * r ≡ touched (zone_of w) * room (zone_of w).class = cc (long, rooms) in
        (omega (arith, rooms-most (zone_of w).class _ v.fits), omega (arith, rooms, room_most (zone_of w).class v.class), omega (arith, rooms, room-pos (zone_of w).class))

    pub handed-added : {t u : List ℕ} → Added (chunks_in owner_in (handed n w)) r t u → Added (λ g. times g (zone_of w).owners) (room (zone_of w).class) t u
    handed-added {t} {u} a =
        subst (λ k. Added (λ g. times g (zone_of w).owners) k t u) rooms (added-as a (λ g. times g (zone_of w).owners) (λ i l. ap (times _) owners))

-- ---- a zone without a live chunk

pub idle-added : (w : List ℕ) → is_zone w ≡ true → {r : Bool} → r ≡ idle_zone (zone_of w) → r ≡ true → {t : List ℕ} → length t ≡ most_group + most_group
    → Added (λ g. times g (zone_of w).owners) (room (zone_of w).class) t t
idle-added w e same none-live {t} full =
    let z = zone_of w in
    let k = chunks z.class in
    added_none _ _ t full (λ i l.
    sym (times-padded (suc i) k z.owners (omega arith) (zone-valid w e).fits) ∙ times-zeros (suc i) (padded k z.owners) (omega arith) (all_zero-get_or (padded k z.owners) (sym same ∙ none-live)))
