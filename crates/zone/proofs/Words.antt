-- A zone's encoding, word by word: what the words are, and that they decide the encoding. Assumes nothing.
use Prim.Native.Nat.{ℕ, zero, suc, ◌+◌, ◌-◌, ◌≤◌, ◌<◌}
use mathlib.Core.Path.{◌≡◌, refl, sym, ap, ◌∙◌}
use mathlib.Core.List.{List, [], ◌∷◌, ◌++◌}
use native.Mathlib.Omega.{arith}
use lib.ListN.{length, get_or, length-append, get_or-append}
use lib.Seq.{ext_get_or, get_or-append-add}
use Rattle.lemmas.specs.Zeros.{zeros, Zero}
use Rattle.lemmas.specs.ListFrom.{list_from}
use Rattle.lemmas.proofs.Cases.{by-lt}
use Rattle.lemmas.proofs.Zeros.{length-zeros, get_or-zeros}
use Rattle.lemmas.proofs.ListFrom.{length-list_from, get_or-list_from}
use Rattle.model.specs.Zone.{Zone, touched}
use Rattle.zone.specs.Encoding.{zone_words, head_words, slot_count, kind_zone, slot_of, zone_encoding, head_zeros, head_numbers}
use Rattle.zone.specs.Decoding.{class_in, touched_in, chained_in}

-- The words w are those of the zone z.
pub record Words (w : List ℕ) (z : Zone) : Type 0 where
  pub size : length w ≡ zone_words
  pub kind : get_or w 0 0 ≡ kind_zone
  pub class : class_in w ≡ z.class
  pub handed : touched_in w ≡ touched z
  pub chained : chained_in w ≡ length z.chain
  pub rest : Zero w head_numbers head_words
  pub slots : (i : ℕ) → i < slot_count → get_or w (head_words + i) 0 ≡ slot_of z i

module _ (z : Zone) where
  numbers : List ℕ
  numbers = kind_zone ∷ z.class ∷ touched z ∷ length z.chain ∷ []

  tail : List ℕ
  tail = zeros head_zeros ++ list_from (slot_of z) 0 slot_count

  length-tail : length tail ≡ head_zeros + slot_count
  unfolding tail
  length-tail = omega (arith, length-append (zeros head_zeros) (list_from (slot_of z) 0 slot_count), length-zeros head_zeros, length-list_from (slot_of z) 0 slot_count)

  tail-rest : (i : ℕ) → i < head_zeros → get_or tail i 0 ≡ 0
  unfolding tail
  tail-rest i l = get_or-append (zeros head_zeros) _ 0 i (omega (arith, length-zeros head_zeros)) ∙ get_or-zeros head_zeros i

  tail-slot : (i : ℕ) → i < slot_count → get_or tail (head_zeros + i) 0 ≡ slot_of z i
  unfolding tail
  tail-slot i l =
      ap (λ n. get_or tail (n + i) 0) (sym (length-zeros head_zeros))
      ∙ get_or-append-add (zeros head_zeros) _ i 0
      ∙ get_or-list_from (slot_of z) 0 slot_count i 0 l
      ∙ ap (slot_of z) (omega arith)

  encoded : zone_encoding z ≡ numbers ++ tail
  unfolding zone_encoding numbers tail
  encoded = refl

  behind : (i : ℕ) → get_or (numbers ++ tail) (head_numbers + i) 0 ≡ get_or tail i 0
  unfolding numbers
  behind i = get_or-append-add numbers tail i 0

  pub length-encoding : length (zone_encoding z) ≡ zone_words
  unfolding numbers
  length-encoding = ap length encoded ∙ omega (arith, length-tail)

  whole : Words (numbers ++ tail) z
  unfolding numbers
  whole =
      record {
        size = cc (encoded, length-encoding);
        kind = refl;
        class = refl;
        handed = refl;
        chained = refl;
        rest = record { at = λ i l k. ap (λ n. get_or (numbers ++ tail) n 0) (let e : i ≡ head_numbers + (i - head_numbers) = omega arith in e) ∙ behind _ ∙ tail-rest (i - head_numbers) (omega arith) };
        slots = λ i l. ap (λ n. get_or (numbers ++ tail) n 0) (let e : head_words + i ≡ head_numbers + (head_zeros + i) = omega arith in e) ∙ behind _ ∙ tail-slot i l;
      }

  pub encoding-words : Words (zone_encoding z) z
  encoding-words = rw encoded whole

-- Two lists with the words of one zone are the same.
module _ {v w : List ℕ} {z : Zone} (a : Words v z) (b : Words w z) where
  each : (i : ℕ) → i < zone_words → get_or v i 0 ≡ get_or w i 0
  each zero l = cc
  each (suc zero) l = cc
  each (suc (suc zero)) l = cc
  each (suc (suc (suc zero))) l = cc
  each (suc (suc (suc (suc n)))) l = far _ (omega arith) l
    where
      far : (i : ℕ) → head_numbers ≤ i → i < zone_words → get_or v i 0 ≡ get_or w i 0
      far i k l =
          by-lt i head_words (λ h. a.rest.at i k h ∙ sym (b.rest.at i k h))
          (λ h.
          let e : i ≡ head_words + (i - head_words) = omega arith in
          ap (λ n. get_or v n 0) e ∙ a.slots _ (omega arith) ∙ sym (b.slots _ (omega arith)) ∙ ap (λ n. get_or w n 0) (sym e))

  pub words_same : v ≡ w
  words_same = ext_get_or 0 v w (cc) (λ i l. each i (let s = a.size in omega arith))

pub words-encoding : {w : List ℕ} {z : Zone} → Words w z → w ≡ zone_encoding z
words-encoding {w} {z} h = words_same h (encoding-words z)
