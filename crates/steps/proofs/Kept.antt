-- What each step makes has words again, so the next step can be lent them. Assumes nothing.
use Prim.Native.Nat.{ℕ, ◌*◌, ◌<◌}
use mathlib.Core.Path.{◌≡◌, sym, ap, ◌∙◌, subst}
use mathlib.Core.List.{List, [], ◌∷◌}
use native.Mathlib.Omega.{arith}
use lib.ListN.{length, set}
use Rattle.model.specs.Numbers.{page_bytes, class_count}
use Rattle.model.specs.Arena.{Segment, zone, total}
use Rattle.model.specs.Zone.{Zone}
use Rattle.model.specs.State.{State, list_of, arranged, ZoneAt, zone_in, zone_at, put_zone}
use Rattle.model.specs.Valid.{ValidZone, Valid}
use Rattle.model.proofs.Arena.{each-edit}
use Rattle.model.proofs.Moves.{put-size, put-new}
use Rattle.header.specs.Keys.{keys_of}
use Rattle.header.specs.Encoding.{Fits, list_slots}
use Rattle.header.proofs.Kept.{fits-remove, length-keys-set}
use Rattle.pages.specs.Encoding.{Writable}
use Rattle.pages.specs.Places.{Stands}
use Rattle.pages.proofs.Middle.{edit-stands}
use Rattle.metadata.specs.Encoding.{encode}
use Rattle.metadata.specs.Decoding.{decode}
use Rattle.metadata.proofs.States.{valid-fits}
use Rattle.steps.specs.Lent.{Encodes, Good}
use Rattle.steps.specs.Moves.{unlisted, rezoned}
use Rattle.steps.proofs.Lent.{lent, lent-long, lent-decoded, valid-lent}

-- Words of a valid state.
pub good_of : (w : List ℕ) (s : State) (n : ℕ) → Valid s → w ≡ encode s → n ≡ total s.segments → Good w n
good_of w s n v e t =
    let h = valid-lent w s v e in
    record { lent = lent h; pages = t ∙ ap (λ k. total k.segments) (sym (lent-decoded h)); valid = subst Valid (sym (lent-decoded h)) v }

pub good-decoded : (w : List ℕ) (s : State) → Valid s → w ≡ encode s → decode w ≡ s
good-decoded w s v e = lent-decoded (valid-lent w s v e)

-- Words of as many pages are as long.
pub good-long : {w v : List ℕ} {n : ℕ} → Good w n → Good v n → length w ≡ length v
good-long {w} {v} {n} g h = omega (arith, lent-long g.lent, lent-long h.lent, g.pages, h.pages)

module _ {w : List ℕ} {s : State} (h : Encodes w s) (v : List ℕ) where
  pub kept-zone : (p : ℕ) (z z' : Zone) → ZoneAt s.segments p z → ValidZone z' → v ≡ encode (rezoned p z' s) → Encodes v (rezoned p z' s)
  kept-zone p z z' b k e = record {
    words = e;
    fits = subst (λ n. Fits n s.spare s.lists) (sym (put-size s.segments p z z' b)) h.fits;
    sound = each-edit Writable (p * page_bytes) (λ _. zone z' ∷ []) (λ _ _. ((omega arith, k), tt)) s.segments h.sound;
  }

  pub kept-without : (c p : ℕ) → c < class_count → v ≡ encode (unlisted c p s) → Encodes v (unlisted c p s)
  kept-without c p a e = record { words = e; fits = fits-remove h.fits c p a; sound = h.sound }

-- A list that gains an entry and then fits had room for it.
pub had-room : (s : State) (c p : ℕ) (m : List (Segment Zone)) (sp : List ℕ) → Valid (arranged s m (set s.lists c (p ∷ list_of s c)) sp) → c < length s.lists → length (keys_of s.lists) < list_slots
had-room s c p m sp v h = omega (arith, (valid-fits (arranged s m (set s.lists c (p ∷ list_of s c)) sp) v).room, length-keys-set c s.lists (p ∷ list_of s c) h)

-- Another zone in the place of the one at a page.
pub put-zone-at : (m : List (Segment Zone)) (p : ℕ) (z z' : Zone) → ZoneAt m p z → zone_at p (put_zone p z' m) ≡ z'
put-zone-at m p z z' b = ap zone_in (put-new m p z z' b)

pub put-stands : {m : List (Segment Zone)} {p b : ℕ} {z : Zone} (z' : Zone) → Stands m p b (zone z) → Stands (put_zone p z' m) p b (zone z')
put-stands {m} {p} {b} {z} z' s = record { before = s.before; behind = s.behind; whole = edit-stands s (λ _. zone z' ∷ []) (omega arith); starts = s.starts; ends = s.ends }
