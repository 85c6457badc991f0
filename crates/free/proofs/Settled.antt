-- After a chunk's return the zone stays where it is, or retires. Assumes nothing.
use Prim.Native.Nat.{ℕ, ◌*◌, ◌≤◌, ◌<◌}
use mathlib.Core.Path.{◌≡◌, sym, ap, ◌∙◌}
use mathlib.Core.List.{List, [], ◌∷◌}
use mathlib.Core.Bool.{Bool, true, false, cond, ◌&&◌}
use native.Mathlib.Omega.{arith}
use lib.Dec.{ltb}
use lib.ListN.{length, set}
use lib.Seq.{get_or-set_same, set-set}
use borrow.Author.Tests.{lt-ltb, le-ltb}
use Rattle.lemmas.specs.Times.{remove}
use Rattle.lemmas.proofs.Cases.{and_both, and-false}
use Rattle.model.specs.Numbers.{page_bytes, most_spare}
use Rattle.model.specs.Zone.{Zone, put_back}
use Rattle.model.specs.State.{State, list_of, arranged, zone_at, put_zone}
use Rattle.model.specs.PageMap.{idle_zone}
use Rattle.model.specs.Pages.{release}
use Rattle.model.specs.Free.{retired, chunk_back}
use Rattle.metadata.specs.Encoding.{encode}
use Rattle.metadata.specs.Decoding.{decode}
use Rattle.steps.specs.Lent.{Good}
use Rattle.free.specs.Back.{relisted, chained, LiveChunk, Remains}
use Rattle.free.proofs.Live.{live-class, chained-decoded, zone-back}

-- The rule, by its tests.
module _ (s : State) (c i p : ℕ) (z : Zone) where
  abbrev l : List ℕ
  l = relisted c p z s

  abbrev s₁ : State
  s₁ = arranged s (put_zone p (put_back i z) s.segments) s.lists s.spare

  settled-stays : (idle_zone (put_back i z) && ltb 1 (length l)) ≡ false → chunk_back c i p z s ≡ chained c i p z s
  settled-stays t = rw t

  retires : idle_zone (put_back i z) ≡ true → 2 ≤ length l → chunk_back c i p z s ≡ retired c p l s₁
  retires t h = rw (and_both (idle_zone (put_back i z)) (ltb 1 (length l)) t (lt-ltb 1 (length l) (omega arith)))

  busy-stays : idle_zone (put_back i z) ≡ false → chunk_back c i p z s ≡ chained c i p z s
  busy-stays t = settled-stays (rw t)

  only-stays : length l < 2 → chunk_back c i p z s ≡ chained c i p z s
  only-stays h = settled-stays (ap (λ x. idle_zone (put_back i z) && x) (le-ltb 1 (length l) (omega arith)) ∙ and-false (idle_zone (put_back i z)))

  module _ (low : c < length s.lists) where
    list-is : list_of (chained c i p z s) c ≡ l
    list-is = get_or-set_same s.lists c l [] low

    -- Retiring from the state in which the chunk is on the chain already.
    retired-same : retired c p (list_of (chained c i p z s) c) (chained c i p z s) ≡ retired c p l s₁
    retired-same = λ j. cond (ltb (length s.spare) most_spare)
        (arranged s (put_zone p (put_back i z) s.segments) (lists j) (p ∷ s.spare))
        (arranged s (release (p * page_bytes) (put_zone p (put_back i z) s.segments)) (lists j) s.spare)
      where
        lists : set (set s.lists c l) c (remove p (list_of (chained c i p z s) c)) ≡ set s.lists c (remove p l)
        lists = set-set s.lists c l (remove p (list_of (chained c i p z s) c)) ∙ ap (λ k. set s.lists c (remove p k)) list-is

    back-retired : idle_zone (put_back i z) ≡ true → 2 ≤ length l → retired c p (list_of (chained c i p z s) c) (chained c i p z s) ≡ chunk_back c i p z s
    back-retired t h = retired-same ∙ sym (retires t h)

  -- Whether the zone still stands.
  stays-remains : chunk_back c i p z s ≡ chained c i p z s → Remains true i p z s (chunk_back c i p z s)
  stays-remains e = ap (λ k. k.segments) e

  retired-remains : idle_zone (put_back i z) ≡ true → 2 ≤ length l → (r : Bool) → r ≡ ltb (length s.spare) most_spare → Remains r i p z s (chunk_back c i p z s)
  retired-remains t h true e = ap (λ k. k.segments) (retires t h) ∙ rw (sym e)
  retired-remains t h false e = (ap (λ k. k.segments) (retires t h) ∙ rw (sym e), t)

-- The same of lent words v in which the chunk is on its zone's chain and the zone on its list.
module _ {w : List ℕ} {n p b i : ℕ} (good : Good w n) (live : LiveChunk (decode w) p b i) {v : List ℕ}
    (e : v ≡ encode (chained (zone_at p (decode w).segments).class i p (zone_at p (decode w).segments) (decode w))) where
  abbrev z : Zone
  z = zone_at p (decode w).segments

  abbrev Back : State
  Back = chunk_back (zone_at p (decode w).segments).class i p (zone_at p (decode w).segments) (decode w)

  low : z.class < length (decode w).lists
  low = omega (arith, live-class good live, good.valid.classes)

  idle-is : (r : Bool) → r ≡ idle_zone (zone_at p (decode v).segments) → r ≡ idle_zone (put_back i z)
  idle-is r f = f ∙ ap (λ y. idle_zone y) (zone-back good live e)

  count-is : (c : ℕ) → c ≡ z.class → (k : ℕ) → k ≡ length (list_of (decode v) c) → k ≡ length (relisted z.class p z (decode w))
  count-is c q k f = f ∙ (λ j. length (list_of (chained-decoded good live e j) (q j))) ∙ ap length (list-is (decode w) z.class i p z low)

  pub back-busy : (r : Bool) → r ≡ idle_zone (zone_at p (decode v).segments) → r ≡ false → (v ≡ encode Back) × Remains true i p (zone_at p (decode w).segments) (decode w) Back
  back-busy r f t = let k = busy-stays (decode w) z.class i p z (sym (idle-is r f) ∙ t) in (e ∙ ap encode (sym k), stays-remains (decode w) z.class i p z k)

  pub back-only : (c : ℕ) → c ≡ (zone_at p (decode w).segments).class → (k : ℕ) → k ≡ length (list_of (decode v) c) → k < 2 →
      (v ≡ encode Back) × Remains true i p (zone_at p (decode w).segments) (decode w) Back
  back-only c q k f h = let g = only-stays (decode w) z.class i p z (omega (arith, count-is c q k f)) in (e ∙ ap encode (sym g), stays-remains (decode w) z.class i p z g)

  pub back-gone : (r : Bool) → r ≡ idle_zone (zone_at p (decode v).segments) → r ≡ true → (c : ℕ) → c ≡ (zone_at p (decode w).segments).class →
      (k : ℕ) → k ≡ length (list_of (decode v) c) → 2 ≤ k →
      (u : List ℕ) (q : Bool) → (u ≡ encode (retired c p (list_of (decode v) c) (decode v))) × (q ≡ ltb (length (decode v).spare) most_spare) →
      (u ≡ encode Back) × Remains q i p (zone_at p (decode w).segments) (decode w) Back
  back-gone r f t c x k g h u q d =
      let idle : idle_zone (put_back i z) ≡ true = sym (idle-is r f) ∙ t in
      let many : 2 ≤ length (relisted z.class p z (decode w)) = omega (arith, count-is c x k g) in
      let is = chained-decoded good live e in (
        d.0 ∙ (λ j. encode (retired (x j) p (list_of (is j) (x j)) (is j))) ∙ ap encode (back-retired (decode w) z.class i p z low idle many),
        retired-remains (decode w) z.class i p z idle many q (d.1 ∙ ap (λ y. ltb (length y.spare) most_spare) is),
      )
