-- The steps of the walk, as the code makes them. Assumes nothing.
use Prim.Native.Nat.{ℕ, ◌+◌, ◌-◌, ◌≤◌, ◌<◌}
use mathlib.Core.Path.{◌≡◌, refl, sym, ap, ◌∙◌, subst}
use mathlib.Core.List.{List, ◌∷◌}
use mathlib.Core.Bool.{Bool, true, false}
use native.Mathlib.Omega.{arith}
use lib.ListN.{length, get_or}
use Rattle.lemmas.proofs.Cases.{some_inj, clash}
use Rattle.model.specs.Numbers.{zone_pages, most_pages, page_bytes}
use Rattle.model.specs.Arena.{Segment, run, direct, zone, pages}
use Rattle.model.specs.Zone.{Zone, touched}
use Rattle.model.specs.State.{State, zone_at}
use Rattle.model.specs.Free.{freed_all}
use Rattle.pages.specs.declared.Kind.{Kind}
use Rattle.pages.specs.declared.Kind.TheVariants as kind
use Rattle.pages.specs.Places.{kind_in, run_len, Stands}
use Rattle.pages.proofs.Laws.{pages-most}
use Rattle.pages.proofs.Given.{Joined}
use Rattle.pages.proofs.Inverse.{run-by-kind, run-size, direct-by-kind, zone-by-kind}
use Rattle.zone.proofs.Rooms.{chunks-most}
use Rattle.metadata.specs.Encoding.{encode}
use Rattle.metadata.specs.Decoding.{decode}
use Rattle.steps.specs.Lent.{Good, ZoneHere}
use Rattle.steps.specs.Moves.{released}
use Rattle.steps.proofs.Body.{stands-begins, has-pages}
use Rattle.steps.proofs.Kept.{good-long}
use Rattle.steps.proofs.Zones.{zone-is, zone-stands, zone-valid}
use Rattle.free.specs.Back.{LiveChunk}
use Rattle.reset.specs.Sweep.{offsets_at, Sweep, InZone}
use Rattle.reset.proofs.Offsets.{at-run, at_other, at-zone}
use Rattle.reset.proofs.Behind.{run-stands, sweep-behind, next-on}
use Rattle.reset.proofs.Sweeps.{Here, here, here-stands, sweep-past, returned, Rests, zone-skip, zone-done, zone-stays, stays-touched}
use Rattle.reset.proofs.Sweeps.{gone-good, gone-segments, gone-joined, gone-rest, gone-counted, block-good, block-segments, block-joined, block-rest, block-counted}

-- One segment begins at a page.
pub stands_one : {m : List (Segment Zone)} {p b a : ℕ} {x y : Segment Zone} → Stands m p b x → Stands m p a y → 0 < pages x → 0 < pages y → x ≡ y
stands_one s t h k = ap (λ q. q.segment) (some_inj (sym (stands-begins s h) ∙ stands-begins t k))

-- Over the segments ---------------------------------------------------------------------------------------------------------------

module _ {g c n p b k : ℕ} {t : State} {w : List ℕ} (i : Sweep g t c w n p b k) (h : Here i) where
  pub step-zone : kind_in h.x ≡ kind.Zone → InZone g t c w n p b 0 k
  step-zone e =
      let Z = zone-by-kind h.x e in
      let z = Z.0 in
      let all : i.left ≡ zone z ∷ h.rest = cc in
      record {
        good = i.good;
        z = z;
        stands = record { before = i.before; behind = h.rest; whole = cc; starts = i.starts; ends = i.ends };
        rest = cc (at-zone g p h.rest z);
        counted = cc (at-zone g p h.rest z);
      }

  pub step-direct : kind_in h.x ≡ kind.Direct → (y : ℕ) × (h.x ≡ direct (pages h.x) y)
  step-direct e = direct-by-kind h.x (λ u. clash (cc)) (λ u. clash (cc))

  pub step-stands : (len y z : ℕ) → len ≡ pages h.x → h.x ≡ direct (pages h.x) y → y ≡ z → Stands (decode w).segments p b (direct len z)
  step-stands len y z el e f = rw (e ∙ (λ j. direct ((sym el) j) (f j))) at (here-stands i h)

  pub step_run : (len next : ℕ) → len ≡ pages h.x → next ≡ p + len → kind_in h.x ≡ kind.Run → Sweep g t c w n next len (k + 0)
  step_run len next el en e =
      sweep-past i h (cc (run-by-kind h.x e, at-run g p h.rest (pages h.x))) len next len (k + 0) el en (el ∙ run-size h.x e) (omega arith)

  pub step_other : (len next y : ℕ) → len ≡ pages h.x → next ≡ p + len → h.x ≡ direct (pages h.x) y → (y ≡ g → ⊥) → Sweep g t c w n next 0 (k + 0)
  step_other len next y el en e f =
      sweep-past i h (cc (at_other g p h.rest (pages h.x) y f)) len next 0 (k + 0) el en (cc) (omega arith)

  -- Either of them, by its kind.
  pub step-past : (len next before : ℕ) (a : Kind) → a ≡ kind_in h.x → len ≡ pages h.x → next ≡ p + len → before ≡ run_len a len → (a ≡ kind.Zone → ⊥)
      → ((y : ℕ) → h.x ≡ direct (pages h.x) y → y ≡ g → ⊥) → Sweep g t c w n next before (k + 0)
  step-past len next before a ea el en eb f d = subst (λ b. Sweep g t c w n next b (k + 0)) (sym eb) (go a refl)
    where
      go : (b : Kind) → a ≡ b → Sweep g t c w n next (run_len a len) (k + 0)
      go kind.Run e = rw e (step_run len next el en (sym ea ∙ e))
      go kind.Direct e = let is = step-direct (sym ea ∙ e) in rw e (step_other len next is.0 el en is.1 (d is.0 is.1))
      go kind.Zone e = absurd (f e)

  pub step-on : (len next : ℕ) → len ≡ pages h.x → next ≡ p + len → p < next
  step-on len next el en = omega (arith, has-pages i.good.lent (here-stands i h))

  pub step-inside : (p + pages h.x ≤ n) × (n ≤ most_pages)
  step-inside = (omega (arith, pages-most h.x i.before h.rest (decode w).segments (here-stands i h).whole), omega arith)

-- Over the chunks of a zone that has handed out T ------------------------------------------------------------------------------------

-- From the zone's first chunk, with the words w₀, the walk has come to chunk i, with the words w, and k chunks have come back.
pub record ZoneWalk (g n p b T : ℕ) (w₀ w : List ℕ) (i k : ℕ) : Type 0 where
  pub now : (t : State) (c j : ℕ) → InZone g t c w₀ n p b 0 j → InZone g t c w n p b i (j + k)
  pub same : touched (zone_at p (decode w).segments) ≡ T
  pub low : i ≤ T
  pub few : k ≤ i
  pub most : T ≤ page_bytes

module _ {g c n p b k : ℕ} {t : State} {w : List ℕ} (h : InZone g t c w n p b 0 k) where
  pub zone-begun : ZoneHere (decode w) p
  zone-begun = zone-stands (decode w) p b h.z h.stands

  pub walk_start : (T : ℕ) → T ≡ touched (zone_at p (decode w).segments) → ZoneWalk g n p b T w w 0 0
  walk_start T e = record {
    now = λ t c j q. rw (let u : j ≡ j + 0 = omega arith in u) at q;
    same = sym e;
    low = omega arith;
    few = omega arith;
    most = let v = zone-valid (decode w) p b h.z h.stands h.good.valid in omega (arith, ap (λ y. touched y) (zone-is (decode w) p b h.z h.stands), chunks-most h.z.class);
  }

module _ {g c n p b T j i k : ℕ} {t : State} {w₀ w : List ℕ} (h : InZone g t c w₀ n p b 0 j) (a : ZoneWalk g n p b T w₀ w i k) where
  -- Where the walk is, of this and of any other account of it.
  abbrev at : InZone g t c w n p b i (j + k)
  at = a.now t c j h

  pub walk_here : ZoneHere (decode w) p
  walk_here = zone-stands (decode w) p b at.z at.stands

  pub walk-good : Good w n
  walk-good = at.good

  pub walk-long : length w ≡ length w₀
  walk-long = good-long at.good h.good

  pub walk-few : p + zone_pages ≤ most_pages
  walk-few = omega (arith, pages-most _ at.stands.before _ _ at.stands.whole, at.stands.starts, at.good.valid.most)

  owner_of : (t : State) (c j : ℕ) (q : InZone g t c w n p b i j) (r : ℕ) → r ≡ get_or (zone_at p (decode w).segments).owners i 0 → r ≡ get_or q.z.owners i 0
  owner_of t c j q r e = cc (zone-is (decode w) p b q.z q.stands)

  touched-of : (t : State) (c j : ℕ) (q : InZone g t c w n p b i j) → touched q.z ≡ T
  touched-of t c j q = cc (zone-is (decode w) p b q.z q.stands)

  pub walk-done : 0 < g → T ≤ i → (next : ℕ) → next ≡ p + zone_pages → (t : State) (c l : ℕ) → InZone g t c w₀ n p b 0 l → Sweep g t c w n next 0 (l + k)
  walk-done pos e next en t c l q = let x = a.now t c l q in zone-done x pos (omega (arith, touched-of t c (l + k) x)) next 0 (l + k) en refl refl

  module _ (r : ℕ) (e : r ≡ get_or (zone_at p (decode w).segments).owners i 0) (more : i < T) where
    pub walk-skip : (r ≡ g → ⊥) → ZoneWalk g n p b T w₀ w (i + 1) k
    walk-skip f = record {
      now = λ t c l q. let x = a.now t c l q in zone-skip x (omega (arith, touched-of t c (l + k) x)) (λ y. f (owner_of t c (l + k) x r e ∙ y));
      same = a.same;
      low = omega arith;
      few = omega arith;
      most = a.most;
    }

    pub walk-live : 0 < r → LiveChunk (decode w) p b i
    walk-live l = record { z = at.z; stands = at.stands; live = omega (arith, owner_of t c (j + k) at r e) }

    module _ (pos : 0 < g) (is : r ≡ g) where
      mine : (t : State) (c l : ℕ) (q : InZone g t c w n p b i l) → get_or q.z.owners i 0 ≡ g
      mine t c l q = sym (owner_of t c l q r e) ∙ is

      module _ {v : List ℕ} (d : v ≡ encode (returned w p i)) where
        pub walk-stays : (y : Bool) → y ≡ true → Rests y w p i → ZoneWalk g n p b T w₀ v (i + 1) (k + 1)
        walk-stays y f u = let m = rw f at u in record {
          now = λ t c l q. let x = a.now t c l q in rw (let u : l + k + 1 ≡ l + (k + 1) = omega arith in u) at (zone-stays x pos (mine t c (l + k) x) d m);
          same = stays-touched at pos (mine t c (j + k) at) d m ∙ a.same;
          low = omega arith;
          few = omega arith;
          most = a.most;
        }

        module _ (y₀ : Bool) (f₀ : y₀ ≡ false) (u₀ : Rests y₀ w p i) where
          m : Rests false w p i
          m = rw f₀ at u₀

          pub walk-low : b ≤ p
          walk-low = (gone-joined at pos (mine t c (j + k) at) d m).low

          pub walk-gone-good : Good v n
          walk-gone-good = gone-good at pos (mine t c (j + k) at) d m

          pub walk-gone-long : length v ≡ length w₀
          walk-gone-long = good-long walk-gone-good h.good

          pub walk-run : (a : ℕ) × (k : ℕ) × Stands (decode v).segments (p - b) a (run k)
          walk-run = let y = mine t c (j + k) at in run-stands (gone-good at pos y d m) _ _ (gone-segments at pos y d m) (gone-joined at pos y d m)

          pub walk-gone : (next before count : ℕ) → ((a y : ℕ) → Stands (decode v).segments (p - b) a (run y) → (next ≡ p - b + y) × (before ≡ y) × (count ≡ k + 1))
              → ((t : State) (c l : ℕ) → InZone g t c w₀ n p b 0 l → Sweep g t c v n next before (l + count)) × (p < next)
          walk-gone next before count f = (
            λ t c l q.
                let x = a.now t c l q in
                let y = mine t c (l + k) x in
                let J = gone-joined x pos y d m in
                let R = run-stands (gone-good x pos y d m) _ _ (gone-segments x pos y d m) J in
                let F = f R.0 R.1 R.2 in
                subst (Sweep g t c v n next before) (let u : l + k + 1 ≡ l + count = omega arith in u)
                (sweep-behind (gone-good x pos y d m) _ _ (gone-segments x pos y d m) J g t c (l + k + 1) next before F.0 F.1 (gone-rest x pos y d m) (gone-counted x pos y d m)),
            let y = mine t c (j + k) at in
                let J = gone-joined at pos y d m in
                let R = run-stands (gone-good at pos y d m) _ _ (gone-segments at pos y d m) J in
                next-on (gone-good at pos y d m) _ _ (gone-segments at pos y d m) J next (omega arith) (f R.0 R.1 R.2).0,
          )

-- A direct block of the group comes back ---------------------------------------------------------------------------------------------

-- The walk at a segment, by itself.
abbrev account : {w : List ℕ} {n p b : ℕ} (g : ℕ) {x : Segment Zone} → Good w n → (st : Stands (decode w).segments p b x)
    → Sweep g (freed_all (offsets_at g p (x ∷ st.behind)) (decode w)) (length (offsets_at g p (x ∷ st.behind))) w n p b 0
account {w} {n} {p} {b} g {x} h st = record { good = h; before = st.before; left = x ∷ st.behind; whole = st.whole; starts = st.starts; ends = st.ends; rest = refl; counted = omega arith }

module _ {w v : List ℕ} {n p b len g : ℕ} (good : Good w n) (st : Stands (decode w).segments p b (direct len g)) (e : v ≡ encode (released p (decode w))) where
  joined : Joined (decode w).segments p b len st.behind
  joined = block-joined (account g good st) st.behind refl e

  pub direct_good : Good v n
  direct_good = block-good (account g good st) st.behind refl e

  pub direct-low : b ≤ p
  direct-low = joined.low

  pub direct-run : (a : ℕ) × (y : ℕ) × Stands (decode v).segments (p - b) a (run y)
  direct-run = run-stands direct_good _ _ (block-segments (account g good st) st.behind refl e) joined

  pub direct-gone : (next before count : ℕ) → ((a y : ℕ) → Stands (decode v).segments (p - b) a (run y) → (next ≡ p - b + y) × (before ≡ y) × (count ≡ 1))
      → ((t : State) (c l : ℕ) → Sweep g t c w n p b l → Sweep g t c v n next before (l + count)) × (p < next)
  direct-gone next before count f = (
    λ t c l i.
        let h = here i inside in
        let is : i.left ≡ direct len g ∷ h.rest = h.left_is ∙ ap (λ x. x ∷ h.rest) (stands_one (here-stands i h) st (has-pages good.lent (here-stands i h)) (has-pages good.lent st)) in
        let S = block-segments i h.rest is e in
        let J = block-joined i h.rest is e in
        let R = run-stands (block-good i h.rest is e) _ h.rest S J in
        let F = f R.0 R.1 R.2 in
        subst (Sweep g t c v n next before) (let u : l + 1 ≡ l + count = omega arith in u)
        (sweep-behind (block-good i h.rest is e) _ h.rest S J g t c (l + 1) next before F.0 F.1 (block-rest i h.rest is e) (block-counted i h.rest is e)),
    next-on direct_good (decode w).segments st.behind (block-segments (account g good st) st.behind refl e) joined next (has-pages good.lent st)
        (let R = run-stands direct_good _ _ (block-segments (account g good st) st.behind refl e) joined in (f R.0 R.1 R.2).0),
  )
    where
      inside : p < n
      inside = omega (arith, pages-most (direct len g) st.before st.behind (decode w).segments st.whole, has-pages good.lent st)
