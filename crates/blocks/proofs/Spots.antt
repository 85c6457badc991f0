-- The segment that holds a byte, as the search by page tells it on the words of a valid state. Assumes nothing.
use Prim.Native.Nat.{ℕ, ◌+◌, ◌-◌, ◌*◌, ◌/◌, ◌≤◌, ◌<◌}
use mathlib.Core.Path.{◌≡◌, sym, ap, ◌∙◌, subst}
use mathlib.Core.List.{List}
use native.Mathlib.Omega.{arith}
use Rattle.std.specs.Prelude.{Option, Some, None}
use Rattle.model.specs.Numbers.{page_bytes, zone_bytes, class_count, most_pages}
use Rattle.model.specs.Arena.{Segment, direct, zone, pages, total}
use Rattle.model.specs.Zone.{Zone}
use Rattle.model.specs.State.{State}
use Rattle.model.specs.Valid.{Valid}
use Rattle.pages.specs.declared.Kind.TheVariants as kind
use Rattle.pages.specs.declared.Spot.{Spot}
use Rattle.pages.specs.declared.Start.{Start}
use Rattle.pages.specs.Places.{kind_in, Stands, spot_from}
use Rattle.pages.proofs.Spots.{Spotted, spotted}
use Rattle.pages.proofs.Inverse.{run-by-kind, stands-zone, stands-direct}
use Rattle.lemmas.proofs.Cases.{clash}
use Rattle.metadata.specs.Decoding.{decode}
use Rattle.steps.specs.Lent.{Good}
use Rattle.blocks.specs.declared.Block.{Block}
use Rattle.blocks.specs.declared.Block.TheVariants.{Whole, Chunk}
use Rattle.blocks.specs.Places.{TellsBlock, Tells}
use Rattle.steps.proofs.Zones.{stands-inside, zone-valid}
use Rattle.blocks.proofs.Standing.{block-past, found-whole, whole-off, run_none}

-- The segment that was found holds the byte o.
pub record Held (s : State) (o : ℕ) (f : Spot) : Type 0 where
  pub x : Segment Zone
  pub stands : Stands s.segments f.start.at f.start.before x
  pub kind : kind_in x ≡ f.kind
  pub size : pages x ≡ f.len
  pub low : f.start.at * page_bytes ≤ o
  pub high : o < (f.start.at + f.len) * page_bytes
  pub few : f.start.at + f.len ≤ most_pages

module _ {w : List ℕ} {n : ℕ} (good : Good w n) (o : ℕ) (r : Option Spot) (is : r ≡ spot_from (o / page_bytes) 0 0 (decode w).segments) where
  told : Spotted (decode w).segments (o / page_bytes) r
  told = subst (Spotted (decode w).segments (o / page_bytes)) (sym is) (spotted (decode w).segments (o / page_bytes))

  pub held : (s : Spot) → r ≡ Some s → Held (decode w) o s
  held s e = let f = subst (Spotted (decode w).segments (o / page_bytes)) e told in record {
    x = f.0;
    stands = f.1;
    kind = f.2;
    size = f.3;
    low = let u = f.4 in omega arith;
    high = let u = f.5 in omega arith;
    few = omega (arith, stands-inside f.1, f.3, good.valid.most);
  }

  pub nowhere : r ≡ None → Tells (decode w) o None
  nowhere e = let f : total (decode w).segments ≤ o / page_bytes = subst (Spotted (decode w).segments (o / page_bytes)) e told in block-past (decode w) o (omega arith)

module _ {s : State} {o : ℕ} {f : Spot} (h : Held s o f) where
  abbrev away : ℕ
  away = o - f.start.at * page_bytes

  pub held-zone : f.kind ≡ kind.Zone → ((z : Zone) × Stands s.segments f.start.at f.start.before (zone z)) × (o - f.start.at * page_bytes < zone_bytes)
  held-zone e = let i = stands-zone h.stands (h.kind ∙ e) in ((i.0, i.2), omega (arith, h.high, h.size, ap (λ x. pages x) i.1))

  pub held-run : f.kind ≡ kind.Run → Tells s o None
  held-run e = run_none s (subst (λ y. Stands s.segments f.start.at f.start.before y) (run-by-kind h.x (h.kind ∙ e)) h.stands) o away (omega (arith, h.low)) (omega (arith, h.high, h.low, h.size))

  pub held-direct : f.kind ≡ kind.Direct → (g : ℕ) × Stands s.segments f.start.at f.start.before (direct f.len g)
  held-direct e =
      let i = stands-direct h.stands (λ u. clash (cc (h.kind, e))) (λ u. clash (cc (h.kind, e))) in
      (i.0, subst (λ j. Stands s.segments f.start.at f.start.before (direct j i.0)) h.size i.2)

  pub held-inside : f.kind ≡ kind.Direct → (o - f.start.at * page_bytes ≡ 0 → ⊥) → Tells s o None
  held-inside e i = let t = held-direct e in whole-off s t.1 o away (omega (arith, h.low)) (omega (arith, h.high, h.low)) i

  pub held_whole : f.kind ≡ kind.Direct → o - f.start.at * page_bytes ≡ 0 → (g : ℕ) → ((b k i : ℕ) → Stands s.segments f.start.at b (direct k i) → g ≡ i) → Tells s o (Some (Whole f.start f.len g))
  held_whole e i g j =
      let t = held-direct e in
      subst (λ q. Tells s o (Some (Whole f.start f.len q))) (sym (j _ _ t.0 t.1)) (found-whole s t.1 o (omega (arith, h.low)) (omega (arith, h.high, h.low)))

  pub held-chunk : (r : Option Block) → Tells s (f.start.at * page_bytes + (o - f.start.at * page_bytes)) r → Tells s o r
  held-chunk r t = subst (λ j. Tells s j r) (let e : f.start.at * page_bytes + (o - f.start.at * page_bytes) ≡ o = omega (arith, h.low) in e) t

-- What is told of a direct block or a chunk, for the answer to a query.
module _ {s : State} (v : Valid s) (o : ℕ) where
  pub whole-few : {b : Block} → TellsBlock s o b → {p : Start} {k g : ℕ} → b ≡ Whole p k g → k ≤ most_pages
  whole-few t {p} {k} {g} e = let i = subst (TellsBlock s o) e t in omega (arith, stands-inside i.1, v.most)

  pub class-few : {b : Block} → TellsBlock s o b → {p : Start} {c i g : ℕ} → b ≡ Chunk p c i g → c < class_count
  class-few t {p} {c} {i} {g} e = let u = subst (TellsBlock s o) e t in omega (arith, u.1.2, (zone-valid s p.at p.before u.1.0 u.1.1 v).class)
