-- What stays so while trim goes from segment to segment. Assumes nothing.
use Prim.Native.Nat.{ℕ, zero, suc, ◌+◌, ◌-◌, ◌*◌, ◌≤◌, ◌<◌}
use mathlib.Core.Path.{◌≡◌, refl, sym, ap, ◌∙◌, subst}
use mathlib.Core.List.{List, [], ◌∷◌, ◌++◌, map, append_assoc}
use mathlib.Core.Bool.{Bool, true, false}
use native.Mathlib.Omega.{arith}
use lib.ListN.{set, get_or}
use Rattle.lemmas.specs.Times.{remove}
use Rattle.lemmas.proofs.Cases.{true-false}
use Rattle.model.specs.Numbers.{zone_pages, page_bytes}
use Rattle.model.specs.Arena.{Segment, run, direct, zone, pages, total, edit, Each}
use Rattle.model.specs.Zone.{Zone}
use Rattle.model.specs.State.{State}
use Rattle.model.specs.PageMap.{idle_zone}
use Rattle.model.specs.Valid.{Apart}
use Rattle.model.specs.Pages.{with_run, free_pages, joined}
use Rattle.model.specs.Trim.{busy, idle_count, trimmed}
use Rattle.model.proofs.Arena.{total-append}
use Rattle.model.proofs.Joins.{some-run, total-with_run, joined-apart}
use Rattle.pages.specs.Encoding.{Writable}
use Rattle.pages.specs.Places.{run_pages, run_at_end, run_at_start, Stands}
use Rattle.pages.proofs.Laws.{each_right}
use Rattle.pages.proofs.Walk.{run-at-end}
use Rattle.pages.proofs.Given.{apart_from, Begun, begun}
use Rattle.steps.specs.Moves.{unlisted, released}
use Rattle.steps.proofs.Body.{release-total}
use Rattle.trim.specs.Between.{idle_segment, Between}
use Rattle.trim.proofs.Places.{run-cons, run-then, run_ends, between-stands, between-released}
use Rattle.trim.proofs.Swept.{swept_by, swept_lists}

-- Trim began with the state s₀ of n pages and has given back k zones; now the state is s, and it stands at page p, behind a run of b
-- pages (0: none) and the segments `before`. Those are as they shall be, and what is still to do with the segments left makes the rest so.
pub record Sweeping (s₀ s : State) (n p b k : ℕ) : Type 0 where
  pub before : List (Segment Zone)
  pub left : List (Segment Zone)
  pub whole : s.segments ≡ before ++ with_run b left
  pub starts : total before + b ≡ p
  pub no_run : run_at_end 0 before ≡ 0
  pub apart : Apart false s.segments
  pub size : n ≡ total s.segments
  pub few : k ≤ p
  pub segments : before ++ joined idle_zone b left ≡ joined idle_zone 0 s₀.segments
  pub count : k + idle_count left ≡ idle_count s₀.segments
  pub spare : s.spare ≡ []
  pub lists : swept_lists p left s.lists ≡ swept_lists 0 s₀.segments s₀.lists

pub sweep-start : (s : State) (n : ℕ) → s.spare ≡ [] → Apart false s.segments → n ≡ total s.segments → Sweeping s s n 0 0 0
sweep-start s n f h e = record {
  before = [];
  left = s.segments;
  whole = refl;
  starts = refl;
  no_run = refl;
  apart = h;
  size = e;
  few = omega arith;
  segments = refl;
  count = omega arith;
  spare = f;
  lists = refl;
}

-- ---- a run in front of the segments left

joined-run : (n a : ℕ) (r : List (Segment Zone)) → joined idle_zone n (with_run a r) ≡ joined idle_zone (n + a) r
joined-run n zero r = ap (λ k. joined idle_zone k r) (omega arith)
joined-run n (suc a) r = refl

count-run : (a : ℕ) (r : List (Segment Zone)) → idle_count (with_run a r) ≡ idle_count r
count-run zero r = refl
count-run (suc a) r = refl

swept-run : (p a q : ℕ) (r : List (Segment Zone)) (ls : List (List ℕ)) → p + a ≡ q → swept_lists p (with_run a r) ls ≡ swept_lists q r ls
swept-run p zero q r ls e = ap (λ k. swept_lists k r ls) (omega arith)
swept-run p (suc a) q r ls e = cc

apart-zone : (c : Bool) (b : ℕ) (z : Zone) (r : List (Segment Zone)) → Apart c (with_run b (zone z ∷ r)) → Apart false r
apart-zone c zero z r h = h
apart-zone c (suc b) z r h = h.2

apart-runs : (c : Bool) (b n : ℕ) (r : List (Segment Zone)) → Apart c (with_run b (run n ∷ r)) → (b ≡ 0) × (0 < n)
apart-runs c zero n r h = (refl, h.1)
apart-runs c (suc b) n r h = true-false refl h.2.0

module _ {s₀ s : State} {n p b k : ℕ} (i : Sweeping s₀ s n p b k) where
  pages-left : p + total i.left ≡ n
  pages-left = omega (arith, ap (λ l. total l) i.whole, total-append i.before (with_run b i.left), total-with_run b i.left)

  behind-it : (c : Bool) × Apart c (with_run b i.left)
  behind-it = apart_from false i.before _ (subst (Apart false) i.whole i.apart)

  -- The segment at page p.
  pub record Next : Type 0 where
    pub x : Segment Zone
    pub rest : List (Segment Zone)
    pub left_is : i.left ≡ x ∷ rest

  pub sweep-next : p < n → Next
  sweep-next h = go i.left refl
    where
      go : (l : List (Segment Zone)) → i.left ≡ l → Next
      go [] e = absurd (omega (arith, pages-left, ap (λ l. total l) e))
      go (x ∷ r) e = record { x = x; rest = r; left_is = e }

  pub next-stands : (t : Next) → Stands s.segments p b t.x
  next-stands t = record {
    before = i.before ++ with_run b [];
    behind = t.rest;
    whole = cc (run-then i.before b (t.x ∷ t.rest));
    starts = omega (arith, total-append i.before (with_run b []), total-with_run {Z = Zone} b []);
    ends = run_ends i.before b i.no_run;
  }

  -- ---- past a segment that stays

  -- It is no run.
  past-solid : (x : Segment Zone) (r : List (Segment Zone)) → i.left ≡ x ∷ r → run_pages x ≡ 0 → joined idle_zone b (x ∷ r) ≡ with_run b (x ∷ joined idle_zone 0 r)
      → idle_count (x ∷ r) ≡ idle_count r → swept_by p x s.lists ≡ s.lists → Sweeping s₀ s n (p + pages x) 0 k
  past-solid x r e nr j c w = record {
    before = i.before ++ with_run b (x ∷ []);
    left = r;
    whole = cc (behind r);
    starts = omega (arith, total-append i.before (with_run b (x ∷ [])), total-with_run b (x ∷ []));
    no_run = cc (run-then i.before b (x ∷ []), run-at-end 0 (i.before ++ with_run b []) x);
    apart = i.apart;
    size = i.size;
    few = omega arith;
    segments = cc (behind (joined idle_zone 0 r));
    count = omega (arith, ap (λ l. idle_count l) e);
    spare = i.spare;
    lists = cc;
  }
    where
      behind : (l : List (Segment Zone)) → i.before ++ with_run b (x ∷ l) ≡ (i.before ++ with_run b (x ∷ [])) ++ l
      behind l = cc (run-cons b x l, append_assoc i.before (with_run b (x ∷ [])) l)

  -- It is a run: no other stands before it.
  past-run : (j : ℕ) (r : List (Segment Zone)) → i.left ≡ run j ∷ r → Sweeping s₀ s n (p + j) j k
  past-run j r e = record {
    before = i.before;
    left = r;
    whole = cc (i.whole, e, alone.0, some-run j r alone.1);
    starts = omega (arith, alone.0);
    no_run = i.no_run;
    apart = i.apart;
    size = i.size;
    few = omega arith;
    segments = ap (λ y. i.before ++ joined idle_zone y r) (let q : j ≡ b + j = omega (arith, alone.0) in q) ∙ ap (λ l. i.before ++ joined idle_zone b l) (sym e) ∙ i.segments;
    count = omega (arith, ap (λ l. idle_count l) e);
    spare = i.spare;
    lists = cc;
  }
    where
      alone : (b ≡ 0) × (0 < j)
      alone = apart-runs _ b j r (subst (λ l. Apart behind-it.0 (with_run b l)) e behind-it.1)

  pub sweep-past : (t : Next) → idle_segment t.x ≡ false → Sweeping s₀ s n (p + pages t.x) (run_pages t.x) k
  sweep-past t h = go t.x t.left_is h
    where
      go : (x : Segment Zone) → i.left ≡ x ∷ t.rest → idle_segment x ≡ false → Sweeping s₀ s n (p + pages x) (run_pages x) k
      go (run j) e f = past-run j t.rest e
      go (direct j g) e f = past-solid _ t.rest e refl refl refl refl
      go (zone z) e f = past-solid (zone z) t.rest e refl (rw f) (rw f) (rw f)

  -- ---- an idle zone is given back

  module _ (t : Next) (z : Zone) (e : t.x ≡ zone z) where
    at-zone : i.left ≡ zone z ∷ t.rest
    at-zone = cc

    after : Begun t.rest (run_at_start t.rest)
    after = begun t.rest (apart-zone _ b z t.rest (subst (λ l. Apart behind-it.0 (with_run b l)) at-zone behind-it.1))

    zone-left : i.left ≡ zone z ∷ with_run (run_at_start t.rest) after.rest
    zone-left = cc (at-zone, after.is)

    pub sweep-between : Between s.segments p b (run_at_start t.rest) z
    sweep-between = record {
      before = i.before;
      behind = after.rest;
      whole = cc (i.whole, zone-left);
      starts = i.starts;
      no_run = i.no_run;
      apart = after.apart;
    }

    module _ (f : idle_zone z ≡ true) where
      abbrev a : ℕ
      a = run_at_start t.rest

      pub sweep-given : Sweeping s₀ (released p (unlisted z.class p s)) n (p - b + (b + zone_pages + a)) (b + zone_pages + a) (k + 1)
      unfolding sweep-between
      sweep-given = record {
        before = i.before;
        left = after.rest;
        whole = cc (between-released sweep-between i.apart, some-run (b + zone_pages + a) after.rest (omega arith));
        starts = omega arith;
        no_run = i.no_run;
        apart = joined-apart (λ _. false) 0 (edit (p * page_bytes) free_pages s.segments);
        size = cc (release-total (between-stands sweep-between) (omega arith));
        few = omega arith;
        segments = cc (joined-run (b + zone_pages) a after.rest, idle-joins (with_run a after.rest), zone-left, i.segments);
        count = omega (arith, ap (λ l. idle_count l) zone-left, idle-counts (with_run a after.rest), count-run a after.rest);
        spare = i.spare;
        lists = cc (swept-run (p + zone_pages) a (p - b + (b + zone_pages + a)) after.rest new (omega (arith, i.starts)), idle-sweeps (with_run a after.rest), zone-left, i.lists);
      }
        where
          new : List (List ℕ)
          new = set s.lists z.class (remove p (get_or s.lists z.class []))

          idle-joins : (r : List (Segment Zone)) → joined idle_zone (b + zone_pages) r ≡ joined idle_zone b (zone z ∷ r)
          idle-joins r = rw f

          idle-counts : (r : List (Segment Zone)) → idle_count (zone z ∷ r) ≡ suc (idle_count r)
          idle-counts r = rw f

          idle-sweeps : (r : List (Segment Zone)) → swept_lists (p + zone_pages) r new ≡ swept_lists p (zone z ∷ r) s.lists
          idle-sweeps r = rw f

  -- ---- behind the last segment

  pub sweep-end : swept_lists 0 s₀.segments s₀.lists ≡ map (busy s₀.segments) s₀.lists → Each Writable s.segments → n ≤ p → (k ≡ idle_count s₀.segments) × (s ≡ trimmed s₀)
  sweep-end v w h = go i.left refl
    where
      go : (l : List (Segment Zone)) → i.left ≡ l → (k ≡ idle_count s₀.segments) × (s ≡ trimmed s₀)
      go [] e = (
        omega (arith, ap (λ l. idle_count l) e),
        λ j. record {
          segments = (i.whole ∙ ap (λ l. i.before ++ with_run b l) e ∙ ap (λ l. i.before ++ joined idle_zone b l) (sym e) ∙ i.segments) j;
          lists = (ap (λ l. swept_lists p l s.lists) (sym e) ∙ i.lists ∙ v) j;
          spare = i.spare j;
        },
      )
      go (x ∷ r) e = absurd (omega (arith, pages-left, ap (λ l. total l) e, some-pages))
        where
          some-pages : 0 < pages x
          some-pages = (each_right (i.before ++ with_run b []) (x ∷ r) (rw (i.whole ∙ ap (λ l. i.before ++ with_run b l) e ∙ sym (run-then i.before b (x ∷ r))) at w)).0.0
