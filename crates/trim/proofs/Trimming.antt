-- The words while trim goes from segment to segment: its loop's invariant, one law for each way on. Assumes nothing.
use Prim.Native.Nat.{ℕ, ◌+◌, ◌-◌, ◌≤◌, ◌<◌}
use mathlib.Core.Path.{◌≡◌, refl, sym, ap, ◌∙◌, subst}
use mathlib.Core.List.{List, [], ◌∷◌}
use mathlib.Core.Bool.{true, false}
use native.Mathlib.Omega.{arith}
use lib.ListN.{length}
use Rattle.model.specs.Numbers.{zone_pages, most_pages}
use Rattle.model.specs.Arena.{zone, pages, total}
use Rattle.model.specs.Zone.{Zone}
use Rattle.model.specs.PageMap.{idle_zone}
use Rattle.model.specs.Pages.{with_run}
use Rattle.model.specs.Trim.{idle_count, trimmed}
use Rattle.model.proofs.Arena.{total-append}
use Rattle.model.proofs.Joins.{total-with_run}
use Rattle.header.proofs.Kept.{fits-spare-clear}
use Rattle.pages.specs.Places.{run_pages, run_at_start, Stands}
use Rattle.metadata.specs.Encoding.{encode}
use Rattle.metadata.specs.Decoding.{decode}
use Rattle.steps.specs.Lent.{Encodes, Lent, Good}
use Rattle.steps.specs.Moves.{spared, unlisted, released}
use Rattle.steps.proofs.Lent.{lent, lent-long, lent-decoded}
use Rattle.trim.specs.Between.{idle_segment, Between}
use Rattle.steps.proofs.Segments.{here-inside}
use Rattle.trim.proofs.Words.{in_words, idle-zone, given_back}
use Rattle.trim.proofs.Swept.{lists-swept}
use Rattle.trim.proofs.Sweeping.{Sweeping, Next, sweep-start, sweep-next, next-stands, sweep-past, sweep-between, sweep-given, sweep-end}

-- The loop began with the words w₀ and has given back k zones; now the words are w, and it stands at page p, behind a run of b pages.
pub record Trimming (w₀ w : List ℕ) (n p b k : ℕ) : Type 0 where
  pub lent : Lent w
  pub sweep : Sweeping (decode w₀) (decode w) n p b k
  pub most : n ≤ most_pages

-- The loop begins once no zone is on the empty list.
module _ {v : List ℕ} {n : ℕ} (g : Good v n) {w : List ℕ} (e : w ≡ encode (spared [] (decode v))) where
  start : Encodes w (spared [] (decode v))
  start = record { words = e; fits = fits-spare-clear g.lent.fits; sound = g.lent.sound }

  pub trim_start : Trimming w w n 0 0 0
  trim_start = record {
    lent = lent start;
    sweep = in_words start (λ s. Sweeping s s n 0 0 0) (sweep-start (spared [] (decode v)) n refl g.valid.apart g.pages);
    most = omega (arith, g.pages, g.valid.most);
  }

  pub trim_end : {u : List ℕ} {p b k : ℕ} → Trimming w u n p b k → n ≤ p → (k ≡ idle_count (decode v).segments) × (u ≡ encode (trimmed (decode v)))
  trim_end {u} {p} {b} {k} i h =
      let r = sweep-end (subst (λ s. Sweeping s (decode u) n p b k) (lent-decoded start) i.sweep) (lists-swept (decode v) g.valid) i.lent.sound h in
      (r.0, i.lent.words ∙ ap encode r.1)

  pub trim-long : {u : List ℕ} {p b k : ℕ} → Trimming w u n p b k → length u ≡ length v
  trim-long i = omega (arith, lent-long i.lent, i.sweep.size, lent-long g.lent, g.pages)

module _ {w₀ w : List ℕ} {n p b k : ℕ} (i : Trimming w₀ w n p b k) where
  module _ (h : p < n) where
    -- The segment at page p.
    pub at-page : Next i.sweep
    at-page = sweep-next i.sweep h

    pub stands : Stands (decode w).segments p b at-page.x
    stands = next-stands i.sweep at-page

    pub trim-inside : (p + pages at-page.x ≤ n) × (0 < pages at-page.x)
    trim-inside = let r = here-inside i.lent stands in (omega (arith, i.sweep.size), r.3)

    -- It is an idle zone.
    module _ (f : idle_segment at-page.x ≡ true) where
      abbrev it : (z : Zone) × (at-page.x ≡ zone z) × (idle_zone z ≡ true)
      it = idle-zone at-page.x f

      abbrev pub after : ℕ
      after = run_at_start at-page.rest

      pub between : Between (decode w).segments p b after it.0
      between = sweep-between i.sweep at-page it.0 it.1

      -- The run that its pages become part of is inside the arena and longer than what stood before.
      pub trim-bound : (b ≤ p) × (p + zone_pages + after ≤ n)
      trim-bound =
          let t = between in (
            omega (arith, t.starts),
            omega (
              arith,
              i.sweep.size,
              t.starts,
              ap (λ l. total l) t.whole,
              total-append t.before (with_run b (zone it.0 ∷ with_run after t.behind)),
              total-with_run b
                  (zone it.0 ∷ with_run after t.behind),
              total-with_run after t.behind,
            ),
          )

      pub trim-given : (r : ℕ) (v : List ℕ) → (r ≡ b + zone_pages + after) × (v ≡ encode (released p (unlisted it.0.class p (decode w)))) → Trimming w₀ v n (p - b + r) r (k + 1)
      trim-given r v e = subst (λ y. Trimming w₀ v n (p - b + y) y (k + 1)) (sym e.0) (record {
        lent = lent now;
        sweep = in_words now (λ s. Sweeping (decode w₀) s n (p - b + (b + zone_pages + after)) (b + zone_pages + after) (k + 1)) (sweep-given i.sweep at-page it.0 it.1 it.2);
        most = i.most;
      })
        where
          now : Encodes v (released p (unlisted it.0.class p (decode w)))
          now = given_back i.lent i.sweep.apart between v e.1

    -- It stays.
    pub trim-past : idle_segment at-page.x ≡ false → (len r : ℕ) → len ≡ pages at-page.x → r ≡ run_pages at-page.x → Trimming w₀ w n (p + len) r k
    trim-past f len r el er = subst (λ y. Trimming w₀ w n (p + len) y k) (sym er) (subst (λ y. Trimming w₀ w n (p + y) (run_pages at-page.x) k) (sym el) (record {
      lent = i.lent;
      sweep = sweep-past i.sweep at-page f;
      most = i.most;
    }))
