-- The walk goes on behind the run that given back pages have become part of. Assumes nothing.
use Prim.Native.Nat.{ℕ, ◌+◌, ◌-◌, ◌*◌, ◌≤◌, ◌<◌}
use mathlib.Core.Path.{◌≡◌, refl, sym, ap, ◌∙◌}
use mathlib.Core.List.{List, [], ◌∷◌, ◌++◌, append_assoc}
use mathlib.Core.Bool.{false}
use native.Mathlib.Omega.{arith}
use lib.ListN.{length}
use Rattle.model.specs.Numbers.{most_pages, page_bytes}
use Rattle.model.specs.Arena.{Segment, run, pages, total, Each}
use Rattle.model.specs.Zone.{Zone}
use Rattle.model.specs.State.{State}
use Rattle.model.specs.Valid.{Apart, ValidSegment}
use Rattle.model.specs.Pages.{release}
use Rattle.model.specs.Free.{freed_all}
use Rattle.model.proofs.Arena.{total-append}
use Rattle.pages.specs.Encoding.{segments_encoding}
use Rattle.pages.specs.Decoding.{Encodes}
use Rattle.pages.specs.Places.{run_pages, run_at_end, Stands}
use Rattle.pages.proofs.Walk.{run-at-end}
use Rattle.pages.proofs.Given.{Joined, given-run}
use Rattle.metadata.specs.Decoding.{decode}
use Rattle.metadata.proofs.States.{all-writable}
use Rattle.steps.specs.Lent.{Good}
use Rattle.reset.specs.Sweep.{offsets_at, Sweep}
use Rattle.reset.proofs.Offsets.{at-free}

-- The run of which the pages of a segment that comes back become part.
pub joined-run : (m : List (Segment Zone)) (p b : ℕ) (x : Segment Zone) → Apart false m → Each ValidSegment m → total m ≤ most_pages → (s : Stands m p b x) → run_pages x ≡ 0 → Joined m p b (pages x) s.behind
joined-run m p b x a v h s e =
    let k : Encodes (segments_encoding m) m (total m) = record { words = refl; sound = all-writable false m a v; covers = refl; most = h } in
    given-run k a s refl e

module _ {v : List ℕ} {n p b len : ℕ} (good : Good v n) (m behind : List (Segment Zone)) (is : (decode v).segments ≡ release (p * page_bytes) m) (j : Joined m p b len behind) where
  abbrev all : ℕ
  all = b + len + j.after

  pub run-segments : (decode v).segments ≡ j.pre ++ (run all ∷ j.post)
  run-segments = is ∙ j.whole

  -- The run stands there.
  abbrev pub run-stands : (a : ℕ) × (k : ℕ) × Stands (decode v).segments (p - b) a (run k)
  run-stands = (run_at_end 0 j.pre, all, record { before = j.pre; behind = j.post; whole = run-segments; starts = j.starts; ends = refl })

  -- The walk, where the code goes on.
  pub sweep-behind : (g : ℕ) (t : State) (c k next before : ℕ) → next ≡ p - b + (b + len + j.after) → before ≡ b + len + j.after
      → freed_all (offsets_at g (p + len) behind) (decode v) ≡ t → k + length (offsets_at g (p + len) behind) ≡ c → Sweep g t c v n next before k
  sweep-behind g t c k next before en eb rest counted = record {
    good = good;
    before = j.pre ++ (run all ∷ []);
    left = j.post;
    whole = cc (append_assoc j.pre (run all ∷ []) j.post);
    starts = omega (arith, total-append j.pre (run all ∷ []));
    ends = run-at-end 0 j.pre (run all) ∙ sym eb;
    rest = cc (same, rest);
    counted = cc (same, counted);
  }
    where
      same : offsets_at g (p + len) behind ≡ offsets_at g next j.post
      same = ap (offsets_at g (p + len)) j.behind-is ∙ at-free g (p + len) j.post j.after ∙ ap (λ q. offsets_at g q j.post) (let e : p + len + j.after ≡ next = omega arith in e)

  pub next-on : (next : ℕ) → 0 < len → next ≡ p - b + (b + len + j.after) → p < next
  next-on next h e = omega arith
