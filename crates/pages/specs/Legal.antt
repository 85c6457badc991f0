-- Which words are those of valid segments of n pages, runs apart. `legal-iff` says that the test is exact. Assumes nothing.
use Rattle.std.specs.Prelude.{ℕ, zero, suc, ◌-◌, ◌*◌, Bool, true, false, cond, ◌&&◌, not, List, leb, eqb, get_or, take, drop}
use Rattle.lemmas.specs.Every.{every}
use Rattle.lemmas.specs.Parts.{mid}
use Rattle.lemmas.specs.Zeros.{is_zero}
use Rattle.model.specs.Numbers.{zone_pages, page_words}
use Rattle.model.specs.Calls.{group_ok}
use Rattle.zone.specs.Encoding.{kind_zone, zone_words}
use Rattle.zone.specs.Decoding.{is_zone}
use Rattle.pages.specs.Encoding.{kind_run, kind_direct}

-- The words from word i on, up to the end of k pages, are zero.
abbrev pub zero_from : ℕ → ℕ → List ℕ → Bool
zero_from i k w = every is_zero (mid i (page_words * k - i) w)

-- The pages that the second word says, if they are some, at most n, and the test holds; else 0.
abbrev pub size_if : ℕ → List ℕ → Bool → ℕ
size_if n w t = cond (leb 1 (get_or w 1 0) && leb (get_or w 1 0) n && t) (get_or w 1 0) 0

abbrev pub group_in : List ℕ → Bool
group_in w = group_ok (get_or w 2 0)

-- The pages of the valid segment, of at most n pages, with which the words begin; 0 where they begin with none.
unfoldable pub size_at : ℕ → List ℕ → ℕ
size_at n w =
    cond (eqb (get_or w 0 0) kind_zone) (cond (leb zone_pages n && is_zone (take zone_words w)) zone_pages 0)
    (cond (eqb (get_or w 0 0) kind_run) (size_if n w (zero_from 2 (get_or w 1 0) w))
    (cond (eqb (get_or w 0 0) kind_direct) (size_if n w (group_in w && zero_from 3 (get_or w 1 0) w)) 0))

-- The words are those of segments of n pages, no run behind a run. (b: a run stands just before; the first argument bounds the depth.)
unfoldable pub legal_from : ℕ → ℕ → Bool → List ℕ → Bool
legal_from zero n b w = eqb n 0
legal_from (suc f) n b w =
    let k = size_at n w in
    let r = eqb (get_or w 0 0) kind_run in
    let rest = legal_from f (n - k) r (drop (page_words * k) w) in
    cond (eqb n 0) true (leb 1 k && not (b && r) && rest)

unfoldable pub legal_segments : ℕ → List ℕ → Bool
legal_segments n w = legal_from n n false w
