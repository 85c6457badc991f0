-- The bounds on how far a request looks are met, in an arena of any number of pages: runs and direct blocks of one page by turns. The
-- state is valid; no call makes it, since a request of whole pages has two at least. Assumes nothing.
use Prim.Native.Nat.{ℕ, zero, suc, ◌+◌, ◌-◌, ◌*◌, ◌≤◌, ◌<◌}
use mathlib.Core.Path.{◌≡◌, refl, ◌∙◌, ap}
use mathlib.Core.List.{List, [], ◌∷◌}
use mathlib.Core.Option.{none, map}
use mathlib.Core.Bool.{false}
use native.Mathlib.Omega.{arith}
use lib.Dec.{ltb, leb}
use lib.ListN.{length, replicate}
use Rattle.lemmas.proofs.Cases.{bool, clash, none-some}
use Rattle.model.specs.Numbers.{page_bytes, most_bytes, class_count, most_pages}
use Rattle.model.specs.declared.Refusal.TheVariants.{NoRoom}
use Rattle.model.specs.declared.Answer.TheVariants.{Denied}
use Rattle.model.specs.Arena.{Segment, run, direct, zone, total, Each}
use Rattle.model.specs.Zone.{Zone}
use Rattle.model.specs.State.{State, Begins}
use Rattle.model.specs.PageMap.{idle_zone, shown}
use Rattle.model.specs.Sizes.{room_for}
use Rattle.model.specs.Holdings.{held_of}
use Rattle.model.specs.Pages.{claim, has_run, joined, most_looked}
use Rattle.model.specs.Listing.{run_lines}
use Rattle.model.specs.Valid.{Apart, ValidSegment, Valid}
use Rattle.model.specs.Trim.{trimmed}
use Rattle.model.specs.Allocate.{found_in, searched, sought, direct_from, allocate}
use Rattle.model.proofs.Arena.{same-segment}
use Rattle.model.proofs.Claim.{claim-has}
use Rattle.model.proofs.ReadOff.{state-all}
use Rattle.model.proofs.Sought.{sought-second}
use Rattle.model.proofs.Supplied.{accepted}
use Rattle.model.proofs.Validity.{bare-valid}

-- n pages: a run of one page, a direct block of one page, and so on.
abbrev comb : ℕ → List (Segment Zone)
comb zero = []
comb (suc zero) = run 1 ∷ []
comb (suc (suc n)) = run 1 ∷ direct 1 1 ∷ comb n

abbrev pub combed : ℕ → State
combed n = record { segments = comb n; lists = replicate class_count []; spare = [] }

pub comb-total : (n : ℕ) → total (comb n) ≡ n
comb-total zero = refl
comb-total (suc zero) = refl
comb-total (suc (suc n)) = omega (arith, comb-total n)

comb-apart : (n : ℕ) → Apart false (comb n)
comb-apart zero = tt
comb-apart (suc zero) = (refl, omega arith, tt)
comb-apart (suc (suc n)) = (refl, omega arith, comb-apart n)

comb-sound : (n : ℕ) → Each ValidSegment (comb n)
comb-sound zero = tt
comb-sound (suc zero) = (tt, tt)
comb-sound (suc (suc n)) = (tt, ((omega arith, omega arith, omega arith), comb-sound n))

comb-bare : (n o : ℕ) (z : Zone) → Begins o (comb n) (zone z) → ⊥
comb-bare zero o z e = none-some e
comb-bare (suc zero) o z e = bool (ltb o page_bytes) (λ t. let k = same-segment (rw t at e) in clash (cc)) (λ t. none-some (rw t at e))
comb-bare (suc (suc n)) o z e = bool (ltb o page_bytes)
    (λ t. let k = same-segment (rw t at e) in clash (cc))
    (λ t. bool (ltb (o - page_bytes) page_bytes) (λ u. let k = same-segment (rw (t, u) at e) in clash (cc)) (λ u. comb-bare n _ z (rw (t, u) at e)))

pub comb-valid : (n : ℕ) → 0 < n → n ≤ most_pages → Valid (combed n)
comb-valid n least most = bare-valid (comb n) (omega (arith, comb-total n)) (omega (arith, comb-total n)) (comb-apart n) (comb-sound n) (λ p z b. comb-bare n (p * page_bytes) z b)

-- Two pages are in no run, ..
comb-short : (n : ℕ) → has_run 2 (comb n) ≡ false
comb-short zero = refl
comb-short (suc zero) = refl
comb-short (suc (suc n)) = comb-short n

-- .. and every run is looked at: every second page is one.
comb-lines : (p n : ℕ) → length (run_lines p (shown (comb n))) ≡ most_looked n
comb-lines p zero = refl
comb-lines p (suc zero) = refl
comb-lines p (suc (suc n)) = omega (arith, comb-lines (p + 1 + 1) n)

comb-search : (n : ℕ) → claim 2 (comb n) ≡ record { chosen = none; looked = most_looked n }
comb-search n =
    let c = (claim-has 2 (comb n) (omega arith)).1 (comb-short n) in
    let k = (state-all 2 (combed n) c).0 ∙ comb-lines 0 n in λ i. record { chosen = c i; looked = k i }

-- Trim has nothing to join.
comb-joined : (n : ℕ) → joined idle_zone 0 (comb n) ≡ comb n
comb-joined zero = refl
comb-joined (suc zero) = refl
comb-joined (suc (suc n)) = ap (λ r. run 1 ∷ direct 1 1 ∷ r) (comb-joined n)

-- One search meets its bound, ..
pub search-met : (n : ℕ) → (searched 2 (combed n)).looked ≡ most_looked n
search-met n = ap (λ l. l.looked) (comb-search n)

comb-sought : (n : ℕ) → sought 2 (combed n) ≡ record { chosen = none; looked = 2 * most_looked n }
comb-sought n =
    let once = comb-search n in
    let again : claim 2 (joined idle_zone 0 (comb n)) ≡ record { chosen = none; looked = most_looked n } = ap (claim 2) (comb-joined n) ∙ once in
    sought-second 2 (combed n) (ap (λ l. l.chosen) once)
    ∙ (λ i. record { chosen = map (found_in (trimmed (combed n))) (again i).chosen; looked = (once i).looked + (again i).looked })
    ∙ (λ i. record { chosen = none; looked = (let q : most_looked n + most_looked n ≡ 2 * most_looked n = omega arith in q) i })

-- .. and so does a request of two pages, by a group that holds nothing.
comb-held : (n : ℕ) → held_of 2 (shown (comb n)) ≡ 0
comb-held zero = refl
comb-held (suc zero) = refl
comb-held (suc (suc n)) = omega (arith, comb-held n)

pub request-met : (n : ℕ) → (allocate most_bytes 2 8192 (combed n)).answer ≡ Denied NoRoom (2 * most_looked n)
request-met n =
    accepted (combed n) most_bytes 2 8192 refl refl (ap (λ h. leb (h + room_for 8192) most_bytes) (comb-held n))
    ∙ ap (λ l. (direct_from 2 2 (combed n) l.looked l.chosen).answer) (comb-sought n)

-- The largest arenas with an odd and with an even number of pages: 256 runs are looked at in both.
pub odd-met : (allocate most_bytes 2 8192 (combed 255)).answer ≡ Denied NoRoom 256
odd-met = request-met 255

pub even-met : (allocate most_bytes 2 8192 (combed 256)).answer ≡ Denied NoRoom 256
even-met = request-met 256
