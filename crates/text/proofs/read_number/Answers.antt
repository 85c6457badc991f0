-- `text::read_number` meets its contract. The loop's invariant: v fits 32 bits, and what is read behind digits of the value v,
-- from the i-th byte behind the first digit on, is what is read at `at`. Assumes nothing.
use Prim.Native.Nat.{ℕ, ◌+◌, ◌-◌}
use mathlib.Core.List.{List}
use mathlib.Core.Path.{◌≡◌, sym, ap, ◌∙◌}
use native.Mathlib.Omega.{arith}
use lib.ListN.{length, take, drop, length-drop}
use lib.Seq.{take-length}
use Rattle.text.proofs.Scan.{none-past, none_other, begins, on-end, on-stop, on-zero, on-large, on-more}
use Rattle.text.proofs.read_number.Goals as goal

-- The bytes of a text from position i on, as the code takes them.
rest-is : (s : List ℕ) (i : ℕ) → take (length s - i) (drop i s) ≡ drop i s
rest-is s i = ap (λ n. take n (drop i s)) (sym (length-drop i s)) ∙ take-length (drop i s)

pub returns-in_err-first : goal.returns-in_err-first
returns-in_err-first c = c.from_residual.ensures ∙ none-past _ _ c.in_err-first.ensures.lookup.3

pub returns-then-not-is_ascii_digit : goal.returns-then-not-is_ascii_digit
returns-then-not-is_ascii_digit c =
    let h = c.in_ok-first.ensures.lookup.3 in
    none_other c.args.s.now c.args.at h.0 (cc (h.1 0, c.if-not-is_ascii_digit.ensures.value))

pub loop-i-init : goal.loop-i-init
loop-i-init c =
    let h = c.in_ok-first.ensures.lookup.3 in
    let e = c.if-not-is_ascii_digit.ensures in
    let d = c.from-v.ensures in
    let j : c.args.at + 1 + 0 ≡ c.args.at + 1 = omega arith in record {
      fits = omega (arith, e.cases);
      read = rw (j, rest-is c.args.s.now (c.args.at + 1)) (begins c.args.s.now c.args.at h.0 (cc (h.1 0, e.value)) (cc (h.1 0)));
    }

pub returns-then-not-is_ascii_digit-2 : goal.returns-then-not-is_ascii_digit-2
returns-then-not-is_ascii_digit-2 c =
    on-stop _ _ _ _ c.loop-i-test.true (sym c.if-not-is_ascii_digit-2.ensures.value) c.loop-i.invariant.fits ∙ c.loop-i.invariant.read

pub returns-then-v-eq0 : goal.returns-then-v-eq0
returns-then-v-eq0 c =
    on-zero _ _ _ _ c.loop-i-test.true (sym c.if-not-is_ascii_digit-2.ensures.value) (omega (arith, c.if-v-eq0.true)) ∙ c.loop-i.invariant.read

pub returns-then-from-v : goal.returns-then-from-v
returns-then-from-v c =
    on-large _ _ _ _ c.loop-i-test.true (sym c.if-not-is_ascii_digit-2.ensures.value) c.from.ensures (omega (arith, c.if-from-v.true, c.from-in-loop-i.ensures))
    ∙ c.loop-i.invariant.read

pub loop-i-preserved : goal.loop-i-preserved
loop-i-preserved c =
    let j : c.args.at + 1 + (c.loop-i.i + 1) ≡ c.args.at + 1 + c.loop-i.i + 1 = omega arith in record {
      fits = omega arith;
      read = rw j (on-more _ _ _ _ c.loop-i-test.true (sym c.if-not-is_ascii_digit-2.ensures.value) c.from.ensures c.if-v-eq0.false ∙ c.loop-i.invariant.read);
    }

pub returns : goal.returns
returns c =
    let h = c.in_ok-first.ensures.lookup.3 in
    let n : length (take (length c.args.s.now - (c.args.at + 1)) (drop (c.args.at + 1) c.args.s.now)) ≡ length c.args.s.now - (c.args.at + 1) =
    ap length (rest-is c.args.s.now (c.args.at + 1)) ∙ length-drop _ c.args.s.now in
    let j : c.args.at + 1 + c.loop-i.i ≡ length c.args.s.now = omega (arith, h.0, c.loop-i-test.false, c.loop-i.auto.i-end) in
    rw j at (on-end _ _ _ _ c.loop-i-test.false c.loop-i.invariant.fits ∙ c.loop-i.invariant.read)
