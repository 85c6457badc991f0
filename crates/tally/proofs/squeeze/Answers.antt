-- `squeeze` meets its contract. Assumes nothing.
use Prim.Native.Nat.{ℕ, ◌+◌, ◌*◌, ◌/◌, ◌≤◌, ◌<◌, ◌-◌}
use mathlib.Core.List.{List, [], ◌++◌, map}
use mathlib.Core.Path.{◌≡◌, refl, sym, ap, ◌∙◌}
use native.Mathlib.Omega.{arith}
use lib.ListN.{length, get_or, take, drop, length-drop}
use lib.Seq.{take_all}
use Rattle.tally.specs.Figures.{piece, slot_byte}
use Rattle.tally.proofs.Adding.{part_at}
use Rattle.tally.proofs.Squeezed.{squeezed-part, squeezed-length, squeezed-done}
use Rattle.tally.proofs.squeeze.Goals as goal
use Rattle.tally.proofs.squeeze.Goals.{At-loop-i}

-- A whole piece, as the slots have it.
whole : (c : At-loop-i) → c.loop-i.i < length c.args.slots.now / piece → get_or c.as_chunks.result.0.now c.loop-i.i [] ≡ take piece (drop (c.loop-i.i * piece) c.args.slots.now)
whole c h =
    let s : List ℕ = c.args.slots.now in
    ap (λ l. get_or l c.loop-i.i []) c.as_chunks.ensures.front ∙ part_at piece (length s / piece) s c.loop-i.i h

pub loop-i-preserved : goal.loop-i-preserved
loop-i-preserved c =
    let s : List ℕ = c.args.slots.now in
    let i : ℕ = c.loop-i.i in
    let h : i < length s / piece = omega (arith, c.as_chunks.ensures.front_len, c.loop-i-test.true) in
    let k : ℕ = (i + 1) * piece - i * piece in
    let same : piece ≡ k = omega arith in
    let sum : i * piece + k ≡ (i + 1) * piece = omega arith in
    let most : (i + 1) * piece ≤ length s = omega arith in
    let part = c.squeeze_piece.ensures ∙ ap (map slot_byte) (whole (goal.at.loop-i-preserved c).At-loop-i h ∙ ap (λ j. take j (drop (i * piece) s)) same) in
    let eq = squeezed-part slot_byte s c.args.bytes.now c.loop-i.bytes _ (i * piece) k ((i + 1) * piece) sum most c.loop-i.invariant.1 part in
    (squeezed-length slot_byte s _ _ ((i + 1) * piece) most c.requires eq, eq)

pub returns : goal.returns
returns c =
    let s : List ℕ = c.args.slots.now in
    let d : List ℕ = c.args.bytes.now in
    let count : ℕ = length c.as_chunks.result.0.now in
    let told = c.as_chunks.ensures in
    let k : ℕ = length s - count * piece in
    let all : c.loop-i.i ≡ count = omega arith in
    let sum : count * piece + k ≡ length s = omega (arith, told.front_len) in
    let begun = c.loop-i.invariant.1 ∙ ap (λ j. map slot_byte (take (j * piece) s) ++ drop (j * piece) d) all in
    let rest = told.back ∙ ap (λ j. drop (j * piece) s) (sym told.front_len) ∙ sym (take_all k (drop (count * piece) s) (omega (arith, length-drop (count * piece) s))) in
    let eq = squeezed-part slot_byte s d c.loop-i.bytes _ (count * piece) k (length s) sum (omega arith) begun (c.squeeze_piece-2.ensures ∙ ap (map slot_byte) rest) in
    squeezed-done slot_byte s d _ (length s) refl eq
