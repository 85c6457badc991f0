-- `add_slots` meets its contract. Assumes nothing.
use Prim.Native.Nat.{ℕ, ◌+◌, ◌*◌, ◌/◌, ◌<◌}
use mathlib.Core.Path.{◌≡◌, sym, ap, ◌∙◌, subst}
use mathlib.Core.List.{List, []}
use native.Mathlib.Omega.{arith}
use lib.ListN.{length, get_or, take, drop, length-drop}
use lib.Seq.{take_all}
use Rattle.lemmas.proofs.Parts.{length-mid}
use Rattle.zone.specs.Decoding.{owner_in}
use Rattle.tally.specs.Figures.{stretch, Added}
use Rattle.tally.proofs.Adding.{chunks_in, slots-none, slots-more, slots-done, slots-within, part_at}
use Rattle.tally.proofs.add_slots.Goals as goal
use Rattle.tally.proofs.add_slots.Goals.{At-loop-stretch}

-- A whole stretch, as the slots have it.
whole : (c : At-loop-stretch) → c.loop-stretch.stretch-index < length c.args.slots.now / stretch
    → get_or c.as_chunks.result.0.now c.loop-stretch.stretch-index [] ≡ take stretch (drop (c.loop-stretch.stretch-index * stretch) c.args.slots.now)
whole c h =
    let s : List ℕ = c.args.slots.now in
    ap (λ l. get_or l c.loop-stretch.stretch-index []) c.as_chunks.ensures.front ∙ part_at stretch (length s / stretch) s c.loop-stretch.stretch-index h

pub loop-stretch-init : goal.loop-stretch-init
loop-stretch-init c = slots-none owner_in c.args.slots.now _ _ c.requires.3.long

pub add_stretch-requires : goal.add_stretch-requires
add_stretch-requires c =
    let s : List ℕ = c.args.slots.now in
    let i : ℕ = c.loop-stretch.stretch-index in
    let h : i < length s / stretch = omega (arith, c.as_chunks.ensures.front_len, c.loop-stretch-test.true) in
    let long = ap length (whole (goal.at.add_stretch-requires c).At-loop-stretch h) ∙ length-mid (i * stretch) stretch s (omega arith) in
    (omega (arith, long), c.requires.1, slots-within owner_in s _ _ _ _ c.requires.0 c.requires.2 (omega arith) c.requires.3 c.loop-stretch.invariant)

pub loop-stretch-preserved : goal.loop-stretch-preserved
loop-stretch-preserved c =
    let s : List ℕ = c.args.slots.now in
    let i : ℕ = c.loop-stretch.stretch-index in
    let h : i < length s / stretch = omega (arith, c.as_chunks.ensures.front_len, c.loop-stretch-test.true) in
    let e : i * stretch + stretch ≡ (i + 1) * stretch = omega arith in
    let part = whole (goal.at.loop-stretch-preserved c).At-loop-stretch h in
    slots-more owner_in s _ (i * stretch) stretch ((i + 1) * stretch) _ _ _ e c.loop-stretch.invariant
    (subst (λ l. Added (chunks_in owner_in l) c.args.room c.loop-stretch.figures c.add_stretch.new.figures) part c.add_stretch.ensures)

pub add_stretch-requires-2 : goal.add_stretch-requires-2
add_stretch-requires-2 c =
    let s : List ℕ = c.args.slots.now in
    let i : ℕ = c.loop-stretch.stretch-index in
    let all : i ≡ length s / stretch = omega (arith, c.as_chunks.ensures.front_len) in
    (omega (arith, c.as_chunks.ensures.back_len), c.requires.1, slots-within owner_in s _ _ _ _ c.requires.0 c.requires.2 (omega arith) c.requires.3 c.loop-stretch.invariant)

pub returns : goal.returns
returns c =
    let s : List ℕ = c.args.slots.now in
    let i : ℕ = c.loop-stretch.stretch-index in
    let all : length s / stretch ≡ i = omega (arith, c.as_chunks.ensures.front_len) in
    let rest = c.as_chunks.ensures.back ∙ ap (λ k. drop (k * stretch) s) all ∙ sym (take_all (length s) (drop (i * stretch) s) (omega (arith, length-drop (i * stretch) s))) in
    slots-done owner_in s _ (i * stretch) (length s) _ _ _ (omega arith) c.loop-stretch.invariant
    (subst (λ l. Added (chunks_in owner_in l) c.args.room c.loop-stretch.figures c.add_stretch-2.new.figures) rest c.add_stretch-2.ensures)
