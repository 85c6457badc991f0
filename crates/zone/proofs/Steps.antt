-- The stores of each step make the words of the zone after it. Assumes nothing.
use Prim.Native.Nat.{ℕ, zero, suc, ◌+◌, ◌-◌, ◌≤◌, ◌<◌}
use mathlib.Core.Path.{◌≡◌, refl, sym, ap, ◌∙◌}
use mathlib.Core.Bool.{false, cond}
use mathlib.Core.List.{List, [], ◌∷◌, ◌++◌}
use native.Mathlib.Omega.{arith}
use lib.Dec.{ltb, eqb}
use lib.ListN.{length, get_or, set, length-set, length-append}
use lib.Seq.{get_or-set_same, get_or-set_other, get_or-append_seam}
use borrow.Author.Tests.{eq-eqb, ne_eqb, lt-ltb, le-ltb, le-leb}
use Rattle.lemmas.specs.Zeros.{Zero}
use Rattle.lemmas.proofs.Cases.{true-false, by-ltb, by-eq}
use Rattle.lemmas.proofs.Sets.{get_d_set}
use Rattle.lemmas.proofs.Times.{times-here}
use Rattle.lemmas.proofs.Zeros.{zero-set}
use Rattle.model.specs.Numbers.{most_group}
use Rattle.model.specs.Sizes.{chunks}
use Rattle.model.specs.Zone.{Zone, touched, is_nil, full, new_zone, first_of, next_chunk, unchained, granted, put_back}
use Rattle.model.specs.Valid.{ValidZone}
use Rattle.model.proofs.Zones.{set-zero, snoc-other, owned-touched}
use Rattle.zone.specs.Encoding.{position_on, chunk_at, state_for, state_of, slot_of, head_words, slot_count, zone_words, kind_zone, position_base, half, head_numbers}
use Rattle.zone.specs.Decoding.{state_in, entry_in, class_in, touched_in, chained_in}
use Rattle.zone.specs.Stores.{with_state, with_entry, handed_out, last_chunk, last_taken, HasLast, last_put}
use Rattle.zone.proofs.Chains.{touched-most, on_chain, chain-less}
use Rattle.zone.proofs.Places.{chunk-past}
use Rattle.zone.proofs.Rooms.{chunks-most}
use Rattle.zone.proofs.Words.{Words}
use Rattle.zone.proofs.Encoded.{state-live, state-returned, state-untouched, chain-few, state-half, entry-half}

-- ---- one store

-- The words but for the head's two numbers that steps change: the class, the states and the chain's entries.
record Body (w : List ℕ) (c : ℕ) (st en : ℕ → ℕ) : Type 0 where
  size : length w ≡ zone_words
  kind : get_or w 0 0 ≡ kind_zone
  class : class_in w ≡ c
  rest : Zero w head_numbers head_words
  states : (i : ℕ) → i < slot_count → state_in (get_or w (head_words + i) 0) ≡ st i
  entries : (i : ℕ) → i < slot_count → entry_in (get_or w (head_words + i) 0) ≡ en i

abbrev entry_of : Zone → ℕ → ℕ
entry_of z i = chunk_at i z.chain

body : {w : List ℕ} {z : Zone} → Words w z → ValidZone z → Body w z.class (state_of z) (entry_of z)
body {w} {z} h v =
    record {
      size = h.size;
      kind = h.kind;
      class = h.class;
      rest = h.rest;
      states = λ i l. rw (h.slots i l) (state-half z v i);
      entries = λ i l. rw (h.slots i l) (entry-half z v i);
    }

words : {w : List ℕ} (z : Zone) → Body w z.class (state_of z) (entry_of z) → touched_in w ≡ touched z → chained_in w ≡ length z.chain → Words w z
unfolding slot_of
words {w} z b k m =
    record {
      size = b.size;
      kind = b.kind;
      class = b.class;
      handed = k;
      chained = m;
      rest = b.rest;
      slots = λ i l. omega (arith, b.states i l, b.entries i l);
    }

-- A store to one of the two.
body-head : (n x : ℕ) {w : List ℕ} {c : ℕ} {st en : ℕ → ℕ} → 2 ≤ n → n < head_numbers → Body w c st en → Body (set w n x) c st en
body-head n x {w} l u b =
    record {
      size = length-set w n x ∙ b.size;
      kind = get_or-set_other w n 0 x 0 (omega arith) ∙ b.kind;
      class = get_or-set_other w n 1 x 0 (omega arith) ∙ b.class;
      rest = zero-set n x (omega arith) b.rest;
      states = λ i k. ap state_in (get_or-set_other w n _ x 0 (omega arith)) ∙ b.states i k;
      entries = λ i k. ap entry_in (get_or-set_other w n _ x 0 (omega arith)) ∙ b.entries i k;
    }

-- A store to a slot.
body-slot : (p x : ℕ) {w : List ℕ} {c : ℕ} {st en : ℕ → ℕ} (st' en' : ℕ → ℕ) → p < slot_count → Body w c st en → state_in x ≡ st' p → entry_in x ≡ en' p
    → ((j : ℕ) → (j ≡ p → ⊥) → st' j ≡ st j) → ((j : ℕ) → (j ≡ p → ⊥) → en' j ≡ en j) → Body (set w (head_words + p) x) c st' en'
body-slot p x {w} st' en' l b here here' there there' =
    record {
      size = length-set w _ x ∙ b.size;
      kind = get_or-set_other w _ 0 x 0 (omega arith) ∙ b.kind;
      class = get_or-set_other w _ 1 x 0 (omega arith) ∙ b.class;
      rest = zero-set _ x (omega arith) b.rest;
      states = λ j k. by-eq j p
          (λ e. ap state_in (same j e) ∙ here ∙ ap st' (sym e))
          (λ n. ap state_in (other j n) ∙ b.states j k ∙ sym (there j n));
      entries = λ j k. by-eq j p
          (λ e. ap entry_in (same j e) ∙ here' ∙ ap en' (sym e))
          (λ n. ap entry_in (other j n) ∙ b.entries j k ∙ sym (there' j n));
    }
  where
    same : (j : ℕ) → j ≡ p → get_or (set w (head_words + p) x) (head_words + j) 0 ≡ x
    same j e = ap (λ n. get_or (set w (head_words + p) x) (head_words + n) 0) e ∙ get_or-set_same w (head_words + p) x 0 (let s = b.size in omega arith)

    other : (j : ℕ) → (j ≡ p → ⊥) → get_or (set w (head_words + p) x) (head_words + j) 0 ≡ get_or w (head_words + j) 0
    other j n = get_or-set_other w (head_words + p) (head_words + j) x 0 (λ e. n (omega arith))

-- A store to one half of a slot.
body-state : (p x : ℕ) {w : List ℕ} {c : ℕ} {st en : ℕ → ℕ} (st' : ℕ → ℕ) → p < slot_count → x < half → Body w c st en → st' p ≡ x → ((j : ℕ) → (j ≡ p → ⊥) → st' j ≡ st j) → Body (with_state p x w) c st' en
body-state p x {w} {c} {st} {en} st' l k b here there =
    body-slot p _ st' en l b (omega arith) (omega (arith, b.entries p l)) there (λ j n. refl)

body_entry : (p x : ℕ) {w : List ℕ} {c : ℕ} {st en : ℕ → ℕ} (en' : ℕ → ℕ) → p < slot_count → Body w c st en → en' p ≡ x → ((j : ℕ) → (j ≡ p → ⊥) → en' j ≡ en j) → Body (with_entry p x w) c st en'
body_entry p x {w} {c} {st} {en} en' l b here there =
    body-slot p _ st en' l b (omega (arith, b.states p l)) (omega arith) (λ j n. refl) there

-- The slots of a zone without a chain.
slot-plain : (z : Zone) → z.chain ≡ [] → (i : ℕ) → slot_of z i ≡ state_of z i
unfolding slot_of
slot-plain z e i = let a : entry_of z i ≡ 0 = ap (chunk_at i) e in omega arith

-- The head's numbers behind stores to slots.
head-slot : (w : List ℕ) (p x n : ℕ) → n < head_words → get_or (set w (head_words + p) x) n 0 ≡ get_or w n 0
head-slot w p x n l = get_or-set_other w _ n x 0 (omega arith)

-- ---- a chunk is put back

module _ {w : List ℕ} {z : Zone} (h : Words w z) (v : ValidZone z) (i : ℕ) (live : 0 < get_or z.owners i 0) where
  inside : i < touched z
  inside = owned-touched z.owners i live

  m : ℕ
  m = length z.chain

  put-here : state_of (put_back i z) i ≡ position_base + m
  unfolding m
  put-here =
      cc (state-returned (put_back i z) i (rw length-set inside) (set-zero z.owners i), eq-eqb i i refl)

  put-there : (j : ℕ) → (j ≡ i → ⊥) → state_of (put_back i z) j ≡ state_of z j
  unfolding state_of
  put-there j n = rw (length-set z.owners i 0, get_or-set_other z.owners i j 0 0 n, ne_eqb j i n)

  entry_here : entry_of (put_back i z) m ≡ i
  unfolding m
  entry_here = rw (eq-eqb _ (length z.chain) refl)

  entry-there : (j : ℕ) → (j ≡ m → ⊥) → entry_of (put_back i z) j ≡ entry_of z j
  unfolding m
  entry-there j n = rw (ne_eqb j _ n)

  pub put-asks : (length w ≡ zone_words) × (i < slot_count) × (chained_in w < slot_count)
  put-asks =
      let a = inside in let b = touched-most z v in let c = chain-less z v i live in
      let e : chained_in w ≡ length z.chain = h.chained in
      (h.size, omega arith, omega arith)

  put-body : Body (with_entry m i (with_state i (position_base + m) w)) z.class (state_of (put_back i z)) (entry_of (put_back i z))
  unfolding m
  put-body =
      let b = put-asks in let d = b.1 in let f = b.2 in let e = h.chained in
      body_entry m i _ (omega arith)
      (body-state i _ _ d (omega arith) (body h v) put-here put-there) entry_here entry-there

  pub put-words : Words (last_put i w) (put_back i z)
  unfolding m
  put-words =
      rw h.chained
      (let u = with_state i (position_base + m) w in
      let u₂ = with_entry m i u in
      words _ (body-head 3 (m + 1) (omega arith) (omega arith) put-body)
      (get_or-set_other u₂ 3 2 (m + 1) 0 (λ e. omega arith) ∙ head-slot u m _ 2 (omega arith) ∙ head-slot w i _ 2 (omega arith) ∙ h.handed ∙ sym (length-set z.owners i 0))
      (get_or-set_same u₂ 3 (m + 1) 0 (omega (arith, put-body.size)) ∙ omega arith))

-- ---- a chunk is granted

-- What a grant from the chain asks of the words, and gives: the chunk and the zone after it.
pub record Takes (w : List ℕ) (g chunk : ℕ) (z' : Zone) : Type 0 where
  pub asks : HasLast w
  pub chunk-is : last_chunk w ≡ chunk
  pub words_are : Words (last_taken g w) z'

module _ {w : List ℕ} {z : Zone} (h : Words w z) (v : ValidZone z) (g : ℕ) (group : 0 < g) (small : g ≤ most_group) where
  -- An untouched one.
  module _ (some : touched z < chunks z.class) where
    more : Zone
    more = record { class = z.class; owners = z.owners ++ (g ∷ []); chain = z.chain }

    longer : touched more ≡ touched z + 1
    unfolding more
    longer = length-append z.owners (g ∷ [])

    more-here : state_of more (touched z) ≡ g
    unfolding more
    more-here =
        let e = get_or-append_seam z.owners g [] 0 in
        let l = length-append z.owners (g ∷ []) in
        state-live more (touched z) (omega arith) (omega arith) ∙ e

    more-there : (j : ℕ) → (j ≡ touched z → ⊥) → state_of more j ≡ state_of z j
    unfolding state_of more
    more-there j n =
        let l = length-append z.owners (g ∷ []) in
        rw (snoc-other g z.owners j n)
        (by-ltb (λ t. cond (ltb j (length (z.owners ++ (g ∷ [])))) (state_for (get_or z.owners j 0) (position_on j z.chain)) 0 ≡ cond t (state_for (get_or z.owners j 0) (position_on j z.chain)) 0) j (touched z)
        (λ k. rw (lt-ltb j (length (z.owners ++ (g ∷ []))) (omega arith))) (λ k. rw (le-ltb j (length (z.owners ++ (g ∷ []))) (omega arith))))

    below : touched z < slot_count
    below = let a = chunks-most z.class in omega arith

    more-words : Words (handed_out (touched z) g w) more
    unfolding more
    more-words =
        let u = set w (head_words + touched z) g in
        let s = h.size in let s₁ = length-set w (head_words + touched z) g in
        words more
        (body-head 2 _ (omega arith) (omega arith)
        (body-slot (touched z) g _ (entry_of z) below (body h v) (omega (arith, more-here)) (omega (arith, chunk-past (touched z) z.chain (chain-few z v))) more-there (λ j n. refl)))
        (get_or-set_same u 2 _ 0 (omega arith) ∙ sym longer)
        (get_or-set_other u 2 3 _ 0 (omega arith) ∙ head-slot w (touched z) g 3 (omega arith) ∙ h.chained)

    -- The chunk, and the words.
    pub hand-out : (touched_in w < slot_count) × (touched_in w ≡ next_chunk z) × Words (handed_out (touched_in w) g w) (granted g z)
    unfolding more
    hand-out = rw (h.handed, lt-ltb (touched z) _ some) (below, refl, more-words)

  -- The chain's first.
  module _ (d : ℕ) (t : List ℕ) (e : z.chain ≡ d ∷ t) where
    less : Zone
    less = record { class = z.class; owners = set z.owners d g; chain = t }

    first-is : (d < touched z) × (get_or z.owners d 0 ≡ 0)
    first-is = on_chain z v d (rw e (omega (arith, times-here d t refl)))

    less-here : state_of less d ≡ g
    unfolding less
    less-here =
        let k : d < touched z = first-is.0 in
        let o : get_or (set z.owners d g) d 0 ≡ g = get_or-set_same z.owners d g 0 k in
        state-live less d (rw length-set k) (omega arith) ∙ o

    less-there : (j : ℕ) → (j ≡ d → ⊥) → state_of less j ≡ state_of z j
    unfolding state_of less
    less-there j n = rw (e, length-set z.owners d g, get_or-set_other z.owners d j g 0 n, ne_eqb j d n)

    last-is : entry_of z (length t) ≡ d
    last-is = rw (e, eq-eqb (length t) (length t) refl)

    gone-there : (j : ℕ) → (j ≡ length t → ⊥) → entry_of less j ≡ entry_of z j
    unfolding less
    gone-there j n = rw (e, ne_eqb j (length t) n)

    length-few : length t < slot_count
    length-few = let a = touched-most z v in let b = chain-few z v in omega (arith, ap length e)

    less-body : Body (with_state d g (with_entry (length t) 0 w)) z.class (state_of less) (entry_of less)
    unfolding less
    less-body =
        body-state d g _ (let a = first-is.0 in let b = touched-most z v in omega arith) (omega arith)
        (body_entry (length t) 0 _ length-few (body h v) (chunk-past (length t) t (omega arith)) gone-there) less-here less-there

    less-words : Words (set (with_state d g (with_entry (length t) 0 w)) 3 (length t)) less
    unfolding less
    less-words =
        let u = with_entry (length t) 0 w in
        let u₂ = with_state d g u in
        words less (body-head 3 (length t) (omega arith) (omega arith) less-body)
        (get_or-set_other u₂ 3 2 (length t) 0 (λ e. omega arith) ∙ head-slot u d _ 2 (omega arith) ∙ head-slot w (length t) _ 2 (omega arith) ∙ h.handed ∙ sym (length-set z.owners d g))
        (get_or-set_same u₂ 3 (length t) 0 (omega (arith, less-body.size)))

  take-some : (l : List ℕ) → z.chain ≡ l → is_nil l ≡ false → Takes w g (first_of l) (unchained g z l)
  unfolding less
  take-some [] e n = true-false refl n
  take-some (d ∷ t) e n =
      let m : chained_in w ≡ suc (length t) = cc in
      let q : chained_in w - 1 ≡ length t = omega arith in
      let b = touched-most z v in let k : d < touched z = (first-is d t e).0 in
      let f = length-few d t e in
      let p : last_chunk w ≡ d = ap (λ n. entry_in (get_or w (head_words + n) 0)) q ∙ (body h v).entries (length t) f ∙ last-is d t e in
      record {
        asks = record { size = h.size; counted = omega arith; few = omega arith; near = omega arith };
        chunk-is = p;
        words_are = rw (p, q) (less-words d t e);
      }

  pub take_last : full z ≡ false → chunks z.class ≤ touched z → Takes w g (next_chunk z) (granted g z)
  take_last n l =
      rw (le-ltb (touched z) _ l)
      (take-some z.chain refl (rw (le-leb _ (touched z) l) at n))

-- ---- a zone is set up

module _ (w : List ℕ) (c g : ℕ) (size : length w ≡ zone_words) (rest : Zero w head_numbers zone_words) (group : 0 < g) where
  fresh : List ℕ
  fresh = set (set (set (set (set w 0 3) 1 c) 2 1) 3 0) head_words g

  fresh_at : (n : ℕ) → get_or fresh n 0 ≡ cond (eqb n head_words) g (cond (eqb n 3) 0 (cond (eqb n 2) 1 (cond (eqb n 1) c (cond (eqb n 0) 3 (get_or w n 0)))))
  unfolding fresh
  fresh_at n =
      get_d_set (set (set (set (set w 0 3) 1 c) 2 1) 3 0) head_words n g 0 (simp length-set (omega arith))
      ∙ ap (λ x. cond (eqb n head_words) g x) (get_d_set (set (set (set w 0 3) 1 c) 2 1) 3 n 0 0 (simp length-set (omega arith))
      ∙ ap (λ x. cond (eqb n 3) 0 x) (get_d_set (set (set w 0 3) 1 c) 2 n 1 0 (simp length-set (omega arith))
      ∙ ap (λ x. cond (eqb n 2) 1 x) (get_d_set (set w 0 3) 1 n c 0 (simp length-set (omega arith))
      ∙ ap (λ x. cond (eqb n 1) c x) (get_d_set w 0 n 3 0 (omega arith)))))

  fresh-far : (n : ℕ) → head_numbers ≤ n → n < zone_words → (n ≡ head_words → ⊥) → get_or fresh n 0 ≡ 0
  fresh-far n l u e =
      fresh_at n
      ∙ rw (ne_eqb n head_words e, ne_eqb n 3 (omega arith), ne_eqb n 2 (omega arith), ne_eqb n 1 (omega arith), ne_eqb n 0 (omega arith))
      (rest.at n l u)

  pub set-up-words : Words (set (set (set (set (set w 0 3) 1 c) 2 1) 3 0) head_words g) (new_zone c g)
  unfolding fresh
  set-up-words =
      record {
        size = simp length-set size;
        kind = fresh_at 0;
        class = fresh_at 1;
        handed = fresh_at 2;
        chained = fresh_at 3;
        rest = record { at = λ i l u. fresh-far i l (omega arith) (omega arith) };
        slots = slots;
      }
    where
      slot : (j : ℕ) → slot_of (new_zone c g) j ≡ state_of (new_zone c g) j
      slot j = slot-plain (new_zone c g) refl j

      slots : (j : ℕ) → j < slot_count → get_or fresh (head_words + j) 0 ≡ slot_of (new_zone c g) j
      slots zero l = fresh_at head_words ∙ sym (slot 0 ∙ state-live _ 0 (omega arith) group)
      slots (suc j) l = fresh-far _ (omega arith) (omega arith) (omega arith) ∙ sym (slot (suc j) ∙ state-untouched _ (suc j) (omega arith))
