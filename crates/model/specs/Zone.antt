-- One zone (document 01, "Zones"): what it knows of its chunks, and its steps. Which list it is on is the state's affair.
-- Assumes nothing.
use Rattle.std.specs.Prelude.{ℕ, List, [], ◌∷◌, ◌++◌, Bool, true, false, cond, ◌&&◌, ltb, leb, length, set}
use Rattle.model.specs.Sizes.{chunks}

-- owners: for each chunk handed out since set-up its group, 0 once it was returned. chain: the returned ones, the last
-- returned first (document 01: the return chain).
pub record Zone : Type 0 where
  pub class : ℕ
  pub owners : List ℕ
  pub chain : List ℕ

-- The chunks handed out since set-up (document 01: k).
abbrev pub touched : Zone → ℕ
touched z = length z.owners

abbrev pub is_nil : List ℕ → Bool
is_nil [] = true
is_nil (i ∷ r) = false

-- Whether a chunk is untouched.
abbrev pub has_untouched : Zone → Bool
has_untouched z = ltb (touched z) (chunks z.class)

-- Whether every chunk is live: none is untouched, and none was returned.
abbrev pub full : Zone → Bool
full z = leb (chunks z.class) (touched z) && is_nil z.chain

-- A zone set up for the class, its chunk 0 granted to the group.
abbrev pub new_zone : ℕ → ℕ → Zone
new_zone c g = record { class = c; owners = g ∷ []; chain = [] }

-- The chunk that is granted next: chunk k while one is untouched, else the chain's first, the last one returned. (A full
-- zone is never asked.)
abbrev pub first_of : List ℕ → ℕ
first_of [] = 0
first_of (i ∷ r) = i

abbrev pub next_chunk : Zone → ℕ
next_chunk z = cond (has_untouched z) (touched z) (first_of z.chain)

-- The zone once that chunk is granted to the group.
abbrev pub unchained : ℕ → Zone → List ℕ → Zone
unchained g z [] = z
unchained g z (i ∷ r) = record { class = z.class; owners = set z.owners i g; chain = r }

abbrev pub granted : ℕ → Zone → Zone
granted g z = cond (has_untouched z) (record { class = z.class; owners = z.owners ++ (g ∷ []); chain = z.chain }) (unchained g z z.chain)

-- The zone once its chunk i is returned: it goes to the front of the chain.
abbrev pub put_back : ℕ → Zone → Zone
put_back i z = record { class = z.class; owners = set z.owners i 0; chain = i ∷ z.chain }
