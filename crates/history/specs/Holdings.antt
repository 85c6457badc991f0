-- "Since the start" (document 02, c) as a claim about a whole list of calls: what the stored figures of each group are, told from the
-- calls and their answers alone. It is proved for every kind of lent words on which a call leaves and answers what the rules say
-- (proofs/Theorem.antt). Assumes nothing.
use Rattle.std.specs.Prelude.{ℕ, suc, ◌+◌, ◌<◌, max, ◌≡◌, List, [], ◌∷◌, false, cond, eqb}
use Rattle.std.proofs.Math.Option.{some}
use Rattle.model.specs.Numbers.{most_group}
use Rattle.model.specs.declared.Answer.{Answer}
use Rattle.model.specs.Holdings.{Account, holding_of}
use Rattle.model.specs.Calls.{Command, init, is_refused}
use Rattle.model.specs.Perform.{Metadata}
use Rattle.history.specs.Ledger.{Held}
use Rattle.history.specs.Demand.{History, after, after_all, begun, NoStart}

-- The group's blocks in a ledger, and the bytes of their rooms.
abbrev pub blocks_held : ℕ → List Held → ℕ
blocks_held g [] = 0
blocks_held g (h ∷ l) = cond (eqb h.group g) 1 0 + blocks_held g l

abbrev pub bytes_held : ℕ → List Held → ℕ
bytes_held g [] = 0
bytes_held g (h ∷ l) = cond (eqb h.group g) h.room 0 + bytes_held g l

module _ (B : Type 0) (view : B → Metadata) (next : B → Command → B) (says : B → Command → Answer) where
  -- The greatest of k and of the bytes that the group holds after each of the calls.
  abbrev pub most_held : ℕ → ℕ → History B view next says → List Command → ℕ
  most_held g k w [] = k
  most_held g k w (c ∷ l) = let v = after B view next says w c in most_held g (max k (bytes_held g v.live)) v l

  -- After a start that is not refused, at which no group holds anything, and any calls without a further start that is not refused, the
  -- words encode an account, and of every group it has the blocks and the bytes that the ledger has, and as the greatest figure the
  -- greatest of the bytes held at all moments since the start.
  unfoldable pub HoldingsTold : Type 0
  HoldingsTold = (b : B) (n : ℕ) (calls : List Command) →
      let start : History B view next says = begun B view next says b n in
      let end : History B view next says = after_all B view next says start calls in
      is_refused (says b (init n)) ≡ false →
      NoStart B view next says start calls →
      (a : Account) × ((view end.lent).account ≡ some a) × ((i : ℕ) → i < most_group →
      holding_of a i ≡ record { blocks = blocks_held (suc i) end.live; held = bytes_held (suc i) end.live; greatest = most_held (suc i) 0 start calls })
