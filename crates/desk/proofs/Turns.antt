-- A turn is the reader's step, and the line that it brought is served. Assumes nothing.
use Prim.Native.Nat.{ℕ}
use mathlib.Core.Path.{◌≡◌, refl}
use mathlib.Core.List.{List}
use native.Mathlib.Omega.{arith}
use lib.ListN.{length, drop}
use Rattle.uplink.specs.declared.Line.{Line}
use Rattle.std.specs.Prelude as Prelude
use Rattle.std.specs.Prelude.{Some, None}
use Rattle.uplink.specs.declared.Fed.{Fed}
use Rattle.uplink.specs.Fragments.{Held, step_from, step_of, FedBy}
use Rattle.desk.specs.Replies.{reply_to, words_after, Replied, reply_got, words_got, TurnBy}

-- A line or none, and what follows.
abbrev Followed : List ℕ → List ℕ → Prelude.Option Line → ℕ → List ℕ → List ℕ → Type 0
Followed w b g r v m = (v ≡ words_got w g) × Replied b (reply_got w (length b) g) r m

pub followed-line : (w b : List ℕ) {g : Prelude.Option Line} {l : Line} {r : ℕ} {v m : List ℕ} → g ≡ Some l → (v ≡ words_after w l) × Replied b (reply_to w (length b) l) r m → Followed w b g r v m
unfolding words_got reply_got
followed-line w b {g} {l} {r} {v} {m} e h = rw e h

pub followed-none : (w b : List ℕ) {g : Prelude.Option Line} → g ≡ None → Followed w b g 0 w b
unfolding words_got reply_got
followed-none w b {g} e = rw e (refl, record { bytes = refl; buffer = refl; fits = λ _. omega arith })

-- The code's turn.
module _ {k : Held} {s : List ℕ} {from : ℕ} {f : Fed} {m : Held} (h : FedBy k s from f m) where
  step-line : f.line ≡ (step_from from k (drop from s)).line
  unfolding step_of
  step-line = cc

  pub turn_by : (w b : List ℕ) {r : ℕ} {v u : List ℕ} → Followed w b f.line r v u → TurnBy k w s from b (record { next = f.next; len = r }) m v u
  unfolding step_of
  turn_by w b {r} {v} {u} p = record {
    after = cc;
    next = cc;
    within = h.within;
    onward = h.onward;
    words = cc;
    reply = rw step-line at p.1;
  }
