-- For walks by hand of functions with three `ensures`. Assumes nothing.
use seplogic.Ra.Ura.{Ura}
use base.Logic.{SProp, ent, sep, emp, via, emp∗, comm∗, mono_l}
use contract.Monad.{fact, fact_i}

-- What needs nothing still needs nothing with a clause in front of it.
along : {M : Type 1} (𝓤 : Ura M) {φ : Type 0} (F : SProp 𝓤) → φ → ent 𝓤 (emp 𝓤) F → ent 𝓤 (emp 𝓤) (sep 𝓤 (fact 𝓤 φ) F)
along 𝓤 {φ} F x f = via 𝓤 F f (via 𝓤 (sep 𝓤 (emp 𝓤) F) (emp∗ 𝓤 F) (mono_l 𝓤 F (fact_i 𝓤 φ (emp 𝓤) x)))

-- A goal with three clauses: all are shown, and the rest is left.
pub all_three : {M : Type 1} (𝓤 : Ura M) {φ ψ χ : Type 0} (P : SProp 𝓤) → φ → ψ → χ → ent 𝓤 P (sep 𝓤 P (sep 𝓤 (fact 𝓤 φ) (sep 𝓤 (fact 𝓤 ψ) (fact 𝓤 χ))))
all_three 𝓤 {φ} {ψ} {χ} P x y z =
    let G : SProp 𝓤 = sep 𝓤 (fact 𝓤 ψ) (fact 𝓤 χ) in
    let F : SProp 𝓤 = sep 𝓤 (fact 𝓤 φ) G in
    let facts : ent 𝓤 (emp 𝓤) F = along 𝓤 G x (along 𝓤 (fact 𝓤 χ) y (fact_i 𝓤 χ (emp 𝓤) z)) in
    via 𝓤 (sep 𝓤 (emp 𝓤) P) (emp∗ 𝓤 P) (via 𝓤 (sep 𝓤 F P) (mono_l 𝓤 P facts) (comm∗ 𝓤 F P))
