-- The lanes scanned one by one make the pass of their level.
use Rattle.std.proofs.Common.{◌≡◌, ℕ, zero, suc, ◌<◌, Bool, List, length, ap, ◌∙◌, arith}
use Rattle.network.specs.States.{State}
use Rattle.labelling.specs.Table.{Mark, mark, scanned, pass}
use Rattle.labelling.specs.Sweep.{swept}
use Rattle.labelling.proofs.Sweep.{sweeps_agree}
use Rattle.labels.proofs.Parts.{listed_all}

-- all lanes
pub swept_all : (r : State → State → Bool) (m l n : ℕ) (t u : List Mark) → 0 < l → n ≡ m → length u ≡ m → u ≡ swept r m l n t → u ≡ pass r m l t
unfolding pass
swept_all r m zero n t u h s e q = absurd (omega arith)
swept_all r m (suc l) n t u h s e q =
    listed_all (scanned r t (suc l) m) m u e (λ i g. ap (λ u. mark u i) (q ∙ ap (λ n. swept r m (suc l) n t) s) ∙ sweeps_agree r m (suc l) t m (omega arith) i g)
