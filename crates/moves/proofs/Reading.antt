-- The states of a path that is read lane by lane.
use Rattle.std.proofs.Common.{◌≡◌, ℕ, suc, ◌<◌, ◌≤◌, true, false, List, map, length, get_or, sym, ap, ◌∙◌, subst, arith}
use Rattle.std.proofs.lemmas.List.{get_or-map, get_or_past, length-map}
use Rattle.network.specs.States.{State, Pole, lane_number}
use Rattle.labelling.specs.Augmenting.{along}
use Rattle.labels.specs.declared.SignedLane.{SignedLane}
use Rattle.labels.specs.Labels.{is_plus, signed_state}
use Rattle.labels.proofs.Trails.{number_signed}
use Rattle.moves.specs.Paths.{Among, signed_at}

pub state_read : (path : List SignedLane) (k : ℕ) → k < length path → (d : State) → get_or (map signed_state path) k d ≡ signed_state (signed_at path k)
state_read path k l d = get_or-map signed_state path k _ d l

pub lane_below : (m : ℕ) (path : List SignedLane) (k : ℕ) → k < length path → Among m (map signed_state path) → (signed_at path k).lane < m
lane_below m path k l among =
    let x = signed_at path k in
    subst (λ e. e < m) (ap lane_number (state_read path k l _) ∙ number_signed (is_plus x.sign) x.lane) (among k (omega (arith, length-map path signed_state)))

-- what stands before a path, on it and after it
pub along_first : (path : List SignedLane) (k : ℕ) → k ≡ 0 → Pole false ≡ along (map signed_state path) k
unfolding along
along_first path k q = ap (along (map signed_state path)) (sym q)

pub along_at : (path : List SignedLane) (i k : ℕ) → i < length path → k ≡ suc i → signed_state (signed_at path i) ≡ along (map signed_state path) k
unfolding along
along_at path i k l q = sym (state_read path i l (Pole true)) ∙ ap (along (map signed_state path)) (sym q)

pub along_past : (path : List SignedLane) (i k : ℕ) → length path ≤ i → k ≡ suc i → Pole true ≡ along (map signed_state path) k
unfolding along
along_past path i k l q =
    sym (get_or_past (map signed_state path) i (Pole true) (omega (arith, length-map path signed_state))) ∙ ap (along (map signed_state path)) (sym q)
