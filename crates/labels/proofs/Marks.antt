-- The marks of a table of labels, lane by lane.
use Rattle.std.proofs.Common.{◌≡◌, ℕ, zero, suc, List, [], ◌∷◌, get_or, None, Option, refl}
use Rattle.labelling.specs.Table.{mark}
use Rattle.labels.specs.declared.Label.{Label}
use Rattle.labels.specs.Labels.{mark_of, marks}

-- the mark of a lane is that of its label
pub mark_at : (t : List (Option Label)) (y : ℕ) → mark (marks t) y ≡ mark_of (get_or t y None)
unfolding mark
mark_at [] y = refl
mark_at (o ∷ t) zero = refl
mark_at (o ∷ t) (suc y) = mark_at t y
