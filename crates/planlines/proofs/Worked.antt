-- The lines of a small plan, worked out.
use Rattle.std.proofs.Common.{◌≡◌, [], ◌∷◌, codes, refl}
use Rattle.std.specs.Fmt.{digits}
use Rattle.planlines.specs.PlanLines.{plan_lines}

-- 3 and 2 trays on two lanes, both counted where they leave the stock
pub two_lanes :
    plan_lines 5 2 (3 ∷ 2 ∷ []) (codes "UU") (1 ∷ 0 ∷ [])
    ≡ codes "trays 5 moves 2\nlane 0 carries 3 cut U\nlane 1 carries 2 cut U\nstation 0 near\nstation 1 far\n"
unfolding digits
two_lanes = refl
