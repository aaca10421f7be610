-- The calls that a plan met and their answers determine its trays.
use Rattle.std.proofs.Common.{◌≡◌, ℕ, List, [], ◌∷◌, length, sym, refl, ap, ◌∙◌, ap₂, arith}
use mathlib.Core.Path.{subst⁻¹}
use Rattle.std.proofs.lemmas.List.{ext_get_or}
use Rattle.floor.specs.Meaning.{Meaning}
use Rattle.labelling.specs.Steps.{Move, made, made_all}
use Rattle.calls.specs.Events.{at, base}
use Rattle.calls.specs.Law.{RightMoves, TraysAreDetermined}
use Rattle.calls.proofs.Moves.{one_right}

-- from the same trays there are right moves of each number in one way at most
same_moves : (M : Meaning) (f : ℕ → ℕ) (vs ws : List Move) → length vs ≡ length ws → RightMoves M f vs → RightMoves M f ws → vs ≡ ws
same_moves M f [] [] n a b = refl
same_moves M f [] (w ∷ ws) n a b = absurd (omega arith)
same_moves M f (v ∷ vs) [] n a b = absurd (omega arith)
same_moves M f (v ∷ vs) (w ∷ ws) n a b =
    let same : v ≡ w = one_right M f v w a.0 b.0 in
    let next : RightMoves M (made v f) ws = subst⁻¹ (λ u. RightMoves M (made u f) ws) same b.1 in
    ap₂ (λ u us. u ∷ us) same (same_moves M (made v f) vs ws (omega arith) a.1 next)

pub trays_are_determined : TraysAreDetermined
trays_are_determined M h xs ys a b =
    let same : a.moves ≡ b.moves = same_moves M (at (base M h)) a.moves b.moves (a.counted ∙ sym b.counted) a.right b.right in
    ext_get_or 0 xs ys (a.one_each ∙ sym b.one_each)
    (λ e l. a.changed e (omega (arith, a.one_each)) ∙ ap (λ vs. made_all vs (at (base M h)) e) same ∙ sym (b.changed e (omega (arith, a.one_each))))
