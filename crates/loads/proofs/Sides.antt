-- Whether a side keeps its caps, from the lists of its caps and of the sums of its trays.
use Rattle.std.proofs.Common.{◌≡◌, ℕ, ◌^◌, ◌<◌, cond, leb, List, zip, length, get_or, sym, ap, ◌∙◌, subst, ap₂}
use Rattle.std.specs.List.{list_all}
use Rattle.polymatroid.specs.Sets.{has}
use Rattle.polymatroid.specs.Side.{load}
use Rattle.polymatroid.specs.Tables.{every}
use Rattle.polymatroid.proofs.Side.{load_same}
use Rattle.floor.specs.Floor.{width, end_of, station_of}
use Rattle.floor.specs.Meaning.{Meaning}
use Rattle.network.specs.Plans.{trays}
use Rattle.calls.specs.Does.{side_within}
use Rattle.rooms.specs.Rooms.{at, Sums}
use Rattle.measures.specs.Measures.{OfSide}
use Rattle.loads.proofs.Every.{every_same, every_pair}

-- what is asked of the lists is what is asked of the side
pub within_is : (M : Meaning) (f : ℕ → ℕ) (s : ℕ) (caps on sums : List ℕ) → OfSide M f s caps on → length caps ≡ 2 ^ length on → Sums on sums
    → list_all (λ q. leb q.0 q.1) (zip sums caps) ≡ side_within M f s
unfolding side_within
within_is M f s caps on sums is long summed =
    let k = width M.floor s in
    let w : ℕ → ℕ = trays M f (end_of s) (station_of s) in
    let all : length caps ≡ 2 ^ k = long ∙ ap (λ n. 2 ^ n) is.wide in
    every_pair sums caps (summed.whole ∙ sym long)
    ∙ ap (λ n. every n (λ X. leb (get_or sums X 0) (get_or caps X 0))) all
    ∙ every_same (2 ^ k) (λ X. leb (get_or sums X 0) (get_or caps X 0)) (λ X. leb (load w k X) (M.cap (end_of s) (station_of s) X))
    (λ X l. ap₂ leb (summed.each X (subst (λ n. X < 2 ^ n) (sym is.wide) l) ∙ ap (λ n. load (at on) n X) is.wide
    ∙ load_same (at on) w k X X (λ p m. ap (λ n. cond (has X p) n 0) (is.loaded p m))) (is.capped X l))
