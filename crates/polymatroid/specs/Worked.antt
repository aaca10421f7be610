-- Tables and grades worked through.
use Rattle.std.specs.Prelude.{◌≡◌, ℕ, List, [], ◌∷◌, slice_index}
use Rattle.polymatroid.specs.Tables.{broken}
use Rattle.polymatroid.specs.Kinds.{graded}

abbrev pub listed : List ℕ → ℕ → ℕ
listed xs i = slice_index xs i

-- the lowest law that a table of two lanes breaks, or 0; the caps of grades; and grades that rise
abbrev pub WorkedTables : Type 0
WorkedTables =
    (broken 2 (listed (0 ∷ 3 ∷ 4 ∷ 7 ∷ [])) ≡ 0)
    × (broken 2 (listed (0 ∷ 3 ∷ 4 ∷ 8 ∷ [])) ≡ 3)
    × (broken 2 (listed (0 ∷ 3 ∷ 4 ∷ 3 ∷ [])) ≡ 2)
    × (broken 2 (listed (1 ∷ 3 ∷ 4 ∷ 5 ∷ [])) ≡ 1)
    × (graded (listed (5 ∷ 5 ∷ 2 ∷ [])) 3 1 ≡ 5)
    × (graded (listed (5 ∷ 5 ∷ 2 ∷ [])) 3 3 ≡ 10)
    × (graded (listed (5 ∷ 5 ∷ 2 ∷ [])) 3 7 ≡ 12)
    × (broken 2 (graded (listed (2 ∷ 5 ∷ [])) 2) ≡ 3)
