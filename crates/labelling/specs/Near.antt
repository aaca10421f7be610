-- The cut that the labels show when no path is left.
use Rattle.std.specs.Prelude.{ℕ, Bool, not, ◌&&◌, ◌||◌, List, ◌==◌, nat_lt}
use Rattle.polymatroid.specs.Finite.{first}
use Rattle.floor.specs.Floor.{leaving, entering, stock}
use Rattle.floor.specs.Meaning.{Meaning}
use Rattle.network.specs.Finished.{without_label}
use Rattle.labelling.specs.Rules.{full}
use Rattle.labelling.specs.Table.{Mark, mark, is_plus, is_minus}

-- the lanes with +, and those with -
abbrev pub plus_labelled : List Mark → ℕ → Bool
plus_labelled t e = is_plus (mark t e)

abbrev pub minus_labelled : List Mark → ℕ → Bool
minus_labelled t e = is_minus (mark t e)

-- lane e makes station i near: a - lane that leaves it, or a + lane that enters it without being full there
abbrev pub nears : Meaning → (ℕ → ℕ) → List Mark → ℕ → ℕ → Bool
nears M f t i e =
    (minus_labelled t e && M.floor.end leaving e == i) || (plus_labelled t e && (not (full M f entering e) && M.floor.end entering e == i))

-- the near stations: the stock, and those that a lane makes near
unfoldable pub near : Meaning → (ℕ → ℕ) → List Mark → ℕ → Bool
near M f t i = stock M.floor == i || nat_lt (first (nears M f t i) M.floor.lanes) M.floor.lanes

-- of the lanes from near to far, those without a label count where they leave, the others where they enter
abbrev pub unlabelled : List Mark → ℕ → Bool
unlabelled t = without_label (plus_labelled t) (minus_labelled t)
