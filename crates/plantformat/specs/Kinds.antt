-- What the conversion of a number to a kind of record gives.
use Rattle.std.specs.Prelude.{◌≡◌, ℕ, Some, None, Result, MatchResult}
use Rattle.plantformat.specs.declared.Kind.{Kind}
use Rattle.plantformat.specs.declared.UnlistedKind.{UnlistedKind}
use Rattle.plantformat.specs.Judge.{kind_of}

-- the result is the kind with this number, or an error with a number that no kind has
abbrev pub KindOf : ℕ → Result Kind UnlistedKind → Type 0
KindOf number r = MatchResult r (λ kind. kind_of number ≡ Some kind) (λ e. (e.0 ≡ number) × (kind_of number ≡ None))
