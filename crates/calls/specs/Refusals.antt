-- The refusals of a call because of what the plan holds.
use Rattle.std.specs.Prelude.{ℕ}
use Rattle.calls.specs.declared.Unfit.{Unfit}
use Rattle.calls.specs.declared.Unfit.TheVariants.{Length, Load, Unfinished}

abbrev pub refusal_number : Unfit → ℕ
refusal_number Length = 12
refusal_number Load = 13
refusal_number Unfinished = 14
