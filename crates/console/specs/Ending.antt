-- How a program ends.
use Rattle.std.specs.Prelude.{◌≡◌, ℕ, List, Some, None, Option, Ok, Err, Result, IfErr, ◌⊎◌, codes}
use Rattle.console.specs.declared.Failure.{Failure}
use Rattle.console.specs.declared.Failure.TheVariants.{Refused, NoMemory, Io, Sheet}

-- what is told of a failure; the words for an error of input or output are the system's
abbrev pub failure_words : Failure → Option (List ℕ)
failure_words (Refused line) = Some (codes "the input is refused")
failure_words NoMemory = Some (codes "out of memory")
failure_words (Io _) = None
failure_words (Sheet _) = None

-- the status: 0 for a program that did what it was asked, and 1 for any failure
abbrev pub status_told : Result (Unit {0}) Failure → ℕ
status_told (Ok _) = 0
status_told (Err _) = 1

-- a failure, such as a refusal that was printed, stays a failure, so that the program ends with status 1
abbrev pub FailureStays : {Lines : Type 0} → Result Lines Failure → Result (Unit {0}) Failure → Type 0
FailureStays (Ok _) r = Unit {0}
FailureStays (Err _) r = status_told r ≡ 1

-- a read or a write failed
abbrev pub IsIo : Failure → Type 0
IsIo (Refused _) = ⊥
IsIo NoMemory = ⊥
IsIo (Io _) = Unit {0}
IsIo (Sheet _) = ⊥

-- what comes of an answer that is printed: lines are done with, a refusal stays that refusal, unless the write failed; any other failure
-- is passed on as it is
abbrev pub Printed : {Lines : Type 0} → Result Lines Failure → Result (Unit {0}) Failure → Type 0
Printed (Ok _) r = IfErr r IsIo
Printed (Err (Refused line)) r = IfErr r (λ failure. (failure ≡ Refused line) ⊎ IsIo failure)
Printed (Err failure) r = r ≡ Err failure
